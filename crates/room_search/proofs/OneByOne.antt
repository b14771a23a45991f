-- Steps one by one.
use Rattle.std.proofs.Common.{◌≡◌, ℕ, suc, ◌+◌, ◌-◌, ◌<◌, Bool, true, false, cond, refl, ap, ◌∙◌, arith}
use Rattle.room_core.specs.Calls.{RoomState, has_crashed, room_after_step, step_reply}
use Rattle.room_core.specs.Observing.{is_stepped}
use Rattle.service_core.specs.Rooms.{room_stepped}
use Rattle.room_search.specs.Beginnings.{crashed_below}

module _ (room : RoomState) (i count taken : ℕ) (more : taken < count) where
  left : room_stepped room i (count - taken) ≡ cond (is_stepped (step_reply room i)) (room_stepped (room_after_step room i) i (count - (taken + 1))) (room_after_step room i)
  left = let e : count - taken ≡ suc (count - (taken + 1)) = omega (arith, more) in ap (room_stepped room i) e

  by : (b : Bool) → is_stepped (step_reply room i) ≡ b → room_stepped room i (count - taken) ≡ cond b (room_stepped (room_after_step room i) i (count - (taken + 1))) (room_after_step room i)
  by b is = left ∙ ap (λ (c : Bool). cond c (room_stepped (room_after_step room i) i (count - (taken + 1))) (room_after_step room i)) is

  pub stepped_once : is_stepped (step_reply room i) ≡ true → room_stepped room i (count - taken) ≡ room_stepped (room_after_step room i) i (count - (taken + 1))
  stepped_once is = by true is

  pub stopped_once : is_stepped (step_reply room i) ≡ false → room_stepped room i (count - taken) ≡ room_after_step room i
  stopped_once is = by false is

crashed_by : (room : RoomState) (i : ℕ) (b : Bool) → has_crashed room i ≡ b → crashed_below room (i + 1) ≡ cond b (crashed_below room i + 1) (crashed_below room i)
crashed_by room i b is =
    let next : i + 1 ≡ suc i = omega arith in
    let more : suc (crashed_below room i) ≡ crashed_below room i + 1 = omega arith in
    ap (crashed_below room) next ∙ ap (λ (c : Bool). cond c (suc (crashed_below room i)) (crashed_below room i)) is ∙ ap (λ (n : ℕ). cond b n (crashed_below room i)) more

-- one more is counted
pub count_next : (room : RoomState) (i one : ℕ) → one ≡ cond (has_crashed room i) 1 0 → crashed_below room i + one ≡ crashed_below room (i + 1)
count_next room i one is = by (has_crashed room i) refl
  where
    by : (b : Bool) → has_crashed room i ≡ b → crashed_below room i + one ≡ crashed_below room (i + 1)
    by true so = let here : one ≡ 1 = is ∙ ap (λ (c : Bool). cond c 1 0) so in let next = crashed_by room i true so in omega (arith, here, next)
    by false so = let here : one ≡ 0 = is ∙ ap (λ (c : Bool). cond c 1 0) so in let next = crashed_by room i false so in omega (arith, here, next)
