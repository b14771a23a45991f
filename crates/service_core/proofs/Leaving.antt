-- What calls for steps leave of a room, and how many steps they take.
use Rattle.std.proofs.Common.{◌≡◌, ℕ, zero, suc, ◌+◌, ◌-◌, ◌<◌, ◌≤◌, Bool, true, false, cond, [], ◌∷◌, length, refl, ap, ◌∙◌, arith}
use Rattle.room_core.specs.declared.reply.StepReply.{StepReply}
use Rattle.room_core.specs.declared.reply.StepReply.TheVariants as steps
use Rattle.room_core.specs.Calls.{RoomState, room_after_step, room_after_steps, step_reply}
use Rattle.room_core.specs.Observing.{is_stepped, steps_of_steps}
use Rattle.service_core.specs.declared.reply.Reply.TheVariants.{Steps}
use Rattle.service_core.specs.Rooms.{room_stepped}

-- a step that is taken is the first, and the others follow
pub left_first : (room : RoomState) (i count : ℕ) (b : Bool) → is_stepped (step_reply room i) ≡ b → room_stepped room i (suc count) ≡ cond b (room_stepped (room_after_step room i) i count) (room_after_step room i)
left_first room i count b is = ap (λ (b : Bool). cond b (room_stepped (room_after_step room i) i count) (room_after_step room i)) is

pub taken_first : (room : RoomState) (i count : ℕ) (b : Bool) → is_stepped (step_reply room i) ≡ b → length (steps_of_steps room i (suc count)) ≡ cond b (suc (length (steps_of_steps (room_after_step room i) i count))) 0
taken_first room i count true is = ap (λ (b : Bool). length (cond b ((record { room = room; simulator = i }) ∷ steps_of_steps (room_after_step room i) i count) [])) is
taken_first room i count false is = ap (λ (b : Bool). length (cond b ((record { room = room; simulator = i }) ∷ steps_of_steps (room_after_step room i) i count) [])) is

-- the first `taken` of `count` calls took a step each
pub record HaveStepped (room : RoomState) (i count taken : ℕ) : Type 0 where
  pub left : room_stepped room i count ≡ room_stepped (room_after_steps room i taken) i (count - taken)
  pub so_many : length (steps_of_steps room i count) ≡ taken + length (steps_of_steps (room_after_steps room i taken) i (count - taken))

pub have_stepped : (room : RoomState) (i count taken : ℕ) → taken ≤ count → ((k : ℕ) → k < taken → step_reply (room_after_steps room i k) i ≡ steps.Stepped) → HaveStepped room i count taken
have_stepped room i count zero within each =
    let same : count ≡ count - 0 = omega arith in
    let all = ap (λ (n : ℕ). length (steps_of_steps room i n)) same in
    record { left = ap (λ (n : ℕ). room_stepped room i n) same; so_many = omega (arith, all) }
have_stepped room i zero (suc taken) within each = absurd (omega arith)
have_stepped room i (suc count) (suc taken) within each =
    let next = room_after_step room i in
    let fewer : count - taken ≡ suc count - suc taken = omega arith in
    let first : is_stepped (step_reply room i) ≡ true = ap is_stepped (each 0 (omega arith)) in
    let rest = have_stepped next i count taken (omega arith) (λ k less. each (suc k) (omega arith)) in
    let here = taken_first room i count true first in
    let last = ap (λ (n : ℕ). length (steps_of_steps (room_after_steps next i taken) i n)) fewer in
    record {
      left = left_first room i count true first ∙ rest.left ∙ ap (λ (n : ℕ). room_stepped (room_after_steps next i taken) i n) fewer;
      so_many = omega (arith, here, rest.so_many, last);
    }

-- all did
pub all_stepped : (room : RoomState) (i count : ℕ) → HaveStepped room i count count → (room_stepped room i count ≡ room_after_steps room i count) × (length (steps_of_steps room i count) ≡ count)
all_stepped room i count have =
    let none : count - count ≡ 0 = omega arith in
    let last = ap (λ (n : ℕ). length (steps_of_steps (room_after_steps room i count) i n)) none in
    (have.left ∙ ap (λ (n : ℕ). room_stepped (room_after_steps room i count) i n) none, omega (arith, have.so_many, last))

-- and the next did not
pub stopped_after : (room : RoomState) (i count taken : ℕ) → taken < count → HaveStepped room i count taken → is_stepped (step_reply (room_after_steps room i taken) i) ≡ false
    → (room_stepped room i count ≡ room_after_step (room_after_steps room i taken) i) × (length (steps_of_steps room i count) ≡ taken)
stopped_after room i count taken less have other =
    let now = room_after_steps room i taken in
    let one : count - taken ≡ suc (count - (taken + 1)) = omega arith in
    let none = ap (λ (n : ℕ). length (steps_of_steps now i n)) one ∙ taken_first now i (count - (taken + 1)) false other in
    (have.left ∙ ap (λ (n : ℕ). room_stepped now i n) one ∙ left_first now i (count - (taken + 1)) false other, omega (arith, have.so_many, none))

-- where nothing can be taken the room stays
pub nothing_left : (room : RoomState) (i count : ℕ) → is_stepped (step_reply room i) ≡ false → room_after_step room i ≡ room → (room_stepped room i count ≡ room) × (length (steps_of_steps room i count) ≡ 0)
nothing_left room i zero other same = (refl, refl)
nothing_left room i (suc count) other same = (left_first room i count false other ∙ same, taken_first room i count false other)

-- the number in a reply
pub taken_by : (taken : ℕ) (answer : StepReply) (number : ℕ) (last : StepReply) → Steps taken answer ≡ Steps number last → taken ≡ number
taken_by taken answer number last is = cc
