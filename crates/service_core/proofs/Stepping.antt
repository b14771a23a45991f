-- What a simulator has done that was let take steps.
use Rattle.std.proofs.Common.{◌≡◌, ◌≢◌, ℕ, zero, suc, ◌+◌, ◌-◌, ◌<◌, ◌≤◌, Bool, true, false, cond, List, [], ◌∷◌, length, refl, sym, ap, ◌∙◌, subst, arith}
use Rattle.room_spec.specs.Rooms.{RoomSpec, IsWithinLimits}
use Rattle.room_core.specs.declared.reply.StepReply.{StepReply}
use Rattle.room_core.specs.declared.reply.StepReply.TheVariants as steps
use Rattle.room_core.specs.Calls.{RoomState, Step, room_after_step, step_reply}
use Rattle.room_core.specs.Fields.{Fields, step_reply_in, fields_after_step, fields_after_steps}
use Rattle.room_core.specs.Reading.{AreFieldsOf}
use Rattle.room_core.specs.Observing.{AreSeen, TakenStep, is_stepped, steps_of_steps}
use Rattle.room_core.proofs.CallerLemmas.{step_in_fields}
use Rattle.room_core.proofs.CallerLemmasOnSpecs.{same_spec}
use Rattle.service_core.specs.Replies.{Stepping, one_more, stepping}
use Rattle.service_core.specs.Rooms.{IsSteppedTo, room_stepped}
use Rattle.service_core.proofs.Leaving.{left_first}

pub not_stepped : (reply : StepReply) → reply ≢ steps.Stepped → is_stepped reply ≡ false
not_stepped steps.Stepped other = absurd (other refl)
not_stepped steps.Idle other = refl
not_stepped steps.OutOfTurns other = refl
not_stepped steps.Crashed other = refl
not_stepped steps.NoSimulator other = refl

-- so many steps more
abbrev pub more_by : ℕ → Stepping → Stepping
more_by taken stepping = record { taken = taken + stepping.taken; last = stepping.last; fields = stepping.fields }

-- after `taken` steps of `count`
pub record HasTaken (spec : RoomSpec) (fields : Fields) (i count taken : ℕ) (room : RoomState) : Type 0 where
  pub now : Fields
  pub are : AreFieldsOf room now
  pub is : stepping spec fields i count ≡ more_by taken (stepping spec now i (count - taken))

one_before : (taken : ℕ) (rest : Stepping) → one_more (more_by taken rest) ≡ more_by (suc taken) rest
one_before taken rest = let e : suc (taken + rest.taken) ≡ suc taken + rest.taken = omega arith in λ p. record { taken = e p; last = rest.last; fields = rest.fields }

-- so many were taken
pub all_taken : (spec : RoomSpec) (fields : Fields) (i count taken : ℕ) → taken ≤ count → ((k : ℕ) → k < taken → step_reply_in spec (fields_after_steps spec fields i k) i ≡ steps.Stepped)
    → stepping spec fields i count ≡ more_by taken (stepping spec (fields_after_steps spec fields i taken) i (count - taken))
all_taken spec fields i count zero within each =
    let all = stepping spec fields i (count - 0) in
    let same : count ≡ count - 0 = omega arith in
    let e : all.taken ≡ 0 + all.taken = omega arith in
    ap (λ (n : ℕ). stepping spec fields i n) same ∙ (λ p. record { taken = e p; last = all.last; fields = all.fields })
all_taken spec fields i zero (suc taken) within each = absurd (omega arith)
all_taken spec fields i (suc count) (suc taken) within each =
    let next = fields_after_step spec fields i in
    let rest = stepping spec next i count in
    let fewer : count - taken ≡ suc count - suc taken = omega arith in
    let stop : Stepping = record { taken = 0; last = step_reply_in spec fields i; fields = next } in
    ap (λ (b : Bool). cond b (one_more rest) stop) (ap is_stepped (each 0 (omega arith)))
    ∙ ap one_more (all_taken spec next i count taken (omega arith) (λ k less. each (suc k) (omega arith)))
    ∙ one_before taken (stepping spec (fields_after_steps spec next i taken) i (count - taken))
    ∙ ap (λ (n : ℕ). more_by (suc taken) (stepping spec (fields_after_steps spec next i taken) i n)) fewer

left_one : (spec : RoomSpec) (fields : Fields) (i count taken : ℕ) → taken < count → stepping spec fields i (count - taken) ≡ stepping spec fields i (suc (count - (taken + 1)))
left_one spec fields i count taken less = let e : count - taken ≡ suc (count - (taken + 1)) = omega arith in ap (λ (n : ℕ). stepping spec fields i n) e

-- the next was not taken
pub stops : (spec : RoomSpec) (fields : Fields) (i count taken : ℕ) (room : RoomState) (reply : StepReply) → taken < count → (so_far : HasTaken spec fields i count taken room)
    → reply ≡ step_reply_in spec so_far.now i → is_stepped reply ≡ false → stepping spec fields i count ≡ record { taken = taken; last = reply; fields = fields_after_step spec so_far.now i }
stops spec fields i count taken room reply less so_far is other =
    let now = so_far.now in
    let next = fields_after_step spec now i in
    let rest = stepping spec next i (count - (taken + 1)) in
    let stop : Stepping = record { taken = 0; last = step_reply_in spec now i; fields = next } in
    so_far.is ∙ ap (more_by taken) (left_one spec now i count taken less ∙ ap (λ (b : Bool). cond b (one_more rest) stop) (ap is_stepped (sym is) ∙ other))
    ∙ (let e : taken + 0 ≡ taken = omega arith in λ p. record { taken = e p; last = sym is p; fields = next })

-- all were taken
pub ends : (spec : RoomSpec) (fields : Fields) (i count : ℕ) (room : RoomState) → (so_far : HasTaken spec fields i count count room) → stepping spec fields i count ≡ record { taken = count; last = steps.Stepped; fields = so_far.now }
ends spec fields i count room so_far =
    let none : count - count ≡ 0 = omega arith in
    so_far.is ∙ ap (λ (n : ℕ). more_by count (stepping spec so_far.now i n)) none ∙ (let e : count + 0 ≡ count = omega arith in λ p. record { taken = e p; last = steps.Stepped; fields = so_far.now })

-- ---- one step after the other, each seen

-- the next was taken
takes : (spec : RoomSpec) (fields : Fields) (i count taken : ℕ) (room after : RoomState) → taken < count → (so_far : HasTaken spec fields i count taken room)
    → is_stepped (step_reply_in spec so_far.now i) ≡ true → AreFieldsOf after (fields_after_step spec so_far.now i) → HasTaken spec fields i count (taken + 1) after
takes spec fields i count taken room after less so_far stepped are =
    let now = so_far.now in
    let next = fields_after_step spec now i in
    let rest = stepping spec next i (count - (taken + 1)) in
    let stop : Stepping = record { taken = 0; last = step_reply_in spec now i; fields = next } in
    record {
      now = next;
      are = are;
      is = so_far.is ∙ ap (more_by taken) (left_one spec now i count taken less ∙ ap (λ (b : Bool). cond b (one_more rest) stop) stepped)
          ∙ (let e : taken + suc rest.taken ≡ (taken + 1) + rest.taken = omega arith in λ p. record { taken = e p; last = rest.last; fields = rest.fields });
    }

-- the next call's reply, and the fields after it, of the spec with which the room began
replied : (spec : RoomSpec) (room : RoomState) (fields : Fields) (i : ℕ) → IsWithinLimits spec → room.spec ≡ spec → AreFieldsOf room fields
    → (step_reply_in spec fields i ≡ step_reply room i) × AreFieldsOf (room_after_step room i) (fields_after_step spec fields i)
replied spec room fields i limits same are =
    subst (λ (s : RoomSpec). IsWithinLimits s → (step_reply_in s fields i ≡ step_reply room i) × AreFieldsOf (room_after_step room i) (fields_after_step s fields i)) same
    (λ within. step_in_fields room fields i within are) limits

module _ {W : Type 0} (sees : W → RoomState → ℕ → W → Type 0) (i count : ℕ) (start : RoomState) (old : W) where
  -- `taken` steps of `count` have led here; what sees the others has seen them all
  pub record IsOnTheWay (taken : ℕ) (room : RoomState) (now : W) : Type 0 where
    pub same : room.spec ≡ start.spec
    pub stands : (fields : Fields) → AreFieldsOf start fields → HasTaken start.spec fields i count taken room
    pub seen : (new : W) → AreSeen sees now (steps_of_steps room i (count - taken)) new → AreSeen sees old (steps_of_steps start i count) new
    pub left : room_stepped start i count ≡ room_stepped room i (count - taken)
    pub so_many : length (steps_of_steps start i count) ≡ taken + length (steps_of_steps room i (count - taken))

  -- how it ends: so many were taken, with this last answer
  pub record IsOver (reply : ℕ × StepReply) (room : RoomState) (now : W) : Type 0 where
    pub same : room.spec ≡ start.spec
    pub fields : (fields : Fields) → AreFieldsOf start fields → IsSteppedTo (stepping start.spec fields i count) reply room
    pub seen : AreSeen sees old (steps_of_steps start i count) now
    pub left : room ≡ room_stepped start i count
    pub so_many : length (steps_of_steps start i count) ≡ reply.0

  abbrev left_over : ℕ → RoomState → List TakenStep
  left_over taken room = steps_of_steps room i (count - taken)

  left_more : (taken : ℕ) (room : RoomState) (b : Bool) → taken < count → is_stepped (step_reply room i) ≡ b
      → left_over taken room ≡ cond b ((record { room = room; simulator = i }) ∷ left_over (taken + 1) (room_after_step room i)) []
  left_more taken room b less is =
      let e : count - taken ≡ suc (count - (taken + 1)) = omega arith in
      ap (λ (n : ℕ). steps_of_steps room i n) e ∙ ap (λ (c : Bool). cond c ((record { room = room; simulator = i }) ∷ left_over (taken + 1) (room_after_step room i)) []) is

  room_more : (taken : ℕ) (room : RoomState) (b : Bool) → taken < count → is_stepped (step_reply room i) ≡ b
      → room_stepped room i (count - taken) ≡ cond b (room_stepped (room_after_step room i) i (count - (taken + 1))) (room_after_step room i)
  room_more taken room b less is =
      let e : count - taken ≡ suc (count - (taken + 1)) = omega arith in
      ap (λ (n : ℕ). room_stepped room i n) e ∙ left_first room i (count - (taken + 1)) b is

module _ {W : Type 0} (sees : W → RoomState → ℕ → W → Type 0) (i count : ℕ) (start : RoomState) (old : W) where
  pub sets_out : IsOnTheWay sees i count start old 0 start old
  sets_out = record {
    same = refl;
    stands = λ fields are. record { now = fields; are = are; is = all_taken start.spec fields i count 0 (omega arith) (λ k none. absurd (omega (arith, none))) };
    seen = λ new are. let e : count - 0 ≡ count = omega arith in subst (λ (n : ℕ). AreSeen sees old (steps_of_steps start i n) new) e are;
    left = let e : count ≡ count - 0 = omega arith in ap (λ (n : ℕ). room_stepped start i n) e;
    so_many = let e : count ≡ count - 0 = omega arith in let all = ap (λ (n : ℕ). length (steps_of_steps start i n)) e in omega (arith, all);
  }

  pub goes_on : (taken : ℕ) (room after : RoomState) (now next : W) → IsWithinLimits start.spec → taken < count → IsOnTheWay sees i count start old taken room now → step_reply room i ≡ steps.Stepped → after ≡ room_after_step room i → sees now room i next
      → IsOnTheWay sees i count start old (taken + 1) after next
  goes_on taken room after now next limits less on stepped to saw =
      subst (λ (r : RoomState). IsOnTheWay sees i count start old (taken + 1) r next) (sym to)
      (record {
        same = same_spec room (Step i) ∙ on.same;
        stands = λ fields are.
            let so_far = on.stands fields are in
            let both = replied start.spec room so_far.now i limits on.same so_far.are in
            takes start.spec fields i count taken room (room_after_step room i) less so_far (ap is_stepped (both.0 ∙ stepped)) both.1;
        seen = λ new are. on.seen new (subst (λ (steps : List TakenStep). AreSeen sees now steps new) (sym (left_more sees i count start old taken room true less (ap is_stepped stepped))) (next, saw, are));
        left = on.left ∙ room_more sees i count start old taken room true less (ap is_stepped stepped);
        so_many = let one = ap length (left_more sees i count start old taken room true less (ap is_stepped stepped)) in let all = on.so_many in omega (arith, one, all);
      })

  pub all_done : (room : RoomState) (now : W) → IsOnTheWay sees i count start old count room now → IsOver sees i count start old (count, steps.Stepped) room now
  all_done room now on = record {
    same = on.same;
    fields = λ fields are.
        let so_far = on.stands fields are in
        subst (λ (all : Stepping). IsSteppedTo all (count, steps.Stepped) room) (sym (ends start.spec fields i count room so_far)) (record { taken = refl; last = refl; fields = so_far.are });
    seen = let e : 0 ≡ count - count = omega arith in on.seen now (subst (λ (n : ℕ). AreSeen sees now (steps_of_steps room i n) now) e refl);
    left = let e : count - count ≡ 0 = omega arith in sym (on.left ∙ ap (λ (n : ℕ). room_stepped room i n) e);
    so_many = let e : count - count ≡ 0 = omega arith in let none = ap (λ (n : ℕ). length (steps_of_steps room i n)) e in let all = on.so_many in omega (arith, none, all);
  }

  pub stops_at : (taken : ℕ) (room after : RoomState) (now last : W) (reply : StepReply) → IsWithinLimits start.spec → taken < count → IsOnTheWay sees i count start old taken room now → reply ≡ step_reply room i → reply ≢ steps.Stepped
      → after ≡ room_after_step room i → last ≡ now → IsOver sees i count start old (taken, reply) after last
  stops_at taken room after now last reply limits less on is other to blind =
      let none = not_stepped reply other in
      subst (λ (r : RoomState). IsOver sees i count start old (taken, reply) r last) (sym to)
      (record {
        same = same_spec room (Step i) ∙ on.same;
        fields = λ fields are.
            let so_far = on.stands fields are in
            let both = replied start.spec room so_far.now i limits on.same so_far.are in
            subst (λ (all : Stepping). IsSteppedTo all (taken, reply) (room_after_step room i)) (sym (stops start.spec fields i count taken room reply less so_far (is ∙ sym both.0) none))
            (record { taken = refl; last = refl; fields = both.1 });
        seen = on.seen last (subst (λ (steps : List TakenStep). AreSeen sees now steps last) (sym (left_more sees i count start old taken room false less (ap is_stepped (sym is) ∙ none))) (sym blind));
        left = sym (on.left ∙ room_more sees i count start old taken room false less (ap is_stepped (sym is) ∙ none));
        so_many = let stop = ap length (left_more sees i count start old taken room false less (ap is_stepped (sym is) ∙ none)) in let all = on.so_many in omega (arith, stop, all);
      })
