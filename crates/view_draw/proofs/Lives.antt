-- What happened in a room, as it is drawn, from its opening on.
use Rattle.std.proofs.Common.{◌≡◌, ◌∙◌, ℕ, zero, suc, ◌+◌, ◌<◌, ◌&&◌, Bool, true, false, List, [], ◌∷◌, ◌++◌, Option, Some, None, ap, refl, subst, sym, arith, inl, inr}
use Rattle.std.specs.List.{find, range_with_len}
use Rattle.std.proofs.lemmas.Bool.{and_parts, cases_Bool}
use Rattle.std.proofs.lemmas.List.{append-nil, append_assoc}
use Rattle.room_spec.specs.Rooms.{RoomSpec, IsWithinLimits}
use Rattle.room_spec.specs.Sizes.{sizes_in}
use Rattle.simulator.specs.Minds.{MindState}
use Rattle.room_core.specs.Agreements.{IsInside}
use Rattle.room_core.specs.Calls.{RoomState, configuration_of, room_after_step, step_reply, sweep_at}
use Rattle.room_core.specs.Fields.{Fields, opening_fields, replay_fields}
use Rattle.room_core.specs.Observing.{Follow, TakenStep}
use Rattle.room_core.specs.Reading.{AreFieldsOf, worded}
use Rattle.room_core.specs.Rooms.{Configuration, HasLine, IsAlive, IsOneInterleaving, crashed_at, crashed_by, mind_at, opening, stepped}
use Rattle.room_core.specs.declared.reply.StepReply.TheVariants.{Stepped}
use Rattle.room_core.proofs.CallerLemmas.{fields_stand, moved_data, one_inside, shapes, taken_line, taken_moves, under_crash_at_end, under_line_at_end}
use Rattle.ws_history.specs.Reports.{held_by, is_inside, is_spent, state_by, state_of}
use Rattle.room_core.specs.Agreements.{decided_in}
use Rattle.ws_history.specs.declared.states.ProcessState.TheVariants.{Held}
use Rattle.ws_history.proofs.CallerLemmas.{level_one}
use Rattle.run_columns.specs.declared.mark.Mark.{Mark}
use Rattle.run_columns.specs.declared.mark.Mark.TheVariants.{Crash}
use Rattle.view_draw.specs.Seen.{AreMarks, IsMarkOf}
use Rattle.view_draw.proofs.Entering.{AreEntered, HasEntered, crash_entered, none_entered, step_entered}

-- These marks lead from the opening room to this one: one for each step, and one for each crash, in their order.
pub data IsLife : List Mark → Configuration → Type 0 where
  opens : (spec : RoomSpec) → IsLife [] (opening spec)
  steps : (marks : List Mark) (room : RoomState) (i : ℕ) (mark : Mark) → IsLife marks (configuration_of room) → HasLine (configuration_of room) i → IsMarkOf room i mark
      → IsLife (marks ++ mark ∷ []) (stepped (configuration_of room) i)
  crashes : (marks : List Mark) (room : Configuration) (i : ℕ) → IsLife marks room → IsAlive room i → IsLife (marks ++ Crash i ∷ []) (crashed_by room i)

pub interleaved : (marks : List Mark) (room : Configuration) → IsLife marks room → IsOneInterleaving room
interleaved marks room (opens spec) = record { schedule = []; legal = tt; leads = refl }
interleaved marks room (steps before state i mark life may is) = (under_line_at_end (configuration_of state) i (interleaved before (configuration_of state) life) may).0
interleaved marks room (crashes before state i life alive) = (under_crash_at_end state i (interleaved before state life) alive).0

entered : (marks : List Mark) (room : Configuration) → IsLife marks room → IsWithinLimits room.spec → AreEntered marks room
entered marks room (opens spec) limits = none_entered spec
entered marks room (steps before state i mark life may is) limits =
    step_entered before state i mark (shapes (configuration_of state) limits (interleaved before (configuration_of state) life)) may is (entered before (configuration_of state) life limits)
entered marks room (crashes before state i life alive) limits = crash_entered before state i (entered before state life limits)

-- ---- the steps of a command

one_on : (room : RoomState) (i : ℕ) (mark : Mark) (old : List Mark) → IsWithinLimits room.spec → step_reply room i ≡ Stepped → IsMarkOf room i mark → IsLife old (configuration_of room) → IsLife (old ++ mark ∷ []) (configuration_of (room_after_step room i))
one_on room i mark old limits took is life =
    let may = taken_line room i (shapes (configuration_of room) limits (interleaved old (configuration_of room) life)) took in
    let after : stepped (configuration_of room) i ≡ configuration_of (room_after_step room i) = sym (ap configuration_of (taken_moves room i took) ∙ moved_data room i) in
    subst (IsLife (old ++ mark ∷ [])) after (steps old room i mark life may is)

spec_after : (room : RoomState) (i : ℕ) → step_reply room i ≡ Stepped → (room_after_step room i).spec ≡ room.spec
spec_after room i took = ap (λ (r : RoomState). r.spec) (taken_moves room i took)

pub lives_on : (taken : List TakenStep) (marks old : List Mark) (before after : Configuration) → IsWithinLimits before.spec → AreMarks taken marks → Follow before taken after → IsLife old before → IsLife (old ++ marks) after
lives_on [] [] old before after limits are follow life = subst (IsLife (old ++ [])) follow (subst (λ (marks : List Mark). IsLife marks before) (sym (append-nil old)) life)
lives_on [] (mark ∷ marks) old before after limits are follow life = absurd are
lives_on (step ∷ taken) [] old before after limits are follow life = absurd are
lives_on (step ∷ taken) (mark ∷ marks) old before after limits are follow life =
    let here = configuration_of step.room in
    let fit : IsWithinLimits step.room.spec = subst (λ (r : Configuration). IsWithinLimits r.spec) (sym follow.0) limits in
    let next = one_on step.room step.simulator mark old fit follow.1 are.0 (subst (IsLife old) (sym follow.0) life) in
    subst (λ (all : List Mark). IsLife all after) (append_assoc old (mark ∷ []) marks)
    (lives_on taken marks (old ++ mark ∷ []) (configuration_of (room_after_step step.room step.simulator)) after
    (subst IsWithinLimits (sym (spec_after step.room step.simulator follow.1)) fit) are.1 follow.2 next)

-- ---- fields

pub fields_of : (room : RoomState) → IsOneInterleaving (configuration_of room) → (fields : Fields) × AreFieldsOf room fields
fields_of room one = (
  record (replay_fields room.spec (opening_fields room.spec) one.schedule) { quiet = λ a. (sweep_at room a).quiet },
  record { run = one; leads = refl; counts = λ a below. refl },
)

-- ---- who holds a process

held_by_one : (out : Option ℕ) (spent : Bool) (holder : Option ℕ) (i : ℕ) → state_by out spent holder ≡ Held i → holder ≡ Some i
held_by_one (Some v) spent holder i is = absurd cc
held_by_one None true holder i is = absurd cc
held_by_one None false (Some h) i is = cc
held_by_one None false None i is = absurd cc

found_in_range : (p : ℕ → Bool) (a n i : ℕ) → find p (range_with_len a n) ≡ Some i → (i < a + n) × (p i ≡ true)
found_in_range p a zero i is = absurd cc
found_in_range p a (suc n) i is = elim (cases_Bool (p a)) [
  | inl found ↦
      let here : Some a ≡ Some i = rw found at is in
      let same : a ≡ i = cc in
      (omega arith, subst (λ (x : ℕ). p x ≡ true) same found)
  | inr other ↦ let more = found_in_range p (a + 1) n i (rw other at is) in let below = more.0 in (omega arith, more.1)
]

pub held_entered : (room : RoomState) (fields : Fields) (marks : List Mark) → IsWithinLimits room.spec → AreFieldsOf room fields → IsLife marks (configuration_of room) → (j i : ℕ) → state_of room.spec fields j ≡ Held i → HasEntered i j true marks
held_entered room fields marks limits are life j i held =
    let found = found_in_range (λ a. fields.crashed a && is_inside room.spec fields a j) 0 room.spec.simulators i (held_by_one (decided_in room.spec fields j) (is_spent room.spec fields j) (held_by room.spec fields j) i held) in
    let parts = and_parts (fields.crashed i) (is_inside room.spec fields i j) found.1 in
    let one = level_one room.spec fields i j parts.1 in
    let stands = fields_stand room fields limits are in
    let turn = one_inside room.spec fields stands.tracks i j one.0 one.1 in
    let below : i < room.spec.simulators = let less = found.0 in omega arith in
    let mind : mind_at (configuration_of room) i ≡ worded (sizes_in room.spec) (fields.mind i) = (stands.reads.minds i below).same in
    let crashed : crashed_at (configuration_of room) i ≡ true = stands.reads.crashed i below ∙ parts.0 in
    let process : (mind_at (configuration_of room) i).process ≡ j = ap (λ (m : MindState). m.process) mind ∙ turn.process in
    let inside : IsInside (mind_at (configuration_of room) i).line = subst (λ (m : MindState). IsInside m.line) (sym mind) turn.line in
    subst (λ (p : ℕ). HasEntered i p true marks) process
    (subst (λ (b : Bool). HasEntered i (mind_at (configuration_of room) i).process b marks) crashed (entered marks (configuration_of room) life limits i below inside))
