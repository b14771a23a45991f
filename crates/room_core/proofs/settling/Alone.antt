-- A simulator that runs alone: each step that it takes counts, and there are so many at the most.
use Rattle.std.proofs.Common.{◌≡◌, ◌≢◌, ℕ, zero, suc, ◌+◌, ◌*◌, ◌-◌, ◌<◌, ◌≤◌, Bool, true, false, not, cond, length, refl, sym, ap, ◌∙◌, subst, arith}
use Rattle.std.proofs.lemmas.Bool.{cond_both, not-true}
use Rattle.std.proofs.lemmas.List.{get_or-set_same}
use Rattle.room_spec.specs.Sizes.{sizes_in}
use Rattle.room_spec.specs.Rooms.{RoomSpec, IsWithinLimits, processes}
use Rattle.simulator.specs.Bounds.{agreement_rounds}
use Rattle.simulator.specs.declared.line.Line.{Line}
use Rattle.simulator.specs.declared.line.Line.TheVariants.{Rest, Raise, Snap, Show, Enter, Look, Leave, Ask, GetInput, GetView, Values, Out}
use Rattle.simulator.specs.declared.sweep.Ready.{Ready}
use Rattle.simulator.specs.declared.sweep.Ready.TheVariants as ready
use Rattle.simulator.specs.Minds.{MindState}
use Rattle.simulator.specs.Moves.{answer_of}
use Rattle.simulator.specs.Ranges.{IsMind, charged_steps, greatest_limit, most_steps}
use Rattle.simulator.proofs.CallerLemmas.{limit_most, total, total_falls, total_most, turns_before, bounded, steps_by_one}
use Rattle.simulator.specs.Sweeps.{SweepState, is_resting, opening_sweep, ready_between}
use Rattle.room_core.specs.Rooms.{IsOneInterleaving, IsShaped, steps}
use Rattle.room_core.specs.Calls.{RoomState, configuration_of, has_crashed, is_step, moved, ready_at, reply_when, room_after_step, room_kind, step_reply, sweep_after, sweep_at, taken_by, with_sweep, woken}
use Rattle.room_core.specs.Calls as calls
use Rattle.room_core.specs.declared.reply.StepReply.TheVariants.{Stepped}
use Rattle.room_core.specs.Settling.{steps_while, turn_ended, ran_alone}
use Rattle.room_core.proofs.fields.Replays.{shape_after, shapes}
use Rattle.room_core.proofs.fields.States.{has_line, mind_ok, moved_data, operation_at, sweep_count, woken_data}
use Rattle.room_core.proofs.fields.FieldCalls.{ready_step}
use Rattle.room_core.proofs.settling.SpecKept.{same_spec_step}
use Rattle.room_core.proofs.settling.Settling.{ended_keeps, alone_keeps}

-- ---- how many steps a simulator takes in all

within_by : (line : Line) (spec : RoomSpec) (taken turn_steps word collects entries charged : ℕ) → charged_steps line taken ≤ charged + turn_steps → turn_steps ≤ most_steps spec line word collects entries → turn_steps ≤ greatest_limit → taken ≤ charged
within_by Rest spec taken turn_steps word collects entries charged is few most = omega arith
within_by Raise spec taken turn_steps word collects entries charged is few most = omega arith
within_by Snap spec taken turn_steps word collects entries charged is few most = omega arith
within_by Show spec taken turn_steps word collects entries charged is few most = omega arith
within_by Enter spec taken turn_steps word collects entries charged is few most = omega arith
within_by Look spec taken turn_steps word collects entries charged is few most = omega arith
within_by (Leave saw_two) spec taken turn_steps word collects entries charged is few most = omega arith
within_by Ask spec taken turn_steps word collects entries charged is few most = omega arith
within_by (GetInput chosen) spec taken turn_steps word collects entries charged is few most = omega arith
within_by (GetView chosen) spec taken turn_steps word collects entries charged is few most = omega arith
within_by Values spec taken turn_steps word collects entries charged is few most = omega arith
within_by (Out decision) spec taken turn_steps word collects entries charged is few most = omega arith

pub steps_within : (spec : RoomSpec) (mind : MindState) → IsMind spec mind → mind.steps ≤ calls.step_bound spec
steps_within spec mind is =
    let most = within_by mind.line spec mind.steps mind.turn_steps mind.word mind.collects (length mind.entries) (greatest_limit * mind.turns) is.counted is.few (omega (arith, bounded spec mind is, limit_most spec is.limits)) in
    omega (arith, most, is.turns)

-- ---- one step

-- a simulator of the room that hasn't crashed
pub record IsUp (room : RoomState) (i : ℕ) : Type 0 where
  pub shape : IsShaped (configuration_of room)
  pub below : i < room.spec.simulators
  pub alive : has_crashed room i ≡ false

abbrev pub steps_of : RoomState → ℕ → ℕ
steps_of room i = (sweep_at room i).mind.steps

-- it has taken one step
pub record HasStepped (room after : RoomState) (i : ℕ) : Type 0 where
  pub is : after ≡ moved room i
  pub up : IsUp (moved room i) i
  pub own : sweep_at (moved room i) i ≡ sweep_after (taken_by room i) (sweep_at room i).quiet
  pub more : steps_of (moved room i) i ≡ steps_of room i + 1
  pub within : steps_of (moved room i) i ≤ calls.step_bound room.spec

pub step_up : (room : RoomState) (i : ℕ) → IsUp room i → ready_at room i ≡ ready.Step → HasStepped room (room_after_step room i) i
step_up room i up is =
    let to = ready_step room i ready.Step up.below up.alive is in
    let may = has_line room i up.shape up.below up.alive is in
    let shape = subst IsShaped (sym (moved_data room i)) (shape_after (configuration_of room) (steps i) may up.shape) in
    let place : i < length room.sweeps = let below = up.below in omega (arith, sweep_count room up.shape) in
    let own = get_or-set_same room.sweeps i (sweep_after (taken_by room i) (sweep_at room i).quiet) (opening_sweep room.spec i) place in
    record {
      is = sym to.left;
      up = record { shape = shape; below = up.below; alive = up.alive };
      own = own;
      more = ap (λ (sweep : SweepState). sweep.mind.steps) own ∙ steps_by_one room.spec (sweep_at room i).mind (answer_of (operation_at room i) room.words);
      within = steps_within room.spec (sweep_at (moved room i) i).mind (mind_ok (moved room i) i shape up.below);
    }

-- how many it may still take
abbrev pub left : RoomState → ℕ → ℕ
left room i = calls.step_bound room.spec - steps_of room i

-- ---- while a test holds with which a step is to be taken

abbrev pub Means : (RoomState → ℕ → Bool) → ℕ → Type 0
Means test i = (room : RoomState) → test room i ≡ true → ready_at room i ≡ ready.Step

abbrev pub has_step : RoomState → ℕ → Bool
has_step room i = is_step (ready_at room i)

abbrev pub in_turn : RoomState → ℕ → Bool
in_turn room i = not (is_resting (sweep_at room i).mind.line)

pub has_step_means : (i : ℕ) → Means has_step i
has_step_means i room is = by_ready (ready_at room i) is
  where
    by_ready : (answer : Ready) → is_step answer ≡ true → answer ≡ ready.Step
    by_ready ready.Step is = refl
    by_ready ready.Idle is = absurd cc
    by_ready ready.OutOfTurns is = absurd cc

pub in_turn_means : (i : ℕ) → Means in_turn i
in_turn_means i room is =
    let turn = not-true (is_resting (sweep_at room i).mind.line) is in
    ap (λ (b : Bool). cond b (ready_between room.spec (sweep_at room i).mind (sweep_at room i).quiet) ready.Step) turn

module _ (test : RoomState → ℕ → Bool) (i : ℕ) (means : Means test i) where
  abbrev pub Ran : ℕ → RoomState → RoomState
  Ran most room = steps_while room_after_step test most room i

-- ---- it comes to an end

not_true : (b : Bool) → (b ≡ true → ⊥) → b ≡ false
not_true true is = absurd (is refl)
not_true false is = refl

module _ (test : RoomState → ℕ → Bool) (i : ℕ) (means : Means test i) where
  pub finished : (most : ℕ) (room : RoomState) → IsUp room i → calls.step_bound room.spec ≤ most + steps_of room i → test (Ran test i means most room) i ≡ false
  finished zero room up within = not_true (test room i) (λ is. let next = step_up room i up (means room is) in omega (arith, next.more, next.within, within))
  finished (suc most) room up within =
      cond_both (test room i) (Ran test i means most (room_after_step room i)) room (λ r. test r i ≡ false)
      (λ is.
      let next = step_up room i up (means room is) in
      subst (λ (r : RoomState). test (Ran test i means most r) i ≡ false) (sym next.is) (finished most (moved room i) next.up (omega (arith, next.more, within))))
      (λ is. is)

  abbrev total_in : RoomSpec → RoomState → ℕ
  total_in spec room = total (processes spec) spec.rounds (sweep_at room i).mind (sweep_at room i).quiet

  pub total_ran : (most : ℕ) (room : RoomState) → IsUp room i → total_in room.spec (Ran test i means most room) ≤ total_in room.spec room
  total_ran zero room up = omega arith
  total_ran (suc most) room up =
      cond_both (test room i) (Ran test i means most (room_after_step room i)) room (λ r. total_in room.spec r ≤ total_in room.spec room)
      (λ is.
      let next = step_up room i up (means room is) in
      let falls = total_falls room.spec (sweep_at room i).mind (sweep_at room i).quiet (answer_of (operation_at room i) room.words) (mind_ok room i up.shape up.below) (means room is) in
      let here : total_in room.spec (moved room i) ≤ total_in room.spec room = subst (λ (sweep : SweepState). total (processes room.spec) room.spec.rounds sweep.mind sweep.quiet ≤ total_in room.spec room) (sym next.own) falls in
      let more = total_ran most (moved room i) next.up in
      subst (λ (r : RoomState). total_in room.spec (Ran test i means most r) ≤ total_in room.spec room) (sym next.is) (omega (arith, here, more)))
      (λ is. omega arith)

  pub turns_ran : (most : ℕ) (room : RoomState) → IsUp room i → (sweep_at (Ran test i means most room) i).mind.turns ≤ (sweep_at room i).mind.turns + (processes room.spec * agreement_rounds (sizes_in room.spec) + 1) * processes room.spec
  turns_ran most room up =
      let end = sweep_at (Ran test i means most room) i in
      omega (arith, turns_before (processes room.spec) room.spec.rounds end.mind end.quiet, total_ran most room up, total_most room.spec (sweep_at room i).mind (sweep_at room i).quiet (mind_ok room i up.shape up.below))

pub is_up : (room : RoomState) (i : ℕ) → IsWithinLimits room.spec → IsOneInterleaving (configuration_of room) → i < room.spec.simulators → has_crashed room i ≡ false → IsUp room i
is_up room i limits one below alive = record { shape = shapes (configuration_of room) limits one; below = below; alive = alive }

-- ---- the first room and the last

pub woken_up : (room after : RoomState) (i : ℕ) → IsUp room i → after ≡ with_sweep room i (woken (sweep_at room i)) → IsUp after i
woken_up room after i up is = subst (λ (r : RoomState). IsUp r i) (sym is) (record { shape = subst IsShaped (sym (woken_data room i)) up.shape; below = up.below; alive = up.alive })

stepped_by : (answer : Ready) → reply_when answer ≡ Stepped → is_step answer ≡ true
stepped_by ready.Step is = refl
stepped_by ready.Idle is = absurd cc
stepped_by ready.OutOfTurns is = absurd cc

other_by : (answer : Ready) → reply_when answer ≢ Stepped → is_step answer ≡ false
other_by ready.Step other = absurd (other refl)
other_by ready.Idle other = refl
other_by ready.OutOfTurns other = refl

replied : (room : RoomState) (i : ℕ) → IsUp room i → reply_when (ready_at room i) ≡ step_reply room i
replied room i up = let to = ready_step room i (ready_at room i) up.below up.alive refl in to.replied

pub takes_one : (room : RoomState) (i : ℕ) → IsUp room i → ready_at room i ≡ ready.Step → step_reply room i ≡ Stepped
takes_one room i up is = sym (replied room i up) ∙ ap reply_when is

pub took_one : (room : RoomState) (i : ℕ) → IsUp room i → step_reply room i ≡ Stepped → has_step room i ≡ true
took_one room i up is = stepped_by (ready_at room i) (replied room i up ∙ is)

pub took_none : (room : RoomState) (i : ℕ) → IsUp room i → step_reply room i ≢ Stepped → has_step room i ≡ false
took_none room i up other = other_by (ready_at room i) (λ is. other (sym (replied room i up) ∙ is))

-- ---- one simulator after the other

pub same_spec_ended : (room : RoomState) (i : ℕ) → (turn_ended room_kind room i).spec ≡ room.spec
same_spec_ended room i = ended_keeps room_kind (λ r. r.spec ≡ room.spec) (λ a r is. same_spec_step r a ∙ is) (λ a r is. is) i room refl

pub same_spec_alone : (room : RoomState) (i : ℕ) → (ran_alone room_kind room i).spec ≡ room.spec
same_spec_alone room i = alone_keeps room_kind (λ r. r.spec ≡ room.spec) (λ a r is. same_spec_step r a ∙ is) (λ a r is. is) i room refl
