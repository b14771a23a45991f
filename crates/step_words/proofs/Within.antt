-- The numbers of a step are those of its room.
use Rattle.std.proofs.Common.{◌≡◌, ◌∙◌, ℕ, ◌<◌, Bool, true, false, cond, leb, Some, refl, sym, ap, subst, arith}
use Rattle.std.proofs.Math.ListN.{get_or-map}
use Rattle.std.proofs.lemmas.Bool.{leb-false}
use Rattle.room_spec.specs.Rooms.{RoomSpec, IsWithinLimits, processes}
use Rattle.simulator.specs.Minds.{MindState, next_process}
use Rattle.simulator.specs.Ranges.{IsMind}
use Rattle.simulator.specs.Sweeps.{SweepState, is_resting, opening_sweep}
use Rattle.simulator.proofs.CallerLemmas.{next_is_left}
use Rattle.room_core.specs.Calls.{RoomState, Step, configuration_of, has_crashed, ready_at, reply_when, room_after_step, step_reply}
use Rattle.room_core.specs.declared.reply.StepReply.{StepReply}
use Rattle.room_core.specs.declared.reply.StepReply.TheVariants.{Stepped, Crashed, NoSimulator}
use Rattle.room_core.specs.Rooms.{IsOneInterleaving}
use Rattle.room_core.proofs.CallerLemmas.{shapes}
use Rattle.room_core.proofs.CallerLemmasOnSpecs.{same_spec}
use Rattle.room_steps.specs.Steps.{IsStepOf, mind_in}
use Rattle.room_steps.specs.declared.step.AtomicStep.{AtomicStep}
use Rattle.step_words.specs.Lines.{IsStepIn}

below_by : (m i : ℕ) (absent : Bool) (other : StepReply) → leb m i ≡ absent → cond absent NoSimulator other ≡ Stepped → i < m
below_by m i true other is stepped = absurd cc
below_by m i false other is stepped = leb-false m i is

works_within : (spec : RoomSpec) (mind : MindState) (process : ℕ) (rests : Bool) → IsMind spec mind → cond rests (next_process mind.goals mind.process) (Some mind.process) ≡ Some process → process < processes spec
works_within spec mind process true is found =
    let left = next_is_left mind.goals mind.process process (omega (arith, is.goals, is.process)) found in
    omega (arith, left.below, is.goals)
works_within spec mind process false is found = let same : mind.process ≡ process = cc in omega (arith, same, is.process)

step_within : (room : RoomState) (i : ℕ) (step : AtomicStep) → IsWithinLimits room.spec → IsOneInterleaving (configuration_of room) → step_reply room i ≡ Stepped → IsStepOf room i step → IsStepIn room.spec step
step_within room i step limits one stepped is =
    let shape = shapes (configuration_of room) limits one in
    let below = below_by room.spec.simulators i (leb room.spec.simulators i) (cond (has_crashed room i) Crashed (reply_when (ready_at room i))) refl stepped in
    let mind : IsMind room.spec (mind_in room i) = subst (IsMind room.spec) (get_or-map (λ (sweep : SweepState). sweep.mind) room.sweeps i (opening_sweep room.spec i)) (shape.each i below) in
    record {
      simulator = omega (arith, is.next.simulator, below);
      process = works_within room.spec (mind_in room i) step.process (is_resting (mind_in room i).line) mind is.next.process;
      place = is.next.place.in_range;
    }

-- also of the room behind it, whose spec is given by its name
pub reported_within : (room after : RoomState) (spec : RoomSpec) (i : ℕ) (step : AtomicStep) → IsWithinLimits room.spec → IsOneInterleaving (configuration_of room) → after ≡ room_after_step room i → spec ≡ after.spec → step_reply room i ≡ Stepped → IsStepOf room i step
    → (spec ≡ room.spec) × IsStepIn spec step
reported_within room after spec i step limits one to is stepped of =
    let same : spec ≡ room.spec = is ∙ ap (λ (r : RoomState). r.spec) to ∙ same_spec room (Step i) in
    (same, subst (λ (s : RoomSpec). IsStepIn s step) (sym same) (step_within room i step limits one stepped of))
