-- What a simulator has in mind that takes a step.
use Rattle.std.proofs.Common.{◌≡◌, ◌≢◌, ℕ, Bool, true, false, cond, leb, Option, Some, None, refl, sym, subst}
use Rattle.std.proofs.Math.ListN.{get_or-map}
use Rattle.room_spec.specs.Rooms.{RoomSpec}
use Rattle.simulator.specs.Minds.{MindState, next_process}
use Rattle.simulator.specs.Moves.{IsOperation, first_move, move_at, move_of}
use Rattle.simulator.specs.Ranges.{IsMind}
use Rattle.simulator.specs.Sweeps.{SweepState, is_resting, opening_sweep, works_on}
use Rattle.simulator.specs.declared.line.Line.{Line}
use Rattle.simulator.specs.declared.line.Line.TheVariants.{Rest, Raise, Snap, Show, Enter, Look, Leave, Ask, GetInput, GetView, Values, Out}
use Rattle.simulator.specs.declared.sweep.Ready.{Ready}
use Rattle.simulator.specs.declared.sweep.Ready.TheVariants as ready
use Rattle.simulator.proofs.CallerLemmas.{moves}
use Rattle.room_core.specs.Calls.{RoomState, configuration_of, has_crashed, ready_at, reply_when, step_reply, sweep_at}
use Rattle.room_core.specs.Rooms.{mind_at}
use Rattle.room_core.specs.declared.reply.StepReply.TheVariants.{Stepped, Crashed, NoSimulator}
use Rattle.room_steps.specs.Steps.{mind_in}

pub mind_is : (room : RoomState) (i : ℕ) → mind_at (configuration_of room) i ≡ mind_in room i
mind_is room i = get_or-map (λ (sweep : SweepState). sweep.mind) room.sweeps i (opening_sweep room.spec i)

ready_where : (absent crashed : Bool) (answer : Ready) → cond absent NoSimulator (cond crashed Crashed (reply_when answer)) ≡ Stepped → answer ≡ ready.Step
ready_where true crashed answer is = absurd cc
ready_where false true answer is = absurd cc
ready_where false false ready.Step is = refl
ready_where false false ready.Idle is = absurd cc
ready_where false false ready.OutOfTurns is = absurd cc

-- where a step is taken the mind wants an operation
pub stepped_moves : (room : RoomState) (i : ℕ) → IsMind room.spec (mind_in room i) → step_reply room i ≡ Stepped → IsOperation (move_of room.spec (mind_in room i))
stepped_moves room i mind is = moves room.spec (mind_in room i) (sweep_at room i).quiet mind (ready_where (leb room.spec.simulators i) (has_crashed room i) (ready_at room i) is)

works_at : (line : Line) (found : Option ℕ) (spec : RoomSpec) (mind : MindState) → found ≡ next_process mind.goals mind.process → IsOperation (move_at line spec mind) → cond (is_resting line) found (Some mind.process) ≢ None
works_at Rest None spec mind is moving = absurd (subst (λ (f : Option ℕ). IsOperation (first_move f spec mind)) (sym is) moving)
works_at Rest (Some process) spec mind is moving = λ none. absurd cc
works_at Raise found spec mind is moving = λ none. absurd cc
works_at Snap found spec mind is moving = λ none. absurd cc
works_at Show found spec mind is moving = λ none. absurd cc
works_at Enter found spec mind is moving = λ none. absurd cc
works_at Look found spec mind is moving = λ none. absurd cc
works_at (Leave saw_two) found spec mind is moving = λ none. absurd cc
works_at Ask found spec mind is moving = λ none. absurd cc
works_at (GetInput chosen) found spec mind is moving = λ none. absurd cc
works_at (GetView chosen) found spec mind is moving = λ none. absurd cc
works_at Values found spec mind is moving = λ none. absurd cc
works_at (Out decision) found spec mind is moving = λ none. absurd cc

-- a mind that wants an operation works on some process
pub moves_works : (spec : RoomSpec) (mind : MindState) → IsOperation (move_of spec mind) → works_on mind ≢ None
moves_works spec mind moving = works_at mind.line (next_process mind.goals mind.process) spec mind refl moving
