use Rattle.std.proofs.Common.{◌≡◌, sym, ap, ◌∙◌, subst}
use Rattle.room_spec.specs.Rooms.{RoomSpec}
use Rattle.simulator.specs.Minds.{MindState, goal_at}
use Rattle.simulator.specs.Quiet.{HasNoWrite}
use Rattle.simulator.specs.Ranges.{IsMind}
use Rattle.simulator.specs.Sweeps.{SweepState}
use Rattle.simulator.proofs.CallerLemmas.{idle_waits, moves}
use Rattle.ruled_room.specs.Parts.{RoomName, SimulatorData, StepsInTurn}
use Rattle.ruled_room.proofs.Turning.{HasRun, has_run, seen}
use Rattle.ruled_room.proofs.step.Simulator.run.Goals as goal

pub run_with-requires-clause-operation : goal.run_with-requires-clause-operation
run_with-requires-clause-operation c =
    let mind = c.self.inside.sweep.mind in
    let same : c.self.inside.seat.me.0.spec ≡ c.room.inside.spec = ap (λ (s : SimulatorData). s.room.spec) c.self.view_is ∙ ap (λ (r : RoomName). r.spec) c.requires ∙ ap (λ (r : RoomName). r.spec) (sym c.room.view_is) in
    let is_mind : IsMind c.room.inside.spec mind = subst (λ (s : RoomSpec). IsMind s mind) same c.self.invariant.2.is_mind in
    moves c.room.inside.spec mind c.self.inside.sweep.quiet is_mind (sym c.ready.ensures ∙ c.in-Step.is)

-- the steps that were taken, and what they left
ran : (c : goal.After-run_with) → HasRun c.args.most (seen c.self.inside.seat.table_id c.self.inside.seat.me c.self.inside.number c.self.inside.sweep) c.run_with.new.memory.table_id c.run_with.new.memory.me c.run_with.new.self
ran c =
    let same : c.self.inside.seat.me.0.spec ≡ c.room.inside.spec = ap (λ (s : SimulatorData). s.room.spec) c.self.view_is ∙ ap (λ (r : RoomName). r.spec) c.requires ∙ ap (λ (r : RoomName). r.spec) (sym c.room.view_is) in
    let done = c.run_with.ensures in
    has_run (λ seat. seat.table_id) (λ seat. seat.me) _ (λ seat next answer after did. (did.0, did.2)) c.room.inside.spec c.self.inside.number c.args.most c.run_with.result.0 c.self.inside.seat c.run_with.new.memory c.self.inside.sweep c.run_with.new.self c.run_with.result.1
    c.self.invariant same (sym c.ready.ensures ∙ c.in-Step.is) done.runs done.quiet done.most done.some done.ended

pub invariant_of-self : goal.invariant_of-self
invariant_of-self c = (ran c).keeps

pub returns-in-Step-clause-steps : goal.returns-in-Step-clause-steps
returns-in-Step-clause-steps c = subst (λ (old : SimulatorData). StepsInTurn c.args.most old (seen c.run_with.new.memory.table_id c.run_with.new.memory.me c.self.inside.number c.run_with.new.self)) c.self.view_is (ran c).steps

pub returns-in-Idle-clause-waits : goal.returns-in-Idle-clause-waits
returns-in-Idle-clause-waits c =
    let ready-is = sym c.ready.ensures ∙ c.in-Idle.is in
    λ _ process. subst (λ (m : MindState). HasNoWrite (goal_at m.goals process)) (ap (λ (s : SweepState). s.mind) (sym c.wake.ensures)) (idle_waits c.room.inside.spec c.self.inside.sweep.mind c.self.inside.sweep.quiet process c.self.invariant.2.quiet ready-is)
