use Rattle.std.proofs.Common.{◌+◌, ◌*◌, ◌≤◌, ◌∙◌, subst}
use Rattle.simulator.specs.Ranges.{turn_limit}
use Rattle.ruled_room.specs.Parts.{RoomName}
use Rattle.scheduler.proofs.Bounds.{drive_turns, drives_on, ends_drive, left_less, most_turns}
use Rattle.scheduler.proofs.Costs.{drive_steps}
use Rattle.scheduler.proofs.driving.drive.Goals as goal

pub returns-in-Some-clause-steps : goal.returns-in-Some-clause-steps
returns-in-Some-clause-steps g c = ends_drive c.args.fuse.now c.args.simulator.now c.loop-stop.simulator c.turn.new.simulator c.turn.result c.in-Some.stop c.loop-stop.invariant c.in-Some.is c.turn.ensures.steps

pub returns-in-Some-clause-turns : goal.returns-in-Some-clause-turns
returns-in-Some-clause-turns g c =
    let drives = ends_drive c.args.fuse.now c.args.simulator.now c.loop-stop.simulator c.turn.new.simulator c.turn.result c.in-Some.stop c.loop-stop.invariant c.in-Some.is c.turn.ensures.steps in
    let turns = drive_turns c.args.fuse.now c.args.simulator.now c.in-Some.stop c.turn.new.simulator c.number-worker.ensures.sweep drives in
    subst (λ (room : RoomName). c.turn.new.simulator.sweep.mind.turns ≤ c.args.simulator.now.sweep.mind.turns + most_turns room.spec) c.requires turns

pub returns-in-Some-clause-bound : goal.returns-in-Some-clause-bound
returns-in-Some-clause-bound g c =
    let drives = ends_drive c.args.fuse.now c.args.simulator.now c.loop-stop.simulator c.turn.new.simulator c.turn.result c.in-Some.stop c.loop-stop.invariant c.in-Some.is c.turn.ensures.steps in
    let steps = drive_steps c.args.fuse.now c.args.simulator.now c.in-Some.stop c.turn.new.simulator c.number-worker.ensures.sweep drives in
    subst (λ (room : RoomName). c.turn.new.simulator.sweep.mind.steps ≤ c.args.simulator.now.sweep.mind.steps + most_turns room.spec * turn_limit room.spec) c.requires steps

pub loop-stop-smaller : goal.loop-stop-smaller
loop-stop-smaller g c =
    left_less c.loop-stop.simulator c.turn.new.simulator c.args.room.now c.turn.ensures.same.0 (c.loop-stop.invariant.room ∙ c.requires) c.in_default.ensures.more.0 c.in_default.ensures.more.1

pub loop-stop-preserved : goal.loop-stop-preserved
loop-stop-preserved g c = drives_on c.args.fuse.now c.args.simulator.now c.loop-stop.simulator c.turn.new.simulator c.turn.result c.loop-stop.invariant c.in_default.is c.turn.ensures.steps c.turn.ensures.same.0 c.turn.ensures.same.1 c.turn.ensures.fuse
