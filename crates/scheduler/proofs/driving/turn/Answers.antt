use Rattle.std.proofs.Common.{◌≡◌, ◌+◌, ◌≤◌, sym, ap, ◌∙◌, subst, arith}
use Rattle.room_spec.specs.Rooms.{RoomSpec}
use Rattle.simulator.specs.Ranges.{turn_limit}
use Rattle.room_core.specs.Calls.{step_bound}
use Rattle.ruled_room.specs.Parts.{RoomName}
use Rattle.ruled_room.specs.declared.stop.Stop.TheVariants.{Idle, OutOfTurns}
use Rattle.scheduler.specs.Drives.{HasStopped}
use Rattle.scheduler.proofs.Stepwise.{burnt_first, idle_first, out_first, turn_cut, turn_ended}
use Rattle.scheduler.proofs.driving.turn.Goals as goal

pub returns-then-left-eq0 : goal.returns-then-left-eq0
returns-then-left-eq0 c =
    let named : c.args.simulator.now.room.spec ≡ c.args.room.now.spec = ap (λ (room : RoomName). room.spec) c.requires in
    let at = burnt_first c.args.fuse.now c.args.simulator.now c.steps_left-left.result c.steps_left-left.ensures.sweep c.steps_left-left.ensures.left (omega (arith, c.if-left-eq0.true)) in
    record {
      steps = at.steps;
      stop = at.stops;
      fuse = at.within;
      same = (at.room, at.number);
      more = tt;
      bound = subst (λ (spec : RoomSpec). c.args.simulator.now.sweep.mind.steps + c.args.simulator.now.sweep.mind.turn_steps ≤ c.args.simulator.now.sweep.mind.steps + turn_limit spec) named at.bound;
    }

pub returns-in-Stepped : goal.returns-in-Stepped
returns-in-Stepped c =
    let named : c.args.simulator.now.room.spec ≡ c.args.room.now.spec = ap (λ (room : RoomName). room.spec) c.requires in
    let new = c.run-reply.new.self in
    let at = turn_ended c.args.fuse.now c.args.simulator.now new c.steps_left-left.result c.steps_left-left.ensures.sweep c.steps_left-left.ensures.left (omega (arith, c.if-left-eq0.false)) c.in-Stepped.ensures.steps (sym c.resting.ensures ∙ c.if-resting.true) in
    record {
      steps = at.steps;
      stop = tt;
      fuse = at.within;
      same = (at.room, at.number);
      more = (at.more, subst (λ (spec : RoomSpec). new.sweep.mind.steps ≤ step_bound spec) named at.most);
      bound = subst (λ (spec : RoomSpec). new.sweep.mind.steps + c.args.simulator.now.sweep.mind.turn_steps ≤ c.args.simulator.now.sweep.mind.steps + turn_limit spec) named at.bound;
    }

pub returns-in-Stepped-2 : goal.returns-in-Stepped-2
returns-in-Stepped-2 c =
    let named : c.args.simulator.now.room.spec ≡ c.args.room.now.spec = ap (λ (room : RoomName). room.spec) c.requires in
    let new = c.run-reply.new.self in
    let at = turn_cut c.args.fuse.now c.args.simulator.now new c.steps_left-left.result c.steps_left-left.ensures.sweep c.steps_left-left.ensures.left c.in-Stepped-2.ensures.steps (sym c.resting.ensures ∙ c.if-resting.false) in
    record {
      steps = at.steps;
      stop = at.stops;
      fuse = at.within;
      same = (at.room, at.number);
      more = tt;
      bound = subst (λ (spec : RoomSpec). new.sweep.mind.steps + c.args.simulator.now.sweep.mind.turn_steps ≤ c.args.simulator.now.sweep.mind.steps + turn_limit spec) named at.bound;
    }

pub returns-in-Idle : goal.returns-in-Idle
returns-in-Idle c =
    let named : c.args.simulator.now.room.spec ≡ c.args.room.now.spec = ap (λ (room : RoomName). room.spec) c.requires in
    let new = c.run-reply.new.self in
    let at = idle_first c.args.fuse.now c.args.simulator.now new c.steps_left-left.result c.steps_left-left.ensures.sweep c.steps_left-left.ensures.left (omega (arith, c.if-left-eq0.false)) c.in-Idle.ensures.reply c.in-Idle.ensures.steps in
    record {
      steps = at.steps;
      stop = subst (λ (spec : RoomSpec). HasStopped c.args.fuse.now spec Idle new.sweep) named at.stops;
      fuse = at.within;
      same = (at.room, at.number);
      more = tt;
      bound = subst (λ (spec : RoomSpec). new.sweep.mind.steps + c.args.simulator.now.sweep.mind.turn_steps ≤ c.args.simulator.now.sweep.mind.steps + turn_limit spec) named at.bound;
    }

pub returns-in-OutOfTurns : goal.returns-in-OutOfTurns
returns-in-OutOfTurns c =
    let named : c.args.simulator.now.room.spec ≡ c.args.room.now.spec = ap (λ (room : RoomName). room.spec) c.requires in
    let new = c.run-reply.new.self in
    let at = out_first c.args.fuse.now c.args.simulator.now new c.steps_left-left.result c.steps_left-left.ensures.sweep c.steps_left-left.ensures.left (omega (arith, c.if-left-eq0.false)) c.in-OutOfTurns.ensures.reply c.in-OutOfTurns.ensures.steps in
    record {
      steps = at.steps;
      stop = subst (λ (spec : RoomSpec). HasStopped c.args.fuse.now spec OutOfTurns new.sweep) named at.stops;
      fuse = at.within;
      same = (at.room, at.number);
      more = tt;
      bound = subst (λ (spec : RoomSpec). new.sweep.mind.steps + c.args.simulator.now.sweep.mind.turn_steps ≤ c.args.simulator.now.sweep.mind.steps + turn_limit spec) named at.bound;
    }
