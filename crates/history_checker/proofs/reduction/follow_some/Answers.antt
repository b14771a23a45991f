use Rattle.std.proofs.Common.{◌<◌, sym, arith}
use Rattle.room_spec.specs.Rooms.{with_inputs}
use Rattle.transcript.specs.Runs.{process_of}
use Rattle.history_checker.proofs.Own.{none_left, none_more, on_err, on_ok, own_few}
use Rattle.history_checker.proofs.reduction.follow_some.Goals as goal

pub returns-then-is_ok : goal.returns-then-is_ok
returns-then-is_ok c = on_ok c.args.spec.now c.args.processes.now c.follow.new.processes c.args.before.now c.args.event.now c.requires.tracks c.follow.result (sym c.if-is_ok.ensures.value) (c.follow.ensures.follows (with_inputs c.args.spec.now c.requires.tracks.inputs) (sym c.rounds.ensures.value) (sym c.protocol.ensures))

pub loop-i-init : goal.loop-i-init
loop-i-init c = record {
  tracks = on_err c.args.spec.now c.args.processes.now c.follow.new.processes c.args.before.now c.args.event.now c.requires.tracks c.follow.result (sym c.if-is_ok.ensures.value) (c.follow.ensures.follows (with_inputs c.args.spec.now c.requires.tracks.inputs) (sym c.rounds.ensures.value) (sym c.protocol.ensures));
  none = λ k below within have. absurd (omega (arith, below));
}

pub loop-i-preserved : goal.loop-i-preserved
loop-i-preserved c = record {
  tracks = c.if-follow_with.ensures.0;
  none = none_more c.args.spec.now _ (process_of c.args.event.now) c.loop-i.i c.loop-i.invariant.none c.if-follow_with.ensures.1;
}

pub returns : goal.returns
returns c = none_left c.args.spec.now c.args.before.now c.args.event.now (λ i within. c.loop-i.invariant.none i (omega (arith, within, c.loop-i-test.false, own_few c.args.spec.now.own c.args.spec.now.version c.args.spec.now.inputs c.args.spec.now.simulators c.requires.limits.own, c.m-i-end.ensures.value)) within)
