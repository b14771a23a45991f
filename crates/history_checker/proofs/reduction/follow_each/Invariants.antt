use Rattle.std.proofs.Common.{take}
use Rattle.history_checker.specs.Reductions.{TracksSome}
use Rattle.history_checker.proofs.reduction.follow_each.Given as goal

abbrev pub invariant-loop-t : goal.invariant-loop-t
invariant-loop-t l = TracksSome l.spec l.processes (take l.t l.events)
