use Rattle.scheduler.proofs.Bounds.{IsDriven}
use Rattle.scheduler.proofs.Stepwise.{left}
use Rattle.scheduler.proofs.driving.drive.Given as goal

abbrev pub invariant-loop-stop : goal.invariant-loop-stop
invariant-loop-stop g l = IsDriven l.fuse l.initial.simulator l.simulator

abbrev pub decreases-loop-stop : goal.decreases-loop-stop
decreases-loop-stop g l = left l.simulator
