use Rattle.std.proofs.Common.{◌≡◌, ◌||◌, not, false, fold}
use Rattle.std.specs.List.{range_with_len}
use Rattle.run_picture.specs.Stopped.{has_stopped}
use Rattle.run_picture.proofs.stopped.is_one_left.Given as goal

abbrev pub invariant-loop-simulator : goal.invariant-loop-simulator
invariant-loop-simulator l = l.left ≡ fold (λ left simulator. left || not (has_stopped l.panel simulator)) false (range_with_len 0 l.simulator)
