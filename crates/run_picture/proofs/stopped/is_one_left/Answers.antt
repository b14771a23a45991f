use Rattle.std.proofs.Common.{ℕ, ◌||◌, not, Bool, false}
use Rattle.run_picture.specs.Stopped.{has_stopped}
use Rattle.simulator_lanes.proofs.CallerLemmas.{folded_more}
use Rattle.run_picture.proofs.stopped.is_one_left.Goals as goal

pub loop-simulator-preserved : goal.loop-simulator-preserved
loop-simulator-preserved c = folded_more (λ (left : Bool) (simulator : ℕ). left || not (has_stopped c.args.panel.now simulator)) false _ _ _ c.loop-simulator.invariant c.is_left_with-left.ensures
