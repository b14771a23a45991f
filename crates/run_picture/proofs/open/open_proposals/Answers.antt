use Rattle.std.proofs.Common.{[]}
use Rattle.run_picture.specs.Opens.{proposal_if}
use Rattle.simulator_lanes.proofs.CallerLemmas.{piece_more}
use Rattle.run_picture.proofs.open.open_proposals.Goals as goal

pub loop-simulator-preserved : goal.loop-simulator-preserved
loop-simulator-preserved c = piece_more (proposal_if c.args.panel.now c.args.agreement) [] _ _ _ c.loop-simulator.invariant c.in_ok-write_if_open.ensures
