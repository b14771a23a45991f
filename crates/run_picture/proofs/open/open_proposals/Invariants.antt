use Rattle.std.proofs.Common.{◌≡◌}
use Rattle.std.specs.List.{flat_map, range_with_len}
use Rattle.run_picture.specs.Opens.{proposal_if}
use Rattle.run_picture.proofs.open.open_proposals.Given as goal

abbrev pub invariant-loop-simulator : goal.invariant-loop-simulator
invariant-loop-simulator l = l.words ≡ flat_map (proposal_if l.panel l.agreement) (range_with_len 0 l.simulator)
