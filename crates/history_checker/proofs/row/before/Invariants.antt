use Rattle.std.proofs.Common.{◌≡◌, ◌≤◌, ◌*◌}
use Rattle.history_checker.specs.Shown.{before}
use Rattle.history_checker.proofs.row.before.Given as goal

abbrev pub invariant-loop-width : goal.invariant-loop-width
invariant-loop-width l = (l.start ≡ before l.widths l.width-index) × (l.start ≤ 255 * l.width-index)
