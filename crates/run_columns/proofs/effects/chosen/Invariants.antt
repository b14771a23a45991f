use Rattle.std.proofs.Common.{◌≡◌, None, fold, take}
use Rattle.run_columns.specs.Effects.{with_kept}
use Rattle.run_columns.proofs.effects.chosen.Given as goal

abbrev pub invariant-loop-mark : goal.invariant-loop-mark
invariant-loop-mark l = l.chosen ≡ fold (with_kept l.kept) None (take l.mark-index l.marks)
