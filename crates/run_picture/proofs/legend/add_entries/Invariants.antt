use Rattle.std.proofs.Common.{◌≡◌, ◌++◌, drop}
use Rattle.run_picture.specs.Legends.{legend_from}
use Rattle.run_picture.proofs.legend.add_entries.Given as goal

abbrev pub invariant-loop-kind : goal.invariant-loop-kind
invariant-loop-kind l =
    (l.sheet ++ legend_from l.index (drop l.kind-index l.kinds) ≡ l.initial.sheet ++ legend_from 0 l.kinds)
    × (l.index ≡ l.kind-index)
