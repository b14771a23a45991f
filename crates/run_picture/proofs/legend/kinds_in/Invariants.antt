use Rattle.std.proofs.Common.{◌≡◌, take}
use Rattle.std.specs.List.{filter, list_any}
use Rattle.run_columns.specs.StepKinds.{all_kinds}
use Rattle.run_picture.specs.Legends.{has_letter}
use Rattle.run_picture.proofs.legend.kinds_in.Given as goal

abbrev pub invariant-loop-kind : goal.invariant-loop-kind
invariant-loop-kind l = l.kinds.items ≡ filter (λ kind. list_any (has_letter l.style kind) l.panels) (take l.kind-index all_kinds)
