use Rattle.std.proofs.Common.{◌≡◌, ap, length, min, take, arith}
use Rattle.std.specs.List.{list_any}
use Rattle.std.proofs.lemmas.List.{length-take}
use Rattle.std.proofs.lemmas.List.Sums.{count_by-le-length, length-filter}
use Rattle.run_columns.specs.declared.mark.StepKind.{StepKind}
use Rattle.run_columns.specs.StepKinds.{all_kinds}
use Rattle.run_picture.specs.Legends.{has_letter}
use Rattle.run_picture.proofs.legend.kinds_in.Goals as goal

pub returns-clause-few : goal.returns-clause-few
returns-clause-few c =
    let first = take c.loop-kind.kind-index all_kinds in
    let of : length first ≡ min c.loop-kind.kind-index 12 = length-take c.loop-kind.kind-index all_kinds in
    omega (arith, of, ap length c.loop-kind.invariant, length-filter (λ (kind : StepKind). list_any (has_letter c.args.style kind) c.args.panels.now) first, count_by-le-length (λ (kind : StepKind). list_any (has_letter c.args.style kind) c.args.panels.now) first)
