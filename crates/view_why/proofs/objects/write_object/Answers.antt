use Rattle.std.proofs.Common.{◌∙◌, ◌++◌, ◌∷◌, [], ap, refl, sym}
use Rattle.std.proofs.lemmas.List.{append-nil}
use Rattle.serde_json.specs.View.{view}
use Rattle.json_lines.specs.Lines.{json_line}
use Rattle.view_why.specs.Why.{task_verdict_of, verdict_of}
use Rattle.view_why.proofs.Floats.{room_is}
use Rattle.view_why.proofs.objects.write_object.Goals as goal

pub write_line-requires : goal.write_line-requires
write_line-requires c = room_is c.args.reported.now (verdict_of c.args.reason) (task_verdict_of c.args.reported.now.spec.task c.args.excess) (view c.in_ok-value.value) c.in_ok-value.ensures

pub returns : goal.returns
returns c =
    let it = view c.in_ok-value.value in (
      json_line it ∷ [],
      (it, c.in_ok-value.ensures, refl),
      c.in_ok-write_line.ensures ∙ ap (λ t. c.args.output.now ++ t) (sym (append-nil (json_line it))),
    )
