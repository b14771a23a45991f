use Rattle.std.proofs.Common.{◌∙◌}
use Rattle.step_words.proofs.Objects.{object_is}
use Rattle.step_words.proofs.json.step_value.Goals as goal

pub returns : goal.returns
returns c = c.in_ok-value.ensures ∙ object_is c.args.spec.now c.args.numbered.now.number c.args.numbered.now.step.now c.args.numbered.now.consequence c.in_ok-parts.parts c.in_ok-parts.ensures
