use Rattle.std.proofs.Common.{◌∙◌, ap}
use Rattle.serde_json.specs.Written.{has_float}
use Rattle.step_words.proofs.Floats.{step_is}
use Rattle.step_words.proofs.json.write_step_object.Goals as goal

pub write_line-requires : goal.write_line-requires
write_line-requires c = ap has_float c.in_ok-value.ensures ∙ step_is c.args.spec.now c.args.numbered.now.number c.args.numbered.now.step.now c.args.numbered.now.consequence
