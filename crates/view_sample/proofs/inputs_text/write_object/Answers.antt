use Rattle.std.proofs.Common.{◌∙◌, ap}
use Rattle.serde_json.specs.Written.{has_float}
use Rattle.view_sample.proofs.JudgedInputs.{vectors_are}
use Rattle.view_sample.proofs.inputs_text.write_object.Goals as goal

pub write_line-requires : goal.write_line-requires
write_line-requires c = ap has_float c.in_ok-value.ensures ∙ vectors_are c.args.room.now.spec.now.name c.args.values.now c.args.kept c.args.count
