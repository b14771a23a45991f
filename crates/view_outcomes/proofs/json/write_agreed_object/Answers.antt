use Rattle.std.proofs.Common.{◌∙◌, ap}
use Rattle.serde_json.specs.Written.{has_float}
use Rattle.view_outcomes.proofs.Floats.{agreed_is}
use Rattle.view_outcomes.proofs.json.write_agreed_object.Goals as goal

pub write_line-requires : goal.write_line-requires
write_line-requires c = ap has_float c.in_ok-value.ensures ∙ agreed_is c.args.room.now.spec.now.name c.args.inputs.now
