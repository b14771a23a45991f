use Rattle.std.proofs.Common.{◌∙◌, ap}
use Rattle.serde_json.specs.Written.{has_float}
use Rattle.view_rooms.proofs.Floats.{outcome_is}
use Rattle.view_rooms.proofs.json.write_outcome_line.Goals as goal

pub write_line-requires : goal.write_line-requires
write_line-requires c = ap has_float c.in_ok-value.ensures ∙ outcome_is c.args.name.now c.args.brief c.args.one.now
