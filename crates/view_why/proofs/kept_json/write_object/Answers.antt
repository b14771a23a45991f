use Rattle.std.proofs.Common.{◌∙◌, ap}
use Rattle.serde_json.specs.View.{view}
use Rattle.serde_json.specs.Written.{has_float}
use Rattle.view_why.proofs.Floats.{decisions_are}
use Rattle.view_why.proofs.kept_json.write_object.Goals as goal

pub write_line-requires : goal.write_line-requires
write_line-requires c = ap has_float c.in_ok-value.ensures ∙ decisions_are c.args.name.now (view c.args.broken.now) c.requires
