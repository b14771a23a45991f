use Rattle.std.proofs.Common.{◌∙◌, ap}
use Rattle.serde_json.specs.Written.{has_float}
use Rattle.view_why.proofs.Floats.{moment_is}
use Rattle.view_why.proofs.kept_json.write_disallowed_object.Goals as goal

pub write_object-requires : goal.write_object-requires
write_object-requires c = ap has_float c.in_ok-broken.ensures ∙ moment_is c.args.event.now c.args.one.now
