use Rattle.std.proofs.Common.{◌∙◌, ap}
use Rattle.serde_json.specs.Written.{has_float}
use Rattle.view_sample.proofs.KeptTexts.{breaks_are}
use Rattle.view_sample.proofs.kept_text.write_breaks_object.Goals as goal

pub write_line-requires : goal.write_line-requires
write_line-requires c = ap has_float c.in_ok-value.ensures ∙ breaks_are c.args.room.now.spec.now.name c.args.room.now.plan.now c.args.breaks.now
