use Rattle.std.proofs.Common.{◌∙◌, ap}
use Rattle.serde_json.specs.Written.{has_float}
use Rattle.view_open.proofs.Floats.{reply_is}
use Rattle.view_open.proofs.json.write_reply_object.Goals as goal

pub write_line-requires : goal.write_line-requires
write_line-requires c = ap has_float c.in_ok-value.ensures ∙ reply_is c.args.words.now
