use Rattle.std.proofs.Common.{◌∙◌, ap}
use Rattle.serde_json.specs.Written.{has_float}
use Rattle.view_open.proofs.Floats.{open_is}
use Rattle.view_open.proofs.json.write_open_object.Goals as goal

pub write_line-requires : goal.write_line-requires
write_line-requires c = ap has_float c.in_ok-value.ensures ∙ open_is c.args.said.now.words.now c.args.said.now.name.now c.args.said.now.crashes c.args.said.now.limit c.args.known.now c.args.found.now
