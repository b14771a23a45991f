use Rattle.std.proofs.Common.{◌∙◌, ap}
use Rattle.serde_json.specs.Written.{has_float}
use Rattle.service_core.specs.Rooms.{room_at}
use Rattle.script_play.specs.Following.{sim_for}
use Rattle.view_trace.proofs.Floats.{reply_is}
use Rattle.view_trace.proofs.json.write_reply_object.Goals as goal

pub write_line-requires : goal.write_line-requires
write_line-requires c = ap has_float c.in_ok-value.ensures ∙ reply_is (room_at c.args.rooms.now c.args.asked.now.name.now) c.args.asked.now.name.now (sim_for c.args.asked.now.order) c.args.reply.now
