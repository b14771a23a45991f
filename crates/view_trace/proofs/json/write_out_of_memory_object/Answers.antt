use Rattle.std.proofs.Common.{◌∷◌, ◌∙◌, [], ap}
use Rattle.serde_json.specs.Written.{has_float}
use Rattle.service_core.specs.Replies.{refusal_sentence}
use Rattle.service_core.specs.declared.reply.Refusal.TheVariants.{OutOfMemory}
use Rattle.view_trace.proofs.Floats.{block_is}
use Rattle.view_trace.proofs.json.write_out_of_memory_object.Goals as goal

pub write_line-requires : goal.write_line-requires
write_line-requires c = ap has_float c.in_ok-value.ensures ∙ block_is c.args.line (8 ∷ []) (refusal_sentence OutOfMemory)
