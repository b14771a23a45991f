use Rattle.std.proofs.Common.{refl}
use Rattle.service_core.specs.Replies.{refusal_sentence}
use Rattle.service_core.specs.declared.reply.Refusal.TheVariants.{OutOfMemory}
use Rattle.script_play.specs.Play.{Unread}
use Rattle.view_trace.specs.Trace.{block_shown}
use Rattle.view_trace.proofs.Tracing.{block_traced, unread_same}
use Rattle.view_trace.proofs.tracer.TracerFollows.out_of_memory.Goals as goal

pub returns : goal.returns
returns g c =
    block_traced _ c.write_out_of_memory.result (record { missed = c.args.self.now.missed; output = c.args.self.now.output }) (record { missed = c.args.self.now.missed; output = c.write_out_of_memory.new.output }) (Unread c.args.line) (block_shown _ (refusal_sentence OutOfMemory))
    (λ rooms. refl) (λ rooms. unread_same _ c.args.line rooms) c.write_out_of_memory.ensures refl
