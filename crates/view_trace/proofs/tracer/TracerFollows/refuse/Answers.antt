use Rattle.std.proofs.Common.{refl}
use Rattle.room_spec.specs.Faults.{sentence_of}
use Rattle.script_play.specs.Play.{Faulty}
use Rattle.view_trace.specs.Trace.{block_shown}
use Rattle.view_trace.proofs.Tracing.{block_traced, fault_same}
use Rattle.view_trace.proofs.tracer.TracerFollows.refuse.Goals as goal

pub returns : goal.returns
returns g c =
    block_traced _ c.write_fault.result (record { missed = c.args.self.now.missed; output = c.args.self.now.output }) (record { missed = c.refuse.new.self; output = c.write_fault.new.output }) (Faulty c.args.line c.args.fault) (block_shown _ (sentence_of c.args.fault))
    (λ rooms. refl) (λ rooms. fault_same _ c.args.line c.args.fault rooms) c.write_fault.ensures c.in_ok-refuse.ensures
