use Rattle.std.proofs.Common.{◌≡◌, false}
use Rattle.view_trace.specs.Trace.{Traced, nothing_traced}
use Rattle.view_trace.specs.declared.tracer.Tracer.{Tracer}
use Rattle.view_trace.proofs.Tracing.{script_traced}
use Rattle.view_trace.proofs.playing.trace.Goals as goal

abbrev traced_of : Tracer 0 → Traced
traced_of tracer = record { missed = tracer.missed; output = tracer.output }

pub returns-clause-text : goal.returns-clause-text
returns-clause-text c =
    let played = c.in_ok-follower.field-0 in
    let none : traced_of c.new.result ≡ nothing_traced = λ i. record { missed = c.new.ensures.missed i; output = c.new.ensures.output i } in
    script_traced false traced_of c.args.script.now c.new.result played.service played.follower played.ending c.write_end.new.output none c.in_ok-follower.ensures.played c.in_ok-write_end.ensures
