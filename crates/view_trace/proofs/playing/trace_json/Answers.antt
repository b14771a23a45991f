use Rattle.std.proofs.Common.{◌≡◌, sym, true}
use Rattle.std.proofs.lemmas.List.{append-nil}
use Rattle.view_trace.specs.Trace.{Traced, nothing_traced}
use Rattle.view_trace.specs.declared.tracer.Tracer.{Tracer}
use Rattle.view_trace.proofs.Tracing.{script_traced}
use Rattle.view_trace.proofs.playing.trace_json.Goals as goal

abbrev traced_of : Tracer 1 → Traced
traced_of tracer = record { missed = tracer.missed; output = tracer.output }

pub returns-clause-text : goal.returns-clause-text
returns-clause-text c =
    let played = c.in_ok-follower.field-0 in
    let none : traced_of c.new.result ≡ nothing_traced = λ i. record { missed = c.new.ensures.missed i; output = c.new.ensures.output i } in
    script_traced true traced_of c.args.script.now c.new.result played.service played.follower played.ending played.follower.output none c.in_ok-follower.ensures.played (sym (append-nil played.follower.output))
