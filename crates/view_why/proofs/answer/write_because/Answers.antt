use Rattle.view_why.specs.Why.{IsBecause}
use Rattle.transcript.specs.Grammar.{event_line}
use Rattle.std.proofs.Common.{◌∙◌, ◌++◌, ℕ, List, ap, refl}
use Rattle.view_why.specs.Words.{break_words}
use Rattle.view_why.specs.Reported.{ReportedRoom}
use Rattle.view_why.proofs.Breaking.{broken_there}
use Rattle.view_why.proofs.Reasoning.{two_lines}
use Rattle.view_why.proofs.answer.write_because.Goals as goal

pub event-event-requires : goal.event-event-requires
event-event-requires c = broken_there c.args.reported.now.spec c.args.reported.now.events c.args.broken.at c.args.broken.reason c.requires.first

pub returns : goal.returns
returns c =
    let broken = c.args.broken in
    let reported = c.args.reported.now in
    let event = c.event-event.result.now in
    let own = c.as_slice.ensures.value ∙ c.in_ok-own.ensures ∙ ap (λ (room : ReportedRoom). room.spec.own) c.reported.view_is in
    let words = c.in_ok-write_break.ensures ∙ ap (λ (inputs : List ℕ). c.put.new.self ++ break_words inputs event broken.reason broken.earlier) own in
    two_lines c.put-2.result c.args.output.now (event_line reported.spec.name event) (break_words reported.spec.own event broken.reason broken.earlier) c.write_event_line.new.output c.put.new.self c.write_break.new.output c.put-2.new.self (IsBecause reported broken.line)
    (record { broken = broken; breaks = c.requires; line_is = refl; event = event; there = c.event-event.ensures; notes_are = refl })
    c.in_ok-write_event_line.ensures c.in_ok-put.ensures.text words c.put-2.ensures.text
