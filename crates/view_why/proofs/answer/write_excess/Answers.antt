use Rattle.std.proofs.Common.{◌∙◌, ◌++◌, List, ap, refl}
use Rattle.std.proofs.lemmas.Option.{slice_get_within}
use Rattle.transcript.specs.Grammar.{event_line}
use Rattle.view_why.specs.Reported.{ReportedRoom}
use Rattle.view_why.specs.Why.{IsExcessSaid}
use Rattle.view_why.specs.Words.{excess_words}
use Rattle.view_why.specs.declared.reported.Decision.{Decision}
use Rattle.view_why.proofs.Reasoning.{two_lines}
use Rattle.view_why.proofs.answer.write_excess.Goals as goal

pub event-event-requires : goal.event-event-requires
event-event-requires c = slice_get_within c.args.reported.now.events c.args.excess.at c.requires.first.event c.requires.first.there

pub returns : goal.returns
returns c =
    let excess = c.args.excess in
    let reported = c.args.reported.now in
    let event = c.event-event.result.now in
    let before = c.in_ok-before.before.items in
    let words = c.in_ok-write_excess_words.ensures ∙ ap (λ (all : List Decision). c.put.new.self ++ excess_words c.reported.inside.spec excess.most event all) c.as_slice-2.ensures.value
    ∙ ap (λ (room : ReportedRoom). c.put.new.self ++ excess_words room.spec excess.most event before) c.reported.view_is in
    two_lines c.put-2.result c.args.output.now (event_line reported.spec.name event) (excess_words reported.spec excess.most event before) c.write_event_line.new.output c.put.new.self c.write_excess_words.new.output c.put-2.new.self (IsExcessSaid reported excess.line)
    (record { excess = excess; exceeds = c.requires; line_is = refl; event = event; there = c.event-event.ensures; before = before; decided = c.in_ok-before.ensures; notes_are = refl })
    c.in_ok-write_event_line.ensures c.in_ok-put.ensures.text words c.put-2.ensures.text
