use Rattle.std.proofs.Common.{◌≡◌, rules}
use Rattle.transcript.specs.Grammar.{event_line}
use Rattle.transcript.proofs.Events.{line_again}
use Rattle.transcript.proofs.line.write_event.Goals as goal

pub returns-clause-again : goal.returns-clause-again
returns-clause-again c = λ process values.
    let name = c.args.name.now in
    let event = c.args.event.now in
    let text : c.into_bytes.result.items ≡ event_line name event = search rules in
    line_again c.into_bytes.result.items name event (record { text = text; room = c.as_str.ensures.rule; process = process; values = values })
