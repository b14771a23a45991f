use Rattle.std.proofs.Common.{◌≡◌, ◌++◌, take}
use Rattle.report_text.specs.ReportTexts.{event_lines}
use Rattle.report_text.proofs.events.write_events.Given as goal

abbrev pub invariant-loop-event : goal.invariant-loop-event
invariant-loop-event l = l.output ≡ l.initial.output ++ event_lines l.name (take l.event-index l.events)
