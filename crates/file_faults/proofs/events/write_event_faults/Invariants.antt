use Rattle.std.proofs.Common.{◌≡◌, ◌≤◌, ◌++◌, ℕ, length}
use Rattle.file_faults.specs.Events.{event_lines, events_said}
use Rattle.file_faults.specs.Walks.{said_from}
use Rattle.file_faults.proofs.events.write_event_faults.Given as goal

-- what is said so far, and what is said of the rest
abbrev pub invariant-walk : goal.invariant-walk
invariant-walk l = (most : ℕ) × (length l.rest ≤ most) × (l.output ++ said_from (event_lines l.format.json l.opened) most l.left l.unknown_names l.number l.rest ≡ l.initial.output ++ events_said l.format.json l.opened l.first l.transcript)

abbrev pub decreases-walk : goal.decreases-walk
decreases-walk l = length l.rest
