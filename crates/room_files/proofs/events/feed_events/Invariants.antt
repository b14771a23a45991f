use Rattle.std.proofs.Common.{◌≡◌, ◌+◌, ◌<◌, ◌^◌, List, [], length}
use Rattle.history_checker.specs.Verdicts.{FedEvent}
use Rattle.room_files.specs.Lines.{text_lines}
use Rattle.room_files.specs.Inputs.{fed_from}
use Rattle.room_files.proofs.events.feed_events.Given as goal

-- what was fed so far, and what the lines that are left say
abbrev pub invariant-loop-text : goal.invariant-loop-text
invariant-loop-text g l =
    (fed : List FedEvent)
    × (fed_from (g.R.TakesEvents.specs l.initial.rooms) [] l.first_line (text_lines l.transcript) ≡ fed_from (g.R.TakesEvents.specs l.initial.rooms) fed l.line (text_lines l.rest))
    × g.R.TakesEvents.has_taken l.rooms fed
    × (g.R.TakesEvents.specs l.rooms ≡ g.R.TakesEvents.specs l.initial.rooms)
    × (l.line + length l.rest < 2 ^ 64)

abbrev pub decreases-loop-text : goal.decreases-loop-text
decreases-loop-text g l = length l.rest
