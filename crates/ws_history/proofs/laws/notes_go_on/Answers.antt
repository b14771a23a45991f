use Rattle.room_core.specs.Calls.{configuration_of, room_after_settle, room_after_steps}
use Rattle.room_core.specs.Observing.{steps_of_settling, steps_of_steps}
use Rattle.room_core.proofs.CallerLemmas.{settling_follows, steps_follow}
use Rattle.std.proofs.Common.{length}
use Rattle.ws_history.proofs.Noted.{crash_noted, seen_noted}
use Rattle.ws_history.proofs.laws.notes_go_on.Goals as goal

pub returns-clause-steps : goal.returns-clause-steps
returns-clause-steps c = λ room i count schedule old new are seen.
    let taken = steps_of_steps room i count in
    seen_noted (configuration_of room) (configuration_of (room_after_steps room i (length taken))) taken schedule old new (steps_follow room i count) seen are

pub returns-clause-settling : goal.returns-clause-settling
returns-clause-settling c = λ room schedule old new are seen.
    seen_noted (configuration_of room) (configuration_of (room_after_settle room)) (steps_of_settling room) schedule old new (settling_follows room) seen are

pub returns-clause-crash : goal.returns-clause-crash
returns-clause-crash c = λ room i schedule notes are alive. crash_noted (configuration_of room) i schedule notes alive are
