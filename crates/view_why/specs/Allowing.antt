-- Whether the task of a room allows an event.
use Rattle.std.specs.Prelude.{◌≡◌, ℕ, Bool, MatchBool, Some, slice_get, take}
use Rattle.transcript.specs.Tasks.{IsInTask}
use Rattle.transcript.specs.declared.event.Event.{Event}
use Rattle.view_why.specs.Reported.{ReportedRoom, judged_room}

-- whether a task of this many values allows the event of this index after those before it
abbrev pub IsAllowedAt : ReportedRoom → ℕ → ℕ → Bool → Type 0
IsAllowedAt reported most at allowed = (event : Event) → slice_get reported.events at ≡ Some event
    → MatchBool allowed (IsInTask (judged_room reported.spec) most (take at reported.events) event) (IsInTask (judged_room reported.spec) most (take at reported.events) event → ⊥)
