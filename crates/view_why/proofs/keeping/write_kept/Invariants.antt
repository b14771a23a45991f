use Rattle.std.proofs.Common.{◌≡◌, ◌++◌, List}
use Rattle.view_why.specs.Keeping.{AddsDecisions}
use Rattle.view_why.specs.Reported.{ReportedRoom}
use Rattle.view_why.proofs.keeping.write_kept.Given as goal

abbrev pub invariant-loop-reported : goal.invariant-loop-reported
invariant-loop-reported l =
    (goal.iterator-loop-reported).can_next l.reported-iterator ×
    (goal.iterator-loop-reported).is_finite l.reported-iterator ×
    (done : List ReportedRoom) × (l.rooms ≡ done ++ l.reported-iterator) × AddsDecisions l.json l.task done l.kept l.initial.output l.output
