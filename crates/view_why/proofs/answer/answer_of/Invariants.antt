use Rattle.std.proofs.Common.{◌≡◌, ◌++◌, List, length}
use Rattle.std.specs.List.{flat_map}
use Rattle.history_checker.specs.Verdicts.{FedEvent}
use Rattle.fault_text.specs.Refusals.{refusal_line}
use Rattle.view_why.specs.Why.{refusals_shown}
use Rattle.view_why.specs.Reported.{AreReported, ReportedRoom, specs_of}
use Rattle.view_why.proofs.Explaining.{SoFar}
use Rattle.view_why.proofs.answer.answer_of.Given as goal

abbrev pub invariant-loop-reported : goal.invariant-loop-reported
invariant-loop-reported l =
    (goal.iterator-loop-reported).can_next l.reported-iterator ×
    (goal.iterator-loop-reported).is_finite l.reported-iterator ×
    (done : List ReportedRoom) × (l.rooms ≡ done ++ l.reported-iterator) ×
    ((fed : List FedEvent) → AreReported l.rooms fed → SoFar l.json (specs_of l.rooms) (refusals_shown l.json l.input l.refusals) (flat_map refusal_line l.refusals) fed (length done) l.output l.all_well)
