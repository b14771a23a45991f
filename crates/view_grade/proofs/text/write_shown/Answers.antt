use Rattle.std.proofs.Common.{◌∙◌, ap}
use Rattle.view_grade.specs.Judging.{ReportedParts}
use Rattle.view_grade.proofs.text.write_shown.Goals as goal

pub returns-in-History : goal.returns-in-History
returns-in-History c = rw c.in-History.is (rw (c.events.ensures ∙ ap (λ (r : ReportedParts). r.report.history) c.reported.view_is) at c.put_and.ensures)
