use Rattle.std.proofs.Common.{◌≡◌, ◌∙◌, ◌++◌, List, ℕ, Option, ap}
use Rattle.std.proofs.lemmas.List.{append_assoc}
use Rattle.history_checker.specs.declared.verdict.TaskVerdict.{TaskVerdict}
use Rattle.history_checker.specs.declared.verdict.Verdict.{Verdict}
use Rattle.room_files.specs.Reports.{task_line, verdict_line}
use Rattle.fault_text.specs.Lines.{indented_all}
use Rattle.view_why.specs.Reported.{ReportedRoom}
use Rattle.view_why.specs.Why.{task_verdict_of, verdict_of}
use Rattle.view_why.proofs.answer.write_text.Goals as goal

pub returns : goal.returns
returns c =
    let reported = c.args.reported.now in
    let output = c.args.output.now in
    let verdict = c.verdict_of-verdict.result in
    let task = c.task_verdict_of-task.result in
    let name : c.name-name.result.now ≡ reported.spec.name = c.name-name.ensures ∙ ap (λ (room : ReportedRoom). room.spec.name) c.reported.view_is in
    let task_is : task ≡ task_verdict_of reported.spec.task c.args.excess = c.task_verdict_of-task.ensures ∙ ap (λ (room : ReportedRoom). task_verdict_of room.spec.task c.args.excess) c.reported.view_is in
    let line = λ (n : List ℕ) (v : Verdict) (t : Option TaskVerdict). verdict_line n v ++ task_line n v t in
    let because = c.in_ok-write_reasons.ensures in
    let lines = c.in_ok-write_task.ensures ∙ ap (λ t. t ++ task_line c.name-name.result.now verdict task) c.in_ok-write_verdict.ensures
    ∙ append_assoc output (verdict_line c.name-name.result.now verdict) (task_line c.name-name.result.now verdict task)
    ∙ ap (λ n. output ++ line n verdict task) name ∙ ap (λ v. output ++ line reported.spec.name v task) c.verdict_of-verdict.ensures
    ∙ ap (λ t. output ++ line reported.spec.name (verdict_of c.args.reason) t) task_is in (
      because.0,
      because.1,
      because.2 ∙ ap (λ t. t ++ indented_all because.0) lines ∙ append_assoc output (line reported.spec.name (verdict_of c.args.reason) (task_verdict_of reported.spec.task c.args.excess)) (indented_all because.0),
    )
