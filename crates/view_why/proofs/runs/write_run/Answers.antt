use Rattle.std.proofs.Common.{◌∙◌, ◌++◌, List, ℕ, ap, sym}
use Rattle.std.specs.Prelude.{slice_get}
use Rattle.history_checker.specs.Verdicts.{fed_to, specs_of}
use Rattle.history_checker.proofs.CallerLemmas.{name_there, room_judged, task_judged}
use Rattle.room_files.specs.Reports.{task_line}
use Rattle.view_why.proofs.Running.{one_ordinary, run_said}
use Rattle.view_why.proofs.runs.write_run.Goals as goal

pub returns : goal.returns
returns c = λ e fed processed.
    let rooms = specs_of c.args.rooms.now in
    let found = slice_get rooms c.args.index in
    let name = c.in-Some-Some.name.now in
    let verdict = c.in-Some-Some.verdict in
    let task = c.task_verdict-task.result in
    let judged = room_judged found c.verdict.result verdict fed c.in-Some-Some.is-1 (c.verdict.ensures fed processed) in
    let answered = task_judged found judged.0 task fed judged.1 (c.task_verdict-task.ensures fed processed) in (
      judged.0,
      judged.1,
      run_said judged.0 (fed_to judged.0.name fed) verdict task name c.args.output.now c.write_task.new.output (sym c.if-not-is_well.ensures) (one_ordinary rooms c.args.index judged.0 c.requires judged.1) judged.2 answered
          (name_there rooms c.args.index judged.0 name judged.1 c.in-Some-Some.ensures)
          (c.in_ok-write_task.ensures ∙ ap (λ (text : List ℕ). text ++ task_line name verdict task) c.in_ok-write_verdict.ensures),
    )
