use Rattle.std.proofs.Common.{◌≡◌, ◌∙◌, ap}
use Rattle.view_grade.specs.Grades.{graded_ending}
use Rattle.view_grade.specs.Keeping.{Kept, nothing_kept}
use Rattle.view_grade.specs.declared.keeper.Keeper.{Keeper}
use Rattle.view_grade.proofs.Watching.{script_kept}
use Rattle.view_grade.proofs.grading.grade_kept.Goals as goal

abbrev kept_of : Keeper → Kept
kept_of k = record { graded = record { last = k.grader.last; moves = k.grader.moves }; watched = record { entries = k.entries; found = k.broken } }

pub returns-clause-text : goal.returns-clause-text
returns-clause-text c =
    let played = c.in_ok-follower.field-0 in
    let new = c.new.ensures in
    let none : kept_of c.new.result ≡ nothing_kept = λ i. record { graded = record { last = new.last i; moves = new.moves i }; watched = record { entries = new.entries i; found = new.broken i } } in
    script_kept (λ k. k.task.now) (λ k. k.script.now) kept_of c.args.aim.now.json c.args.aim.now.goal.now c.args.aim.now.most c.args.task.now c.args.script.now c.new.result played.service played.follower played.ending c.graded_ending-ending.result c.in_ok-output.output new.task new.script none
    c.in_ok-follower.ensures.played c.in_ok-output.ensures (c.graded_ending-ending.ensures ∙ ap (graded_ending played.ending) c.is_kept_reached.ensures)
