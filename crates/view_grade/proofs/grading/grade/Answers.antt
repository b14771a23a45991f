use Rattle.std.proofs.Common.{◌≡◌, ◌∙◌, ap}
use Rattle.view_grade.specs.Grades.{Graded, graded_ending, nothing_graded}
use Rattle.view_grade.specs.declared.grader.Grader.{Grader}
use Rattle.view_grade.proofs.Keeping.{script_graded}
use Rattle.view_grade.proofs.grading.grade.Goals as goal

abbrev graded_of : Grader → Graded
graded_of grader = record { last = grader.last; moves = grader.moves }

pub returns-clause-text : goal.returns-clause-text
returns-clause-text c =
    let played = c.in_ok-follower.field-0 in
    let none : graded_of c.new.result ≡ nothing_graded = λ i. record { last = c.new.ensures.last i; moves = c.new.ensures.moves i } in
    script_graded graded_of c.args.aim.now.json c.args.aim.now.goal.now c.args.aim.now.most c.args.script.now c.new.result played.service played.follower played.ending c.graded_ending-ending.result c.in_ok-output.output none c.in_ok-follower.ensures.played c.in_ok-output.ensures
    (c.graded_ending-ending.ensures ∙ ap (graded_ending played.ending) c.is_reached.ensures)
