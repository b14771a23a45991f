use Rattle.std.proofs.Common.{◌≡◌, ◌∙◌, Ok, refl, subst, sym}
use Rattle.step_page.specs.declared.page.FileKind.{FileKind}
use Rattle.view_page.specs.Pages.{IsFileAnswer}
use Rattle.view_page.proofs.pages.answer_to.Goals as goal

pub returns-in_ok-answer-in-Transcript-clause-answer : goal.returns-in_ok-answer-in-Transcript-clause-answer
returns-in_ok-answer-in-Transcript-clause-answer c =
    let P : FileKind → Type 0 = λ kind. IsFileAnswer kind c.args.file.now (Ok c.in_ok-answer-in-Transcript.answer.outcome) c.in_ok-answer-in-Transcript.answer.output in
    subst P (sym c.in-Transcript.is ∙ c.kind_of.ensures) (c.in_ok-answer-in-Transcript.answer.outcome, refl, c.in_ok-answer-in-Transcript.ensures.output)
