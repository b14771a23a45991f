use Rattle.std.proofs.Common.{◌∙◌, ℕ, List, ap₂}
use Rattle.step_page.specs.Pages.{file_text, page_text}
use Rattle.step_page.specs.declared.page.FileKind.{FileKind}
use Rattle.view_page.proofs.Paging.{page_of_one}
use Rattle.view_page.proofs.pages.page.Goals as goal

pub returns-clause-text : goal.returns-clause-text
returns-clause-text c =
    page_of_one c.args.file.now c.in_ok-answer.answer.ending c.in_ok-answer.answer.output c.in_ok-output.output c.in_ok-answer.ensures.answer
    (c.in_ok-output.ensures ∙ ap₂ (λ (kind : FileKind) (answer : List ℕ). page_text (file_text kind c.args.file.now answer)) c.kind_of.ensures c.as_bytes.ensures)
