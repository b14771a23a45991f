use Rattle.std.proofs.Common.{[], ◌∷◌, ◌++◌, ◌∙◌, ℕ, List, Result, ap₂, subst, sym}
use Rattle.std.specs.declared.alloc.AllocError.{AllocError}
use Rattle.room_files.specs.declared.outcome.Outcome.{Outcome}
use Rattle.step_page.specs.Pages.{file_text}
use Rattle.step_page.specs.declared.page.FileKind.{FileKind}
use Rattle.view_page.specs.Pages.{IsPageFor}
use Rattle.view_page.proofs.Paging.{two_pages}
use Rattle.view_page.proofs.pages.page_of_both.Goals as goal

pub returns-clause-text : goal.returns-clause-text
returns-clause-text c =
    subst (λ (ending : Result Outcome AllocError). IsPageFor (c.args.file.now ∷ c.args.next.now ∷ []) ending c.end_page.new.output) (sym c.both.ensures)
    (two_pages c.args.file.now c.args.next.now c.in_ok-answer.answer.ending c.in_ok-later.later.ending c.in_ok-answer.answer.output c.in_ok-later.later.output
    c.new-output.result c.begin_page.new.output c.put_file.new.output c.put_file-2.new.output c.end_page.new.output
    c.in_ok-answer.ensures.answer c.in_ok-later.ensures.answer c.new-output.ensures c.in_ok-begin_page.ensures
    (c.in_ok-put_file.ensures ∙ ap₂ (λ (kind : FileKind) (answer : List ℕ). c.begin_page.new.output ++ file_text kind c.args.file.now answer) c.kind_of.ensures c.as_bytes.ensures)
    (c.in_ok-put_file-2.ensures ∙ ap₂ (λ (kind : FileKind) (answer : List ℕ). c.put_file.new.output ++ file_text kind c.args.next.now answer) c.kind_of-2.ensures c.as_bytes-2.ensures)
    c.in_ok-end_page.ensures)
