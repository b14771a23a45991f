use Rattle.step_page.specs.Pages.{file_text}
use Rattle.view_page.proofs.Paging.{page_of}
use Rattle.view_page.proofs.pages.one_page.Goals as goal

pub returns : goal.returns
returns c =
    page_of (file_text c.args.kind c.args.file.now c.args.answer.now) c.new-output.result c.begin_page.new.output c.put_file.new.output c.end_page.new.output
    c.new-output.ensures c.in_ok-begin_page.ensures c.in_ok-put_file.ensures c.in_ok-end_page.ensures
