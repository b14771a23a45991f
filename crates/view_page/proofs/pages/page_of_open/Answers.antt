use Rattle.std.proofs.Common.{◌++◌, ◌∙◌, ℕ, List, ap, subst}
use Rattle.std.proofs.lemmas.List.{append_assoc}
use Rattle.step_page.specs.Pages.{file_text, open_text}
use Rattle.step_page.specs.declared.page.FileKind.TheVariants.{Script}
use Rattle.view_open.specs.Watched.{IsOpenFor}
use Rattle.view_open.specs.declared.plan.OpenPlan.{OpenPlan}
use Rattle.view_page.proofs.Paging.{page_of}
use Rattle.view_page.proofs.pages.page_of_open.Goals as goal

pub returns-clause-text : goal.returns-clause-text
returns-clause-text g c =
    let script = c.args.script.now in
    let traced = c.in_ok-traced.traced in
    let found = c.in_ok-openings.openings in
    let text = file_text Script script traced.output in
    let openings = open_text found.output in
    record {
      trace = traced.output;
      openings = found.output;
      trace_ending = traced.ending;
      search_ending = found.ending;
      traced = c.in_ok-traced.ensures.text;
      are_open = subst (λ (plan : OpenPlan). IsOpenFor plan script found.ending found.output) c.as_json.ensures c.in_ok-openings.ensures.shown;
      ending_is = c.both.ensures;
      page_is =
          page_of (text ++ openings) c.new-output.result c.begin_page.new.output c.put_open.new.output c.end_page.new.output c.new-output.ensures c.in_ok-begin_page.ensures
          (c.in_ok-put_open.ensures ∙ ap (λ (t : List ℕ). c.put_file.new.output ++ open_text t) c.as_bytes-2.ensures
          ∙ ap (λ (t : List ℕ). t ++ openings) (c.in_ok-put_file.ensures ∙ ap (λ (t : List ℕ). c.begin_page.new.output ++ file_text Script script t) c.as_bytes.ensures)
          ∙ append_assoc c.begin_page.new.output text openings)
          c.in_ok-end_page.ensures;
    }
