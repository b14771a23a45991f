use Rattle.std.proofs.Common.{sym, ◌∙◌}
use Rattle.run_search.proofs.Same.{same_row}
use Rattle.run_search.proofs.explored.Explored.shared_row.Goals as goal

pub returns-then-eq : goal.returns-then-eq
returns-then-eq c =
    let same = same_row c.as_slice.result.now c.as_slice-in-Some.result.now (sym c.eq.ensures ∙ c.if-eq.true) in
    c.in_ok-shared.ensures ∙ sym c.row.ensures ∙ sym c.as_slice.ensures.value ∙ same ∙ c.as_slice-in-Some.ensures.value
