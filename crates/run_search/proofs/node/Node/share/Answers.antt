use Rattle.std.proofs.Common.{sym, ap, ◌∙◌}
use Rattle.std.specs.Global.{Vec}
use Rattle.run_search.specs.declared.local_state.LocalState.{LocalState}
use Rattle.run_search.proofs.Same.{same_set}
use Rattle.run_search.proofs.node.Node.share.Goals as goal

pub returns-then-eq : goal.returns-then-eq
returns-then-eq c =
    let same = same_set c.as_slice.result.now c.as_slice-2.result.now (sym c.eq.ensures ∙ c.if-eq.true) in
    ap (λ (v : Vec LocalState). v.items) (c.in_ok-set.ensures.cases ∙ sym c.deref.ensures) ∙ sym c.as_slice.ensures.value ∙ same ∙ c.as_slice-2.ensures.value
