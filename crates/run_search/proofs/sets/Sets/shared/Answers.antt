use Rattle.std.proofs.Common.{sym, ap, ◌∙◌}
use Rattle.std.proofs.lemmas.Option.{same_Some}
use Rattle.std.specs.Global.{Vec}
use Rattle.run_search.specs.declared.local_state.LocalState.{LocalState}
use Rattle.run_search.proofs.Same.{same_set}
use Rattle.run_search.proofs.sets.Sets.shared.Goals as goal

pub returns : goal.returns
returns c =
    let stored = c.in_ok-index.ensures.stored in
    let alike = same_set c.in_ok-set.set.value.items stored.0.value.items stored.2 in
    let there = same_Some c.in-Some.there.now stored.0 (c.in-Some.ensures.key ∙ stored.1) in
    ap (λ (v : Vec LocalState). v.items) c.in_ok-set-2.ensures.cases ∙ ap (λ set. set.value.items) there ∙ sym alike ∙ ap (λ (v : Vec LocalState). v.items) c.in_ok-set.ensures.ok
