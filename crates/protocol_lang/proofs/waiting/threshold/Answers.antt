use Rattle.std.proofs.Common.{◌≡◌, ◌↔◌, ℕ, List, Some, ◌∙◌, subst}
use Rattle.protocol_lang.specs.Trees.{Expression, RuleOf, Tree}
use Rattle.protocol_lang.specs.Thresholds.{waits_for_all_but}
use Rattle.protocol_lang.proofs.Thresholds.{one_rule}
use Rattle.protocol_lang.proofs.waiting.threshold.Goals as goal

pub returns : goal.returns
returns c =
    let inside = c.tree.inside in
    let slice = c.as_slice.result.now in
    let first = c.is_input.ensures.0 c.if-not-is_input.false in
    let last = c.is_write_of_own.ensures.0 c.if-not-is_write_of_own.false in
    subst (λ (tree : Tree). (f : ℕ) → (c.missed_by.result ≡ Some f) ↔ (tree ≡ waits_for_all_but f)) (c.tree.view_is ∙ c.protocol.view_is)
    (subst (λ (rules : List (RuleOf Expression)). (f : ℕ) → (c.missed_by.result ≡ Some f) ↔ (◌≡◌ {A = Tree} (record { first = inside.first; rules = rules; last = inside.last }) (waits_for_all_but f))) c.as_slice.ensures.value
    (one_rule inside.first slice inside.last c.rule-item.result c.missed_by.result c.in-len1.len_at_least c.in-len1.len_below c.rule-item.is first last c.missed_by.ensures))
