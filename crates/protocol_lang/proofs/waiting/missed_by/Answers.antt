use Rattle.std.proofs.Common.{◌≡◌, ◌↔◌, ℕ, List, [], ◌∷◌, Some, subst}
use Rattle.protocol_lang.specs.Trees.{Expression, ComparisonOf, RuleOf}
use Rattle.protocol_lang.specs.Thresholds.{decides_least, sees_all_but}
use Rattle.protocol_lang.proofs.Thresholds.{one_condition}
use Rattle.protocol_lang.proofs.waiting.missed_by.Goals as goal

pub returns : goal.returns
returns c =
    let inside = c.rule.inside in
    let slice = c.as_slice.result.now in
    let action = c.is_decide_of_least.ensures.0 c.if-not-is_decide_of_least.false in
    let missed : (f : ℕ) → (c.missed_in.result ≡ Some f) ↔ (c.comparison-item.result ≡ sees_all_but f) =
    subst (λ (item : ComparisonOf Expression). (f : ℕ) → (c.missed_in.result ≡ Some f) ↔ (item ≡ sees_all_but f)) c.test.ensures c.missed_in.ensures in
    subst (λ (rule : RuleOf Expression). (f : ℕ) → (c.missed_in.result ≡ Some f) ↔ (rule ≡ record { conditions = sees_all_but f ∷ []; action_rule = decides_least })) c.rule.view_is
    (subst (λ (conditions : List (ComparisonOf Expression)). (f : ℕ) → (c.missed_in.result ≡ Some f) ↔ (◌≡◌ {A = RuleOf Expression} (record { conditions = conditions; action_rule = inside.action_rule }) (record { conditions = sees_all_but f ∷ []; action_rule = decides_least }))) c.as_slice.ensures.value
    (one_condition slice inside.action_rule c.comparison-item.result c.missed_in.result c.in-len1.len_at_least c.in-len1.len_below c.comparison-item.is action missed))
