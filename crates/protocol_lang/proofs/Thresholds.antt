-- The protocol by which a process waits for all but f: which trees are it, and what it asks for.
use Rattle.std.proofs.Common.{◌≡◌, ◌↔◌, ℕ, ◌-◌, ◌<◌, ◌≤◌, Bool, true, false, cond, leb, List, [], ◌∷◌, length, get_or, Option, Some, refl, sym, ap, ◌∙◌, arith, inl, inr}
use Rattle.std.proofs.lemmas.Bool.{cases_Bool, leb-true, leb-false}
use Rattle.protocol_lang.specs.Meaning.{entry, present, next_action}
use Rattle.protocol_lang.specs.declared.meaning.Action.TheVariants as actions
use Rattle.protocol_lang.specs.Trees.{Expression, Named, ComparisonOf, ActionRuleOf, RuleOf, Tree}
use Rattle.protocol_lang.specs.declared.tree.Name.TheVariants as names
use Rattle.protocol_lang.specs.Thresholds.{least_of, decides_least, sees_all_but, waits_for_all_but, writes_own}

abbrev Missed : (ℕ → Type 0) → Option ℕ → Type 0
Missed Is answer = (f : ℕ) → (answer ≡ Some f) ↔ Is f

pub one_condition : (conditions : List (ComparisonOf Expression)) (action : ActionRuleOf Expression) (item : ComparisonOf Expression) (answer : Option ℕ) → 1 ≤ length conditions → length conditions < 2 → item ≡ get_or conditions 0 item → action ≡ decides_least
    → Missed (λ f. item ≡ sees_all_but f) answer
    → Missed (λ f. ◌≡◌ {A = RuleOf Expression} (record { conditions = conditions; action_rule = action }) (record { conditions = sees_all_but f ∷ []; action_rule = decides_least })) answer
one_condition [] action item answer some one first is missed = absurd (omega arith)
one_condition (c ∷ []) action item answer some one first is missed = λ f. (
  λ found. (let same = sym first ∙ (missed f).0 found in λ i. record { conditions = same i ∷ []; action_rule = is i }),
  λ same. (missed f).1 (first ∙ ap (λ (rule : RuleOf Expression). get_or rule.conditions 0 item) same),
)
one_condition (c ∷ d ∷ conditions) action item answer some one first is missed = absurd (omega arith)

pub one_rule : (start : Expression) (rules : List (RuleOf Expression)) (last : ActionRuleOf Expression) (item : RuleOf Expression) (answer : Option ℕ) → 1 ≤ length rules → length rules < 2 → item ≡ get_or rules 0 item → start ≡ Named names.Input → last ≡ writes_own
    → Missed (λ f. item ≡ record { conditions = sees_all_but f ∷ []; action_rule = decides_least }) answer
    → Missed (λ f. ◌≡◌ {A = Tree} (record { first = start; rules = rules; last = last }) (waits_for_all_but f)) answer
one_rule start [] last item answer some one first is is' missed = absurd (omega arith)
one_rule start (r ∷ []) last item answer some one first is is' missed = λ f. (
  λ found. (let same = sym first ∙ (missed f).0 found in λ i. record { first = is i; rules = same i ∷ []; last = is' i }),
  λ same. (missed f).1 (first ∙ ap (λ (tree : Tree). get_or tree.rules 0 item) same),
)
one_rule start (r ∷ q ∷ rules) last item answer some one first is is' missed = absurd (omega arith)

-- ---- what it asks for

module _ (f input id round : ℕ) (view : List (Option ℕ)) where
  by_count : (b : Bool) → leb (length view - f) (length (present view)) ≡ b → next_action (waits_for_all_but f) input id round view ≡ cond b (actions.Decide (least_of view)) (actions.Write (entry view id))
  by_count true is = rw is refl
  by_count false is = rw is refl

  write_by : (b : Bool) (v : ℕ) → cond b (actions.Decide (least_of view)) (actions.Write (entry view id)) ≡ actions.Write v → entry view id ≡ v
  write_by true v is = absurd cc
  write_by false v is = cc

  decide_by : (b : Bool) (v : ℕ) → leb (length view - f) (length (present view)) ≡ b → cond b (actions.Decide (least_of view)) (actions.Write (entry view id)) ≡ actions.Decide v → (length view - f ≤ length (present view)) × (least_of view ≡ v)
  decide_by true v enough is = (leb-true (length view - f) (length (present view)) enough, cc)
  decide_by false v enough is = absurd cc

  -- it writes its own value again
  pub writes_again : (v : ℕ) → next_action (waits_for_all_but f) input id round view ≡ actions.Write v → entry view id ≡ v
  writes_again v is = write_by (leb (length view - f) (length (present view))) v (sym (by_count _ refl) ∙ is)

  -- or it sees all but f, and decides the least value
  pub decides_least_of : (v : ℕ) → next_action (waits_for_all_but f) input id round view ≡ actions.Decide v → (length view - f ≤ length (present view)) × (least_of view ≡ v)
  decides_least_of v is = decide_by (leb (length view - f) (length (present view))) v refl (sym (by_count _ refl) ∙ is)

  -- whoever sees enough decides
  pub decides_with : length view - f ≤ length (present view) → (v : ℕ) → next_action (waits_for_all_but f) input id round view ≡ actions.Write v → ⊥
  decides_with enough v is = elim (cases_Bool (leb (length view - f) (length (present view)))) [
    | inl many ↦ let wrong : actions.Decide (least_of view) ≡ actions.Write v = sym (by_count true many) ∙ is in absurd cc
    | inr fewer ↦ let less = leb-false (length view - f) (length (present view)) fewer in absurd (omega (arith, less, enough))
  ]
