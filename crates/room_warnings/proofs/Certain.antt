-- What is certain of protocols in every view.
use Rattle.std.proofs.Common.{◌≡◌, ℕ, zero, suc, ◌≤◌, Bool, true, false, ◌&&◌, cond, eqb, leb, List, [], ◌∷◌, ◌++◌, length, Option, Some, None, refl, ap, arith}
use Rattle.std.specs.Prelude.{slice_index_or}
use Rattle.std.specs.List.{find, list_all}
use Rattle.std.proofs.lemmas.Bool.{eq-eqb, le-leb}
use Rattle.protocol_lang.specs.Meaning.{Environment, action, action_by, action_in, applies, value_of}
use Rattle.protocol_lang.specs.Trees.{ActionRuleOf, Calling, Expression, Number, RuleOf, Tree}
use Rattle.protocol_lang.specs.declared.meaning.Action.TheVariants as actions
use Rattle.protocol_lang.specs.declared.tree.Kind.{Kind}
use Rattle.protocol_lang.specs.declared.tree.Kind.TheVariants.{Write, Decide}
use Rattle.protocol_lang.specs.declared.tree.Call.TheVariants.{Cell, Seen}
use Rattle.room_warnings.specs.Laws.{is_write, never_decides, with_rules}

-- ---- processes that there are not

none_there : (view : List (Option ℕ)) (k : ℕ) → length view ≤ k → slice_index_or view k None ≡ None
none_there [] zero past = refl
none_there [] (suc k) past = refl
none_there (seen ∷ view) zero past = absurd (omega (arith, past))
none_there (seen ∷ view) (suc k) past = none_there view k (omega (arith, past))

pub cell_shows_nothing : (s : Environment) (k : ℕ) → length s.view ≤ k → value_of (Calling Cell (Number k)) s ≡ 0
cell_shows_nothing s k past = rw (none_there s.view k past) refl

pub seen_shows_nothing : (s : Environment) (k : ℕ) → length s.view ≤ k → value_of (Calling Seen (Number k)) s ≡ 0
seen_shows_nothing s k past = rw (none_there s.view k past) refl

-- ---- comparisons

pub zero_least : (n : ℕ) → leb 0 n ≡ true
zero_least n = le-leb 0 n (omega arith)

pub equal_itself : (n : ℕ) → eqb n n ≡ true
equal_itself n = eq-eqb n n refl

-- ---- rules

found_by : (s : Environment) (rule : RuleOf Expression) (first : Bool) (found other : Option (RuleOf Expression)) → found ≡ other → cond first (Some rule) found ≡ cond first (Some rule) other
found_by s rule first found other same = ap (λ o. cond first (Some rule) o) same

pub found_alike : (s : Environment) (before later other : List (RuleOf Expression)) (rule : RuleOf Expression) → applies s rule ≡ true
    → find (applies s) (before ++ rule ∷ later) ≡ find (applies s) (before ++ rule ∷ other)
found_alike s [] later other rule is = rw is refl
found_alike s (one ∷ before) later other rule is = found_by s one (applies s one) (find (applies s) (before ++ rule ∷ later)) (find (applies s) (before ++ rule ∷ other)) (found_alike s before later other rule is)

pub not_used : (tree : Tree) (s : Environment) (before later other : List (RuleOf Expression)) (rule : RuleOf Expression) → applies s rule ≡ true
    → action_in (with_rules tree (before ++ rule ∷ later)) s ≡ action_in (with_rules tree (before ++ rule ∷ other)) s
not_used tree s before later other rule is = ap (action_by s tree.last) (found_alike s before later other rule is)

-- ---- decisions

writes : (kind : Kind) (value v : ℕ) → is_write kind ≡ true → action kind value ≡ actions.Decide v → ⊥
writes Write value v is decides = absurd cc
writes Decide value v is decides = absurd cc

both : (a b : Bool) → (a && b) ≡ true → (a ≡ true) × (b ≡ true)
both true true is = (refl, refl)
both true false is = absurd cc
both false b is = absurd cc

decides_by : (s : Environment) (last : ActionRuleOf Expression) (rules : List (RuleOf Expression)) (v : ℕ) → list_all (λ (rule : RuleOf Expression). is_write rule.action_rule.kind) rules ≡ true → is_write last.kind ≡ true
    → action_by s last (find (applies s) rules) ≡ actions.Decide v → ⊥
decides_by s last [] v all end decides = writes last.kind (value_of last.value s) v end decides
decides_by s last (rule ∷ rules) v all end decides =
    let each = both (is_write rule.action_rule.kind) (list_all (λ (r : RuleOf Expression). is_write r.action_rule.kind) rules) all in
    by_first (applies s rule) each.0 (decides_by s last rules v each.1 end) decides
  where
    by_first : (first : Bool) → is_write rule.action_rule.kind ≡ true → (action_by s last (find (applies s) rules) ≡ actions.Decide v → ⊥) → action_by s last (cond first (Some rule) (find (applies s) rules)) ≡ actions.Decide v → ⊥
    by_first true is later decides = writes rule.action_rule.kind (value_of rule.action_rule.value s) v is decides
    by_first false is later decides = later decides

pub never : (tree : Tree) (s : Environment) (v : ℕ) → never_decides tree ≡ true → action_in tree s ≡ actions.Decide v → ⊥
never tree s v is decides =
    let each = both (list_all (λ (rule : RuleOf Expression). is_write rule.action_rule.kind) tree.rules) (is_write tree.last.kind) is in
    decides_by s tree.last tree.rules v each.0 each.1 decides
