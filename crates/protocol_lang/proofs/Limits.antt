-- A protocol's values are at most the greatest, where its numerals and what it is told are.
use Rattle.std.proofs.Common.{arith, ◌≡◌, ℕ, zero, suc, ◌≤◌, min, max, true, false, cond, eqb, List, [], ◌∷◌, ◌++◌, get_or, length, map, Option, Some, None, Ok, refl, subst}
use Rattle.std.specs.Prelude.{unwrap_or}
use Rattle.std.specs.List.{AllByRecursion, flat_map, find, fold, list_all, reduce}
use Rattle.std.proofs.Math.Nat.{div-le_self, mod-le}
use Rattle.std.proofs.lemmas.Bool.{and_parts, and_from, leb-true}
use Rattle.std.proofs.lemmas.List.Sums.{length-filter, count_by-le-length}
use Rattle.protocol_lang.specs.Numbers.{greatest}
use Rattle.protocol_lang.specs.Trees as trees
use Rattle.protocol_lang.specs.Trees.{Expression, ComparisonOf, ActionRuleOf, RuleOf, TreeOf, Tree}
use Rattle.protocol_lang.specs.Grammar.{Written, Number, Named, Calling, Operating, Group, expression_of, comparator_symbol, operator_symbol, expression_tokens, comparison_tokens, conditions_tokens, action_rule_tokens, rule_tokens, tree_tokens, comparison_of, rule_of, tree_of, IsText}
use Rattle.protocol_lang.specs.Reading.{reading}
use Rattle.protocol_lang.specs.Meaning.{Environment, entry, present, one_if_there, value_of_name, value_of_call, quotient, remainder, operated, value_of, action, action_of, action_by, applies, first_value, next_action}
use Rattle.protocol_lang.specs.Limits.{is_small, is_small_comparison, is_small_rule, HasSmallNumerals, IsEntry, action_value}
use Rattle.protocol_lang.specs.declared.token.Word.{Word}
use Rattle.protocol_lang.specs.declared.token.Word.TheVariants as words
use Rattle.protocol_lang.specs.declared.token.Symbol.TheVariants as symbols
use Rattle.protocol_lang.specs.declared.token.Token.{Token}
use Rattle.protocol_lang.specs.declared.token.Token.TheVariants as tokens
use Rattle.protocol_lang.specs.declared.tree.Name.{Name}
use Rattle.protocol_lang.specs.declared.tree.Name.TheVariants as names
use Rattle.protocol_lang.specs.declared.tree.Call.{Call}
use Rattle.protocol_lang.specs.declared.tree.Call.TheVariants as calls
use Rattle.protocol_lang.specs.declared.tree.Operator.{Operator}
use Rattle.protocol_lang.specs.declared.tree.Operator.TheVariants as operators
use Rattle.protocol_lang.specs.declared.tree.Kind.{Kind}
use Rattle.protocol_lang.specs.declared.tree.Kind.TheVariants as kinds
use Rattle.protocol_lang.proofs.Sound.{found}
use Rattle.protocol_lang.proofs.Printed.{is_spellable, all_parts, all_within, spellable}

-- ---- numerals

abbrev AreSpellable : List Token → Type 0
AreSpellable all = list_all is_spellable all ≡ true

small_expression : (w : Written) → AreSpellable (expression_tokens w) → is_small (expression_of w) ≡ true
small_expression (Number value) all = (and_parts (is_spellable (tokens.Number value)) true all).0
small_expression (Named name) all = refl
small_expression (Calling function argument) all = small_expression argument (all_within (expression_tokens argument) all)
small_expression (Operating operator left right) all =
    let parts = all_parts (expression_tokens left) (tokens.Symbol (operator_symbol operator) ∷ expression_tokens right) all in
    and_from _ _ (small_expression left parts.0) (small_expression right parts.1)
small_expression (Group inner) all = small_expression inner (all_within (expression_tokens inner) all)

small_comparison : (c : ComparisonOf Written) → AreSpellable (comparison_tokens c) → is_small_comparison (comparison_of c) ≡ true
small_comparison c all =
    let parts = all_parts (expression_tokens c.left) (tokens.Symbol (comparator_symbol c.comparator) ∷ expression_tokens c.right) all in
    and_from _ _ (small_expression c.left parts.0) (small_expression c.right parts.1)

small_conditions : (word : Word) (cs : List (ComparisonOf Written)) → AreSpellable (conditions_tokens word cs) → list_all is_small_comparison (map comparison_of cs) ≡ true
small_conditions word [] all = refl
small_conditions word (c ∷ cs) all =
    let parts = all_parts (comparison_tokens c) (conditions_tokens words.And cs) all in
    and_from _ _ (small_comparison c parts.0) (small_conditions words.And cs parts.1)

small_action_rule : (action_rule : ActionRuleOf Written) → AreSpellable (action_rule_tokens action_rule) → is_small (expression_of action_rule.value) ≡ true
small_action_rule action_rule all = small_expression action_rule.value (all_parts (expression_tokens action_rule.value) (tokens.Symbol symbols.Semicolon ∷ []) all).0

small_rule : (rule : RuleOf Written) → AreSpellable (rule_tokens rule) → is_small_rule (rule_of rule) ≡ true
small_rule rule all =
    let parts = all_parts (conditions_tokens words.When rule.conditions) (action_rule_tokens rule.action_rule) all in
    and_from _ _ (small_conditions words.When rule.conditions parts.0) (small_action_rule rule.action_rule parts.1)

small_rules : (rules : List (RuleOf Written)) → AreSpellable (flat_map rule_tokens rules) → list_all is_small_rule (map rule_of rules) ≡ true
small_rules [] all = refl
small_rules (rule ∷ rules) all =
    let parts = all_parts (rule_tokens rule) (flat_map rule_tokens rules) all in
    and_from _ _ (small_rule rule parts.0) (small_rules rules parts.1)

small_tree : (tree : TreeOf Written) → AreSpellable (tree_tokens tree) → HasSmallNumerals (tree_of tree)
small_tree tree all =
    let rest = flat_map rule_tokens tree.rules ++ tokens.Word words.Else ∷ action_rule_tokens tree.last in
    let parts = all_parts (expression_tokens tree.first) (tokens.Symbol symbols.Semicolon ∷ rest) all in
    let behind = all_parts (flat_map rule_tokens tree.rules) (tokens.Word words.Else ∷ action_rule_tokens tree.last) parts.1 in
    record { first = small_expression tree.first parts.0; rules = small_rules tree.rules behind.0; last = small_action_rule tree.last behind.1 }

pub small_numerals : (text : List ℕ) (tree : Tree) → IsText text tree → HasSmallNumerals tree
small_numerals text tree is = subst HasSmallNumerals is.says (small_tree is.written (spellable (tree_tokens is.written) text is.spelled))

-- the same of what is read
pub small_if_read : (text : List ℕ) (tree : Tree) → reading text ≡ Ok tree → HasSmallNumerals tree
small_if_read text tree read = small_numerals text tree (found text (Ok tree) read)

-- ---- what an expression asks for

-- what a environment tells is at most the greatest value
record IsWithin (s : Environment) : Type 0 where
  input : s.input ≤ greatest
  id : s.id ≤ greatest
  processes : s.processes ≤ greatest
  round : s.round ≤ greatest
  width : length s.view ≤ greatest
  entries : AllByRecursion IsEntry s.view

abbrev AreSmall : List ℕ → Type 0
AreSmall values = AllByRecursion (λ value. value ≤ greatest) values

small_or_none : (seen : Option ℕ) → IsEntry seen → unwrap_or seen 0 ≤ greatest
small_or_none None is = omega arith
small_or_none (Some value) is = is

small_entry : (view : List (Option ℕ)) (p : ℕ) → AllByRecursion IsEntry view → entry view p ≤ greatest
small_entry [] p all = omega arith
small_entry (seen ∷ view) zero all = small_or_none seen all.0
small_entry (seen ∷ view) (suc p) all = small_entry view p all.1

small_present : (view : List (Option ℕ)) → AllByRecursion IsEntry view → AreSmall (present view)
small_present [] all = tt
small_present (None ∷ view) all = small_present view all.1
small_present (Some value ∷ view) all = (all.0, small_present view all.1)

present_few : (view : List (Option ℕ)) → length (present view) ≤ length view
present_few [] = omega arith
present_few (None ∷ view) = omega (arith, present_few view)
present_few (Some value ∷ view) = omega (arith, present_few view)

fold_min : (values : List ℕ) (value : ℕ) → fold min value values ≤ value
fold_min [] value = omega arith
fold_min (next ∷ values) value = omega (arith, fold_min values (min value next))

small_min : (values : List ℕ) → AreSmall values → unwrap_or (reduce min values) 0 ≤ greatest
small_min [] all = omega arith
small_min (value ∷ values) all = omega (arith, fold_min values value, all.0)

small_max : (values : List ℕ) (value : ℕ) → AreSmall values → value ≤ greatest → fold max value values ≤ greatest
small_max [] value all small = small
small_max (next ∷ values) value all small = small_max values (max value next) all.1 (omega (arith, small, all.0))

small_flag : (seen : Option ℕ) → one_if_there seen ≤ greatest
small_flag None = omega arith
small_flag (Some value) = omega arith

small_name : (name : Name) (s : Environment) → IsWithin s → value_of_name name s ≤ greatest
small_name names.Input s within = within.input
small_name names.Id s within = within.id
small_name names.N s within = within.processes
small_name names.Round s within = within.round
small_name names.Mine s within = small_entry s.view s.id within.entries
small_name names.Count s within = omega (arith, present_few s.view, within.width)
small_name names.Min s within = small_min (present s.view) (small_present s.view within.entries)
small_name names.Max s within = small_max (present s.view) 0 (small_present s.view within.entries) (omega arith)

small_call : (function : Call) (s : Environment) (x : ℕ) → IsWithin s → value_of_call function s.view x ≤ greatest
small_call calls.Cell s x within = small_entry s.view x within.entries
small_call calls.Seen s x within = small_flag (get_or s.view x None)
small_call calls.Equal s x within = omega (arith, length-filter (λ value. eqb value x) (present s.view), count_by-le-length (λ value. eqb value x) (present s.view), present_few s.view, within.width)

-- ---- expressions

small_quotient : (x y : ℕ) → x ≤ greatest → quotient x y ≤ greatest
small_quotient x zero small = omega arith
small_quotient x (suc y) small = omega (arith, small, div-le_self x (suc y))

small_remainder : (x y : ℕ) → x ≤ greatest → remainder x y ≤ greatest
small_remainder x zero small = omega arith
small_remainder x (suc y) small = omega (arith, small, mod-le x (suc y))

small_operated : (operator : Operator) (x y : ℕ) → x ≤ greatest → operated operator x y ≤ greatest
small_operated operators.Add x y small = omega arith
small_operated operators.Subtract x y small = omega (arith, small)
small_operated operators.Multiply x y small = omega arith
small_operated operators.Divide x y small = small_quotient x y small
small_operated operators.Remainder x y small = small_remainder x y small

small_value : (e : Expression) (s : Environment) → is_small e ≡ true → IsWithin s → value_of e s ≤ greatest
small_value (trees.Number value) s is within = leb-true value greatest is
small_value (trees.Named name) s is within = small_name name s within
small_value (trees.Calling function argument) s is within = small_call function s (value_of argument s) within
small_value (trees.Operating operator left right) s is within =
    small_operated operator (value_of left s) (value_of right s) (small_value left s (and_parts (is_small left) (is_small right) is).0 within)

-- ---- protocols

pub first_small : (tree : Tree) (input id n : ℕ) → HasSmallNumerals tree → input ≤ greatest → id ≤ greatest → n ≤ greatest → first_value tree input id n ≤ greatest
first_small tree input id n small input_small id_small n_small =
    small_value tree.first (record { input = input; id = id; processes = n; round = 0; view = [] }) small.first
    (record { input = input_small; id = id_small; processes = n_small; round = omega arith; width = omega arith; entries = tt })

small_kind : (kind : Kind) (value : ℕ) → value ≤ greatest → action_value (action kind value) ≤ greatest
small_kind kinds.Write value small = small
small_kind kinds.Decide value small = small

small_action : (s : Environment) (action_rule : ActionRuleOf Expression) → is_small action_rule.value ≡ true → IsWithin s → action_value (action_of s action_rule) ≤ greatest
small_action s action_rule is within = small_kind action_rule.kind (value_of action_rule.value s) (small_value action_rule.value s is within)

small_by : (s : Environment) (last : ActionRuleOf Expression) (rules : List (RuleOf Expression)) → is_small last.value ≡ true → list_all is_small_rule rules ≡ true → IsWithin s → action_value (action_by s last (find (applies s) rules)) ≤ greatest
small_by s last [] last_small rules_small within = small_action s last last_small within
small_by s last (rule ∷ rules) last_small rules_small within =
    let parts = and_parts (is_small_rule rule) (list_all is_small_rule rules) rules_small in
    let own = small_action s rule.action_rule (and_parts (list_all is_small_comparison rule.conditions) (is_small rule.action_rule.value) parts.0).1 within in
    let others = small_by s last rules last_small parts.1 within in
    elim (applies s rule) as (λ b. action_value (action_by s last (cond b (Some rule) (find (applies s) rules))) ≤ greatest) [ true ↦ own | false ↦ others ]

pub next_small : (tree : Tree) (input id round : ℕ) (view : List (Option ℕ)) → HasSmallNumerals tree → input ≤ greatest → id ≤ greatest → round ≤ greatest → length view ≤ greatest → AllByRecursion IsEntry view → action_value (next_action tree input id round view) ≤ greatest
next_small tree input id round view small input_small id_small round_small width entries =
    small_by (record { input = input; id = id; processes = length view; round = round; view = view }) tree.last tree.rules small.last small.rules
    (record { input = input_small; id = id_small; processes = width; round = round_small; width = width; entries = entries })
