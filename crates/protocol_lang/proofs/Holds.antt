-- Whole expressions, comparisons and rules: each token that is taken is one more of those that were read.
use Rattle.std.proofs.Common.{arith, ◌≡◌, ◌+◌, ◌<◌, ◌≤◌, Bool, true, false, ltb, List, [], ◌∷◌, ◌++◌, append_assoc, length, Option, Some, None, refl, sym, ap, ◌∙◌, subst, inl, inr}
use Rattle.std.specs.List.{flat_map, list_all}
use Rattle.std.proofs.lemmas.Bool.{cases_Bool, and_parts, and_from, le-leb, ltb-true}
use Rattle.std.proofs.lemmas.List.{append-nil, length-append}
use Rattle.std.proofs.lemmas.Grind.{flat_map-append}
use Rattle.protocol_lang.specs.Tokens.{is_end, operator_of, comparator_of, kind_of}
use Rattle.protocol_lang.specs.Trees.{ComparisonOf, RuleOf}
use Rattle.protocol_lang.specs.Formulas.{last_of}
use Rattle.protocol_lang.specs.Grammar.{Written, comparator_symbol, kind_word, expression_tokens, comparison_tokens, conditions_tokens, rule_tokens, depth_of, is_expression, needs_no_view, is_comparison, is_rule}
use Rattle.protocol_lang.specs.Reading.{State, opening, is_first, with_infix, value_read, cleared, first_ended, left_ended, compared_with, right_ended, action_rule_ended, last_ended, ended, in_outermost, behind, begun, rule, last, ending, step_at, step, last_kind}
use Rattle.protocol_lang.specs.declared.token.Token.{Token}
use Rattle.protocol_lang.specs.declared.token.Token.TheVariants as tokens
use Rattle.protocol_lang.specs.declared.token.Word.{Word}
use Rattle.protocol_lang.specs.declared.token.Word.TheVariants as words
use Rattle.protocol_lang.specs.declared.token.Symbol.TheVariants as symbols
use Rattle.protocol_lang.specs.declared.state.Expected.{Expected}
use Rattle.protocol_lang.specs.declared.state.Expected.TheVariants as next
use Rattle.protocol_lang.specs.declared.state.Part.{Part}
use Rattle.protocol_lang.specs.declared.state.Part.TheVariants as parts
use Rattle.protocol_lang.specs.declared.state.Level.{Level}
use Rattle.protocol_lang.specs.declared.tree.Operator.{Operator}
use Rattle.protocol_lang.specs.declared.tree.Comparator.{Comparator}
use Rattle.protocol_lang.specs.declared.tree.Comparator.TheVariants as comparators
use Rattle.protocol_lang.specs.declared.tree.Kind.{Kind}
use Rattle.protocol_lang.specs.declared.tree.Kind.TheVariants as kinds
use Rattle.protocol_lang.proofs.Carrying.{writings}
use Rattle.protocol_lang.proofs.Holding.{Outer, Wanting, Having, has_sum}
use Rattle.protocol_lang.proofs.Headers.{begun_tokens, conditions_open, header, Past, Progress, HoldsAt, Holds, done_with, holds_as, fresh}
use Rattle.protocol_lang.proofs.Groups.{operand_step, open_step, operator_token, infix_taken, closed_taken}

-- ---- a whole expression

record Whole (s : State Written) (head all : List Token) : Type 0 where
  expression : is_expression (value_read writings s) ≡ true
  view : is_first s.part ≡ true → needs_no_view (value_read writings s) ≡ true
  tokens_are : all ≡ head ++ expression_tokens (value_read writings s)

whole : (s : State Written) (head all : List Token) → s.outer ≡ [] → Having s head all → Whole s head all
whole s head all none has =
    let v = has_sum s head all has in
    let outer : (v.rest ≡ []) × (v.outer_tokens ≡ head) = subst (λ o. Outer s.part head o s.level.opener v.rest v.outer_tokens) none v.outer in
    let is : value_read writings s ≡ v.value = ap (last_of writings) v.stack_is in
    let shallow : depth_of v.value ≤ 32 = let d = v.fits.depth in omega (arith, d) in
    record {
      expression = rw is (and_from _ _ v.fits.formed (le-leb (depth_of v.value) 32 shallow));
      view = λ first. rw is (v.fits.view first);
      tokens_are = rw is (v.tokens_are ∙ ap (λ t. t ++ expression_tokens v.value) outer.1);
    }

at_part : (s : State Written) (part : Part) (all : List Token) → s.part ≡ part → HoldsAt next.Operator s all → Having s (header part s.first s.rules s.conditions s.left) all × Progress part s.first s.rules s.conditions s.left
at_part s part all is holds = subst (λ p. Having s (header p s.first s.rules s.conditions s.left) all × Progress p s.first s.rules s.conditions s.left) is holds

first_step : (s s' : State Written) (all : List Token) (token : Token) → s.part ≡ parts.First → s.outer ≡ [] → HoldsAt next.Operator s all → first_ended writings s token ≡ done_with s' → Holds s' (all ++ token ∷ [])
first_step s s' all (tokens.Symbol symbols.Semicolon) is none holds e =
    let here = at_part s parts.First all is holds in
    let w = whole s (header parts.First s.first s.rules s.conditions s.left) all none here.0 in
    let v = value_read writings s in
    let end : List Token = tokens.Symbol symbols.Semicolon ∷ [] in
    holds_as _ s' (all ++ end) e (
      ap (λ t. t ++ end) w.tokens_are ∙ ap (λ rules. tokens.Word words.First ∷ (expression_tokens v ++ tokens.Symbol symbols.Semicolon ∷ flat_map rule_tokens rules)) (sym here.1.0),
      record { past = record { first_is = w.expression; view = w.view (rw is refl); rules_are = rw (here.1.0) refl; most = rw (here.1.0) (omega arith) }; none_open = none; level_is = refl; none_waits = refl; no_conditions = here.1.1 },
    )
first_step s s' all token is none holds e = absurd cc

-- ---- comparisons

comparator_token : (token : Token) (comparator : Comparator) → comparator_of token ≡ Some comparator → token ≡ tokens.Symbol (comparator_symbol comparator)
comparator_token (tokens.Symbol symbols.Equal) comparator e = let same : comparators.Equal ≡ comparator = cc in rw (← same) refl
comparator_token (tokens.Symbol symbols.NotEqual) comparator e = let same : comparators.NotEqual ≡ comparator = cc in rw (← same) refl
comparator_token (tokens.Symbol symbols.Less) comparator e = let same : comparators.Less ≡ comparator = cc in rw (← same) refl
comparator_token (tokens.Symbol symbols.LessOrEqual) comparator e = let same : comparators.LessOrEqual ≡ comparator = cc in rw (← same) refl
comparator_token (tokens.Symbol symbols.Greater) comparator e = let same : comparators.Greater ≡ comparator = cc in rw (← same) refl
comparator_token (tokens.Symbol symbols.GreaterOrEqual) comparator e = let same : comparators.GreaterOrEqual ≡ comparator = cc in rw (← same) refl
comparator_token token comparator e = absurd cc

kind_token : (token : Token) (kind : Kind) → kind_of token ≡ Some kind → token ≡ tokens.Word (kind_word kind)
kind_token (tokens.Word words.Write) kind e = let same : kinds.Write ≡ kind = cc in rw (← same) refl
kind_token (tokens.Word words.Decide) kind e = let same : kinds.Decide ≡ kind = cc in rw (← same) refl
kind_token token kind e = absurd cc

left_step : (s s' : State Written) (all : List Token) (token : Token) (comparator : Option Comparator) → comparator_of token ≡ comparator → s.part ≡ parts.Left → s.outer ≡ [] → HoldsAt next.Operator s all → left_ended writings s comparator ≡ done_with s' → Holds s' (all ++ token ∷ [])
left_step s s' all token None named is none holds e = absurd cc
left_step s s' all token (Some comparator) named is none holds e =
    let here = at_part s parts.Left all is holds in
    let begun = begun_tokens s.first s.rules in
    let w = whole s (begun ++ conditions_open s.conditions) all none here.0 in
    let v = value_read writings s in
    let sign : List Token = tokens.Symbol (comparator_symbol comparator) ∷ [] in
    let now = header (parts.Right comparator) s.first s.rules s.conditions v in
    let tokens_are : now ≡ all ++ token ∷ [] =
    sym (ap (λ t. t ++ token ∷ []) w.tokens_are ∙ ap (λ t. ((begun ++ conditions_open s.conditions) ++ expression_tokens v) ++ t ∷ []) (comparator_token token comparator named)
    ∙ append_assoc (begun ++ conditions_open s.conditions) (expression_tokens v) sign ∙ append_assoc begun (conditions_open s.conditions) (expression_tokens v ++ sign)) in
    let x : State Written = record (cleared s) { expected = next.Operand; part = parts.Right comparator; left = v } in
    holds_as x s' (all ++ token ∷ []) e (subst (λ t. Wanting x now t) tokens_are (fresh x now none refl refl), (here.1.0, here.1.1, here.1.2, here.1.3, w.expression))

-- ---- lists of conditions and rules

all_snoc : {X : Type 0} (test : X → Bool) (xs : List X) (x : X) → list_all test xs ≡ true → test x ≡ true → list_all test (xs ++ x ∷ []) ≡ true
all_snoc test [] x all one = and_from _ _ one refl
all_snoc test (y ∷ xs) x all one = let parts = and_parts (test y) (list_all test xs) all in and_from _ _ parts.0 (all_snoc test xs x parts.1 one)

and_snoc : (word : Word) (c : ComparisonOf Written) (cs : List (ComparisonOf Written)) (last : ComparisonOf Written) → conditions_tokens word ((c ∷ cs) ++ last ∷ []) ≡ conditions_tokens word (c ∷ cs) ++ tokens.Word words.And ∷ comparison_tokens last
and_snoc word c [] last = ap (λ t. tokens.Word word ∷ t) (ap (λ t. comparison_tokens c ++ tokens.Word words.And ∷ t) (append-nil (comparison_tokens last)) ∙ ap (λ t. t ++ tokens.Word words.And ∷ comparison_tokens last) (sym (append-nil (comparison_tokens c))))
and_snoc word c (next ∷ cs) last = ap (λ t. tokens.Word word ∷ t) (ap (λ t. comparison_tokens c ++ t) (and_snoc words.And next cs last) ∙ sym (append_assoc (comparison_tokens c) (conditions_tokens words.And (next ∷ cs)) (tokens.Word words.And ∷ comparison_tokens last)))

conditions_snoc : (cs : List (ComparisonOf Written)) (c : ComparisonOf Written) → conditions_tokens words.When (cs ++ c ∷ []) ≡ conditions_open cs ++ comparison_tokens c
conditions_snoc [] c = ap (λ t. tokens.Word words.When ∷ t) (append-nil (comparison_tokens c))
conditions_snoc (first ∷ cs) c = and_snoc words.When first cs c ∙ sym (append_assoc (conditions_tokens words.When (first ∷ cs)) (tokens.Word words.And ∷ []) (comparison_tokens c))

open_snoc : (cs : List (ComparisonOf Written)) (c : ComparisonOf Written) → conditions_open (cs ++ c ∷ []) ≡ conditions_tokens words.When (cs ++ c ∷ []) ++ tokens.Word words.And ∷ []
open_snoc [] c = refl
open_snoc (first ∷ cs) c = refl

rules_snoc : (first : Written) (rules : List (RuleOf Written)) (rule : RuleOf Written) → begun_tokens first (rules ++ rule ∷ []) ≡ begun_tokens first rules ++ rule_tokens rule
rules_snoc first rules rule =
    ap (λ t. tokens.Word words.First ∷ (expression_tokens first ++ tokens.Symbol symbols.Semicolon ∷ t)) (flat_map-append rule_tokens rules (rule ∷ []) ∙ ap (λ t. flat_map rule_tokens rules ++ t) (append-nil (rule_tokens rule)))
    ∙ ap (λ t. tokens.Word words.First ∷ t) (sym (append_assoc (expression_tokens first) (tokens.Symbol symbols.Semicolon ∷ flat_map rule_tokens rules) (rule_tokens rule)))

-- the comparison that ends here, behind those before it
abbrev ended_comparison : Comparator → State Written → ComparisonOf Written
ended_comparison comparator s = record { left = s.left; comparator = comparator; right = value_read writings s }

compared_tokens : (begun conditions left sign right all more : List Token) → all ≡ (begun ++ (conditions ++ (left ++ sign))) ++ right → all ++ more ≡ begun ++ ((conditions ++ (left ++ (sign ++ right))) ++ more)
compared_tokens begun conditions left sign right all more e = ap (λ t. t ++ more) e ∙ simp append_assoc

right_taken : (s : State Written) (all : List Token) (comparator : Comparator) (part : Part) (token : Token) (opens : List Token) → s.part ≡ parts.Right comparator → s.outer ≡ [] → HoldsAt next.Operator s all
    → (conditions_tokens words.When (s.conditions ++ ended_comparison comparator s ∷ []) ++ token ∷ [] ≡ opens)
    → header part s.first s.rules (s.conditions ++ ended_comparison comparator s ∷ []) (last_of writings []) ≡ begun_tokens s.first s.rules ++ opens
    → (Past s.first s.rules → length s.rules < 32 → list_all is_comparison (s.conditions ++ ended_comparison comparator s ∷ []) ≡ true → Progress part s.first s.rules (s.conditions ++ ended_comparison comparator s ∷ []) (last_of writings []))
    → HoldsAt next.Operand (compared_with writings comparator part s) (all ++ token ∷ [])
right_taken s all comparator part token opens is none holds tokens_is head_is progress =
    let here = at_part s (parts.Right comparator) all is holds in
    let begun = begun_tokens s.first s.rules in
    let w = whole s (header (parts.Right comparator) s.first s.rules s.conditions s.left) all none here.0 in
    let c = ended_comparison comparator s in
    let x : State Written = compared_with writings comparator part s in
    let now = header part s.first s.rules (s.conditions ++ c ∷ []) (last_of writings []) in
    let behind : all ++ token ∷ [] ≡ begun ++ ((conditions_open s.conditions ++ comparison_tokens c) ++ token ∷ []) =
    compared_tokens begun (conditions_open s.conditions) (expression_tokens s.left) (tokens.Symbol (comparator_symbol comparator) ∷ []) (expression_tokens (value_read writings s)) all (token ∷ []) w.tokens_are in
    let same : now ≡ all ++ token ∷ [] = head_is ∙ ap (λ t. begun ++ t) (sym tokens_is ∙ ap (λ t. t ++ token ∷ []) (conditions_snoc s.conditions c)) ∙ sym behind in
    (subst (λ t. Wanting x now t) same (fresh x now none refl refl), progress here.1.0 here.1.1 (all_snoc is_comparison s.conditions c here.1.2 (and_from _ _ here.1.4 w.expression)))

one_longer : (s : State Written) (c : ComparisonOf Written) → length (s.conditions ++ c ∷ []) ≡ length s.conditions + 1
one_longer s c = length-append s.conditions (c ∷ [])

right_step : (comparator : Comparator) (s s' : State Written) (all : List Token) (token : Token) (kind : Option Kind) → kind_of token ≡ kind → s.part ≡ parts.Right comparator → s.outer ≡ [] → HoldsAt next.Operator s all → right_ended writings comparator s token kind ≡ done_with s' → Holds s' (all ++ token ∷ [])
right_step comparator s s' all token (Some kind) named is none holds e =
    let c = ended_comparison comparator s in
    let few = (at_part s (parts.Right comparator) all is holds).1.3 in
    holds_as (compared_with writings comparator (parts.ActionRule kind) s) s' (all ++ token ∷ []) e
    (right_taken s all comparator (parts.ActionRule kind) token (conditions_tokens words.When (s.conditions ++ c ∷ []) ++ tokens.Word (kind_word kind) ∷ []) is none holds
    (ap (λ t. conditions_tokens words.When (s.conditions ++ c ∷ []) ++ t ∷ []) (kind_token token kind named)) refl
    (λ past less good. (past, less, good, (let n = one_longer s c in omega (arith, n)), (let n = one_longer s c in omega (arith, n, few)))))
right_step comparator s s' all (tokens.Word words.And) None named is none holds e =
    let c = ended_comparison comparator s in
    elim (cases_Bool (ltb (length s.conditions) 7)) [
      | inl room ↦
          let taken = rw room at e in
          holds_as (compared_with writings comparator parts.Left s) s' (all ++ tokens.Word words.And ∷ []) taken
          (right_taken s all comparator parts.Left (tokens.Word words.And) (conditions_open (s.conditions ++ c ∷ [])) is none holds (sym (open_snoc s.conditions c)) refl
          (λ past less good. (past, less, good, (let n = one_longer s c in let r = ltb-true (length s.conditions) 7 room in omega (arith, n, r)))))
      | inr full ↦ absurd (let never = rw full at e in cc)
    ]
right_step comparator s s' all token None named is none holds e = absurd cc

-- ---- actions

action_rule_tokens_are : (begun conditions kind value end all : List Token) → all ≡ (begun ++ (conditions ++ kind)) ++ value → all ++ end ≡ begun ++ (conditions ++ (kind ++ (value ++ end)))
action_rule_tokens_are begun conditions kind value end all e = ap (λ t. t ++ end) e ∙ simp append_assoc

action_rule_step : (kind : Kind) (s s' : State Written) (all : List Token) (token : Token) → s.part ≡ parts.ActionRule kind → s.outer ≡ [] → HoldsAt next.Operator s all → action_rule_ended writings kind s token ≡ done_with s' → Holds s' (all ++ token ∷ [])
action_rule_step kind s s' all (tokens.Symbol symbols.Semicolon) is none holds e =
    let here = at_part s (parts.ActionRule kind) all is holds in
    let begun = begun_tokens s.first s.rules in
    let conditions = conditions_tokens words.When s.conditions in
    let w = whole s (begun ++ (conditions ++ tokens.Word (kind_word kind) ∷ [])) all none here.0 in
    let v = value_read writings s in
    let end : List Token = tokens.Symbol symbols.Semicolon ∷ [] in
    let r : RuleOf Written = record { conditions = s.conditions; action_rule = record { kind = kind; value = v } } in
    let good : is_rule r ≡ true = and_from _ _ (and_from _ _ (and_from _ _ (le-leb 1 (length s.conditions) here.1.3) (le-leb (length s.conditions) 8 here.1.4)) here.1.2) w.expression in
    let past : Past s.first (s.rules ++ r ∷ []) = record {
      first_is = here.1.0.first_is;
      view = here.1.0.view;
      rules_are = all_snoc is_rule s.rules r here.1.0.rules_are good;
      most = let n = length-append s.rules (r ∷ []) in let less = here.1.1 in omega (arith, n, less);
    } in
    holds_as _ s' (all ++ end) e (
      action_rule_tokens_are begun conditions (tokens.Word (kind_word kind) ∷ []) (expression_tokens v) end all w.tokens_are ∙ sym (rules_snoc s.first s.rules r),
      record { past = past; none_open = none; level_is = refl; none_waits = refl; no_conditions = refl },
    )
action_rule_step kind s s' all token is none holds e = absurd cc

last_tokens_are : (begun words value end all : List Token) → all ≡ (begun ++ words) ++ value → all ++ end ≡ begun ++ (words ++ (value ++ end))
last_tokens_are begun words value end all e = ap (λ t. t ++ end) e ∙ simp append_assoc

begun_and : (first : Written) (rules : List (RuleOf Written)) (more : List Token) → begun_tokens first rules ++ more ≡ tokens.Word words.First ∷ (expression_tokens first ++ tokens.Symbol symbols.Semicolon ∷ (flat_map rule_tokens rules ++ more))
begun_and first rules more = ap (λ t. tokens.Word words.First ∷ t) (append_assoc (expression_tokens first) (tokens.Symbol symbols.Semicolon ∷ flat_map rule_tokens rules) more)

last_step : (kind : Kind) (s s' : State Written) (all : List Token) (token : Token) → s.part ≡ parts.Last kind → s.outer ≡ [] → HoldsAt next.Operator s all → last_ended s token ≡ done_with s' → Holds s' (all ++ token ∷ [])
last_step kind s s' all (tokens.Symbol symbols.Semicolon) is none holds e =
    let here = at_part s (parts.Last kind) all is holds in
    let begun = begun_tokens s.first s.rules in
    let w = whole s (begun ++ (tokens.Word words.Else ∷ tokens.Word (kind_word kind) ∷ [])) all none here.0 in
    let v = value_read writings s in
    let end : List Token = tokens.Symbol symbols.Semicolon ∷ [] in
    let kind_is : last_kind s.part ≡ kind = ap last_kind is in
    holds_as _ s' (all ++ end) e (
      last_tokens_are begun (tokens.Word words.Else ∷ tokens.Word (kind_word kind) ∷ []) (expression_tokens v) end all w.tokens_are
          ∙ begun_and s.first s.rules (tokens.Word words.Else ∷ tokens.Word (kind_word kind) ∷ (expression_tokens v ++ end))
          ∙ ap (λ k. tokens.Word words.First ∷ (expression_tokens s.first ++ tokens.Symbol symbols.Semicolon ∷ (flat_map rule_tokens s.rules ++ tokens.Word words.Else ∷ tokens.Word (kind_word k) ∷ (expression_tokens v ++ end)))) (sym kind_is),
      record { first = here.1.first_is; no_view_in_first = here.1.view; most_rules = here.1.most; rules = here.1.rules_are; last = w.expression },
    )
last_step kind s s' all token is none holds e = absurd cc

ended_step : (part : Part) (s s' : State Written) (all : List Token) (token : Token) → s.part ≡ part → s.outer ≡ [] → HoldsAt next.Operator s all → ended writings part s token ≡ done_with s' → Holds s' (all ++ token ∷ [])
ended_step parts.First s s' all token is none holds e = first_step s s' all token is none holds e
ended_step parts.Left s s' all token is none holds e = left_step s s' all token (comparator_of token) refl is none holds e
ended_step (parts.Right comparator) s s' all token is none holds e = right_step comparator s s' all token (kind_of token) refl is none holds e
ended_step (parts.ActionRule kind) s s' all token is none holds e = action_rule_step kind s s' all token is none holds e
ended_step (parts.Last kind) s s' all token is none holds e = last_step kind s s' all token is none holds e

outermost_step : (levels : List Level) (s s' : State Written) (all : List Token) (token : Token) → s.outer ≡ levels → HoldsAt next.Operator s all → in_outermost writings s levels token ≡ done_with s' → Holds s' (all ++ token ∷ [])
outermost_step [] s s' all token none holds e = ended_step s.part s s' all token refl none holds e
outermost_step (level ∷ outer) s s' all token is holds e = absurd cc

behind_step : (s s' : State Written) (all : List Token) (token : Token) (operator : Option Operator) → operator_of token ≡ operator → HoldsAt next.Operator s all → behind writings s token operator ≡ done_with s' → Holds s' (all ++ token ∷ [])
behind_step s s' all token (Some operator) named holds e = holds_as (with_infix writings operator s) s' (all ++ token ∷ []) e (rw (operator_token token operator named) (infix_taken s all operator holds))
behind_step s s' all (tokens.Symbol symbols.Close) None named holds e = closed_taken s s' all s.outer refl holds e
behind_step s s' all token None named holds e = outermost_step s.outer s s' all token refl holds e

-- ---- between expressions

begun_step : (s s' : State Written) (all : List Token) (token : Token) → HoldsAt next.First s all → begun s token ≡ done_with s' → Holds s' (all ++ token ∷ [])
begun_step s s' all (tokens.Word words.First) holds e =
    let first : List Token = tokens.Word words.First ∷ [] in
    let x : State Written = record (opening writings) { expected = next.Operand } in
    let here : HoldsAt next.Operand x first = (fresh x first refl refl refl, (refl, refl)) in
    holds_as _ s' (all ++ first) e (rw holds.1 (subst (λ (t : State Written). HoldsAt next.Operand (record t { expected = next.Operand }) first) (sym holds.0) here))
begun_step s s' all token holds e = absurd cc

rule_step : (s s' : State Written) (all : List Token) (token : Token) → HoldsAt next.Rule s all → rule s token ≡ done_with s' → Holds s' (all ++ token ∷ [])
rule_step s s' all (tokens.Word words.When) holds e =
    let when : List Token = tokens.Word words.When ∷ [] in
    let b = holds.1 in
    elim (cases_Bool (ltb (length s.rules) 32)) [
      | inl room ↦
          let taken = rw room at e in
          let x : State Written = record s { expected = next.Operand; part = parts.Left } in
          let now = begun_tokens s.first s.rules ++ conditions_open s.conditions in
          let same : now ≡ all ++ when = ap (λ cs. begun_tokens s.first s.rules ++ conditions_open cs) b.no_conditions ∙ ap (λ t. t ++ when) (sym holds.0) in
          holds_as x s' (all ++ when) taken (
            subst (λ t. Wanting x now t) same (fresh x now b.none_open b.level_is b.none_waits),
            (b.past, ltb-true (length s.rules) 32 room, rw (b.no_conditions) refl, rw (b.no_conditions) (omega arith)),
          )
      | inr full ↦ absurd (let never = rw full at e in cc)
    ]
rule_step s s' all (tokens.Word words.Else) holds e =
    let b = holds.1 in
    holds_as _ s' (all ++ tokens.Word words.Else ∷ []) e
    (ap (λ t. t ++ tokens.Word words.Else ∷ []) holds.0, record { past = b.past; none_open = b.none_open; level_is = b.level_is; none_waits = b.none_waits; no_conditions = b.no_conditions })
rule_step s s' all token holds e = absurd cc

last_word_step : (s s' : State Written) (all : List Token) (token : Token) (kind : Option Kind) → kind_of token ≡ kind → HoldsAt next.Last s all → last s kind ≡ done_with s' → Holds s' (all ++ token ∷ [])
last_word_step s s' all token None named holds e = absurd cc
last_word_step s s' all token (Some kind) named holds e =
    let b = holds.1 in
    let x : State Written = record s { expected = next.Operand; part = parts.Last kind } in
    let now = begun_tokens s.first s.rules ++ (tokens.Word words.Else ∷ tokens.Word (kind_word kind) ∷ []) in
    let same : now ≡ all ++ token ∷ [] = sym (ap (λ t. t ++ token ∷ []) holds.0 ∙ append_assoc (begun_tokens s.first s.rules) (tokens.Word words.Else ∷ []) (token ∷ []) ∙ ap (λ t. begun_tokens s.first s.rules ++ (tokens.Word words.Else ∷ t ∷ [])) (kind_token token kind named)) in
    holds_as x s' (all ++ token ∷ []) e (subst (λ t. Wanting x now t) same (fresh x now b.none_open b.level_is b.none_waits), b.past)

ending_step : (s s' : State Written) (all : List Token) (token : Token) → is_end token ≡ false → ending s token ≡ done_with s' → Holds s' (all ++ token ∷ [])
ending_step s s' all tokens.End more e = absurd cc
ending_step s s' all token more e = absurd cc

-- ---- one token

step_holds : (expected : Expected) (s s' : State Written) (all : List Token) (token : Token) → is_end token ≡ false → HoldsAt expected s all → step_at expected writings s token ≡ done_with s' → Holds s' (all ++ token ∷ [])
step_holds next.First s s' all token more holds e = begun_step s s' all token holds e
step_holds next.Operand s s' all token more holds e = operand_step s s' all token holds e
step_holds (next.Open function) s s' all token more holds e = open_step function s s' all token holds e
step_holds next.Operator s s' all token more holds e = behind_step s s' all token (operator_of token) refl holds e
step_holds next.Rule s s' all token more holds e = rule_step s s' all token holds e
step_holds next.Last s s' all token more holds e = last_word_step s s' all token (kind_of token) refl holds e
step_holds next.End s s' all token more holds e = ending_step s s' all token more e

pub holds_on : (s s' : State Written) (all : List Token) (token : Token) → is_end token ≡ false → Holds s all → step writings s token ≡ done_with s' → Holds s' (all ++ token ∷ [])
holds_on s s' all token more holds e = step_holds s.expected s s' all token more holds e

pub holds_first : Holds (opening writings) []
holds_first = (refl, refl)
