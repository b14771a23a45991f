-- Why a token is refused.
use Rattle.std.proofs.Common.{arith, ◌≡◌, ℕ, ◌+◌, ◌≤◌, Bool, true, false, cond, ltb, List, [], ◌∷◌, length, Option, Some, None, Result, Ok, Err, refl, ap, ◌∙◌, subst, inl, inr}
use Rattle.std.specs.List.{count_by}
use Rattle.std.proofs.lemmas.List.Sums.{sum_by-cons}
use Rattle.std.proofs.lemmas.Bool.{cases_Bool, cases_lt, lt-ltb, le-ltb}
use Rattle.protocol_lang.specs.Tokens.{name_of, call_of, operator_of, comparator_of, kind_of, reads_view}
use Rattle.protocol_lang.specs.Trees.{is_sum}
use Rattle.protocol_lang.specs.Grammar.{Written}
use Rattle.protocol_lang.specs.FirstFaults.{is_when, is_open, is_close, is_semicolon, AsksForView}
use Rattle.protocol_lang.specs.Reading.{State, is_hidden, is_first, opened, word_operand, operand, call_opened, with_infix, closed, first_ended, left_ended, right_ended, action_rule_ended, last_ended, ended, in_outermost, behind, begun, rule, last, ending, step_at, step}
use Rattle.protocol_lang.specs.declared.token.Token.{Token}
use Rattle.protocol_lang.specs.declared.token.Token.TheVariants as tokens
use Rattle.protocol_lang.specs.declared.token.Word.{Word}
use Rattle.protocol_lang.specs.declared.token.Word.TheVariants as words
use Rattle.protocol_lang.specs.declared.token.Symbol.TheVariants as symbols
use Rattle.protocol_lang.specs.declared.state.Expected.{Expected}
use Rattle.protocol_lang.specs.declared.state.Expected.TheVariants as next
use Rattle.protocol_lang.specs.declared.state.Part.{Part}
use Rattle.protocol_lang.specs.declared.state.Part.TheVariants as parts
use Rattle.protocol_lang.specs.declared.state.Opener.{Opener}
use Rattle.protocol_lang.specs.declared.state.Opener.TheVariants as openers
use Rattle.protocol_lang.specs.declared.state.Level.{Level}
use Rattle.protocol_lang.specs.declared.state.Refusal.{Refusal}
use Rattle.protocol_lang.specs.declared.state.Refusal.TheVariants as refusals
use Rattle.protocol_lang.specs.declared.tree.Name.{Name}
use Rattle.protocol_lang.specs.declared.tree.Call.{Call}
use Rattle.protocol_lang.specs.declared.tree.Operator.{Operator}
use Rattle.protocol_lang.specs.declared.tree.Comparator.{Comparator}
use Rattle.protocol_lang.specs.declared.tree.Kind.{Kind}
use Rattle.protocol_lang.proofs.Carrying.{writings}
use Rattle.protocol_lang.proofs.Going.{Goes}
use Rattle.protocol_lang.proofs.Groups.{name_word, call_is}
use Rattle.protocol_lang.proofs.Whens.{begun_rules, Counts, step_counts}

-- ---- open parentheses, and the first expression

-- the first expression hasn't ended
abbrev pub is_early : Expected → Part → Bool
is_early next.Rule part = false
is_early next.Last part = false
is_early next.End part = false
is_early expected part = is_first part

-- where a parenthesis may open but for the depth
abbrev pub TakesOpen : Expected → Type 0
TakesOpen next.Operand = Unit {0}
TakesOpen (next.Open function) = Unit {0}
TakesOpen expected = ⊥

-- One more is open behind `(`, and one less behind `)`; the first expression goes on to its semicolon. A token is refused
-- for the depth where 32 are open, and for the view in the first expression.
abbrev pub Follows : State Written → Token → Result (State Written) Refusal → Type 0
Follows s token (Ok s') =
    (length s'.outer + cond (is_close token) 1 0 ≡ length s.outer + cond (is_open token) 1 0)
    × (is_early s'.expected s'.part ≡ true → (is_early s.expected s.part ≡ true) × (is_semicolon token ≡ false))
Follows s token (Err refusals.TooDeep) = (is_open token ≡ true) × (32 ≤ length s.outer) × TakesOpen s.expected
Follows s token (Err refusals.ViewInFirst) = AsksForView token × (is_early s.expected s.part ≡ true) × (s.expected ≡ next.Operand)
Follows s token (Err refusal) = Unit {0}

begun_follows : (s : State Written) (token : Token) → s.expected ≡ next.First → Follows s token (begun s token)
begun_follows s (tokens.Word words.First) is = rw is (refl, λ early. (early, refl))
begun_follows s token is = tt

opened_follows : (opener : Opener) (s : State Written) → TakesOpen s.expected → is_early s.expected s.part ≡ is_first s.part → Follows s (tokens.Symbol symbols.Open) (opened opener s)
opened_follows opener s takes same = elim (cases_lt (length s.outer) 32) as (λ x. Follows s (tokens.Symbol symbols.Open) (opened opener s)) [
  | inl room ↦ rw (lt-ltb (length s.outer) 32 room) (omega arith, λ early. (same ∙ early, refl))
  | inr full ↦ rw (le-ltb (length s.outer) 32 full) (refl, full, takes)
]

hidden_first : (part : Part) (name : Name) → is_hidden part name ≡ true → (is_first part ≡ true) × (reads_view name ≡ true)
hidden_first parts.First name e = (refl, e)
hidden_first parts.Left name e = absurd cc
hidden_first (parts.Right comparator) name e = absurd cc
hidden_first (parts.ActionRule kind) name e = absurd cc
hidden_first (parts.Last kind) name e = absurd cc

word_follows : (s : State Written) (word : Word) (name : Option Name) (function : Option Call) → s.expected ≡ next.Operand → name_of word ≡ name → call_of word ≡ function → Follows s (tokens.Word word) (word_operand writings s name function)
word_follows s word (Some name) function is named called = elim (cases_Bool (is_hidden s.part name)) as (λ x. Follows s (tokens.Word word) (word_operand writings s (Some name) function)) [
  | inl hidden ↦
      let first = hidden_first s.part name hidden in
      rw (hidden, is) (inl (name, ap tokens.Word (name_word word name named), first.1), first.0, refl)
  | inr seen ↦ rw (seen, is) (refl, λ early. (early, refl))
]
word_follows s word None (Some function) is named called = elim (cases_Bool (is_first s.part)) as (λ x. Follows s (tokens.Word word) (word_operand writings s None (Some function))) [
  | inl first ↦ rw (first, is) (inr (function, ap tokens.Word (call_is word function called)), first, refl)
  | inr later ↦ rw (later, is) (refl, λ early. (early, refl))
]
word_follows s word None None is named called = tt

operand_follows : (s : State Written) (token : Token) → s.expected ≡ next.Operand → Follows s token (operand writings s token)
operand_follows s (tokens.Number number) is = rw is (refl, λ early. (early, refl))
operand_follows s (tokens.Word word) is = word_follows s word (name_of word) (call_of word) is refl refl
operand_follows s (tokens.Symbol symbols.Open) is = opened_follows openers.Group s (rw is tt) (rw is refl)
operand_follows s token is = tt

call_follows : (function : Call) (s : State Written) (token : Token) → s.expected ≡ next.Open function → Follows s token (call_opened function s token)
call_follows function s (tokens.Symbol symbols.Open) is = opened_follows (openers.Call function) s (rw is tt) (rw is refl)
call_follows function s token is = tt

-- a token that is no parenthesis and no semicolon
abbrev IsPlain : Token → Type 0
IsPlain token = (is_close token ≡ false) × (is_open token ≡ false) × (is_semicolon token ≡ false)

operator_plain : (token : Token) (operator : Operator) → operator_of token ≡ Some operator → IsPlain token
operator_plain (tokens.Symbol symbols.Plus) operator e = (refl, refl, refl)
operator_plain (tokens.Symbol symbols.Minus) operator e = (refl, refl, refl)
operator_plain (tokens.Symbol symbols.Times) operator e = (refl, refl, refl)
operator_plain (tokens.Symbol symbols.Divide) operator e = (refl, refl, refl)
operator_plain (tokens.Symbol symbols.Remainder) operator e = (refl, refl, refl)
operator_plain token operator e = absurd cc

comparator_plain : (token : Token) (comparator : Comparator) → comparator_of token ≡ Some comparator → IsPlain token
comparator_plain (tokens.Symbol symbols.Equal) comparator e = (refl, refl, refl)
comparator_plain (tokens.Symbol symbols.NotEqual) comparator e = (refl, refl, refl)
comparator_plain (tokens.Symbol symbols.Less) comparator e = (refl, refl, refl)
comparator_plain (tokens.Symbol symbols.LessOrEqual) comparator e = (refl, refl, refl)
comparator_plain (tokens.Symbol symbols.Greater) comparator e = (refl, refl, refl)
comparator_plain (tokens.Symbol symbols.GreaterOrEqual) comparator e = (refl, refl, refl)
comparator_plain token comparator e = absurd cc

kind_plain : (token : Token) (kind : Kind) → kind_of token ≡ Some kind → IsPlain token
kind_plain (tokens.Word words.Write) kind e = (refl, refl, refl)
kind_plain (tokens.Word words.Decide) kind e = (refl, refl, refl)
kind_plain token kind e = absurd cc

infix_follows : (s : State Written) (token : Token) (operator : Operator) → s.expected ≡ next.Operator → IsPlain token → Follows s token (Ok (with_infix writings operator s))
infix_follows s token operator is plain = elim (cases_Bool (is_sum operator)) as (λ x. Follows s token (Ok (with_infix writings operator s))) [
  | inl sum ↦ rw (sum, is, plain.0, plain.1, plain.2) (refl, λ early. (early, refl))
  | inr product ↦ rw (product, is, plain.0, plain.1, plain.2) (refl, λ early. (early, refl))
]

closed_follows : (s : State Written) (outer : List Level) → s.expected ≡ next.Operator → s.outer ≡ outer → Follows s (tokens.Symbol symbols.Close) (closed writings s outer)
closed_follows s [] is same = tt
closed_follows s (level ∷ outer) is same = rw (is, same) (omega arith, λ early. (early, refl))

never_early : {X : Type 0} → false ≡ true → X
never_early e = absurd cc

left_follows : (s : State Written) (token : Token) (comparator : Option Comparator) → comparator_of token ≡ comparator → Follows s token (left_ended writings s comparator)
left_follows s token (Some comparator) e = let plain = comparator_plain token comparator e in rw (plain.0, plain.1) (refl, λ early. never_early early)
left_follows s token None e = tt

right_follows : (comparator : Comparator) (s : State Written) (token : Token) (kind : Option Kind) → kind_of token ≡ kind → Follows s token (right_ended writings comparator s token kind)
right_follows comparator s token (Some kind) e = let plain = kind_plain token kind e in rw (plain.0, plain.1) (refl, λ early. never_early early)
right_follows comparator s (tokens.Word words.And) None e = elim (cases_Bool (ltb (length s.conditions) 7)) as (λ x. Follows s (tokens.Word words.And) (right_ended writings comparator s (tokens.Word words.And) None)) [
  | inl room ↦ rw room (refl, λ early. never_early early)
  | inr full ↦ rw full tt
]
right_follows comparator s token None e = tt

first_follows : (s : State Written) (token : Token) → Follows s token (first_ended writings s token)
first_follows s (tokens.Symbol symbols.Semicolon) = (refl, λ early. never_early early)
first_follows s token = tt

action_follows : (kind : Kind) (s : State Written) (token : Token) → Follows s token (action_rule_ended writings kind s token)
action_follows kind s (tokens.Symbol symbols.Semicolon) = (refl, λ early. never_early early)
action_follows kind s token = tt

last_follows : (s : State Written) (token : Token) → Follows s token (last_ended s token)
last_follows s (tokens.Symbol symbols.Semicolon) = (refl, λ early. never_early early)
last_follows s token = tt

ended_follows : (part : Part) (s : State Written) (token : Token) → Follows s token (ended writings part s token)
ended_follows parts.First s token = first_follows s token
ended_follows parts.Left s token = left_follows s token (comparator_of token) refl
ended_follows (parts.Right comparator) s token = right_follows comparator s token (kind_of token) refl
ended_follows (parts.ActionRule kind) s token = action_follows kind s token
ended_follows (parts.Last kind) s token = last_follows s token

outermost_follows : (s : State Written) (outer : List Level) (token : Token) → Follows s token (in_outermost writings s outer token)
outermost_follows s [] token = ended_follows s.part s token
outermost_follows s (level ∷ outer) token = tt

behind_follows : (s : State Written) (token : Token) (operator : Option Operator) → s.expected ≡ next.Operator → operator_of token ≡ operator → Follows s token (behind writings s token operator)
behind_follows s token (Some operator) is e = infix_follows s token operator is (operator_plain token operator e)
behind_follows s (tokens.Symbol symbols.Close) None is e = closed_follows s s.outer is refl
behind_follows s token None is e = outermost_follows s s.outer token

rule_follows : (s : State Written) (token : Token) → Follows s token (rule s token)
rule_follows s (tokens.Word words.When) = elim (cases_Bool (ltb (length s.rules) 32)) as (λ x. Follows s (tokens.Word words.When) (rule s (tokens.Word words.When))) [
  | inl room ↦ rw room (refl, λ early. never_early early)
  | inr full ↦ rw full tt
]
rule_follows s (tokens.Word words.Else) = (refl, λ early. never_early early)
rule_follows s token = tt

kind_follows : (s : State Written) (token : Token) (kind : Option Kind) → kind_of token ≡ kind → Follows s token (last s kind)
kind_follows s token (Some kind) e = let plain = kind_plain token kind e in rw (plain.0, plain.1) (refl, λ early. never_early early)
kind_follows s token None e = tt

ending_follows : (s : State Written) (token : Token) → s.expected ≡ next.End → Follows s token (ending s token)
ending_follows s tokens.End is = rw is (refl, λ early. never_early early)
ending_follows s token is = tt

follows_at : (expected : Expected) (s : State Written) (token : Token) → s.expected ≡ expected → Follows s token (step_at expected writings s token)
follows_at next.First s token is = begun_follows s token is
follows_at next.Operand s token is = operand_follows s token is
follows_at (next.Open function) s token is = call_follows function s token is
follows_at next.Operator s token is = behind_follows s token (operator_of token) is refl
follows_at next.Rule s token is = rule_follows s token
follows_at next.Last s token is = kind_follows s token (kind_of token) refl
follows_at next.End s token is = ending_follows s token is

pub follows : (s : State Written) (token : Token) → Follows s token (step writings s token)
follows s token = follows_at s.expected s token refl

-- ---- over many tokens

-- how many parentheses are open, whether the first expression has ended, and how many rules were begun
pub record Counted (s e : State Written) (rest : List Token) : Type 0 where
  pub opens : length s.outer + count_by is_open rest ≡ count_by is_close rest + length e.outer
  pub early : is_early e.expected e.part ≡ true → (is_early s.expected s.part ≡ true) × (count_by is_semicolon rest ≡ 0)
  pub rules : begun_rules e ≡ begun_rules s + count_by is_when rest
  pub most : begun_rules s ≤ 32 → begun_rules e ≤ 32

abbrev one_if : Bool → ℕ
one_if test = cond test 1 0

pub counted : (rest : List Token) (s e : State Written) → Goes writings s rest e → Counted s e rest
counted [] s e goes = subst (λ (u : State Written). Counted s u []) goes (record { opens = omega arith; early = λ early. (early, refl); rules = omega arith; most = λ few. few })
counted (token ∷ rest) s e goes =
    let m = goes.0 in
    let one : Follows s token (Ok m) = subst (Follows s token) goes.1 (follows s token) in
    let whens : Counts s token (Ok m) = subst (Counts s token) goes.1 (step_counts writings s token) in
    let more = counted rest m e goes.2 in
    let opens = sum_by-cons (λ token. cond (is_open token) 1 0) token rest in
    let closes = sum_by-cons (λ token. cond (is_close token) 1 0) token rest in
    let semicolons = sum_by-cons (λ token. cond (is_semicolon token) 1 0) token rest in
    let rules = sum_by-cons (λ token. cond (is_when token) 1 0) token rest in
    record {
      opens = omega (arith, one.0, more.opens, opens, closes);
      early = λ early.
          let later = more.early early in
          let here = one.1 later.0 in
          let none : one_if (is_semicolon token) ≡ 0 = rw here.1 refl in
          (here.0, omega (arith, semicolons, none, later.1));
      rules = omega (arith, whens.0, more.rules, rules);
      most = λ few. more.most (whens.1 few);
    }
