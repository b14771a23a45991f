-- The 33rd `when` of a text, which is the fault TooManyRules.
use Rattle.std.proofs.Common.{arith, ◌≡◌, ℕ, zero, suc, ◌+◌, ◌<◌, ◌≤◌, Bool, true, false, cond, ltb, List, [], ◌∷◌, length, drop, length-append, Option, Some, None, Result, Ok, Err, refl, sym, ap, ◌∙◌, subst, inl, inr}
use Rattle.std.specs.Prelude.{IfErr}
use Rattle.std.specs.List.{count_by}
use Rattle.std.proofs.lemmas.List.Sums.{sum_by-cons}
use Rattle.std.proofs.lemmas.Bool.{cases_Bool, cases_lt, lt-ltb, le-ltb, ltb-false}
use Rattle.protocol_lang.specs.Tokens.{name_of, call_of, operator_of, comparator_of, kind_of, is_end}
use Rattle.protocol_lang.specs.Trees.{is_sum, RuleOf, Tree}
use Rattle.protocol_lang.specs.Formulas.{Operands, trees}
use Rattle.protocol_lang.specs.Results.{◌>>=◌}
use Rattle.protocol_lang.specs.Reading.{extent_of, past_blanks, next_token, State, opening, is_hidden, is_first, opened, word_operand, operand, call_opened, with_infix, closed, first_ended, left_ended, right_ended, action_rule_ended, last_ended, ended, in_outermost, behind, begun, rule, last, step_at, step, fault_at, refused_at, one_token, onward, run, most_tokens, tree_read, reading, IsReading}
use Rattle.protocol_lang.specs.FirstFaults.{place_of, AreTokens, is_when, IsLocal}
use Rattle.protocol_lang.specs.declared.fault.ParseFault.{ParseFault}
use Rattle.protocol_lang.specs.declared.fault.ParseFault.TheVariants.{TooLong, BadToken, Unexpected, TooDeep, TooManyRules, ViewInFirst, NumberTooLarge, OutOfMemory}
use Rattle.protocol_lang.specs.declared.state.Refusal.{Refusal}
use Rattle.protocol_lang.specs.declared.state.Refusal.TheVariants as refusals
use Rattle.protocol_lang.specs.declared.state.Expected.{Expected}
use Rattle.protocol_lang.specs.declared.state.Expected.TheVariants as next
use Rattle.protocol_lang.specs.declared.state.Part.{Part}
use Rattle.protocol_lang.specs.declared.state.Part.TheVariants as parts
use Rattle.protocol_lang.specs.declared.state.Opener.{Opener}
use Rattle.protocol_lang.specs.declared.state.Opener.TheVariants as openers
use Rattle.protocol_lang.specs.declared.state.Level.{Level}
use Rattle.protocol_lang.specs.declared.token.Word.TheVariants as words
use Rattle.protocol_lang.specs.declared.token.Symbol.TheVariants as symbols
use Rattle.protocol_lang.specs.declared.token.Token.{Token}
use Rattle.protocol_lang.specs.declared.token.Token.TheVariants as tokens
use Rattle.protocol_lang.specs.declared.lexer.Placed.{Placed}
use Rattle.protocol_lang.specs.declared.tree.Name.{Name}
use Rattle.protocol_lang.specs.declared.tree.Call.{Call}
use Rattle.protocol_lang.specs.declared.tree.Operator.{Operator}
use Rattle.protocol_lang.specs.declared.tree.Comparator.{Comparator}
use Rattle.protocol_lang.specs.declared.tree.Kind.{Kind}
use Rattle.protocol_lang.proofs.Steps.{token_reads}
use Rattle.protocol_lang.proofs.Going.{Took, took}
use Rattle.protocol_lang.proofs.Onward.{reading_by}
use Rattle.protocol_lang.proofs.Locality.{bind_err, next_fault, token_values, token_onward, here_same, one_same, one_is, run_is, run_none, SameUpTo, behind_token, run_whole, whole_same, fault_place}

-- ---- how many rules were begun

abbrev in_rule : Part → ℕ
in_rule parts.First = 0
in_rule parts.Left = 1
in_rule (parts.Right comparator) = 1
in_rule (parts.ActionRule kind) = 1
in_rule (parts.Last kind) = 0

abbrev open_rules : Expected → Part → ℕ
open_rules next.First part = in_rule part
open_rules next.Operand part = in_rule part
open_rules (next.Open function) part = in_rule part
open_rules next.Operator part = in_rule part
open_rules next.Rule part = 0
open_rules next.Last part = 0
open_rules next.End part = 0

when_token : (token : Token) → is_when token ≡ true → token ≡ tokens.Word words.When
when_token (tokens.Word words.When) e = refl
when_token token e = absurd cc

too_many_at : (at : ℕ) (refusal : Refusal) → fault_at at refusal ≡ TooManyRules → refusal ≡ refusals.TooManyRules
too_many_at at refusals.TooManyRules e = refl
too_many_at at refusals.Unexpected e = absurd cc
too_many_at at refusals.TooDeep e = absurd cc
too_many_at at refusals.ViewInFirst e = absurd cc
too_many_at at refusals.OutOfMemory e = absurd cc

end_place : (test : Bool) (x end : ℕ) → cond test None (Some x) ≡ Some end → x ≡ end
end_place true x end e = absurd cc
end_place false x end e = cc

module _ {A : Type 0} where
  abbrev pub begun_rules : State A → ℕ
  begun_rules s = length s.rules + open_rules s.expected s.part

  abbrev done_with : State A → Result (State A) Refusal
  done_with s = Ok s

  abbrev refused_with : Refusal → Result (State A) Refusal
  refused_with refusal = Err refusal

  never : (refusal : Refusal) (s : State A) {X : Type 0} → refused_with refusal ≡ done_with s → X
  never refusal s e = absurd cc

  -- a step leads to this many rules that were begun, or it refuses the token for another reason than too many of them
  abbrev Keeps : Result (State A) Refusal → ℕ → Type 0
  Keeps (Ok s) n = begun_rules s ≡ n
  Keeps (Err refusals.TooManyRules) n = ⊥
  Keeps (Err refusal) n = Unit {0}

  opened_keeps : (opener : Opener) (s : State A) → Keeps (opened opener s) (length s.rules + in_rule s.part)
  opened_keeps opener s = elim (cases_Bool (ltb (length s.outer) 32)) as (λ x. Keeps (opened opener s) (length s.rules + in_rule s.part)) [ inl room ↦ rw room refl | inr full ↦ rw full tt ]

  word_keeps : (made : Operands A) (s : State A) (name : Option Name) (function : Option Call) → Keeps (word_operand made s name function) (length s.rules + in_rule s.part)
  word_keeps made s (Some name) function = elim (cases_Bool (is_hidden s.part name)) as (λ x. Keeps (word_operand made s (Some name) function) (length s.rules + in_rule s.part)) [ inl hidden ↦ rw hidden tt | inr seen ↦ rw seen refl ]
  word_keeps made s None (Some function) = elim (cases_Bool (is_first s.part)) as (λ x. Keeps (word_operand made s None (Some function)) (length s.rules + in_rule s.part)) [ inl first ↦ rw first tt | inr later ↦ rw later refl ]
  word_keeps made s None None = tt

  operand_keeps : (made : Operands A) (s : State A) (token : Token) → Keeps (operand made s token) (length s.rules + in_rule s.part)
  operand_keeps made s (tokens.Number number) = refl
  operand_keeps made s (tokens.Word word) = word_keeps made s (name_of word) (call_of word)
  operand_keeps made s (tokens.Symbol symbols.Open) = opened_keeps openers.Group s
  operand_keeps made s token = tt

  call_keeps : (function : Call) (s : State A) (token : Token) → Keeps (call_opened function s token) (length s.rules + in_rule s.part)
  call_keeps function s (tokens.Symbol symbols.Open) = opened_keeps (openers.Call function) s
  call_keeps function s token = tt

  right_keeps : (made : Operands A) (comparator : Comparator) (s : State A) (token : Token) (kind : Option Kind) → Keeps (right_ended made comparator s token kind) (length s.rules + 1)
  right_keeps made comparator s token (Some kind) = refl
  right_keeps made comparator s (tokens.Word words.And) None =
      elim (cases_Bool (ltb (length s.conditions) 7)) as (λ x. Keeps (right_ended made comparator s (tokens.Word words.And) None) (length s.rules + 1)) [ inl room ↦ rw room refl | inr full ↦ rw full tt ]
  right_keeps made comparator s token None = tt

  left_keeps : (made : Operands A) (s : State A) (comparator : Option Comparator) → Keeps (left_ended made s comparator) (length s.rules + 1)
  left_keeps made s (Some comparator) = refl
  left_keeps made s None = tt

  first_keeps : (made : Operands A) (s : State A) (token : Token) → Keeps (first_ended made s token) (length s.rules + 0)
  first_keeps made s (tokens.Symbol symbols.Semicolon) = refl
  first_keeps made s token = tt

  action_rule_keeps : (made : Operands A) (kind : Kind) (s : State A) (token : Token) → Keeps (action_rule_ended made kind s token) (length s.rules + 1)
  action_rule_keeps made kind s (tokens.Symbol symbols.Semicolon) = omega (arith, length-append {A = RuleOf A})
  action_rule_keeps made kind s token = tt

  last_keeps : (s : State A) (token : Token) → Keeps (last_ended s token) (length s.rules + 0)
  last_keeps s (tokens.Symbol symbols.Semicolon) = refl
  last_keeps s token = tt

  ended_keeps : (made : Operands A) (part : Part) (s : State A) (token : Token) → Keeps (ended made part s token) (length s.rules + in_rule part)
  ended_keeps made parts.First s token = first_keeps made s token
  ended_keeps made parts.Left s token = left_keeps made s (comparator_of token)
  ended_keeps made (parts.Right comparator) s token = right_keeps made comparator s token (kind_of token)
  ended_keeps made (parts.ActionRule kind) s token = action_rule_keeps made kind s token
  ended_keeps made (parts.Last kind) s token = last_keeps s token

  outermost_keeps : (made : Operands A) (s : State A) (outer : List Level) (token : Token) → Keeps (in_outermost made s outer token) (length s.rules + in_rule s.part)
  outermost_keeps made s [] token = ended_keeps made s.part s token
  outermost_keeps made s (level ∷ outer) token = tt

  closed_keeps : (made : Operands A) (s : State A) (outer : List Level) → Keeps (closed made s outer) (length s.rules + in_rule s.part)
  closed_keeps made s [] = tt
  closed_keeps made s (level ∷ outer) = refl

  infix_keeps : (made : Operands A) (operator : Operator) (s : State A) → begun_rules (with_infix made operator s) ≡ length s.rules + in_rule s.part
  infix_keeps made operator s = elim (cases_Bool (is_sum operator)) as (λ x. begun_rules (with_infix made operator s) ≡ length s.rules + in_rule s.part) [ inl sum ↦ rw sum refl | inr product ↦ rw product refl ]

  behind_keeps : (made : Operands A) (s : State A) (token : Token) (operator : Option Operator) → Keeps (behind made s token operator) (length s.rules + in_rule s.part)
  behind_keeps made s token (Some operator) = infix_keeps made operator s
  behind_keeps made s (tokens.Symbol symbols.Close) None = closed_keeps made s s.outer
  behind_keeps made s token None = outermost_keeps made s s.outer token

  begun_keeps : (s : State A) (token : Token) → Keeps (begun s token) (length s.rules + in_rule s.part)
  begun_keeps s (tokens.Word words.First) = refl
  begun_keeps s token = tt

  kind_keeps : (s : State A) (kind : Option Kind) → Keeps (last s kind) (length s.rules + 0)
  kind_keeps s (Some kind) = refl
  kind_keeps s None = tt

  -- ---- a rule is begun by `when` alone

  -- one more rule was begun where the token is `when`, and never more than 32; the 33rd is refused
  abbrev pub Counts : State A → Token → Result (State A) Refusal → Type 0
  Counts s token (Ok s') = (begun_rules s' ≡ begun_rules s + cond (is_when token) 1 0) × (begun_rules s ≤ 32 → begun_rules s' ≤ 32)
  Counts s token (Err refusals.TooManyRules) = (is_when token ≡ true) × (32 ≤ begun_rules s)
  Counts s token (Err refusal) = Unit {0}

  counts_of : (s : State A) (token : Token) (r : Result (State A) Refusal) (n : ℕ) → n ≡ begun_rules s → Keeps r n → (is_when token ≡ true → r ≡ refused_with refusals.Unexpected) → Counts s token r
  counts_of s token (Ok s') n is keeps other =
      elim (cases_Bool (is_when token)) [ inl when ↦ never refusals.Unexpected s' (sym (other when)) | inr other_token ↦ rw other_token (omega (arith, keeps, is), λ few. omega (arith, keeps, is, few)) ]
  counts_of s token (Err refusals.TooManyRules) n is keeps other = absurd keeps
  counts_of s token (Err refusals.Unexpected) n is keeps other = tt
  counts_of s token (Err refusals.TooDeep) n is keeps other = tt
  counts_of s token (Err refusals.ViewInFirst) n is keeps other = tt
  counts_of s token (Err refusals.OutOfMemory) n is keeps other = tt

  when_at_end : (made : Operands A) (part : Part) (s : State A) → ended made part s (tokens.Word words.When) ≡ refused_with refusals.Unexpected
  when_at_end made parts.First s = refl
  when_at_end made parts.Left s = refl
  when_at_end made (parts.Right comparator) s = refl
  when_at_end made (parts.ActionRule kind) s = refl
  when_at_end made (parts.Last kind) s = refl

  when_behind : (made : Operands A) (s : State A) (outer : List Level) → in_outermost made s outer (tokens.Word words.When) ≡ refused_with refusals.Unexpected
  when_behind made s [] = when_at_end made s.part s
  when_behind made s (level ∷ outer) = refl

  rule_counts : (s : State A) (token : Token) → begun_rules s ≡ length s.rules → Counts s token (rule s token)
  rule_counts s (tokens.Word words.When) is =
      elim (cases_lt (length s.rules) 32) as (λ x. Counts s (tokens.Word words.When) (rule s (tokens.Word words.When))) [
        | inl room ↦ rw (lt-ltb (length s.rules) 32 room) (omega (arith, is), λ few. omega (arith, room))
        | inr full ↦ rw (le-ltb (length s.rules) 32 full) (refl, omega (arith, full, is))
      ]
  rule_counts s (tokens.Word words.Else) is = (omega (arith, is), λ few. omega (arith, is, few))
  rule_counts s token is = tt

  counts_at : (made : Operands A) (expected : Expected) (s : State A) (token : Token) → s.expected ≡ expected → Counts s token (step_at expected made s token)
  counts_at made next.First s token is = counts_of s token (begun s token) _ (rw is refl) (begun_keeps s token) (λ when. rw (when_token token when) refl)
  counts_at made next.Operand s token is = counts_of s token (operand made s token) _ (rw is refl) (operand_keeps made s token) (λ when. rw (when_token token when) refl)
  counts_at made (next.Open function) s token is = counts_of s token (call_opened function s token) _ (rw is refl) (call_keeps function s token) (λ when. rw (when_token token when) refl)
  counts_at made next.Operator s token is = counts_of s token (behind made s token (operator_of token)) _ (rw is refl) (behind_keeps made s token (operator_of token)) (λ when. rw (when_token token when) (when_behind made s s.outer))
  counts_at made next.Rule s token is = rule_counts s token (rw is (omega arith))
  counts_at made next.Last s token is = counts_of s token (last s (kind_of token)) _ (rw is refl) (kind_keeps s (kind_of token)) (λ when. rw (when_token token when) refl)
  counts_at made next.End s tokens.End is = (omega arith, λ few. few)
  counts_at made next.End s (tokens.Word word) is = tt
  counts_at made next.End s (tokens.Number number) is = tt
  counts_at made next.End s (tokens.Symbol symbol) is = tt

  pub step_counts : (made : Operands A) (s : State A) (token : Token) → Counts s token (step made s token)
  step_counts made s token = counts_at made s.expected s token refl

  -- ---- the place

  pub record TooMany (made : Operands A) (most : ℕ) (text : List ℕ) (from : ℕ) (s : State A) : Type 0 where
    pub at : ℕ
    pub before : List Token
    pub stop : ℕ
    pub tokens_are : AreTokens text from before stop
    pub count : begun_rules s + count_by is_when before ≡ 32
    pub read : Placed
    pub token : next_token text stop ≡ Ok read
    pub when : is_when read.token ≡ true
    pub place : read.at ≡ at
    pub behind : from ≤ at
    pub rests : (other : List ℕ) → SameUpTo text other at → run made most other from s ≡ Err TooManyRules

  stepped_too_many : (at : ℕ) (r : Result (State A) Refusal) → refused_at at r ≡ Err TooManyRules → r ≡ refused_with refusals.TooManyRules
  stepped_too_many at (Ok s) e = absurd cc
  stepped_too_many at (Err refusal) e = ap refused_with (too_many_at at refusal (let same : fault_at at refusal ≡ TooManyRules = cc in same))

  here : (made : Operands A) (most : ℕ) (text : List ℕ) (from : ℕ) (s : State A) (read : Placed) → begun_rules s ≤ 32 → next_token text from ≡ Ok read → step made s read.token ≡ refused_with refusals.TooManyRules → one_token made text from s ≡ Err TooManyRules
      → TooMany made (suc most) text from s
  here made most text from s read few token refused failed =
      let reads = token_reads text from read token in
      let counts : Counts s read.token (refused_with refusals.TooManyRules) = subst (Counts s read.token) refused (step_counts made s read.token) in record {
        at = past_blanks text from;
        before = [];
        stop = from;
        tokens_are = refl;
        count = omega (arith, few, counts.1);
        read = read;
        token = token;
        when = counts.0;
        place = reads.place;
        behind = omega arith;
        rests = λ other same. run_is made most other from s ∙ ap (λ r. r >>= onward (run made most other)) (one_same made text other from s (here_same text other from same) ∙ failed);
      }

  further : (made : Operands A) (most : ℕ) (text : List ℕ) (from : ℕ) (s s' : State A) (end : ℕ) (one : Took made text from s s' (Some end)) → one.read.end ≡ end → one_token made text from s ≡ Ok (s', Some end) → TooMany made most text end s' → TooMany made (suc most) text from s
  further made most text from s s' end one ends taken rest =
      let counts : Counts s one.read.token (done_with s') = subst (Counts s one.read.token) one.after (step_counts made s one.read.token) in
      let onward_from = token_onward text from one.read one.token in record {
        at = rest.at;
        before = one.read.token ∷ rest.before;
        stop = rest.stop;
        tokens_are = (one.read, one.token, refl, subst (λ e. AreTokens text e rest.before rest.stop) (sym ends) rest.tokens_are);
        count = omega (arith, counts.0, sum_by-cons (λ token. cond (is_when token) 1 0) one.read.token rest.before, rest.count);
        read = rest.read;
        token = rest.token;
        when = rest.when;
        place = rest.place;
        behind = omega (arith, onward_from, ends, rest.behind);
        rests = λ other same.
            let within : one.read.end < rest.at + _ = omega (arith, ends, rest.behind, same.some) in
            let alike = token_values text other from _ one.read one.token within same.bytes in
            run_is made most other from s ∙ ap (λ r. r >>= onward (run made most other)) (one_same made text other from s alike ∙ taken) ∙ rest.rests other same;
      }

  go_on : (made : Operands A) (most : ℕ) (text : List ℕ) (from : ℕ) (s s' : State A) (end : Option ℕ) → begun_rules s ≤ 32 → ((next : ℕ) → begun_rules s' ≤ 32 → run made most text next s' ≡ Err TooManyRules → TooMany made most text next s')
      → one_token made text from s ≡ Ok (s', end) → onward (run made most text) (s', end) ≡ Err TooManyRules → TooMany made (suc most) text from s
  go_on made most text from s s' None few again taken e = absurd cc
  go_on made most text from s s' (Some end) few again taken e =
      let one = took made text from s s' (Some end) taken in
      let counts : Counts s one.read.token (done_with s') = subst (Counts s one.read.token) one.after (step_counts made s one.read.token) in
      further made most text from s s' end one (end_place (is_end one.read.token) one.read.end end one.place) taken (again end (counts.1 few) e)

  too_many : (made : Operands A) (most : ℕ) (text : List ℕ) (from : ℕ) (s : State A) → begun_rules s ≤ 32 → run made most text from s ≡ Err TooManyRules → TooMany made most text from s
  too_many made zero text from s few e = absurd (let other = sym (run_none made text from s) ∙ e in cc)
  too_many made (suc most) text from s few e =
      elim (bind_err (one_token made text from s) (onward (run made most text)) TooManyRules (sym (run_is made most text from s) ∙ e)) [
        | inl failed ↦ elim (bind_err (next_token text from) (behind_token made s) TooManyRules (sym (one_is made text from s) ∙ failed)) [
          | inl own ↦ absurd (let placed : place_of TooManyRules ≡ Some (past_blanks text from) = next_fault text from TooManyRules own in cc)
          | inr read ↦ elim (bind_err (refused_at read.0.at (step made s read.0.token)) (λ s'. Ok (s', cond (is_end read.0.token) None (Some read.0.end))) TooManyRules read.2) [
            | inl refused ↦ here made most text from s read.0 few read.1 (stepped_too_many read.0.at (step made s read.0.token) refused) failed
            | inr other ↦ absurd (let e = other.2 in cc)
          ]
        ]
        | inr taken ↦ go_on made most text from s taken.0.0 taken.0.1 few (λ next few' then. too_many made most text next taken.0.0 few' then) taken.1 taken.2
      ]

-- ---- whole texts

rule_fault : (text : List ℕ) → reading text ≡ Err TooManyRules → length text ≤ 4096 → IsLocal text TooManyRules
rule_fault text e short =
    elim (bind_err (run_whole text) (λ s. Ok (tree_read trees s)) TooManyRules (sym (reading_by text short (run_whole text) refl) ∙ e)) [
      | inl failed ↦
          let found = too_many trees most_tokens text 0 (opening trees) (omega arith) failed in (
            found.at,
            record { before = found.before; from = found.stop; tokens = found.tokens_are; rules = omega (arith, found.count); read = found.read; token = found.token; when = found.when; place = found.place },
            λ other same. reading_by other same.short (Err TooManyRules)
                (elim (cases_lt 0 (extent_of (drop found.at text))) as (λ x. run_whole other ≡ Err TooManyRules) [
                  | inl some ↦ found.rests other (record { some = some; bytes = same.bytes; token_end = same.token_end })
                  | inr none ↦ ap run_whole (whole_same text other found.at same (omega arith)) ∙ failed
                ]),
          )
      | inr other ↦ absurd (let e = other.2 in cc)
    ]

pub text_short : (text : List ℕ) (fault : ParseFault) → reading text ≡ Err fault → (fault ≡ TooLong → ⊥) → length text ≤ 4096
unfolding reading
text_short text fault e other =
    elim (cases_Bool (ltb 4096 (length text))) [
      | inl long ↦ let refusal = rw long at e in absurd (other (let same : TooLong ≡ fault = cc in sym same))
      | inr short ↦ ltb-false 4096 (length text) short
    ]

pub local : (text : List ℕ) (read : Result Tree ParseFault) → IsReading text read → IfErr read (IsLocal text)
local text (Ok tree) e = tt
local text (Err OutOfMemory) e = tt
local text (Err TooLong) e = tt
local text (Err TooManyRules) e = rule_fault text e (text_short text TooManyRules e (λ same. absurd cc))
local text (Err (BadToken at)) e = fault_place text (BadToken at) (Some at) e refl (text_short text (BadToken at) e (λ same. absurd cc))
local text (Err (Unexpected at)) e = fault_place text (Unexpected at) (Some at) e refl (text_short text (Unexpected at) e (λ same. absurd cc))
local text (Err (TooDeep at)) e = fault_place text (TooDeep at) (Some at) e refl (text_short text (TooDeep at) e (λ same. absurd cc))
local text (Err (ViewInFirst at)) e = fault_place text (ViewInFirst at) (Some at) e refl (text_short text (ViewInFirst at) e (λ same. absurd cc))
local text (Err (NumberTooLarge at)) e = fault_place text (NumberTooLarge at) (Some at) e refl (text_short text (NumberTooLarge at) e (λ same. absurd cc))
