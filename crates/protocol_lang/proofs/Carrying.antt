-- Reading that keeps the parentheses goes along with reading that drops them.
use Rattle.std.proofs.Common.{◌≡◌, ltb, List, [], ◌∷◌, ◌++◌, length, map, Option, Some, None, Result, Ok, Err, refl, ap, ◌∙◌, inl, inr}
use Rattle.std.proofs.lemmas.Bool.{cases_Bool}
use Rattle.std.proofs.lemmas.List.{length-map, map-append}
use Rattle.protocol_lang.specs.Tokens.{name_of, call_of, operator_of, comparator_of, kind_of}
use Rattle.protocol_lang.specs.Trees.{Expression, is_sum}
use Rattle.protocol_lang.specs.Formulas.{Operands, trees, after, last_of}
use Rattle.protocol_lang.specs.Grammar as grammar
use Rattle.protocol_lang.specs.Grammar.{Written, expression_of, comparison_of, action_rule_of, rule_of, tree_of}
use Rattle.protocol_lang.specs.Reading.{State, outermost, opening, with_waiting, behind_operand, with_operand, is_hidden, is_first, opened, word_operand, operand, call_opened, with_infix, enclosed, closed, value_read, first_ended, left_ended, compared_with, right_ended, action_rule_ended, last_ended, ended, in_outermost, behind, begun, rule, last, ending, step_at, step, last_kind, tree_read}
use Rattle.protocol_lang.specs.declared.token.Token.{Token}
use Rattle.protocol_lang.specs.declared.token.Token.TheVariants as tokens
use Rattle.protocol_lang.specs.declared.token.Word.TheVariants as words
use Rattle.protocol_lang.specs.declared.token.Symbol.TheVariants as symbols
use Rattle.protocol_lang.specs.declared.state.Expected.{Expected}
use Rattle.protocol_lang.specs.declared.state.Expected.TheVariants as next
use Rattle.protocol_lang.specs.declared.state.Part.{Part}
use Rattle.protocol_lang.specs.declared.state.Part.TheVariants as parts
use Rattle.protocol_lang.specs.declared.state.Opener.{Opener}
use Rattle.protocol_lang.specs.declared.state.Opener.TheVariants as openers
use Rattle.protocol_lang.specs.declared.state.Level.{Level}
use Rattle.protocol_lang.specs.declared.state.Refusal.{Refusal}
use Rattle.protocol_lang.specs.declared.draft.Instruction.{Instruction}
use Rattle.protocol_lang.specs.declared.draft.Instruction.TheVariants as instructions
use Rattle.protocol_lang.specs.declared.tree.Name.{Name}
use Rattle.protocol_lang.specs.declared.tree.Call.{Call}
use Rattle.protocol_lang.specs.declared.tree.Operator.{Operator}
use Rattle.protocol_lang.specs.declared.tree.Comparator.{Comparator}
use Rattle.protocol_lang.specs.declared.tree.Kind.{Kind}
use Rattle.protocol_lang.proofs.Making.{Carries, pushed_map, with_operator_map, after_map, last_map}

-- an expression as it is written
abbrev pub writings : Operands Written
writings = record { number = grammar.Number; named = grammar.Named; calling = grammar.Calling; operating = grammar.Operating; group = grammar.Group }

pub carries_tree : Carries writings trees expression_of
carries_tree = record { number = λ value. refl; named = λ name. refl; calling = λ function x. refl; operating = λ operator x y. refl; group = λ x. refl }

-- the same place without the parentheses
abbrev pub state_of : State Written → State Expression
state_of s = record {
  expected = s.expected;
  part = s.part;
  level = s.level;
  outer = s.outer;
  stack = map expression_of s.stack;
  left = expression_of s.left;
  conditions = map comparison_of s.conditions;
  rules = map rule_of s.rules;
  first = expression_of s.first;
}

abbrev pub ends_of : Result (State Written) Refusal → Result (State Expression) Refusal
ends_of (Ok s) = Ok (state_of s)
ends_of (Err refusal) = Err refusal

waiting_of : (waits : Option Operator) (stack : List Written) → map expression_of (with_waiting writings waits stack) ≡ with_waiting trees waits (map expression_of stack)
waiting_of None stack = refl
waiting_of (Some operator) stack = with_operator_map writings trees expression_of carries_tree operator stack

value_of : (s : State Written) → expression_of (value_read writings s) ≡ value_read trees (state_of s)
value_of s = last_map writings trees expression_of carries_tree (with_waiting writings s.level.sum s.stack) ∙ ap (last_of trees) (waiting_of s.level.sum s.stack)

behind_of : (s : State Written) → state_of (behind_operand writings s) ≡ behind_operand trees (state_of s)
behind_of s = ap (λ stack. record (state_of s) { expected = next.Operator; level = record s.level { product = None }; stack = stack }) (waiting_of s.level.product s.stack)

operand_of : (instruction : Instruction) (s : State Written) → state_of (with_operand writings instruction s) ≡ with_operand trees instruction (state_of s)
operand_of instruction s =
    behind_of (record s { stack = after writings s.stack instruction })
    ∙ ap (λ stack. behind_operand trees (record (state_of s) { stack = stack })) (after_map writings trees expression_of carries_tree s.stack instruction)

opened_of : (opener : Opener) (s : State Written) → ends_of (opened opener s) ≡ opened opener (state_of s)
opened_of opener s = elim (cases_Bool (ltb (length s.outer) 32)) [ inl room ↦ rw room refl | inr full ↦ rw full refl ]

word_of : (s : State Written) (name : Option Name) (function : Option Call) → ends_of (word_operand writings s name function) ≡ word_operand trees (state_of s) name function
word_of s (Some name) function = elim (cases_Bool (is_hidden s.part name)) [ inl hidden ↦ rw hidden refl | inr seen ↦ rw seen (ap Ok (operand_of (instructions.Name name) s)) ]
word_of s None (Some function) = elim (cases_Bool (is_first s.part)) [ inl first ↦ rw first refl | inr later ↦ rw later refl ]
word_of s None None = refl

operands_of : (s : State Written) (token : Token) → ends_of (operand writings s token) ≡ operand trees (state_of s) token
operands_of s (tokens.Number number) = ap Ok (operand_of (instructions.Number number) s)
operands_of s (tokens.Word word) = word_of s (name_of word) (call_of word)
operands_of s (tokens.Symbol symbols.Open) = opened_of openers.Group s
operands_of s (tokens.Symbol symbol) = refl
operands_of s tokens.End = refl

call_opened_of : (function : Call) (s : State Written) (token : Token) → ends_of (call_opened function s token) ≡ call_opened function (state_of s) token
call_opened_of function s (tokens.Symbol symbols.Open) = opened_of (openers.Call function) s
call_opened_of function s token = refl

enclosed_of : (opener : Opener) (stack : List Written) → map expression_of (enclosed writings opener stack) ≡ enclosed trees opener (map expression_of stack)
enclosed_of opener [] = refl
enclosed_of openers.Group (x ∷ stack) = refl
enclosed_of (openers.Call function) (x ∷ stack) = pushed_map expression_of 67 (grammar.Calling function x) stack

closed_of : (s : State Written) (outer : List Level) → ends_of (closed writings s outer) ≡ closed trees (state_of s) outer
closed_of s [] = refl
closed_of s (level ∷ outer) =
    let inner = enclosed writings s.level.opener (with_waiting writings s.level.sum s.stack) in
    let same : map expression_of inner ≡ enclosed trees s.level.opener (with_waiting trees s.level.sum (map expression_of s.stack)) =
    enclosed_of s.level.opener (with_waiting writings s.level.sum s.stack) ∙ ap (enclosed trees s.level.opener) (waiting_of s.level.sum s.stack) in
    ap Ok (behind_of (record s { level = level; outer = outer; stack = inner }) ∙ ap (λ stack. behind_operand trees (record (state_of s) { level = level; outer = outer; stack = stack })) same)

infix_of : (operator : Operator) (s : State Written) → state_of (with_infix writings operator s) ≡ with_infix trees operator (state_of s)
infix_of operator s = elim (cases_Bool (is_sum operator)) [
  | inl sum ↦ rw sum (ap (λ stack. record (state_of s) { expected = next.Operand; level = record s.level { sum = Some operator }; stack = stack }) (waiting_of s.level.sum s.stack))
  | inr product ↦ rw product refl
]

first_of : (s : State Written) (token : Token) → ends_of (first_ended writings s token) ≡ first_ended trees (state_of s) token
first_of s (tokens.Symbol symbols.Semicolon) = ap Ok (ap (λ value. record (state_of s) { expected = next.Rule; level = outermost; stack = []; first = value }) (value_of s))
first_of s token = refl

left_of : (s : State Written) (comparator : Option Comparator) → ends_of (left_ended writings s comparator) ≡ left_ended trees (state_of s) comparator
left_of s (Some comparator) = ap Ok (ap (λ value. record (state_of s) { expected = next.Operand; part = parts.Right comparator; level = outermost; stack = []; left = value }) (value_of s))
left_of s None = refl

compared_of : (comparator : Comparator) (part : Part) (s : State Written) → state_of (compared_with writings comparator part s) ≡ compared_with trees comparator part (state_of s)
compared_of comparator part s =
    ap (λ conditions. record (state_of s) { expected = next.Operand; part = part; level = outermost; stack = []; left = last_of trees []; conditions = conditions })
    (map-append comparison_of s.conditions (record { left = s.left; comparator = comparator; right = value_read writings s } ∷ [])
    ∙ ap (λ value. map comparison_of s.conditions ++ record { left = expression_of s.left; comparator = comparator; right = value } ∷ []) (value_of s))

right_of : (comparator : Comparator) (s : State Written) (token : Token) (kind : Option Kind) → ends_of (right_ended writings comparator s token kind) ≡ right_ended trees comparator (state_of s) token kind
right_of comparator s token (Some kind) = ap Ok (compared_of comparator (parts.ActionRule kind) s)
right_of comparator s (tokens.Word words.And) None = elim (cases_Bool (ltb (length s.conditions) 7)) [
  | inl room ↦ rw (length-map s.conditions comparison_of, room) (ap Ok (compared_of comparator parts.Left s))
  | inr full ↦ rw (length-map s.conditions comparison_of, full) refl
]
right_of comparator s token None = refl

action_rules_of : (kind : Kind) (s : State Written) (token : Token) → ends_of (action_rule_ended writings kind s token) ≡ action_rule_ended trees kind (state_of s) token
action_rules_of kind s (tokens.Symbol symbols.Semicolon) =
    ap Ok (ap (λ rules. record (state_of s) { expected = next.Rule; level = outermost; stack = []; conditions = []; rules = rules })
    (map-append rule_of s.rules (record { conditions = s.conditions; action_rule = record { kind = kind; value = value_read writings s } } ∷ [])
    ∙ ap (λ value. map rule_of s.rules ++ record { conditions = map comparison_of s.conditions; action_rule = record { kind = kind; value = value } } ∷ []) (value_of s)))
action_rules_of kind s token = refl

last_ended_of : (s : State Written) (token : Token) → ends_of (last_ended s token) ≡ last_ended (state_of s) token
last_ended_of s (tokens.Symbol symbols.Semicolon) = refl
last_ended_of s token = refl

ended_of : (part : Part) (s : State Written) (token : Token) → ends_of (ended writings part s token) ≡ ended trees part (state_of s) token
ended_of parts.First s token = first_of s token
ended_of parts.Left s token = left_of s (comparator_of token)
ended_of (parts.Right comparator) s token = right_of comparator s token (kind_of token)
ended_of (parts.ActionRule kind) s token = action_rules_of kind s token
ended_of (parts.Last kind) s token = last_ended_of s token

outermost_of : (s : State Written) (outer : List Level) (token : Token) → ends_of (in_outermost writings s outer token) ≡ in_outermost trees (state_of s) outer token
outermost_of s [] token = ended_of s.part s token
outermost_of s (level ∷ outer) token = refl

behinds_of : (s : State Written) (token : Token) (operator : Option Operator) → ends_of (behind writings s token operator) ≡ behind trees (state_of s) token operator
behinds_of s token (Some operator) = ap Ok (infix_of operator s)
behinds_of s (tokens.Symbol symbols.Close) None = closed_of s s.outer
behinds_of s token None = outermost_of s s.outer token

begun_of : (s : State Written) (token : Token) → ends_of (begun s token) ≡ begun (state_of s) token
begun_of s (tokens.Word words.First) = refl
begun_of s token = refl

rules_of : (s : State Written) (token : Token) → ends_of (rule s token) ≡ rule (state_of s) token
rules_of s (tokens.Word words.When) = elim (cases_Bool (ltb (length s.rules) 32)) [
  | inl room ↦ rw (length-map s.rules rule_of, room) refl
  | inr full ↦ rw (length-map s.rules rule_of, full) refl
]
rules_of s (tokens.Word words.Else) = refl
rules_of s token = refl

last_of_rules : (s : State Written) (kind : Option Kind) → ends_of (last s kind) ≡ last (state_of s) kind
last_of_rules s (Some kind) = refl
last_of_rules s None = refl

ending_of : (s : State Written) (token : Token) → ends_of (ending s token) ≡ ending (state_of s) token
ending_of s tokens.End = refl
ending_of s token = refl

step_at_of : (expected : Expected) (s : State Written) (token : Token) → ends_of (step_at expected writings s token) ≡ step_at expected trees (state_of s) token
step_at_of next.First s token = begun_of s token
step_at_of next.Operand s token = operands_of s token
step_at_of (next.Open function) s token = call_opened_of function s token
step_at_of next.Operator s token = behinds_of s token (operator_of token)
step_at_of next.Rule s token = rules_of s token
step_at_of next.Last s token = last_of_rules s (kind_of token)
step_at_of next.End s token = ending_of s token

-- one step with the parentheses is one step without
pub step_of : (s : State Written) (token : Token) → ends_of (step writings s token) ≡ step trees (state_of s) token
step_of s token = step_at_of s.expected s token

pub opening_of : state_of (opening writings) ≡ opening trees
opening_of = refl

pub tree_read_of : (s : State Written) → tree_of (tree_read writings s) ≡ tree_read trees (state_of s)
tree_read_of s = ap (λ value. record { first = expression_of s.first; rules = map rule_of s.rules; last = record { kind = last_kind s.part; value = value } }) (value_of s)
