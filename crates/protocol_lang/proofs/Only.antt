-- Every text of the grammar is read, with its tree.
use Rattle.std.proofs.Common.{Err, arith, ◌≡◌, ℕ, suc, ◌+◌, ◌*◌, ◌<◌, ◌≤◌, true, false, not, ◌&&◌, leb, max, List, [], ◌∷◌, ◌++◌, append_assoc, length, Option, Some, None, Result, Ok, refl, sym, ap, ◌∙◌, subst, inl, inr}
use Rattle.std.specs.List.{flat_map, list_all}
use Rattle.std.proofs.lemmas.Bool.{cases_Bool, and_parts, leb-true, lt-ltb}
use Rattle.std.proofs.lemmas.List.{append-nil, length-append}
use Rattle.protocol_lang.specs.Stacks.{pushed}
use Rattle.protocol_lang.specs.Tokens.{name_of, call_of, operator_of, reads_view}
use Rattle.protocol_lang.specs.Trees.{is_sum, ComparisonOf, ActionRuleOf, RuleOf, TreeOf, Tree}
use Rattle.protocol_lang.specs.Formulas.{trees, last_of}
use Rattle.protocol_lang.specs.Grammar.{Written, Number, Named, Calling, Operating, Group, word_for, call_word, operator_symbol, comparator_symbol, kind_word, enclosed_tokens, expression_tokens, comparison_tokens, conditions_tokens, action_rule_tokens, rule_tokens, tree_tokens, is_term, is_factor, may_join, is_formed, depth_of, is_expression, needs_no_view, is_comparison, is_rule, IsFormed, tree_of, IsText}
use Rattle.protocol_lang.specs.Reading.{IsReading, IsReadAs, State, opening, with_waiting, is_hidden, is_first, opened, enclosed, step, tree_read, most_tokens, reading}
use Rattle.protocol_lang.specs.declared.token.Token.{Token}
use Rattle.protocol_lang.specs.declared.token.Token.TheVariants as tokens
use Rattle.protocol_lang.specs.declared.token.Word.TheVariants as words
use Rattle.protocol_lang.specs.declared.token.Symbol.TheVariants as symbols
use Rattle.protocol_lang.specs.declared.state.Expected.{Expected}
use Rattle.protocol_lang.specs.declared.state.Expected.TheVariants as next
use Rattle.protocol_lang.specs.declared.state.Part.{Part}
use Rattle.protocol_lang.specs.declared.state.Part.TheVariants as parts
use Rattle.protocol_lang.specs.declared.state.Opener.{Opener}
use Rattle.protocol_lang.specs.declared.state.Opener.TheVariants as openers
use Rattle.protocol_lang.specs.declared.state.Refusal.{Refusal}
use Rattle.protocol_lang.specs.declared.fault.ParseFault.{ParseFault}
use Rattle.protocol_lang.specs.declared.fault.ParseFault.TheVariants.{TooLong, BadToken, Unexpected, TooDeep, TooManyRules, ViewInFirst, NumberTooLarge, OutOfMemory}
use Rattle.protocol_lang.specs.declared.tree.Name.{Name}
use Rattle.protocol_lang.specs.declared.tree.Name.TheVariants as names
use Rattle.protocol_lang.specs.declared.tree.Call.{Call}
use Rattle.protocol_lang.specs.declared.tree.Call.TheVariants as calls
use Rattle.protocol_lang.specs.declared.tree.Operator.{Operator}
use Rattle.protocol_lang.specs.declared.tree.Operator.TheVariants as operators
use Rattle.protocol_lang.specs.declared.tree.Comparator.{Comparator}
use Rattle.protocol_lang.specs.declared.tree.Comparator.TheVariants as comparators
use Rattle.protocol_lang.specs.declared.tree.Kind.{Kind}
use Rattle.protocol_lang.specs.declared.tree.Kind.TheVariants as kinds
use Rattle.protocol_lang.proofs.Carrying.{writings, state_of, ends_of, step_of, tree_read_of}
use Rattle.protocol_lang.proofs.Going.{Goes, goes_on, run_only, few_tokens}
use Rattle.protocol_lang.proofs.Holding.{Fits, push_room}
use Rattle.protocol_lang.proofs.Onward.{reading_by}

-- ---- tokens that are spelled for something stand for it

name_is : (name : Name) → name_of (word_for name) ≡ Some name
name_is names.Input = refl
name_is names.Id = refl
name_is names.N = refl
name_is names.Round = refl
name_is names.Mine = refl
name_is names.Count = refl
name_is names.Min = refl
name_is names.Max = refl

call_no_name : (function : Call) → name_of (call_word function) ≡ None
call_no_name calls.Cell = refl
call_no_name calls.Seen = refl
call_no_name calls.Equal = refl

call_is : (function : Call) → call_of (call_word function) ≡ Some function
call_is calls.Cell = refl
call_is calls.Seen = refl
call_is calls.Equal = refl

operator_is : (operator : Operator) → operator_of (tokens.Symbol (operator_symbol operator)) ≡ Some operator
operator_is operators.Add = refl
operator_is operators.Subtract = refl
operator_is operators.Multiply = refl
operator_is operators.Divide = refl
operator_is operators.Remainder = refl

-- ---- places within an expression

abbrev within : State Written → Expected → Option Operator → Option Operator → List Written → State Written
within s expected sum product stack = record s { expected = expected; level = record s.level { sum = sum; product = product }; stack = stack }

-- behind one more open parenthesis
abbrev inside : Opener → State Written → Option Operator → Option Operator → State Written
inside opener s sum product = record s { level = record { opener = opener; sum = None; product = None }; outer = record s.level { sum = sum; product = product } ∷ s.outer }

abbrev done_with : State Written → Result (State Written) Refusal
done_with s = Ok s

record Leads (s : State Written) (w : Written) (stack : List Written) : Type 0 where
  sum : Option Operator
  operands : List Written
  goes : Goes writings (within s next.Operand None None stack) (expression_tokens w) (within s next.Operator sum None operands)
  value : with_waiting writings sum operands ≡ w ∷ stack

-- the expression is read, wherever its operands have room
record Reads (w : Written) : Type 0 where
  factor : (s : State Written) (sum product : Option Operator) (stack : List Written) → is_factor w ≡ true → Fits s.part (length s.outer) w → length stack + (2 * depth_of w + 1) ≤ 67
      → Goes writings (within s next.Operand sum product stack) (expression_tokens w) (within s next.Operator sum None (with_waiting writings product (w ∷ stack)))
  term : (s : State Written) (sum : Option Operator) (stack : List Written) → is_term w ≡ true → Fits s.part (length s.outer) w → length stack + (2 * depth_of w + 2) ≤ 67
      → Goes writings (within s next.Operand sum None stack) (expression_tokens w) (within s next.Operator sum None (w ∷ stack))
  any : (s : State Written) (stack : List Written) → Fits s.part (length s.outer) w → length stack + (2 * depth_of w + 3) ≤ 67 → Leads s w stack

goes_one : (s s' : State Written) (token : Token) → step writings s token ≡ Ok s' → Goes writings s (token ∷ []) s'
goes_one s s' token e = (s', e, refl)

-- ---- numbers and names

number_taken : (s : State Written) (sum product : Option Operator) (stack : List Written) (value : ℕ) → length stack ≤ 66
    → step writings (within s next.Operand sum product stack) (tokens.Number value) ≡ Ok (within s next.Operator sum None (with_waiting writings product (Number value ∷ stack)))
number_taken s sum product stack value room = ap (λ operands. done_with (within s next.Operator sum None (with_waiting writings product operands))) (push_room 0 (Number value) stack room)

not_hidden : (part : Part) (name : Name) → (is_first part ≡ true → not (reads_view name) ≡ true) → is_hidden part name ≡ false
not_hidden parts.First name view = elim (cases_Bool (reads_view name)) [ inl reads ↦ absurd (let never = rw reads at (view refl) in cc) | inr none ↦ none ]
not_hidden parts.Left name view = refl
not_hidden (parts.Right comparator) name view = refl
not_hidden (parts.ActionRule kind) name view = refl
not_hidden (parts.Last kind) name view = refl

name_taken : (s : State Written) (sum product : Option Operator) (stack : List Written) (name : Name) → length stack ≤ 66 → is_hidden s.part name ≡ false
    → step writings (within s next.Operand sum product stack) (tokens.Word (word_for name)) ≡ Ok (within s next.Operator sum None (with_waiting writings product (Named name ∷ stack)))
name_taken s sum product stack name room seen =
    rw (name_is name, seen) (ap (λ operands. done_with (within s next.Operator sum None (with_waiting writings product operands))) (push_room 0 (Named name) stack room))

-- ---- parentheses

opened_taken : (opener : Opener) (s : State Written) (expected : Expected) (sum product : Option Operator) (stack : List Written) → length s.outer < 32
    → opened opener (within s expected sum product stack) ≡ done_with (within (inside opener s sum product) next.Operand None None stack)
opened_taken opener s expected sum product stack room = rw (lt-ltb (length s.outer) 32 room) refl

-- what closes has the value within
closed_taken : (opener : Opener) (s : State Written) (sum product inner_sum : Option Operator) (operands stack : List Written) (w value : Written)
    → with_waiting writings inner_sum operands ≡ w ∷ stack → enclosed writings opener (w ∷ stack) ≡ value ∷ stack
    → step writings (within (inside opener s sum product) next.Operator inner_sum None operands) (tokens.Symbol symbols.Close) ≡ Ok (within s next.Operator sum None (with_waiting writings product (value ∷ stack)))
closed_taken opener s sum product inner_sum operands stack w value is encloses =
    ap (λ all. done_with (within s next.Operator sum None (with_waiting writings product all))) (ap (enclosed writings opener) is ∙ encloses)

enclosed_read : (opener : Opener) (s : State Written) (expected : Expected) (sum product : Option Operator) (stack : List Written) (w value : Written)
    → step writings (within s expected sum product stack) (tokens.Symbol symbols.Open) ≡ opened opener (within s expected sum product stack) → length s.outer < 32 → Leads (inside opener s sum product) w stack → enclosed writings opener (w ∷ stack) ≡ value ∷ stack
    → Goes writings (within s expected sum product stack) (enclosed_tokens (expression_tokens w)) (within s next.Operator sum None (with_waiting writings product (value ∷ stack)))
enclosed_read opener s expected sum product stack w value opens room leads encloses =
    let first = within (inside opener s sum product) next.Operand None None stack in
    let read = within (inside opener s sum product) next.Operator leads.sum None leads.operands in
    let end = within s next.Operator sum None (with_waiting writings product (value ∷ stack)) in (
      first,
      opens ∙ opened_taken opener s expected sum product stack room,
      goes_on writings first read end (expression_tokens w) (tokens.Symbol symbols.Close ∷ []) leads.goes
          (goes_one read end (tokens.Symbol symbols.Close) (closed_taken opener s sum product leads.sum leads.operands stack w value leads.value encloses)),
    )

-- ---- operators

product_taken : (s : State Written) (sum : Option Operator) (stack : List Written) (operator : Operator) → is_sum operator ≡ false
    → step writings (within s next.Operator sum None stack) (tokens.Symbol (operator_symbol operator)) ≡ Ok (within s next.Operand sum (Some operator) stack)
product_taken s sum stack operator product = rw (operator_is operator, product) refl

sum_taken : (s : State Written) (sum : Option Operator) (operands stack : List Written) (operator : Operator) → is_sum operator ≡ true → with_waiting writings sum operands ≡ stack
    → step writings (within s next.Operator sum None operands) (tokens.Symbol (operator_symbol operator)) ≡ Ok (within s next.Operand (Some operator) None stack)
sum_taken s sum operands stack operator is same = rw (operator_is operator, is) (ap (λ all. done_with (within s next.Operand (Some operator) None all)) same)

-- ---- what fits, by its parts

record PartsFit (part : Part) (count : ℕ) (operator : Operator) (left right : Written) : Type 0 where
  left_fits : Fits part count left
  right_fits : Fits part count right
  joins : may_join operator left right ≡ true

parts_fit : (part : Part) (count : ℕ) (operator : Operator) (left right : Written) → Fits part count (Operating operator left right) → PartsFit part count operator left right
parts_fit part count operator left right fits =
    let formed = and_parts (may_join operator left right) (is_formed left && is_formed right) fits.formed in
    let both = and_parts (is_formed left) (is_formed right) formed.1 in
    let deep : max (depth_of left) (depth_of right) + count ≤ 32 = fits.depth in
    record {
      left_fits = record { formed = both.0; depth = omega (arith, max, deep); view = λ first. (and_parts (needs_no_view left) (needs_no_view right) (fits.view first)).0 };
      right_fits = record { formed = both.1; depth = omega (arith, max, deep); view = λ first. (and_parts (needs_no_view left) (needs_no_view right) (fits.view first)).1 };
      joins = formed.0;
    }

-- ---- expressions, by what they are made of

-- a term alone
leads_term : (s : State Written) (w : Written) (stack : List Written) → Goes writings (within s next.Operand None None stack) (expression_tokens w) (within s next.Operator None None (w ∷ stack)) → Leads s w stack
leads_term s w stack goes = record { sum = None; operands = w ∷ stack; goes = goes; value = refl }

-- a factor is a term and an expression
reads_factor : (w : Written) → is_factor w ≡ true
    → ((s : State Written) (sum product : Option Operator) (stack : List Written) → Fits s.part (length s.outer) w → length stack + (2 * depth_of w + 1) ≤ 67
    → Goes writings (within s next.Operand sum product stack) (expression_tokens w) (within s next.Operator sum None (with_waiting writings product (w ∷ stack))))
    → Reads w
reads_factor w is factor = record {
  factor = λ s sum product stack same fits room. factor s sum product stack fits room;
  term = λ s sum stack same fits room. factor s sum None stack fits (omega (arith, room));
  any = λ s stack fits room. leads_term s w stack (factor s None None stack fits (omega (arith, room)));
}

reads_number : (value : ℕ) → Reads (Number value)
reads_number value = reads_factor (Number value) refl (λ s sum product stack fits room.
    goes_one (within s next.Operand sum product stack) (within s next.Operator sum None (with_waiting writings product (Number value ∷ stack))) (tokens.Number value)
    (number_taken s sum product stack value (omega (arith, room))))

reads_name : (name : Name) → Reads (Named name)
reads_name name = reads_factor (Named name) refl (λ s sum product stack fits room.
    goes_one (within s next.Operand sum product stack) (within s next.Operator sum None (with_waiting writings product (Named name ∷ stack))) (tokens.Word (word_for name))
    (name_taken s sum product stack name (omega (arith, room)) (not_hidden s.part name fits.view)))

reads_group : (inner : Written) → Reads inner → Reads (Group inner)
reads_group inner reads = reads_factor (Group inner) refl (λ s sum product stack fits room.
    let deep : suc (depth_of inner) + length s.outer ≤ 32 = fits.depth in
    let few : length stack + (2 * suc (depth_of inner) + 1) ≤ 67 = room in
    let leads = reads.any (inside openers.Group s sum product) stack (record { formed = fits.formed; depth = omega (arith, deep); view = fits.view }) (omega (arith, few)) in
    enclosed_read openers.Group s next.Operand sum product stack inner (Group inner) refl (omega (arith, deep)) leads refl)

later_part : (part : Part) → (is_first part ≡ true → false ≡ true) → is_first part ≡ false
later_part part view = elim (cases_Bool (is_first part)) [ inl first ↦ absurd (let never = view first in cc) | inr later ↦ later ]

reads_call : (function : Call) (argument : Written) → Reads argument → Reads (Calling function argument)
reads_call function argument reads = reads_factor (Calling function argument) refl (λ s sum product stack fits room.
    let deep : suc (depth_of argument) + length s.outer ≤ 32 = fits.depth in
    let few : length stack + (2 * suc (depth_of argument) + 1) ≤ 67 = room in
    let later = later_part s.part fits.view in
    let leads = reads.any (inside (openers.Call function) s sum product) stack (record { formed = fits.formed; depth = omega (arith, deep); view = λ first. absurd (let never : false ≡ true = fits.view first in cc) }) (omega (arith, few)) in (
      within s (next.Open function) sum product stack,
      rw (call_no_name function, call_is function, later) refl,
      enclosed_read (openers.Call function) s (next.Open function) sum product stack argument (Calling function argument) refl (omega (arith, deep)) leads (push_room 0 (Calling function argument) stack (omega (arith, few))),
    ))

-- a product, whose right operand it takes at once
product_read : (operator : Operator) (left right : Written) → is_sum operator ≡ false → Reads left → Reads right → (s : State Written) (sum : Option Operator) (stack : List Written) → Fits s.part (length s.outer) (Operating operator left right) → length stack + (2 * depth_of (Operating operator left right) + 2) ≤ 67
    → Goes writings (within s next.Operand sum None stack) (expression_tokens (Operating operator left right)) (within s next.Operator sum None (Operating operator left right ∷ stack))
product_read operator left right is reads_left reads_right s sum stack fits room =
    let fit = parts_fit s.part (length s.outer) operator left right fits in
    let joins : is_term left && is_factor right ≡ true = rw is at fit.joins in
    let both = and_parts (is_term left) (is_factor right) joins in
    let few : length stack + (2 * max (depth_of left) (depth_of right) + 2) ≤ 67 = room in
    let first = within s next.Operand sum None stack in
    let read = within s next.Operator sum None (left ∷ stack) in
    let again = within s next.Operand sum (Some operator) (left ∷ stack) in
    let end = within s next.Operator sum None (Operating operator left right ∷ stack) in
    let right_read = reads_right.factor s sum (Some operator) (left ∷ stack) both.1 fit.right_fits (omega (arith, max, few)) in
    let pushes : pushed 67 (Operating operator left right) stack ≡ Operating operator left right ∷ stack = push_room 0 (Operating operator left right) stack (omega (arith, few)) in
    goes_on writings first read end (expression_tokens left) (tokens.Symbol (operator_symbol operator) ∷ expression_tokens right)
    (reads_left.term s sum stack both.0 fit.left_fits (omega (arith, max, few))) (
      again,
      product_taken s sum (left ∷ stack) operator is,
      subst (λ operands. Goes writings again (expression_tokens right) (within s next.Operator sum None operands)) pushes right_read,
    )

sum_read : (operator : Operator) (left right : Written) → is_sum operator ≡ true → Reads left → Reads right → (s : State Written) (stack : List Written) → Fits s.part (length s.outer) (Operating operator left right) → length stack + (2 * depth_of (Operating operator left right) + 3) ≤ 67
    → Leads s (Operating operator left right) stack
sum_read operator left right is reads_left reads_right s stack fits room =
    let fit = parts_fit s.part (length s.outer) operator left right fits in
    let term : is_term right ≡ true = rw is at fit.joins in
    let few : length stack + (2 * max (depth_of left) (depth_of right) + 3) ≤ 67 = room in
    let leads = reads_left.any s stack fit.left_fits (omega (arith, max, few)) in
    let again = within s next.Operand (Some operator) None (left ∷ stack) in
    record {
      sum = Some operator;
      operands = right ∷ left ∷ stack;
      goes = goes_on writings (within s next.Operand None None stack) (within s next.Operator leads.sum None leads.operands) (within s next.Operator (Some operator) None (right ∷ left ∷ stack))
          (expression_tokens left) (tokens.Symbol (operator_symbol operator) ∷ expression_tokens right) leads.goes (
            again,
            sum_taken s leads.sum leads.operands (left ∷ stack) operator is leads.value,
            reads_right.term s (Some operator) (left ∷ stack) term fit.right_fits (omega (arith, max, few)),
          );
      value = push_room 0 (Operating operator left right) stack (omega (arith, few));
    }

reads_operating : (operator : Operator) (left right : Written) → Reads left → Reads right → Reads (Operating operator left right)
reads_operating operator left right reads_left reads_right = record {
  factor = λ s sum product stack is fits room. absurd (let never : false ≡ true = is in cc);
  term = λ s sum stack is fits room. elim (cases_Bool (is_sum operator)) [
    | inl sums ↦ absurd (let never = rw sums at is in cc)
    | inr product ↦ product_read operator left right product reads_left reads_right s sum stack fits room
  ];
  any = λ s stack fits room. elim (cases_Bool (is_sum operator)) [
    | inl sums ↦ sum_read operator left right sums reads_left reads_right s stack fits room
    | inr product ↦
        let few : length stack + (2 * depth_of (Operating operator left right) + 3) ≤ 67 = room in
        leads_term s (Operating operator left right) stack (product_read operator left right product reads_left reads_right s None stack fits (omega (arith, few)))
  ];
}

-- every expression is read
every_read : (w : Written) → Reads w
every_read (Number value) = reads_number value
every_read (Named name) = reads_name name
every_read (Calling function argument) = reads_call function argument (every_read argument)
every_read (Operating operator left right) = reads_operating operator left right (every_read left) (every_read right)
every_read (Group inner) = reads_group inner (every_read inner)

-- ---- whole expressions

abbrev nothing : Written
nothing = Number 0

-- no parenthesis is open
abbrev place : Part → Written → List (ComparisonOf Written) → List (RuleOf Written) → Written → Expected → Option Operator → List Written → State Written
place part left conditions rules first expected sum stack =
    record { expected = expected; part = part; level = record { opener = openers.Group; sum = sum; product = None }; outer = []; stack = stack; left = left; conditions = conditions; rules = rules; first = first }

-- before an expression
abbrev wants : Part → Written → List (ComparisonOf Written) → List (RuleOf Written) → Written → State Written
wants part left conditions rules first = place part left conditions rules first next.Operand None []

record Whole (part : Part) (left : Written) (conditions : List (ComparisonOf Written)) (rules : List (RuleOf Written)) (first w : Written) : Type 0 where
  sum : Option Operator
  operands : List Written
  goes : Goes writings (wants part left conditions rules first) (expression_tokens w) (place part left conditions rules first next.Operator sum operands)
  value : with_waiting writings sum operands ≡ w ∷ []

whole_read : (part : Part) (left : Written) (conditions : List (ComparisonOf Written)) (rules : List (RuleOf Written)) (first w : Written) → is_expression w ≡ true → (is_first part ≡ true → needs_no_view w ≡ true) → Whole part left conditions rules first w
whole_read part left conditions rules first w is view =
    let both = and_parts (is_formed w) (leb (depth_of w) 32) is in
    let deep = leb-true (depth_of w) 32 both.1 in
    let leads = (every_read w).any (wants part left conditions rules first) [] (record { formed = both.0; depth = omega (arith, deep); view = view }) (omega (arith, deep)) in
    record { sum = leads.sum; operands = leads.operands; goes = leads.goes; value = leads.value }

-- an expression and the token behind it, which lead to a place by the expression's value
whole_then : (part : Part) (left : Written) (conditions : List (ComparisonOf Written)) (rules : List (RuleOf Written)) (first w : Written) (token : Token) (f : Written → State Written)
    → ((sum : Option Operator) (operands : List Written) → step writings (place part left conditions rules first next.Operator sum operands) token ≡ done_with (f (last_of writings (with_waiting writings sum operands))))
    → is_expression w ≡ true → (is_first part ≡ true → needs_no_view w ≡ true)
    → (more : List Token) (end : State Written) → Goes writings (f w) more end
    → Goes writings (wants part left conditions rules first) (expression_tokens w ++ token ∷ more) end
whole_then part left conditions rules first w token f steps is view more end rest =
    let read = whole_read part left conditions rules first w is view in
    goes_on writings (wants part left conditions rules first) (place part left conditions rules first next.Operator read.sum read.operands) end (expression_tokens w) (token ∷ more) read.goes
    (f w, steps read.sum read.operands ∙ ap (λ stack. done_with (f (last_of writings stack))) read.value, rest)

-- ---- comparisons

comparator_taken : (comparator : Comparator) (conditions : List (ComparisonOf Written)) (rules : List (RuleOf Written)) (first left : Written) (sum : Option Operator) (operands : List Written)
    → step writings (place parts.Left left conditions rules first next.Operator sum operands) (tokens.Symbol (comparator_symbol comparator))
    ≡ done_with (wants (parts.Right comparator) (last_of writings (with_waiting writings sum operands)) conditions rules first)
comparator_taken comparators.Equal conditions rules first left sum operands = refl
comparator_taken comparators.NotEqual conditions rules first left sum operands = refl
comparator_taken comparators.Less conditions rules first left sum operands = refl
comparator_taken comparators.LessOrEqual conditions rules first left sum operands = refl
comparator_taken comparators.Greater conditions rules first left sum operands = refl
comparator_taken comparators.GreaterOrEqual conditions rules first left sum operands = refl

abbrev comparing : Written → Comparator → Written → ComparisonOf Written
comparing left comparator right = record { left = left; comparator = comparator; right = right }

-- another condition follows
and_taken : (comparator : Comparator) (conditions : List (ComparisonOf Written)) (rules : List (RuleOf Written)) (first left : Written) → length conditions < 7 → (sum : Option Operator) (operands : List Written)
    → step writings (place (parts.Right comparator) left conditions rules first next.Operator sum operands) (tokens.Word words.And)
    ≡ done_with (wants parts.Left nothing (conditions ++ comparing left comparator (last_of writings (with_waiting writings sum operands)) ∷ []) rules first)
and_taken comparator conditions rules first left few sum operands = rw (lt-ltb (length conditions) 7 few) refl

-- or the action does
kind_taken : (kind : Kind) (comparator : Comparator) (conditions : List (ComparisonOf Written)) (rules : List (RuleOf Written)) (first left : Written) (sum : Option Operator) (operands : List Written)
    → step writings (place (parts.Right comparator) left conditions rules first next.Operator sum operands) (tokens.Word (kind_word kind))
    ≡ done_with (wants (parts.ActionRule kind) nothing (conditions ++ comparing left comparator (last_of writings (with_waiting writings sum operands)) ∷ []) rules first)
kind_taken kinds.Write comparator conditions rules first left sum operands = refl
kind_taken kinds.Decide comparator conditions rules first left sum operands = refl

not_first : (w : Written) → false ≡ true → needs_no_view w ≡ true
not_first w never = absurd cc

-- a comparison and the token behind it
comparison_then : (comparison : ComparisonOf Written) (conditions : List (ComparisonOf Written)) (rules : List (RuleOf Written)) (first left : Written) (token : Token) (f : ComparisonOf Written → State Written)
    → ((sum : Option Operator) (operands : List Written) → step writings (place (parts.Right comparison.comparator) comparison.left conditions rules first next.Operator sum operands) token ≡ done_with (f (comparing comparison.left comparison.comparator (last_of writings (with_waiting writings sum operands)))))
    → is_comparison comparison ≡ true → (more : List Token) (end : State Written) → Goes writings (f comparison) more end
    → Goes writings (wants parts.Left left conditions rules first) (comparison_tokens comparison ++ token ∷ more) end
comparison_then comparison conditions rules first left token f steps is more end rest =
    let both = and_parts (is_expression comparison.left) (is_expression comparison.right) is in
    let sign = tokens.Symbol (comparator_symbol comparison.comparator) in
    let right_read = whole_then (parts.Right comparison.comparator) comparison.left conditions rules first comparison.right token (λ value. f (comparing comparison.left comparison.comparator value)) steps both.1 (not_first comparison.right) more end rest in
    let goes = whole_then parts.Left left conditions rules first comparison.left sign (λ value. wants (parts.Right comparison.comparator) value conditions rules first)
    (comparator_taken comparison.comparator conditions rules first left) both.0 (not_first comparison.left) (expression_tokens comparison.right ++ token ∷ more) end right_read in
    subst (λ all. Goes writings (wants parts.Left left conditions rules first) all end) (sym (append_assoc (expression_tokens comparison.left) (sign ∷ expression_tokens comparison.right) (token ∷ more))) goes

-- the conditions of a rule, from behind `when`, and the word of its action
conditions_read : (before : List (ComparisonOf Written)) (comparison : ComparisonOf Written) (more : List (ComparisonOf Written)) (rules : List (RuleOf Written)) (first left : Written) (kind : Kind) → list_all is_comparison (comparison ∷ more) ≡ true → length before + suc (length more) ≤ 8
    → (rest : List Token) (end : State Written) → Goes writings (wants (parts.ActionRule kind) nothing (before ++ comparison ∷ more) rules first) rest end
    → Goes writings (wants parts.Left left before rules first) (comparison_tokens comparison ++ (conditions_tokens words.And more ++ tokens.Word (kind_word kind) ∷ rest)) end
conditions_read before comparison [] rules first left kind is few rest end goes =
    comparison_then comparison before rules first left (tokens.Word (kind_word kind)) (λ here. wants (parts.ActionRule kind) nothing (before ++ here ∷ []) rules first)
    (kind_taken kind comparison.comparator before rules first comparison.left) (and_parts (is_comparison comparison) (list_all is_comparison []) is).0 rest end goes
conditions_read before comparison (second ∷ more) rules first left kind is few rest end goes =
    let both = and_parts (is_comparison comparison) (list_all is_comparison (second ∷ more)) is in
    let fewer : length before + suc (suc (length more)) ≤ 8 = few in
    let after = before ++ comparison ∷ [] in
    let moved : before ++ comparison ∷ second ∷ more ≡ after ++ second ∷ more = sym (append_assoc before (comparison ∷ []) (second ∷ more)) in
    let again = conditions_read after second more rules first nothing kind both.1 (omega (arith, fewer, length-append before (comparison ∷ []))) rest end
    (subst (λ all. Goes writings (wants (parts.ActionRule kind) nothing all rules first) rest end) moved goes) in
    let tail = conditions_tokens words.And more ++ tokens.Word (kind_word kind) ∷ rest in
    let read = comparison_then comparison before rules first left (tokens.Word words.And) (λ here. wants parts.Left nothing (before ++ here ∷ []) rules first)
    (and_taken comparison.comparator before rules first comparison.left (omega (arith, fewer))) both.0 (comparison_tokens second ++ tail) end again in
    subst (λ all. Goes writings (wants parts.Left left before rules first) (comparison_tokens comparison ++ tokens.Word words.And ∷ all) end)
    (sym (append_assoc (comparison_tokens second) (conditions_tokens words.And more) (tokens.Word (kind_word kind) ∷ rest))) read

-- ---- rules

-- before a rule, or `else`
abbrev next_rule : Part → List (RuleOf Written) → Written → State Written
next_rule part rules first = place part nothing [] rules first next.Rule None []

-- a rule's action
action_rule_read : (kind : Kind) (value : Written) (conditions : List (ComparisonOf Written)) (rules : List (RuleOf Written)) (first : Written) → is_expression value ≡ true
    → (rest : List Token) (end : State Written) → Goes writings (next_rule (parts.ActionRule kind) (rules ++ record { conditions = conditions; action_rule = record { kind = kind; value = value } } ∷ []) first) rest end
    → Goes writings (wants (parts.ActionRule kind) nothing conditions rules first) (expression_tokens value ++ tokens.Symbol symbols.Semicolon ∷ rest) end
action_rule_read kind value conditions rules first is rest end goes =
    whole_then (parts.ActionRule kind) nothing conditions rules first value (tokens.Symbol symbols.Semicolon)
    (λ here. next_rule (parts.ActionRule kind) (rules ++ record { conditions = conditions; action_rule = record { kind = kind; value = here } } ∷ []) first)
    (λ sum operands. refl) is (not_first value) rest end goes

regroup : (conditions more value rest : List Token) (word kind semicolon : Token)
    → ((word ∷ (conditions ++ more)) ++ (kind ∷ (value ++ semicolon ∷ []))) ++ rest ≡ word ∷ (conditions ++ (more ++ kind ∷ (value ++ semicolon ∷ rest)))
regroup conditions more value rest word kind semicolon = simp append_assoc

-- one rule, by its conditions
rule_by : (part : Part) (conditions : List (ComparisonOf Written)) (action_rule : ActionRuleOf Written) (rules : List (RuleOf Written)) (first : Written) → is_rule (record { conditions = conditions; action_rule = action_rule }) ≡ true → length rules < 32
    → (rest : List Token) (end : State Written) → Goes writings (next_rule (parts.ActionRule action_rule.kind) (rules ++ record { conditions = conditions; action_rule = action_rule } ∷ []) first) rest end
    → Goes writings (next_rule part rules first) (rule_tokens (record { conditions = conditions; action_rule = action_rule }) ++ rest) end
rule_by part [] action_rule rules first is room rest end goes = absurd (let never : false ≡ true = is in cc)
rule_by part (comparison ∷ more) action_rule rules first is room rest end goes =
    let all = comparison ∷ more in
    let counted = and_parts (leb 1 (length all) && leb (length all) 8 && list_all is_comparison all) (is_expression action_rule.value) is in
    let few = and_parts (leb 1 (length all) && leb (length all) 8) (list_all is_comparison all) counted.0 in
    let most : suc (length more) ≤ 8 = leb-true (length all) 8 (and_parts (leb 1 (length all)) (leb (length all) 8) few.0).1 in
    let after = action_rule_read action_rule.kind action_rule.value all rules first counted.1 rest end goes in
    let read = conditions_read [] comparison more rules first nothing action_rule.kind few.1 (omega (arith, most)) (expression_tokens action_rule.value ++ tokens.Symbol symbols.Semicolon ∷ rest) end after in
    subst (λ text. Goes writings (next_rule part rules first) text end)
    (sym (regroup (comparison_tokens comparison) (conditions_tokens words.And more) (expression_tokens action_rule.value) rest (tokens.Word words.When) (tokens.Word (kind_word action_rule.kind)) (tokens.Symbol symbols.Semicolon)))
    (wants parts.Left nothing [] rules first, rw (lt-ltb (length rules) 32 room) refl, read)

-- all rules, whichever part was the last
rules_read : (part : Part) (before more : List (RuleOf Written)) (first : Written) → list_all is_rule more ≡ true → length before + length more ≤ 32
    → (rest : List Token) (end : State Written) → ((part : Part) → Goes writings (next_rule part (before ++ more) first) rest end)
    → Goes writings (next_rule part before first) (flat_map rule_tokens more ++ rest) end
rules_read part before [] first is few rest end goes = subst (λ rules. Goes writings (next_rule part rules first) rest end) (append-nil before) (goes part)
rules_read part before (rule ∷ more) first is few rest end goes =
    let both = and_parts (is_rule rule) (list_all is_rule more) is in
    let fewer : length before + suc (length more) ≤ 32 = few in
    let moved : before ++ rule ∷ more ≡ (before ++ rule ∷ []) ++ more = sym (append_assoc before (rule ∷ []) more) in
    let again = rules_read (parts.ActionRule rule.action_rule.kind) (before ++ rule ∷ []) more first both.1 (omega (arith, fewer, length-append before (rule ∷ []))) rest end
    (λ part. subst (λ rules. Goes writings (next_rule part rules first) rest end) moved (goes part)) in
    subst (λ text. Goes writings (next_rule part before first) text end) (sym (append_assoc (rule_tokens rule) (flat_map rule_tokens more) rest))
    (rule_by part rule.conditions rule.action_rule before first both.0 (omega (arith, fewer)) (flat_map rule_tokens more ++ rest) end again)

-- ---- whole texts

last_taken : (kind : Kind) (part : Part) (rules : List (RuleOf Written)) (first : Written)
    → step writings (place part nothing [] rules first next.Last None []) (tokens.Word (kind_word kind)) ≡ done_with (wants (parts.Last kind) nothing [] rules first)
last_taken kinds.Write part rules first = refl
last_taken kinds.Decide part rules first = refl

-- where a text of the tree ends
pub record TextRead (tree : TreeOf Written) : Type 0 where
  pub end : State Written
  pub goes : Goes writings (opening writings) (tree_tokens tree) end
  pub ends : end.expected ≡ next.End
  pub says : tree_read writings end ≡ tree

-- every text is read as the tree that it is written for
pub tree_reads : (tree : TreeOf Written) → IsFormed tree → TextRead tree
tree_reads tree formed =
    let kind = tree.last.kind in
    let semicolon = tokens.Symbol symbols.Semicolon in
    let last = whole_read (parts.Last kind) nothing [] tree.rules tree.first tree.last.value formed.last (not_first tree.last.value) in
    let end = place (parts.Last kind) nothing [] tree.rules tree.first next.End last.sum last.operands in
    let value_goes = goes_on writings (wants (parts.Last kind) nothing [] tree.rules tree.first) (place (parts.Last kind) nothing [] tree.rules tree.first next.Operator last.sum last.operands) end
    (expression_tokens tree.last.value) (semicolon ∷ []) last.goes (end, refl, refl) in
    let else_goes : (part : Part) → Goes writings (next_rule part tree.rules tree.first) (tokens.Word words.Else ∷ action_rule_tokens tree.last) end =
    λ part. (place part nothing [] tree.rules tree.first next.Last None [], refl, (wants (parts.Last kind) nothing [] tree.rules tree.first, last_taken kind part tree.rules tree.first, value_goes)) in
    let rules_go = rules_read parts.First [] tree.rules tree.first formed.rules (omega (arith, formed.most_rules)) (tokens.Word words.Else ∷ action_rule_tokens tree.last) end else_goes in
    let first_goes = whole_then parts.First nothing [] [] nothing tree.first semicolon (λ value. next_rule parts.First [] value) (λ sum operands. refl) formed.first (λ first. formed.no_view_in_first)
    (flat_map rule_tokens tree.rules ++ tokens.Word words.Else ∷ action_rule_tokens tree.last) end rules_go in
    record {
      end = end;
      goes = (wants parts.First nothing [] [] nothing, refl, first_goes);
      ends = refl;
      says = ap (λ stack. let read : TreeOf Written = record { first = tree.first; rules = tree.rules; last = record { kind = kind; value = last_of writings stack } } in read) last.value;
    }

-- ---- without the parentheses

abbrev done_tree : Tree → Result Tree ParseFault
done_tree tree = Ok tree

goes_of : (s s' : State Written) (all : List Token) → Goes writings s all s' → Goes trees (state_of s) all (state_of s')
goes_of s s' [] goes = ap state_of goes
goes_of s s' (token ∷ all) goes = (state_of goes.0, sym (step_of s token) ∙ ap ends_of goes.1, goes_of goes.0 s' all goes.2)

-- every text of the grammar is read, with its tree
abbrev done_reading : Tree → Result Tree ParseFault
done_reading tree = Ok tree

abbrev failed : ParseFault → Result Tree ParseFault
failed fault = Err fault

pub only : (text : List ℕ) (tree : Tree) → IsText text tree → reading text ≡ Ok tree
only text tree is =
    let written = tree_reads is.written is.formed in
    let few = few_tokens (tree_tokens is.written) text is.spelled in
    let goes = goes_of (opening writings) written.end (tree_tokens is.written) written.goes in
    let runs = run_only trees (tree_tokens is.written) most_tokens text 0 (opening trees) (state_of written.end) (omega (arith, few, is.short)) is.spelled goes written.ends in
    let same : tree_read trees (state_of written.end) ≡ tree = sym (tree_read_of written.end) ∙ ap tree_of written.says ∙ is.says in
    reading_by text is.short (Ok (state_of written.end)) runs ∙ ap done_tree same

pub read_as : (text : List ℕ) (read : Result Tree ParseFault) → IsReading text read → (tree : Tree) → IsText text tree → IsReadAs tree read
read_as text (Ok read) e tree is = let same : done_reading read ≡ done_reading tree = sym e ∙ only text tree is in cc
read_as text (Err OutOfMemory) e tree is = tt
read_as text (Err TooLong) e tree is = let never : failed TooLong ≡ done_reading tree = sym e ∙ only text tree is in absurd cc
read_as text (Err TooManyRules) e tree is = let never : failed TooManyRules ≡ done_reading tree = sym e ∙ only text tree is in absurd cc
read_as text (Err (BadToken at)) e tree is = let never : failed (BadToken at) ≡ done_reading tree = sym e ∙ only text tree is in absurd cc
read_as text (Err (Unexpected at)) e tree is = let never : failed (Unexpected at) ≡ done_reading tree = sym e ∙ only text tree is in absurd cc
read_as text (Err (TooDeep at)) e tree is = let never : failed (TooDeep at) ≡ done_reading tree = sym e ∙ only text tree is in absurd cc
read_as text (Err (ViewInFirst at)) e tree is = let never : failed (ViewInFirst at) ≡ done_reading tree = sym e ∙ only text tree is in absurd cc
read_as text (Err (NumberTooLarge at)) e tree is = let never : failed (NumberTooLarge at) ≡ done_reading tree = sym e ∙ only text tree is in absurd cc
