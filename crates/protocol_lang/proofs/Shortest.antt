-- An expression with the parentheses that it needs, beside another way to write it.
use Rattle.std.proofs.Common.{arith, ◌≡◌, ℕ, suc, ◌+◌, ◌≤◌, Bool, true, false, not, ◌&&◌, leb, max, length, refl, ap, ◌∙◌, inl, inr}
use Rattle.std.specs.Fmt.{decimal}
use Rattle.std.proofs.lemmas.Bool.{cases_Bool, and_parts, and_from, or_parts, both_ways, leb-true, le-leb}
use Rattle.protocol_lang.specs.Tokens.{word_spelling, symbol_spelling}
use Rattle.protocol_lang.specs.Trees as trees
use Rattle.protocol_lang.specs.Trees.{Expression, is_sum}
use Rattle.protocol_lang.specs.Grammar.{Written, Number, Named, Calling, Operating, Group, expression_of, word_for, call_word, operator_symbol, is_term, is_factor, may_join, is_formed, depth_of, is_expression, needs_no_view}
use Rattle.protocol_lang.specs.Printing.{grouped_unless, stands_left, stands_right, on_left, on_right, shortest}
use Rattle.protocol_lang.specs.declared.tree.Operator.{Operator}
use Rattle.protocol_lang.specs.declared.tree.Call.{Call}

-- ---- it says the same, and keeps to the grammar

grouped_says : (stands : Bool) (w : Written) → expression_of (grouped_unless stands w) ≡ expression_of w
grouped_says true w = refl
grouped_says false w = refl

pub shortest_says : (e : Expression) → expression_of (shortest e) ≡ e
shortest_says (trees.Number value) = refl
shortest_says (trees.Named name) = refl
shortest_says (trees.Calling function argument) = ap (trees.Calling function) (shortest_says argument)
shortest_says (trees.Operating operator left right) =
    let l = grouped_says (stands_left operator (is_term (shortest left))) (shortest left) ∙ shortest_says left in
    let r = grouped_says (stands_right operator (is_term (shortest right)) (is_factor (shortest right))) (shortest right) ∙ shortest_says right in
    ap (λ x. trees.Operating operator x (expression_of (on_right operator (shortest right)))) l ∙ ap (trees.Operating operator left) r

grouped_formed : (stands : Bool) (w : Written) → is_formed w ≡ true → is_formed (grouped_unless stands w) ≡ true
grouped_formed true w formed = formed
grouped_formed false w formed = formed

grouped_term : (stands : Bool) (w : Written) → is_term w ≡ stands → is_term (grouped_unless stands w) ≡ true
grouped_term true w is = is
grouped_term false w is = refl

grouped_factor : (stands : Bool) (w : Written) → is_factor w ≡ stands → is_factor (grouped_unless stands w) ≡ true
grouped_factor true w is = is
grouped_factor false w is = refl

shortest_joins : (operator : Operator) (left right : Written) → may_join operator (on_left operator left) (on_right operator right) ≡ true
shortest_joins operator left right =
    elim (cases_Bool (is_sum operator)) [
      | inl sum ↦ rw sum (grouped_term (is_term right) right refl)
      | inr product ↦ rw product (and_from _ _ (grouped_term (is_term left) left refl) (grouped_factor (is_factor right) right refl))
    ]

pub shortest_formed : (e : Expression) → is_formed (shortest e) ≡ true
shortest_formed (trees.Number value) = refl
shortest_formed (trees.Named name) = refl
shortest_formed (trees.Calling function argument) = shortest_formed argument
shortest_formed (trees.Operating operator left right) =
    and_from _ _ (shortest_joins operator (shortest left) (shortest right))
    (and_from _ _ (grouped_formed (stands_left operator (is_term (shortest left))) (shortest left) (shortest_formed left))
    (grouped_formed (stands_right operator (is_term (shortest right)) (is_factor (shortest right))) (shortest right) (shortest_formed right)))

grouped_view : (stands : Bool) (w : Written) → needs_no_view (grouped_unless stands w) ≡ needs_no_view w
grouped_view true w = refl
grouped_view false w = refl

pub shortest_view : (w : Written) → needs_no_view (shortest (expression_of w)) ≡ needs_no_view w
shortest_view (Number value) = refl
shortest_view (Named name) = refl
shortest_view (Calling function argument) = refl
shortest_view (Operating operator left right) =
    let l = shortest (expression_of left) in
    let r = shortest (expression_of right) in
    let left_same = grouped_view (stands_left operator (is_term l)) l ∙ shortest_view left in
    let right_same = grouped_view (stands_right operator (is_term r) (is_factor r)) r ∙ shortest_view right in
    ap (λ x. x && needs_no_view (on_right operator r)) left_same ∙ ap (λ x. needs_no_view left && x) right_same
shortest_view (Group inner) = shortest_view inner

-- ---- its bytes

abbrev pub one_if : Bool → ℕ
one_if true = 1
one_if false = 0

one_if_most : (b : Bool) → one_if b ≤ 1
one_if_most true = omega arith
one_if_most false = omega arith

pub and_most : (a b : Bool) → one_if (a && b) ≤ 1
and_most a b = one_if_most (a && b)

-- the bytes of its tokens
abbrev pub size : Written → ℕ
size (Number value) = length (decimal value)
size (Named name) = length (word_spelling (word_for name))
size (Calling function argument) = length (word_spelling (call_word function)) + (2 + size argument)
size (Operating operator left right) = size left + (length (symbol_spelling (operator_symbol operator)) + size right)
size (Group inner) = 2 + size inner

-- whether its first token is a word, and its last
abbrev pub begins_with_word : Written → Bool
begins_with_word (Number value) = false
begins_with_word (Named name) = true
begins_with_word (Calling function argument) = true
begins_with_word (Operating operator left right) = begins_with_word left
begins_with_word (Group inner) = false

abbrev pub ends_with_word : Written → Bool
ends_with_word (Number value) = false
ends_with_word (Named name) = true
ends_with_word (Calling function argument) = false
ends_with_word (Operating operator left right) = ends_with_word right
ends_with_word (Group inner) = false

-- the bytes that it takes, with the spaces, behind a word or not and before a word or not
abbrev pub width : Bool → Written → Bool → ℕ
width behind w before = size w + (one_if (behind && begins_with_word w) + one_if (ends_with_word w && before))

-- ---- no way to write an expression takes fewer bytes or fewer parentheses at once

record Better (s w : Written) : Type 0 where
  narrow : (behind before : Bool) → width behind s before ≤ width behind w before
  shallow : depth_of s ≤ depth_of w

-- also with parentheses round it
record Inside (s w : Written) : Type 0 where
  narrow : 2 + size s ≤ size w
  shallow : suc (depth_of s) ≤ depth_of w

record Shortest (s w : Written) : Type 0 where
  any : Better s w
  term : is_term w ≡ true → is_term s ≡ false → Inside s w
  factor : is_factor w ≡ true → is_factor s ≡ false → Inside s w

no_word : (behind : Bool) → one_if (behind && false) ≡ 0
no_word true = refl
no_word false = refl

narrowed : (s w : Written) (behind before : Bool) → 2 + size s ≤ size w → width behind (Group s) before ≤ width behind w before
narrowed s w behind before narrow = omega (arith, narrow, no_word behind)

grouped_better : (stands : Bool) (s w : Written) → Better s w → (stands ≡ false → Inside s w) → Better (grouped_unless stands s) w
grouped_better true s w better inside = better
grouped_better false s w better inside = let i = inside refl in record { narrow = λ behind before. narrowed s w behind before i.narrow; shallow = i.shallow }

left_term : (operator : Operator) (left right : Written) → may_join operator left right ≡ true → is_sum operator ≡ false → is_term left ≡ true
left_term operator left right may product = (and_parts (is_term left) (is_factor right) (rw product at may)).0

left_better : (operator : Operator) (left right s : Written) → may_join operator left right ≡ true → Shortest s left → Better (on_left operator s) left
left_better operator left right s may short =
    grouped_better (stands_left operator (is_term s)) s left short.any
    (λ falls. let parts = or_parts (is_sum operator) (is_term s) falls in short.term (left_term operator left right may parts.0) parts.1)

right_inside : (operator : Operator) (left right s : Written) → may_join operator left right ≡ true → Shortest s right → stands_right operator (is_term s) (is_factor s) ≡ false → Inside s right
right_inside operator left right s may short falls =
    elim (cases_Bool (is_sum operator)) [
      | inl sum ↦ short.term (rw sum at may) (rw sum at falls)
      | inr product ↦ short.factor (and_parts (is_term left) (is_factor right) (rw product at may)).1 (rw product at falls)
    ]

right_better : (operator : Operator) (left right s : Written) → may_join operator left right ≡ true → Shortest s right → Better (on_right operator s) right
right_better operator left right s may short = grouped_better (stands_right operator (is_term s) (is_factor s)) s right short.any (right_inside operator left right s may short)

-- an operand that begins like itself
begins_alone : (w : Written) (behind : Bool) → width behind w false ≡ size w + one_if (behind && begins_with_word w)
begins_alone w behind = omega (arith, no_word (ends_with_word w))

ends_alone : (w : Written) (before : Bool) → width false w before ≡ size w + one_if (ends_with_word w && before)
ends_alone w before = omega arith

operating_narrow : (operator : Operator) (left right l r : Written) → Better l left → Better r right → (behind before : Bool) → width behind (Operating operator l r) before ≤ width behind (Operating operator left right) before
operating_narrow operator left right l r bl br behind before =
    omega (arith, bl.narrow behind false, br.narrow false before, begins_alone left behind, begins_alone l behind, ends_alone right before, ends_alone r before)

max_more : (a b c d : ℕ) → a ≤ c → b ≤ d → max a b ≤ max c d
max_more a b c d ac bd = omega (arith, max)

operating_better : (operator : Operator) (left right l r : Written) → Better l left → Better r right → Better (Operating operator l r) (Operating operator left right)
operating_better operator left right l r bl br = record {
  narrow = operating_narrow operator left right l r bl br;
  shallow = max_more (depth_of l) (depth_of r) (depth_of left) (depth_of right) bl.shallow br.shallow;
}

size_better : (s w : Written) → Better s w → size s ≤ size w
size_better s w better = omega (arith, better.narrow false false, ends_alone s false, ends_alone w false, no_word (ends_with_word s), no_word (ends_with_word w))

calling_better : (function : Call) (s w : Written) → Better s w → Better (Calling function s) (Calling function w)
calling_better function s w better = record { narrow = λ behind before. omega (arith, size_better s w better); shallow = omega (arith, better.shallow) }

-- parentheses of its own are more than it needs
inner_narrow : (s w : Written) → Better s w → (behind before : Bool) → width behind s before ≤ width behind (Group w) before
inner_narrow s w better behind before = omega (arith, size_better s w better, and_most behind (begins_with_word s), and_most (ends_with_word s) before)

group_shortest : (s w : Written) → Better s w → Shortest s (Group w)
group_shortest s w better =
    let inside : Inside s (Group w) = record { narrow = omega (arith, size_better s w better); shallow = omega (arith, better.shallow) } in
    record {
      any = record { narrow = inner_narrow s w better; shallow = omega (arith, better.shallow) };
      term = λ is falls. inside;
      factor = λ is falls. inside;
    }

factor_shortest : (s w : Written) → is_term s ≡ true → is_factor s ≡ true → Better s w → Shortest s w
factor_shortest s w term factor better = record { any = better; term = λ is falls. absurd (both_ways (is_term s) falls term); factor = λ is falls. absurd (both_ways (is_factor s) falls factor) }

same_better : (w : Written) → Better w w
same_better w = record { narrow = λ behind before. omega arith; shallow = omega arith }

is_shortest : (w : Written) → is_formed w ≡ true → Shortest (shortest (expression_of w)) w
is_shortest (Number value) formed = factor_shortest (Number value) (Number value) refl refl (same_better (Number value))
is_shortest (Named name) formed = factor_shortest (Named name) (Named name) refl refl (same_better (Named name))
is_shortest (Calling function argument) formed =
    let s = shortest (expression_of argument) in
    factor_shortest (Calling function s) (Calling function argument) refl refl (calling_better function s argument (is_shortest argument formed).any)
is_shortest (Operating operator left right) formed =
    let parts = and_parts (may_join operator left right) (is_formed left && is_formed right) formed in
    let both = and_parts (is_formed left) (is_formed right) parts.1 in
    let l = shortest (expression_of left) in
    let r = shortest (expression_of right) in
    record {
      any = operating_better operator left right (on_left operator l) (on_right operator r)
          (left_better operator left right l parts.0 (is_shortest left both.0)) (right_better operator left right r parts.0 (is_shortest right both.1));
      term = λ is falls. absurd (both_ways (not (is_sum operator)) falls is);
      factor = λ is falls. absurd cc;
    }
is_shortest (Group inner) formed = group_shortest (shortest (expression_of inner)) inner (is_shortest inner formed).any

pub narrower : (w : Written) → is_formed w ≡ true → (behind before : Bool) → width behind (shortest (expression_of w)) before ≤ width behind w before
narrower w formed = (is_shortest w formed).any.narrow

pub shortest_expression : (w : Written) → is_expression w ≡ true → is_expression (shortest (expression_of w)) ≡ true
shortest_expression w is =
    let parts = and_parts (is_formed w) (leb (depth_of w) 32) is in
    let deep = leb-true (depth_of w) 32 parts.1 in
    let shallow = (is_shortest w parts.0).any.shallow in
    and_from _ _ (shortest_formed (expression_of w)) (le-leb (depth_of (shortest (expression_of w))) 32 (omega (arith, deep, shallow)))
