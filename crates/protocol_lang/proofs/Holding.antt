-- What has been read so far, wherever reading stands: the tokens up to there, as expressions that are whole and ones that wait.
use Rattle.std.proofs.Common.{arith, ◌≡◌, ℕ, ◌+◌, ◌*◌, ◌≤◌, true, false, max, List, [], ◌∷◌, ◌++◌, append_assoc, length, Option, Some, None, refl, ap, ◌∙◌}
use Rattle.std.proofs.lemmas.Bool.{and_from, lt-ltb}
use Rattle.std.proofs.lemmas.List.{length-append}
use Rattle.protocol_lang.specs.Stacks.{pushed}
use Rattle.protocol_lang.specs.Trees.{is_sum}
use Rattle.protocol_lang.specs.Formulas.{with_operator}
use Rattle.protocol_lang.specs.Grammar.{Written, Number, Named, Calling, Operating, Group, call_word, operator_symbol, expression_tokens, is_term, is_factor, may_join, is_formed, depth_of, needs_no_view}
use Rattle.protocol_lang.specs.Reading.{State, with_waiting, behind_operand, is_first}
use Rattle.protocol_lang.specs.declared.token.Token.{Token}
use Rattle.protocol_lang.specs.declared.token.Token.TheVariants as tokens
use Rattle.protocol_lang.specs.declared.token.Symbol.TheVariants as symbols
use Rattle.protocol_lang.specs.declared.state.Part.{Part}
use Rattle.protocol_lang.specs.declared.state.Opener.{Opener}
use Rattle.protocol_lang.specs.declared.state.Opener.TheVariants as openers
use Rattle.protocol_lang.specs.declared.state.Level.{Level}
use Rattle.protocol_lang.specs.declared.tree.Operator.{Operator}
use Rattle.protocol_lang.proofs.Carrying.{writings}

-- ---- operands that wait

-- the operand may stand in this part behind so many open parentheses
pub record Fits (part : Part) (open_count : ℕ) (w : Written) : Type 0 where
  pub formed : is_formed w ≡ true
  pub depth : depth_of w + open_count ≤ 32
  pub view : is_first part ≡ true → needs_no_view w ≡ true

abbrev pub infix_tokens : Written → Operator → List Token
infix_tokens left operator = expression_tokens left ++ tokens.Symbol (operator_symbol operator) ∷ []

-- the left operand of a sum, and the tokens up to its operator
abbrev pub SumWaits : Part → ℕ → Option Operator → List Written → List Token → Type 0
SumWaits part count None below all = (below ≡ []) × (all ≡ [])
SumWaits part count (Some operator) below all = (l : Written) × (below ≡ l ∷ []) × (all ≡ infix_tokens l operator) × (is_sum operator ≡ true) × Fits part count l

-- and of a product
abbrev pub ProductWaits : Part → ℕ → Option Operator → List Written → List Token → Type 0
ProductWaits part count None top all = (top ≡ []) × (all ≡ [])
ProductWaits part count (Some operator) top all = (t : Written) × (top ≡ t ∷ []) × (all ≡ infix_tokens t operator) × (is_sum operator ≡ false) × Fits part count t × (is_term t ≡ true)

abbrev pub opener_tokens : Opener → List Token
opener_tokens openers.Group = tokens.Symbol symbols.Open ∷ []
opener_tokens (openers.Call function) = tokens.Word (call_word function) ∷ tokens.Symbol symbols.Open ∷ []

abbrev pub may_open : Part → Opener → Type 0
may_open part openers.Group = Unit {0}
may_open part (openers.Call function) = is_first part ≡ false

-- a level round the one that this opened
pub record Around (part : Part) (count : ℕ) (level : Level) (inner : Opener) (stack : List Written) (all : List Token) (Rest : List Written → List Token → Type 0) : Type 0 where
  pub top : List Written
  pub below : List Written
  pub rest : List Written
  pub sum_tokens : List Token
  pub product_tokens : List Token
  pub outer_tokens : List Token
  pub sums : SumWaits part count level.sum below sum_tokens
  pub products : ProductWaits part count level.product top product_tokens
  pub outer : Rest rest outer_tokens
  pub stack_is : stack ≡ top ++ (below ++ rest)
  pub tokens_are : all ≡ (outer_tokens ++ (sum_tokens ++ product_tokens)) ++ opener_tokens inner
  pub may : may_open part inner

abbrev pub Outer : Part → List Token → List Level → Opener → List Written → List Token → Type 0
Outer part header [] inner stack all = (stack ≡ []) × (all ≡ header)
Outer part header (level ∷ outer) inner stack all = Around part (length outer) level inner stack all (Outer part header outer level.opener)

-- an operand is wanted
pub record Wanting (s : State Written) (header all : List Token) : Type 0 where
  pub top : List Written
  pub below : List Written
  pub rest : List Written
  pub sum_tokens : List Token
  pub product_tokens : List Token
  pub outer_tokens : List Token
  pub sums : SumWaits s.part (length s.outer) s.level.sum below sum_tokens
  pub products : ProductWaits s.part (length s.outer) s.level.product top product_tokens
  pub outer : Outer s.part header s.outer s.level.opener rest outer_tokens
  pub stack_is : s.stack ≡ top ++ (below ++ rest)
  pub tokens_are : all ≡ outer_tokens ++ (sum_tokens ++ product_tokens)
  pub room : length s.outer ≤ 32

-- an operand was read
pub record Having (s : State Written) (header all : List Token) : Type 0 where
  pub term : Written
  pub below : List Written
  pub rest : List Written
  pub sum_tokens : List Token
  pub outer_tokens : List Token
  pub fits : Fits s.part (length s.outer) term
  pub is : is_term term ≡ true
  pub no_product : s.level.product ≡ None
  pub sums : SumWaits s.part (length s.outer) s.level.sum below sum_tokens
  pub outer : Outer s.part header s.outer s.level.opener rest outer_tokens
  pub stack_is : s.stack ≡ term ∷ (below ++ rest)
  pub tokens_are : all ≡ outer_tokens ++ (sum_tokens ++ expression_tokens term)
  pub room : length s.outer ≤ 32

-- ---- there is room on the stack

sum_few : (part : Part) (count : ℕ) (sum : Option Operator) (below : List Written) (all : List Token) → SumWaits part count sum below all → length below ≤ 1
sum_few part count None below all waits = rw waits.0 (omega arith)
sum_few part count (Some operator) below all waits = rw waits.1 (omega arith)

product_few : (part : Part) (count : ℕ) (product : Option Operator) (top : List Written) (all : List Token) → ProductWaits part count product top all → length top ≤ 1
product_few part count None top all waits = rw waits.0 (omega arith)
product_few part count (Some operator) top all waits = rw waits.1 (omega arith)

three_lengths : (top below rest : List Written) → length (top ++ (below ++ rest)) ≡ length top + (length below + length rest)
three_lengths top below rest = length-append top (below ++ rest) ∙ ap (λ n. length top + n) (length-append below rest)

outer_few : (part : Part) (header : List Token) (outer : List Level) (inner : Opener) (stack : List Written) (all : List Token) → Outer part header outer inner stack all → length stack ≤ 2 * length outer
outer_few part header [] inner stack all o = rw o.0 (omega arith)
outer_few part header (level ∷ outer) inner stack all o =
    let few = outer_few part header outer level.opener o.rest o.outer_tokens o.outer in
    let a = sum_few part (length outer) level.sum o.below o.sum_tokens o.sums in
    let b = product_few part (length outer) level.product o.top o.product_tokens o.products in
    rw o.stack_is (omega (arith, three_lengths o.top o.below o.rest, few, a, b))

pub push_room : (n : ℕ) (x : Written) (stack : List Written) → length stack ≤ 66 → pushed 67 x stack ≡ x ∷ stack
push_room n x stack few = rw (lt-ltb (length stack) 67 (omega arith)) refl

pub wanting_few : (s : State Written) (header all : List Token) → Wanting s header all → length s.stack ≤ 66
wanting_few s header all h =
    let few = outer_few s.part header s.outer s.level.opener h.rest h.outer_tokens h.outer in
    let a = sum_few s.part (length s.outer) s.level.sum h.below h.sum_tokens h.sums in
    let b = product_few s.part (length s.outer) s.level.product h.top h.product_tokens h.products in
    rw h.stack_is (omega (arith, three_lengths h.top h.below h.rest, few, a, b, h.room))

-- ---- operands

max_depth : (a b n : ℕ) → a + n ≤ 32 → b + n ≤ 32 → max a b + n ≤ 32
max_depth a b n ha hb = omega (arith, max)

pub operating_fits : (part : Part) (count : ℕ) (operator : Operator) (left right : Written) → may_join operator left right ≡ true → Fits part count left → Fits part count right → Fits part count (Operating operator left right)
operating_fits part count operator left right may l r = record {
  formed = and_from _ _ may (and_from _ _ l.formed r.formed);
  depth = max_depth (depth_of left) (depth_of right) count l.depth r.depth;
  view = λ first. and_from _ _ (l.view first) (r.view first);
}

joins_product : (operator : Operator) (left right : Written) → is_sum operator ≡ false → is_term left ≡ true → is_factor right ≡ true → may_join operator left right ≡ true
joins_product operator left right product term factor = rw (product, term, factor) refl

joins_sum : (operator : Operator) (left right : Written) → is_sum operator ≡ true → is_term right ≡ true → may_join operator left right ≡ true
joins_sum operator left right sum term = rw (sum, term) refl

product_is_term : (operator : Operator) (left right : Written) → is_sum operator ≡ false → is_term (Operating operator left right) ≡ true
product_is_term operator left right product = rw product refl

factor_is_term : (w : Written) → is_factor w ≡ true → is_term w ≡ true
factor_is_term (Number value) e = refl
factor_is_term (Named name) e = refl
factor_is_term (Calling function argument) e = refl
factor_is_term (Operating operator left right) e = absurd cc
factor_is_term (Group inner) e = refl

-- what stands behind an operand: the product that it ends
record Ended (part : Part) (count : ℕ) (product : Option Operator) (f : Written) (top : List Written) (product_tokens : List Token) (below : List Written) : Type 0 where
  term : Written
  fits : Fits part count term
  is : is_term term ≡ true
  stack_is : with_waiting writings product (f ∷ (top ++ below)) ≡ term ∷ below
  tokens_are : product_tokens ++ expression_tokens f ≡ expression_tokens term

one_more : (t : Written) (operator : Operator) (f : Written) → infix_tokens t operator ++ expression_tokens f ≡ expression_tokens (Operating operator t f)
one_more t operator f = append_assoc (expression_tokens t) (tokens.Symbol (operator_symbol operator) ∷ []) (expression_tokens f)

product_ends : (part : Part) (count : ℕ) (product : Option Operator) (f : Written) (top : List Written) (all : List Token) (below : List Written) → ProductWaits part count product top all → is_factor f ≡ true → Fits part count f → length below ≤ 66 → Ended part count product f top all below
product_ends part count None f top all below waits factor fits few = record {
  term = f;
  fits = fits;
  is = factor_is_term f factor;
  stack_is = ap (λ t. f ∷ (t ++ below)) waits.0;
  tokens_are = ap (λ t. t ++ expression_tokens f) waits.1;
}
product_ends part count (Some operator) f top all below waits factor fits few =
    let t = waits.0 in
    record {
      term = Operating operator t f;
      fits = operating_fits part count operator t f (joins_product operator t f waits.3 waits.5 factor) waits.4 fits;
      is = product_is_term operator t f waits.3;
      stack_is = ap (λ top. with_operator writings operator (f ∷ (top ++ below))) waits.1 ∙ push_room 0 (Operating operator t f) below few;
      tokens_are = ap (λ t. t ++ expression_tokens f) waits.2 ∙ one_more t operator f;
    }

regroup : (outer sum product f term : List Token) → product ++ f ≡ term → (outer ++ (sum ++ product)) ++ f ≡ outer ++ (sum ++ term)
regroup outer sum product f term e = append_assoc outer (sum ++ product) f ∙ ap (λ t. outer ++ t) (append_assoc sum product f ∙ ap (λ t. sum ++ t) e)

-- a whole operand has been read where one was wanted
pub has_operand : (s : State Written) (header all : List Token) (f : Written) → Wanting s header all → is_factor f ≡ true → Fits s.part (length s.outer) f → Having (behind_operand writings (record s { stack = f ∷ s.stack })) header (all ++ expression_tokens f)
has_operand s header all f h factor fits =
    let few = wanting_few s header all h in
    let below = h.below ++ h.rest in
    let small : length below ≤ 66 = omega (arith, ap length h.stack_is, length-append h.top below) in
    let ends = product_ends s.part (length s.outer) s.level.product f h.top h.product_tokens below h.products factor fits small in
    record {
      term = ends.term;
      below = h.below;
      rest = h.rest;
      sum_tokens = h.sum_tokens;
      outer_tokens = h.outer_tokens;
      fits = ends.fits;
      is = ends.is;
      no_product = refl;
      sums = h.sums;
      outer = h.outer;
      stack_is = ap (λ stack. with_waiting writings s.level.product (f ∷ stack)) h.stack_is ∙ ends.stack_is;
      tokens_are = ap (λ t. t ++ expression_tokens f) h.tokens_are ∙ regroup h.outer_tokens h.sum_tokens h.product_tokens (expression_tokens f) (expression_tokens ends.term) ends.tokens_are;
      room = h.room;
    }

-- ---- the sum that ends there

pub record Summed (s : State Written) (header all : List Token) : Type 0 where
  pub value : Written
  pub rest : List Written
  pub outer_tokens : List Token
  pub fits : Fits s.part (length s.outer) value
  pub outer : Outer s.part header s.outer s.level.opener rest outer_tokens
  pub stack_is : with_waiting writings s.level.sum s.stack ≡ value ∷ rest
  pub tokens_are : all ≡ outer_tokens ++ expression_tokens value

record Added (part : Part) (count : ℕ) (sum : Option Operator) (term : Written) (below : List Written) (sum_tokens : List Token) (rest : List Written) : Type 0 where
  value : Written
  fits : Fits part count value
  stack_is : with_waiting writings sum (term ∷ (below ++ rest)) ≡ value ∷ rest
  tokens_are : sum_tokens ++ expression_tokens term ≡ expression_tokens value

sum_ends : (part : Part) (count : ℕ) (sum : Option Operator) (term : Written) (below : List Written) (all : List Token) (rest : List Written) → SumWaits part count sum below all → is_term term ≡ true → Fits part count term → length rest ≤ 66 → Added part count sum term below all rest
sum_ends part count None term below all rest waits is fits few = record {
  value = term;
  fits = fits;
  stack_is = ap (λ b. term ∷ (b ++ rest)) waits.0;
  tokens_are = ap (λ t. t ++ expression_tokens term) waits.1;
}
sum_ends part count (Some operator) term below all rest waits is fits few =
    let l = waits.0 in
    record {
      value = Operating operator l term;
      fits = operating_fits part count operator l term (joins_sum operator l term waits.3 is) waits.4 fits;
      stack_is = ap (λ b. with_operator writings operator (term ∷ (b ++ rest))) waits.1 ∙ push_room 0 (Operating operator l term) rest few;
      tokens_are = ap (λ t. t ++ expression_tokens term) waits.2 ∙ one_more l operator term;
    }

pub has_sum : (s : State Written) (header all : List Token) → Having s header all → Summed s header all
has_sum s header all h =
    let few = outer_few s.part header s.outer s.level.opener h.rest h.outer_tokens h.outer in
    let ends = sum_ends s.part (length s.outer) s.level.sum h.term h.below h.sum_tokens h.rest h.sums h.is h.fits (omega (arith, few, h.room)) in
    record {
      value = ends.value;
      rest = h.rest;
      outer_tokens = h.outer_tokens;
      fits = ends.fits;
      outer = h.outer;
      stack_is = ap (with_waiting writings s.level.sum) h.stack_is ∙ ends.stack_is;
      tokens_are = h.tokens_are ∙ ap (λ t. h.outer_tokens ++ t) ends.tokens_are;
    }
