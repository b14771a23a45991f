-- Operands, operators and parentheses: each that is taken is one more of those that were read.
use Rattle.std.proofs.Common.{arith, ◌≡◌, ℕ, suc, ◌+◌, ◌≤◌, true, false, ltb, List, [], ◌∷◌, ◌++◌, append_assoc, length, Option, Some, None, refl, sym, ap, ◌∙◌, subst, inl, inr}
use Rattle.std.proofs.lemmas.Bool.{cases_Bool, ltb-true}
use Rattle.std.proofs.lemmas.List.{append-nil}
use Rattle.protocol_lang.specs.Stacks.{pushed}
use Rattle.protocol_lang.specs.Tokens.{name_of, call_of, operator_of}
use Rattle.protocol_lang.specs.Trees.{is_sum}
use Rattle.protocol_lang.specs.Grammar.{Written, Number, Named, Calling, Group, word_for, call_word, operator_symbol, expression_tokens, is_factor}
use Rattle.protocol_lang.specs.Reading.{State, with_waiting, behind_operand, is_hidden, is_first, opened, word_operand, operand, call_opened, with_infix, enclosed, closed}
use Rattle.protocol_lang.specs.declared.token.Token.{Token}
use Rattle.protocol_lang.specs.declared.token.Token.TheVariants as tokens
use Rattle.protocol_lang.specs.declared.token.Word.{Word}
use Rattle.protocol_lang.specs.declared.token.Word.TheVariants as words
use Rattle.protocol_lang.specs.declared.token.Symbol.TheVariants as symbols
use Rattle.protocol_lang.specs.declared.state.Expected.TheVariants as next
use Rattle.protocol_lang.specs.declared.state.Part.{Part}
use Rattle.protocol_lang.specs.declared.state.Part.TheVariants as parts
use Rattle.protocol_lang.specs.declared.state.Opener.{Opener}
use Rattle.protocol_lang.specs.declared.state.Opener.TheVariants as openers
use Rattle.protocol_lang.specs.declared.state.Level.{Level}
use Rattle.protocol_lang.specs.declared.tree.Name.{Name}
use Rattle.protocol_lang.specs.declared.tree.Name.TheVariants as names
use Rattle.protocol_lang.specs.declared.tree.Call.{Call}
use Rattle.protocol_lang.specs.declared.tree.Call.TheVariants as calls
use Rattle.protocol_lang.specs.declared.tree.Operator.{Operator}
use Rattle.protocol_lang.specs.declared.tree.Operator.TheVariants as operators
use Rattle.protocol_lang.proofs.Carrying.{writings}
use Rattle.protocol_lang.proofs.Holding.{Fits, ProductWaits, infix_tokens, opener_tokens, may_open, Around, Outer, Wanting, has_operand, has_sum, push_room, wanting_few}
use Rattle.protocol_lang.proofs.Headers.{header, Progress, HoldsAt, Holds, done_with, holds_as}

-- ---- operands

operand_taken : (s : State Written) (all : List Token) (f : Written) → Wanting s (header s.part s.first s.rules s.conditions s.left) all → Progress s.part s.first s.rules s.conditions s.left → is_factor f ≡ true → Fits s.part (length s.outer) f
    → HoldsAt next.Operator (behind_operand writings (record s { stack = pushed 67 f s.stack })) (all ++ expression_tokens f)
operand_taken s all f wants progress factor fits =
    let few = wanting_few s (header s.part s.first s.rules s.conditions s.left) all wants in
    subst (λ stack. HoldsAt next.Operator (behind_operand writings (record s { stack = stack })) (all ++ expression_tokens f)) (sym (push_room 0 f s.stack few))
    (has_operand s (header s.part s.first s.rules s.conditions s.left) all f wants factor fits, progress)

seen_fits : (part : Part) (count : ℕ) (name : Name) → is_hidden part name ≡ false → count ≤ 32 → Fits part count (Named name)
seen_fits parts.First count name seen room = record { formed = refl; depth = omega (arith, room); view = λ first. rw seen refl }
seen_fits parts.Left count name seen room = record { formed = refl; depth = omega (arith, room); view = λ first. absurd cc }
seen_fits (parts.Right comparator) count name seen room = record { formed = refl; depth = omega (arith, room); view = λ first. absurd cc }
seen_fits (parts.ActionRule kind) count name seen room = record { formed = refl; depth = omega (arith, room); view = λ first. absurd cc }
seen_fits (parts.Last kind) count name seen room = record { formed = refl; depth = omega (arith, room); view = λ first. absurd cc }

pub name_word : (word : Word) (name : Name) → name_of word ≡ Some name → word ≡ word_for name
name_word words.Input name e = let same : names.Input ≡ name = cc in rw (← same) refl
name_word words.Id name e = let same : names.Id ≡ name = cc in rw (← same) refl
name_word words.N name e = let same : names.N ≡ name = cc in rw (← same) refl
name_word words.Round name e = let same : names.Round ≡ name = cc in rw (← same) refl
name_word words.Mine name e = let same : names.Mine ≡ name = cc in rw (← same) refl
name_word words.Count name e = let same : names.Count ≡ name = cc in rw (← same) refl
name_word words.Min name e = let same : names.Min ≡ name = cc in rw (← same) refl
name_word words.Max name e = let same : names.Max ≡ name = cc in rw (← same) refl
name_word word name e = absurd cc

pub call_is : (word : Word) (function : Call) → call_of word ≡ Some function → word ≡ call_word function
call_is words.Cell function e = let same : calls.Cell ≡ function = cc in rw (← same) refl
call_is words.Seen function e = let same : calls.Seen ≡ function = cc in rw (← same) refl
call_is words.Equal function e = let same : calls.Equal ≡ function = cc in rw (← same) refl
call_is word function e = absurd cc

word_taken : (s s' : State Written) (all : List Token) (word : Word) (name : Option Name) (function : Option Call) → name_of word ≡ name → call_of word ≡ function → Wanting s (header s.part s.first s.rules s.conditions s.left) all → Progress s.part s.first s.rules s.conditions s.left
    → word_operand writings s name function ≡ done_with s' → Holds s' (all ++ tokens.Word word ∷ [])
word_taken s s' all word (Some name) function is also wants progress e =
    elim (cases_Bool (is_hidden s.part name)) [
      | inl hidden ↦ absurd (let never = rw hidden at e in cc)
      | inr seen ↦
          let taken = rw seen at e in
          let fits = seen_fits s.part (length s.outer) name seen wants.room in
          holds_as _ s' (all ++ tokens.Word word ∷ []) taken (rw (name_word word name is) (operand_taken s all (Named name) wants progress refl fits))
    ]
word_taken s s' all word None (Some function) is also wants progress e =
    elim (cases_Bool (is_first s.part)) [
      | inl first ↦ absurd (let never = rw first at e in cc)
      | inr later ↦
          let taken = rw later at e in
          holds_as _ s' (all ++ tokens.Word word ∷ []) taken (
            all,
            ap (λ w. all ++ tokens.Word w ∷ []) (call_is word function also),
            record {
              top = wants.top;
              below = wants.below;
              rest = wants.rest;
              sum_tokens = wants.sum_tokens;
              product_tokens = wants.product_tokens;
              outer_tokens = wants.outer_tokens;
              sums = wants.sums;
              products = wants.products;
              outer = wants.outer;
              stack_is = wants.stack_is;
              tokens_are = wants.tokens_are;
              room = wants.room;
            },
            progress,
            later,
          )
    ]
word_taken s s' all word None None is also wants progress e = absurd cc

-- ---- parentheses

opened_taken : (s s' : State Written) (before all : List Token) (opener : Opener) → all ≡ before ++ opener_tokens opener → Wanting s (header s.part s.first s.rules s.conditions s.left) before → Progress s.part s.first s.rules s.conditions s.left → may_open s.part opener
    → opened opener s ≡ done_with s' → Holds s' all
opened_taken s s' before all opener is wants progress may e =
    elim (cases_Bool (ltb (length s.outer) 32)) [
      | inl room ↦
          let taken = rw room at e in
          holds_as _ s' all taken (
            record {
              top = [];
              below = [];
              rest = s.stack;
              sum_tokens = [];
              product_tokens = [];
              outer_tokens = all;
              sums = (refl, refl);
              products = (refl, refl);
              outer = record {
                top = wants.top;
                below = wants.below;
                rest = wants.rest;
                sum_tokens = wants.sum_tokens;
                product_tokens = wants.product_tokens;
                outer_tokens = wants.outer_tokens;
                sums = wants.sums;
                products = wants.products;
                outer = wants.outer;
                stack_is = wants.stack_is;
                tokens_are = is ∙ ap (λ t. t ++ opener_tokens opener) wants.tokens_are;
                may = may;
              };
              stack_is = refl;
              tokens_are = sym (append-nil all);
              room = let less = ltb-true (length s.outer) 32 room in omega (arith, less);
            },
            progress,
          )
      | inr full ↦ absurd (let never = rw full at e in cc)
    ]

pub operand_step : (s s' : State Written) (all : List Token) (token : Token) → HoldsAt next.Operand s all → operand writings s token ≡ done_with s' → Holds s' (all ++ token ∷ [])
operand_step s s' all (tokens.Number number) holds e =
    holds_as _ s' (all ++ tokens.Number number ∷ []) e (operand_taken s all (Number number) holds.0 holds.1 refl (record { formed = refl; depth = omega (arith, holds.0.room); view = λ first. refl }))
operand_step s s' all (tokens.Word word) holds e = word_taken s s' all word (name_of word) (call_of word) refl refl holds.0 holds.1 e
operand_step s s' all (tokens.Symbol symbols.Open) holds e = opened_taken s s' all (all ++ tokens.Symbol symbols.Open ∷ []) openers.Group refl holds.0 holds.1 tt e
operand_step s s' all token holds e = absurd cc

pub open_step : (function : Call) (s s' : State Written) (all : List Token) (token : Token) → HoldsAt (next.Open function) s all → call_opened function s token ≡ done_with s' → Holds s' (all ++ token ∷ [])
open_step function s s' all (tokens.Symbol symbols.Open) holds e =
    let open_token : List Token = tokens.Symbol symbols.Open ∷ [] in
    let is : all ++ open_token ≡ holds.0 ++ opener_tokens (openers.Call function) = ap (λ t. t ++ open_token) holds.1 ∙ append_assoc holds.0 (tokens.Word (call_word function) ∷ []) open_token in
    opened_taken s s' holds.0 (all ++ open_token) (openers.Call function) is holds.2 holds.3 holds.4 e
open_step function s s' all token holds e = absurd cc

-- ---- operators

pub operator_token : (token : Token) (operator : Operator) → operator_of token ≡ Some operator → token ≡ tokens.Symbol (operator_symbol operator)
operator_token (tokens.Symbol symbols.Plus) operator e = let same : operators.Add ≡ operator = cc in rw (← same) refl
operator_token (tokens.Symbol symbols.Minus) operator e = let same : operators.Subtract ≡ operator = cc in rw (← same) refl
operator_token (tokens.Symbol symbols.Times) operator e = let same : operators.Multiply ≡ operator = cc in rw (← same) refl
operator_token (tokens.Symbol symbols.Divide) operator e = let same : operators.Divide ≡ operator = cc in rw (← same) refl
operator_token (tokens.Symbol symbols.Remainder) operator e = let same : operators.Remainder ≡ operator = cc in rw (← same) refl
operator_token token operator e = absurd cc

three_and : (outer sum term more : List Token) → (outer ++ (sum ++ term)) ++ more ≡ outer ++ (sum ++ (term ++ more))
three_and outer sum term more = append_assoc outer (sum ++ term) more ∙ ap (λ t. outer ++ t) (append_assoc sum term more)

pub infix_taken : (s : State Written) (all : List Token) (operator : Operator) → HoldsAt next.Operator s all → Holds (with_infix writings operator s) (all ++ tokens.Symbol (operator_symbol operator) ∷ [])
infix_taken s all operator holds =
    let h = holds.0 in
    let head = header s.part s.first s.rules s.conditions s.left in
    let token : List Token = tokens.Symbol (operator_symbol operator) ∷ [] in
    elim (cases_Bool (is_sum operator)) [
      | inl sum ↦
          let v = has_sum s head all h in
          let wants : Wanting (record s { expected = next.Operand; level = record s.level { sum = Some operator }; stack = with_waiting writings s.level.sum s.stack }) head (all ++ token) = record {
            top = [];
            below = v.value ∷ [];
            rest = v.rest;
            sum_tokens = infix_tokens v.value operator;
            product_tokens = [];
            outer_tokens = v.outer_tokens;
            sums = (v.value, refl, refl, sum, v.fits);
            products = subst (λ product. ProductWaits s.part (length s.outer) product [] []) (sym h.no_product) (refl, refl);
            outer = v.outer;
            stack_is = v.stack_is;
            tokens_are = ap (λ t. t ++ token) v.tokens_are ∙ append_assoc v.outer_tokens (expression_tokens v.value) token ∙ ap (λ t. v.outer_tokens ++ t) (sym (append-nil (infix_tokens v.value operator)));
            room = h.room;
          } in
          rw sum (wants, holds.1)
      | inr product ↦
          let wants : Wanting (record s { expected = next.Operand; level = record s.level { product = Some operator } }) head (all ++ token) = record {
            top = h.term ∷ [];
            below = h.below;
            rest = h.rest;
            sum_tokens = h.sum_tokens;
            product_tokens = infix_tokens h.term operator;
            outer_tokens = h.outer_tokens;
            sums = h.sums;
            products = (h.term, refl, refl, product, h.fits, h.is);
            outer = h.outer;
            stack_is = h.stack_is;
            tokens_are = ap (λ t. t ++ token) h.tokens_are ∙ three_and h.outer_tokens h.sum_tokens (expression_tokens h.term) token;
            room = h.room;
          } in
          rw product (wants, holds.1)
    ]

-- ---- a closing parenthesis

-- what the parentheses make of the value between them
record Closes (part : Part) (count : ℕ) (opener : Opener) (value : Written) (rest : List Written) : Type 0 where
  f : Written
  factor : is_factor f ≡ true
  fits : Fits part count f
  stack_is : enclosed writings opener (value ∷ rest) ≡ pushed 67 f rest
  tokens_are : opener_tokens opener ++ (expression_tokens value ++ tokens.Symbol symbols.Close ∷ []) ≡ expression_tokens f

not_first : (part : Part) → is_first part ≡ false → is_first part ≡ true → ⊥
not_first part later first = absurd (let never : true ≡ false = sym first ∙ later in cc)

closes : (part : Part) (count : ℕ) (opener : Opener) (value : Written) (rest : List Written) → Fits part (suc count) value → may_open part opener → length rest ≤ 66 → Closes part count opener value rest
closes part count openers.Group value rest fits may few = record {
  f = Group value;
  factor = refl;
  fits = record { formed = fits.formed; depth = let d = fits.depth in omega (arith, d); view = fits.view };
  stack_is = sym (push_room 0 (Group value) rest few);
  tokens_are = refl;
}
closes part count (openers.Call function) value rest fits may few = record {
  f = Calling function value;
  factor = refl;
  fits = record { formed = fits.formed; depth = let d = fits.depth in omega (arith, d); view = λ first. absurd (not_first part may first) };
  stack_is = refl;
  tokens_are = refl;
}

pub closed_taken : (s s' : State Written) (all : List Token) (levels : List Level) → s.outer ≡ levels → HoldsAt next.Operator s all → closed writings s levels ≡ done_with s' → Holds s' (all ++ tokens.Symbol symbols.Close ∷ [])
closed_taken s s' all [] is holds e = absurd cc
closed_taken s s' all (level ∷ outer) is holds e =
    let head = header s.part s.first s.rules s.conditions s.left in
    let v = has_sum s head all holds.0 in
    let close : List Token = tokens.Symbol symbols.Close ∷ [] in
    let around : Around s.part (length outer) level s.level.opener v.rest v.outer_tokens (Outer s.part head outer level.opener) = subst (λ o. Outer s.part head o s.level.opener v.rest v.outer_tokens) is v.outer in
    let fits : Fits s.part (suc (length outer)) v.value = subst (λ (o : List Level). Fits s.part (length o) v.value) is v.fits in
    let room : length outer ≤ 32 = let r = holds.0.room in omega (arith, r, ap length is) in
    let before = around.outer_tokens ++ (around.sum_tokens ++ around.product_tokens) in
    let wants : Wanting (record s { level = level; outer = outer; stack = v.rest }) head before = record {
      top = around.top;
      below = around.below;
      rest = around.rest;
      sum_tokens = around.sum_tokens;
      product_tokens = around.product_tokens;
      outer_tokens = around.outer_tokens;
      sums = around.sums;
      products = around.products;
      outer = around.outer;
      stack_is = around.stack_is;
      tokens_are = refl;
      room = room;
    } in
    let few = wanting_few (record s { level = level; outer = outer; stack = v.rest }) head before wants in
    let c = closes s.part (length outer) s.level.opener v.value v.rest fits around.may few in
    let taken = operand_taken (record s { level = level; outer = outer; stack = v.rest }) before c.f wants holds.1 c.factor c.fits in
    let stack : enclosed writings s.level.opener (with_waiting writings s.level.sum s.stack) ≡ pushed 67 c.f v.rest = ap (enclosed writings s.level.opener) v.stack_is ∙ c.stack_is in
    let here : all ++ close ≡ before ++ expression_tokens c.f =
    ap (λ t. t ++ close) (v.tokens_are ∙ ap (λ t. t ++ expression_tokens v.value) around.tokens_are)
    ∙ append_assoc (before ++ opener_tokens s.level.opener) (expression_tokens v.value) close
    ∙ append_assoc before (opener_tokens s.level.opener) (expression_tokens v.value ++ close)
    ∙ ap (λ t. before ++ t) c.tokens_are in
    holds_as _ s' (all ++ close) e
    (subst (λ t. HoldsAt next.Operator (behind_operand writings (record s { level = level; outer = outer; stack = enclosed writings s.level.opener (with_waiting writings s.level.sum s.stack) })) t) (sym here)
    (subst (λ st. HoldsAt next.Operator (behind_operand writings (record s { level = level; outer = outer; stack = st })) (before ++ expression_tokens c.f)) (sym stack) taken))
