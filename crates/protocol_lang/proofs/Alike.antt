-- Texts that begin alike begin with the same token.
use Rattle.std.proofs.Common.{arith, ◌≡◌, ℕ, zero, suc, ◌+◌, ◌-◌, ◌<◌, ◌≤◌, Bool, true, eqb, List, [], ◌∷◌, ◌++◌, length, take, drop, Option, Some, None, refl, sym, ap, ◌∙◌, subst, inl, inr}
use Rattle.std.specs.List.{prefix_len}
use Rattle.std.proofs.lemmas.Bool.{cases_Bool, eqb-true}
use Rattle.std.proofs.lemmas.List.{take-take, take-append-drop, drop-take}
use Rattle.protocol_lang.specs.Numbers.{is_digit, number_of}
use Rattle.protocol_lang.specs.Tokens.{is_letter, word_of, symbol_spelling, symbol_of}
use Rattle.protocol_lang.specs.Reading.{word_token, number_token, symbol_token, token_at, symbol_extent, extent_of}
use Rattle.protocol_lang.specs.Grammar.{goes_on, EndsBefore}
use Rattle.protocol_lang.specs.declared.token.Symbol.{Symbol}
use Rattle.protocol_lang.specs.declared.token.Symbol.TheVariants as symbols
use Rattle.protocol_lang.specs.declared.token.Token.TheVariants as tokens
use Rattle.protocol_lang.proofs.Runs.{run_same}
use Rattle.protocol_lang.proofs.Words.{symbol_spelled, symbol_again}
use Rattle.protocol_lang.proofs.Front.{at_letter, at_digit, at_other}

-- ---- texts that begin alike

pub take_less : (n m : ℕ) (text other : List ℕ) → n ≤ m → take m other ≡ take m text → take n other ≡ take n text
take_less n m text other less same = sym (take-take n m other less) ∙ ap (take n) same ∙ take-take n m text less

pub drop_same : (n m : ℕ) (text other : List ℕ) → n ≤ m → take m other ≡ take m text → take (m - n) (drop n other) ≡ take (m - n) (drop n text)
drop_same n m text other less same =
    let parts : n + (m - n) ≡ m = omega arith in
    sym (drop-take n (m - n) other) ∙ ap (λ k. drop n (take k other)) parts ∙ ap (drop n) same ∙ ap (λ k. drop n (take k text)) (sym parts) ∙ drop-take n (m - n) text

-- ---- the token at the front

symbol_extent_some : (symbol : Option Symbol) → 0 < symbol_extent symbol
symbol_extent_some None = omega arith
symbol_extent_some (Some symbols.Semicolon) = omega arith
symbol_extent_some (Some symbol) = omega arith

run_some : (p : ℕ → Bool) (byte : ℕ) (bytes : List ℕ) → p byte ≡ true → 0 < prefix_len p (byte ∷ bytes)
run_some p byte bytes goes = rw goes (omega arith)

pub extent_some : (byte : ℕ) (bytes : List ℕ) → 0 < extent_of (byte ∷ bytes)
extent_some byte bytes =
    elim (cases_Bool (is_letter byte)) [
      | inl letter ↦ rw ((at_letter 0 byte bytes letter).1) (run_some is_letter byte bytes letter)
      | inr other ↦ elim (cases_Bool (is_digit byte)) [
        | inl digit ↦ rw ((at_digit 0 byte bytes other digit).1) (run_some is_digit byte bytes digit)
        | inr neither ↦ rw ((at_other 0 byte bytes other neither).1) (symbol_extent_some (symbol_of (byte ∷ bytes)))
      ]
    ]

pub extent_none : (text : List ℕ) → extent_of text ≡ 0 → text ≡ []
extent_none [] none = refl
extent_none (byte ∷ bytes) none = absurd (omega (arith, extent_some byte bytes))

symbol_two : (text : List ℕ) → symbol_of text ≡ symbol_of (take 2 text)
symbol_two [] = refl
symbol_two (byte ∷ []) = refl
symbol_two (byte ∷ next ∷ text) = refl

same_front : (m byte : ℕ) (text other : List ℕ) → extent_of (byte ∷ text) < suc m → take m other ≡ take m text → extent_of (byte ∷ other) ≡ extent_of (byte ∷ text)
same_front m byte text other within same =
    let whole : take (suc m) (byte ∷ other) ≡ take (suc m) (byte ∷ text) = ap (λ rest. byte ∷ rest) same in
    elim (cases_Bool (is_letter byte)) [
      | inl letter ↦ let here = (at_letter 0 byte text letter).1 in
          (at_letter 0 byte other letter).1 ∙ run_same is_letter (suc m) (byte ∷ text) (byte ∷ other) (subst (λ n. n < suc m) here within) whole ∙ sym here
      | inr other_kind ↦ elim (cases_Bool (is_digit byte)) [
        | inl digit ↦ let here = (at_digit 0 byte text other_kind digit).1 in
            (at_digit 0 byte other other_kind digit).1 ∙ run_same is_digit (suc m) (byte ∷ text) (byte ∷ other) (subst (λ n. n < suc m) here within) whole ∙ sym here
        | inr neither ↦ let here = (at_other 0 byte text other_kind neither).1 in
            let two : 2 ≤ suc m = omega (arith, extent_some byte text) in
            let same_symbol : symbol_of (byte ∷ other) ≡ symbol_of (byte ∷ text) = symbol_two (byte ∷ other) ∙ ap symbol_of (take_less 2 (suc m) (byte ∷ text) (byte ∷ other) two whole) ∙ sym (symbol_two (byte ∷ text)) in
            (at_other 0 byte other other_kind neither).1 ∙ ap symbol_extent same_symbol ∙ sym here
      ]
    ]

-- a token that ends before a place ends there in each text that has the same bytes up to that place
pub extent_same : (m : ℕ) (text other : List ℕ) → extent_of text < m → take m other ≡ take m text → extent_of other ≡ extent_of text
extent_same zero text other within same = absurd (omega arith)
extent_same (suc m) [] [] within same = refl
extent_same (suc m) [] (byte ∷ other) within same = absurd cc
extent_same (suc m) (byte ∷ text) [] within same = absurd cc
extent_same (suc m) (byte ∷ text) (first ∷ other) within same =
    let first_same : first ≡ byte = cc in
    let rest_same : take m other ≡ take m text = cc in
    ap (λ b. extent_of (b ∷ other)) first_same ∙ same_front m byte text other within rest_same

symbol_ends_here : (symbol : Symbol) (rest : List ℕ) → symbol_extent (symbol_of (symbol_spelling symbol ++ rest)) ≡ length (symbol_spelling symbol) → EndsBefore (goes_on (tokens.Symbol symbol)) rest
symbol_ends_here symbol [] e = tt
symbol_ends_here symbols.Less (byte ∷ rest) e = elim (cases_Bool (eqb byte 61)) [ inl longer ↦ let two = rw (eqb-true byte 61 longer) at e in absurd (omega arith) | inr ends ↦ ends ]
symbol_ends_here symbols.Greater (byte ∷ rest) e = elim (cases_Bool (eqb byte 61)) [ inl longer ↦ let two = rw (eqb-true byte 61 longer) at e in absurd (omega arith) | inr ends ↦ ends ]
symbol_ends_here symbol (byte ∷ rest) e = refl

symbol_carried : (symbol : Symbol) (text other : List ℕ) → symbol_of text ≡ Some symbol → take (length (symbol_spelling symbol)) other ≡ take (length (symbol_spelling symbol)) text → symbol_extent (symbol_of other) ≡ length (symbol_spelling symbol) → symbol_of other ≡ Some symbol
symbol_carried symbol text other is same ends =
    let len = length (symbol_spelling symbol) in
    let spelled : take len other ≡ symbol_spelling symbol = same ∙ symbol_spelled text symbol is in
    let split : other ≡ symbol_spelling symbol ++ drop len other = sym (take-append-drop len other) ∙ ap (λ front. front ++ drop len other) spelled in
    ap symbol_of split ∙ symbol_again symbol (drop len other) (symbol_ends_here symbol (drop len other) (ap (λ t. symbol_extent (symbol_of t)) (sym split) ∙ ends))

symbol_same : (n : ℕ) (text other : List ℕ) (here there : Option Symbol) → symbol_of text ≡ here → symbol_of other ≡ there → symbol_extent here ≡ n → symbol_extent there ≡ n → take n other ≡ take n text → there ≡ here
symbol_same n text other None None here-is there-is here-ends there-ends same = refl
symbol_same n text other (Some symbol) there here-is there-is here-ends there-ends same =
    sym there-is ∙ symbol_carried symbol text other here-is (rw here-ends same) (rw there-is (there-ends ∙ sym here-ends))
symbol_same n text other None (Some symbol) here-is there-is here-ends there-ends same =
    sym (symbol_carried symbol other text there-is (rw there-ends (sym same)) (rw here-is (here-ends ∙ sym there-ends))) ∙ here-is

runs_same : (n : ℕ) (text other : List ℕ) (here there : ℕ) → here ≡ n → there ≡ n → take n other ≡ take n text → take there other ≡ take here text
runs_same n text other here there here-is there-is same = rw (here-is, there-is) same

same_token : (at n byte : ℕ) (text other : List ℕ) → extent_of (byte ∷ text) ≡ n → extent_of (byte ∷ other) ≡ n → take n (byte ∷ other) ≡ take n (byte ∷ text) → token_at at (byte ∷ other) ≡ token_at at (byte ∷ text)
same_token at n byte text other here there same =
    elim (cases_Bool (is_letter byte)) [
      | inl letter ↦ let a = at_letter at byte text letter in
          let b = at_letter at byte other letter in
          b.0 ∙ ap (λ run. word_token at (word_of run)) (runs_same n (byte ∷ text) (byte ∷ other) _ _ (sym a.1 ∙ here) (sym b.1 ∙ there) same) ∙ sym a.0
      | inr other_kind ↦ elim (cases_Bool (is_digit byte)) [
        | inl digit ↦ let a = at_digit at byte text other_kind digit in
            let b = at_digit at byte other other_kind digit in
            b.0 ∙ ap (λ run. number_token at (number_of run)) (runs_same n (byte ∷ text) (byte ∷ other) _ _ (sym a.1 ∙ here) (sym b.1 ∙ there) same) ∙ sym a.0
        | inr neither ↦ let a = at_other at byte text other_kind neither in
            let b = at_other at byte other other_kind neither in
            b.0 ∙ ap (symbol_token at) (symbol_same n (byte ∷ text) (byte ∷ other) _ _ refl refl (sym a.1 ∙ here) (sym b.1 ∙ there) same) ∙ sym a.0
      ]
    ]

-- a token rests on its own bytes, and on where it ends
pub token_same : (at n : ℕ) (text other : List ℕ) → extent_of text ≡ n → extent_of other ≡ n → take n other ≡ take n text → token_at at other ≡ token_at at text
token_same at zero text other here there same = ap (token_at at) (extent_none other there ∙ sym (extent_none text here))
token_same at (suc n) [] [] here there same = refl
token_same at (suc n) [] (byte ∷ other) here there same = absurd cc
token_same at (suc n) (byte ∷ text) [] here there same = absurd cc
token_same at (suc n) (byte ∷ text) (first ∷ other) here there same =
    let first_same : first ≡ byte = cc in
    ap (λ b. token_at at (b ∷ other)) first_same ∙ same_token at (suc n) byte text other here (ap (λ b. extent_of (b ∷ other)) (sym first_same) ∙ there) (ap (λ b. take (suc n) (b ∷ other)) (sym first_same) ∙ same)
