-- The token at the front of a text.
use Rattle.std.proofs.Common.{arith, ◌≡◌, ℕ, ◌≤◌, Bool, true, false, leb, List, [], ◌∷◌, ◌++◌, length, take, drop, Option, Some, None, Result, Ok, refl, sym, ap, ◌∙◌, subst, inl, inr}
use Rattle.std.specs.List.{list_all, prefix_len, take_while}
use Rattle.std.specs.Fmt.{decimal}
use Rattle.std.proofs.lemmas.Bool.{and_parts, cases_Bool, leb-true, le-leb}
use Rattle.std.proofs.lemmas.Bool.Decides.{nat_tests}
use Rattle.std.proofs.lemmas.List.{take_at}
use Rattle.protocol_lang.specs.Numbers.{greatest, is_digit, number_of}
use Rattle.protocol_lang.specs.Tokens.{is_blank, is_letter, word_spelling, word_of, symbol_spelling, symbol_of}
use Rattle.protocol_lang.specs.Reading.{word_token, number_token, symbol_token, token_at, symbol_extent, extent_of}
use Rattle.protocol_lang.specs.Grammar.{IsSpelled, goes_on, EndsBefore}
use Rattle.protocol_lang.specs.declared.fault.ParseFault.{ParseFault}
use Rattle.protocol_lang.specs.declared.token.Word.{Word}
use Rattle.protocol_lang.specs.declared.token.Symbol.{Symbol}
use Rattle.protocol_lang.specs.declared.token.Symbol.TheVariants as symbols
use Rattle.protocol_lang.specs.declared.token.Token.{Token}
use Rattle.protocol_lang.specs.declared.token.Token.TheVariants as tokens
use Rattle.protocol_lang.proofs.Numerals.{number_spelled, number_of-decimal, digits_of-decimal}
use Rattle.protocol_lang.proofs.Runs.{run_ends, run_again}
use Rattle.protocol_lang.proofs.Words.{word_spelled, word_again, word_letters, symbol_spelled, symbol_ends, symbol_again}

-- the first bytes of the text, as many as the token takes, spell the token
pub record Stands (token : Token) (text : List ℕ) (extent : ℕ) : Type 0 where
  pub spelled : IsSpelled token (take extent text)
  pub ends : EndsBefore (goes_on token) (drop extent text)

-- ---- the three kinds of tokens

-- what the front of a text is read as, and how many bytes that takes
abbrev pub ReadsAs : ℕ → List ℕ → Result Token ParseFault → ℕ → Type 0
ReadsAs at text read extent = (token_at at text ≡ read) × (extent_of text ≡ extent)

pub at_letter : (at byte : ℕ) (bytes : List ℕ) → is_letter byte ≡ true → ReadsAs at (byte ∷ bytes) (word_token at (word_of (take_while is_letter (byte ∷ bytes)))) (prefix_len is_letter (byte ∷ bytes))
at_letter at byte bytes letter = (rw letter refl, rw letter refl)

pub at_digit : (at byte : ℕ) (bytes : List ℕ) → is_letter byte ≡ false → is_digit byte ≡ true → ReadsAs at (byte ∷ bytes) (number_token at (number_of (take_while is_digit (byte ∷ bytes)))) (prefix_len is_digit (byte ∷ bytes))
at_digit at byte bytes other digit = (rw (other, digit) refl, rw (other, digit) refl)

pub at_other : (at byte : ℕ) (bytes : List ℕ) → is_letter byte ≡ false → is_digit byte ≡ false → ReadsAs at (byte ∷ bytes) (symbol_token at (symbol_of (byte ∷ bytes))) (symbol_extent (symbol_of (byte ∷ bytes)))
at_other at byte bytes other neither = (rw (other, neither) refl, rw (other, neither) refl)

-- ---- what is read is spelled so

word_read : (at : ℕ) (letters : List ℕ) (word : Option Word) (token : Token) (rest : List ℕ) → word_of letters ≡ word → EndsBefore is_letter rest → word_token at word ≡ Ok token → IsSpelled token letters × EndsBefore (goes_on token) rest
word_read at letters None token rest is ends e = absurd cc
word_read at letters (Some word) token rest is ends e =
    let same : tokens.Word word ≡ token = cc in
    rw (← same) (word_spelled letters word is, ends)

number_within : (at n : ℕ) (token : Token) → number_token at (Some n) ≡ Ok token → (n ≤ greatest) × (tokens.Number n ≡ token)
number_within at n token e =
    elim (cases_Bool (leb n greatest)) [
      | inl within ↦ (leb-true n greatest within, let read = rw within at e in cc)
      | inr above ↦ let read = rw above at e in absurd cc
    ]

number_read : (at : ℕ) (digits : List ℕ) (number : Option ℕ) (token : Token) (rest : List ℕ) → number_of digits ≡ number → EndsBefore is_digit rest → number_token at number ≡ Ok token → IsSpelled token digits × EndsBefore (goes_on token) rest
number_read at digits None token rest is ends e = absurd cc
number_read at digits (Some n) token rest is ends e =
    let within = number_within at n token e in
    rw (← within.1) ((number_spelled digits n is within.0, within.0), ends)

symbol_read : (at : ℕ) (text : List ℕ) (symbol : Option Symbol) (token : Token) → symbol_of text ≡ symbol → symbol_token at symbol ≡ Ok token → Stands token text (symbol_extent symbol)
symbol_read at text None token is e = absurd cc
symbol_read at text (Some symbol) token is e =
    let same : tokens.Symbol symbol ≡ token = cc in
    rw (← same) (record { spelled = symbol_spelled text symbol is; ends = symbol_ends symbol text is })

pub front_read : (at byte : ℕ) (bytes : List ℕ) (token : Token) → token_at at (byte ∷ bytes) ≡ Ok token → Stands token (byte ∷ bytes) (extent_of (byte ∷ bytes))
front_read at byte bytes token e =
    let text : List ℕ = byte ∷ bytes in
    let P : ℕ → Type 0 = λ extent. Stands token text extent in
    elim (cases_Bool (is_letter byte)) [
      | inl letter ↦ let front = at_letter at byte bytes letter in
          let read = word_read at (take_while is_letter text) _ token (drop (prefix_len is_letter text) text) refl (run_ends is_letter text) (sym front.0 ∙ e) in
          subst P (sym front.1) (record { spelled = read.0; ends = read.1 })
      | inr other ↦ elim (cases_Bool (is_digit byte)) [
        | inl digit ↦ let front = at_digit at byte bytes other digit in
            let read = number_read at (take_while is_digit text) _ token (drop (prefix_len is_digit text) text) refl (run_ends is_digit text) (sym front.0 ∙ e) in
            subst P (sym front.1) (record { spelled = read.0; ends = read.1 })
        | inr neither ↦ let front = at_other at byte bytes other neither in subst P (sym front.1) (symbol_read at text _ token refl (sym front.0 ∙ e))
      ]
    ]

-- ---- what is spelled so is read

-- a text whose front is read as a token of so many bytes
pub record Fronts (at : ℕ) (text : List ℕ) (token : Token) (extent : ℕ) : Type 0 where
  pub read : token_at at text ≡ Ok token
  pub takes : extent_of text ≡ extent
  pub no_blank : EndsBefore is_blank text

digit_is_no_letter : (byte : ℕ) → is_digit byte ≡ true → is_letter byte ≡ false
digit_is_no_letter byte digit = grind (arith, nat_tests)

letter_is_no_blank : (byte : ℕ) → is_letter byte ≡ true → is_blank byte ≡ false
letter_is_no_blank byte letter = grind (arith, nat_tests)

digit_is_no_blank : (byte : ℕ) → is_digit byte ≡ true → is_blank byte ≡ false
digit_is_no_blank byte digit = grind (arith, nat_tests)

run_taken : (p : ℕ → Bool) (run rest : List ℕ) → prefix_len p (run ++ rest) ≡ length run → take_while p (run ++ rest) ≡ run
run_taken p run rest len = rw len (take_at run rest (length run) refl)

word_front : (at : ℕ) (letters rest : List ℕ) (word : Word) → word_of letters ≡ Some word → list_all is_letter letters ≡ true → EndsBefore is_letter rest → Fronts at (letters ++ rest) (tokens.Word word) (length letters)
word_front at [] rest word is all ends = absurd cc
word_front at (byte ∷ letters) rest word is all ends =
    let run = run_again is_letter (byte ∷ letters) rest all ends in
    let letter = (and_parts (is_letter byte) (list_all is_letter letters) all).0 in
    let front = at_letter at byte (letters ++ rest) letter in
    record {
      read = front.0 ∙ ap (λ run. word_token at (word_of run)) (run_taken is_letter (byte ∷ letters) rest run) ∙ ap (word_token at) is;
      takes = front.1 ∙ run;
      no_blank = letter_is_no_blank byte letter;
    }

number_front : (at n : ℕ) (digits rest : List ℕ) → number_of digits ≡ Some n → n ≤ greatest → list_all is_digit digits ≡ true → EndsBefore is_digit rest → Fronts at (digits ++ rest) (tokens.Number n) (length digits)
number_front at n [] rest is within all ends = absurd cc
number_front at n (byte ∷ digits) rest is within all ends =
    let run = run_again is_digit (byte ∷ digits) rest all ends in
    let digit = (and_parts (is_digit byte) (list_all is_digit digits) all).0 in
    let front = at_digit at byte (digits ++ rest) (digit_is_no_letter byte digit) digit in
    let small : number_token at (Some n) ≡ Ok (tokens.Number n) = rw (le-leb n greatest within) refl in
    record {
      read = front.0 ∙ ap (λ run. number_token at (number_of run)) (run_taken is_digit (byte ∷ digits) rest run) ∙ ap (number_token at) is ∙ small;
      takes = front.1 ∙ run;
      no_blank = digit_is_no_blank byte digit;
    }

symbol_front : (at : ℕ) (symbol : Symbol) (rest : List ℕ) → symbol_of (symbol_spelling symbol ++ rest) ≡ Some symbol → Fronts at (symbol_spelling symbol ++ rest) (tokens.Symbol symbol) (length (symbol_spelling symbol))
symbol_front at symbols.Semicolon rest is = record { read = ap (symbol_token at) is; takes = ap symbol_extent is; no_blank = refl }
symbol_front at symbol rest is = record { read = ap (symbol_token at) is; takes = ap symbol_extent is; no_blank = refl }

pub front_again : (at : ℕ) (token : Token) (bytes rest : List ℕ) → IsSpelled token bytes → EndsBefore (goes_on token) rest → Fronts at (bytes ++ rest) token (length bytes)
front_again at (tokens.Word word) bytes rest is ends = rw is (word_front at (word_spelling word) rest word (word_again word) (word_letters word) ends)
front_again at (tokens.Number n) bytes rest is ends = rw is.0 (number_front at n (decimal n) rest (number_of-decimal n is.1) is.1 (digits_of-decimal n is.1) ends)
front_again at (tokens.Symbol symbol) bytes rest is ends = rw is (symbol_front at symbol rest (symbol_again symbol rest ends))
front_again at tokens.End bytes rest is ends = absurd is
