-- Words and symbols, and how they are spelled.
use Rattle.std.proofs.Common.{◌≡◌, ℕ, Bool, true, false, eqb, List, [], ◌∷◌, ◌++◌, length, take, drop, Some, refl, inl, inr}
use Rattle.std.specs.List.{list_all, find}
use Rattle.std.specs.Str.{bytes_eq}
use Rattle.std.proofs.lemmas.Bool.{cases_Bool, eqb-true}
use Rattle.std.proofs.lemmas.Slice.Eq.{bytes_eq-Decides}
use Rattle.protocol_lang.specs.Tokens.{is_letter, word_spelling, words, word_of, symbol_spelling, all_symbols, symbol_of}
use Rattle.protocol_lang.specs.Grammar.{goes_on, EndsBefore}
use Rattle.protocol_lang.specs.declared.token.Word.{Word}
use Rattle.protocol_lang.specs.declared.token.Word.TheVariants.{First}
use Rattle.protocol_lang.specs.declared.token.Symbol.{Symbol}
use Rattle.protocol_lang.specs.declared.token.Symbol.TheVariants.{Less, Greater}
use Rattle.protocol_lang.specs.declared.token.Token.TheVariants as tokens

find_holds : {X : Type 0} (test : X → Bool) (xs : List X) (x : X) → find test xs ≡ Some x → test x ≡ true
find_holds test [] x e = absurd cc
find_holds test (y ∷ xs) x e =
    elim (cases_Bool (test y)) [
      | inl holds ↦ let first = rw holds at e in let same : y ≡ x = cc in rw (← same) holds
      | inr fails ↦ find_holds test xs x (rw fails at e)
    ]

pub word_spelled : (letters : List ℕ) (word : Word) → word_of letters ≡ Some word → letters ≡ word_spelling word
word_spelled letters word e = (bytes_eq-Decides letters (word_spelling word)).0 (find_holds (λ w. bytes_eq letters (word_spelling w)) words word e)

pub word_again : (word : Word) → word_of (word_spelling word) ≡ Some word
word_again First = refl
word_again word = refl

pub word_letters : (word : Word) → list_all is_letter (word_spelling word) ≡ true
word_letters First = refl
word_letters word = refl

pub symbol_spelled : (text : List ℕ) (symbol : Symbol) → symbol_of text ≡ Some symbol → take (length (symbol_spelling symbol)) text ≡ symbol_spelling symbol
symbol_spelled text symbol e = (bytes_eq-Decides (take (length (symbol_spelling symbol)) text) (symbol_spelling symbol)).0 (find_holds (λ s. bytes_eq (take (length (symbol_spelling s)) text) (symbol_spelling s)) all_symbols symbol e)

never_longer : (text : List ℕ) → EndsBefore (λ _. false) text
never_longer [] = tt
never_longer (byte ∷ text) = refl

pub symbol_ends : (symbol : Symbol) (text : List ℕ) → symbol_of text ≡ Some symbol → EndsBefore (goes_on (tokens.Symbol symbol)) (drop (length (symbol_spelling symbol)) text)
symbol_ends Less [] e = tt
symbol_ends Less (byte ∷ []) e = tt
symbol_ends Less (byte ∷ next ∷ text) e =
    let spelled : byte ∷ [] ≡ 60 ∷ [] = symbol_spelled (byte ∷ next ∷ text) Less e in
    let first : byte ≡ 60 = cc in
    elim (cases_Bool (eqb next 61)) [ inl longer ↦ let other = rw (first, eqb-true next 61 longer) at e in absurd cc | inr ends ↦ ends ]
symbol_ends Greater [] e = tt
symbol_ends Greater (byte ∷ []) e = tt
symbol_ends Greater (byte ∷ next ∷ text) e =
    let spelled : byte ∷ [] ≡ 62 ∷ [] = symbol_spelled (byte ∷ next ∷ text) Greater e in
    let first : byte ≡ 62 = cc in
    elim (cases_Bool (eqb next 61)) [ inl longer ↦ let other = rw (first, eqb-true next 61 longer) at e in absurd cc | inr ends ↦ ends ]
symbol_ends symbol text e = never_longer _

pub symbol_again : (symbol : Symbol) (rest : List ℕ) → EndsBefore (goes_on (tokens.Symbol symbol)) rest → symbol_of (symbol_spelling symbol ++ rest) ≡ Some symbol
symbol_again Less [] ends = refl
symbol_again Less (byte ∷ rest) ends = rw ends refl
symbol_again Greater [] ends = refl
symbol_again Greater (byte ∷ rest) ends = rw ends refl
symbol_again symbol rest ends = refl
