-- The longest run of bytes of one kind at the front of a text.
use Rattle.std.proofs.Common.{arith, ◌≡◌, ℕ, zero, suc, ◌+◌, ◌<◌, Bool, true, List, [], ◌∷◌, ◌++◌, length, take, drop, refl, inl, inr}
use Rattle.std.specs.List.{list_all, prefix_len}
use Rattle.std.proofs.lemmas.Bool.{and_parts, and_from, cases_Bool}
use Rattle.protocol_lang.specs.Grammar.{EndsBefore}

pub run_all : (p : ℕ → Bool) (text : List ℕ) → list_all p (take (prefix_len p text) text) ≡ true
run_all p [] = refl
run_all p (byte ∷ text) = elim (cases_Bool (p byte)) [ inl goes ↦ let one_more : 1 + prefix_len p text ≡ suc (prefix_len p text) = omega arith in rw (goes, one_more) (and_from _ _ goes (run_all p text)) | inr stops ↦ rw stops refl ]

pub run_ends : (p : ℕ → Bool) (text : List ℕ) → EndsBefore p (drop (prefix_len p text) text)
run_ends p [] = tt
run_ends p (byte ∷ text) = elim (cases_Bool (p byte)) [ inl goes ↦ let one_more : 1 + prefix_len p text ≡ suc (prefix_len p text) = omega arith in rw (goes, one_more) (run_ends p text) | inr stops ↦ rw stops stops ]

pub run_again : (p : ℕ → Bool) (run rest : List ℕ) → list_all p run ≡ true → EndsBefore p rest → prefix_len p (run ++ rest) ≡ length run
run_again p [] [] all ends = refl
run_again p [] (byte ∷ rest) all ends = rw ends refl
run_again p (byte ∷ run) rest all ends =
    let parts = and_parts (p byte) (list_all p run) all in
    rw (parts.0, run_again p run rest parts.1 ends) (omega arith)

-- a run that ends before a place rests on the bytes before that place
pub run_same : (p : ℕ → Bool) (m : ℕ) (text other : List ℕ) → prefix_len p text < m → take m other ≡ take m text → prefix_len p other ≡ prefix_len p text
run_same p zero text other within same = absurd (omega arith)
run_same p (suc m) [] [] within same = refl
run_same p (suc m) [] (byte ∷ other) within same = absurd cc
run_same p (suc m) (byte ∷ text) [] within same = absurd cc
run_same p (suc m) (byte ∷ text) (first ∷ other) within same =
    let first_same : first ≡ byte = cc in
    let rest_same : take m other ≡ take m text = cc in
    elim (cases_Bool (p byte)) [
      | inl goes ↦ let shorter : prefix_len p text < m = omega (arith, rw goes at within) in rw (first_same, goes, run_same p m text other shorter rest_same) refl
      | inr stops ↦ rw (first_same, stops) refl
    ]
