-- Texts of whole lines, read line by line.
use Rattle.std.proofs.Common.{◌≡◌, ℕ, ◌+◌, Bool, true, false, not, List, [], ◌∷◌, ◌++◌, length, drop, refl, sym, ap, ◌∙◌, arith, All, add-one, inl, inr}
use Rattle.std.specs.List.{position_or_len, before_first, after_first, slice_split, onto_first, list_all}
use Rattle.std.proofs.lemmas.Bool.{and_parts, not-true, cases_Bool}
use Rattle.std.proofs.lemmas.List.{take_at, append_assoc, append-nil}
use Rattle.std.proofs.lemmas.List.Sums.{AllPass-from_list_all}
use Rattle.std.proofs.lemmas.List.Concat.{flat_map-cons}
use Rattle.std.proofs.lemmas.List.Splits.{slice_split_at, slice_split_none, slice_split-cons_yes, slice_split-cons_no}
use Rattle.room_spec.specs.Texts.{is_line_end, first_line, later_lines, lines_of}
use Rattle.room_spec.specs.Grammar.{is_line, text_of}

-- ---- a text cut where a byte first passes a test

-- no byte of the piece does
abbrev pub passes_none : (ℕ → Bool) → List ℕ → Bool
passes_none p piece = list_all (λ byte. not (p byte)) piece

cut_at : (p : ℕ → Bool) (piece : List ℕ) (byte : ℕ) (rest : List ℕ) → passes_none p piece ≡ true → p byte ≡ true → position_or_len p (piece ++ byte ∷ rest) ≡ length piece
cut_at p [] byte rest none is = rw is refl
cut_at p (first ∷ piece) byte rest none is =
    let parts = and_parts (not (p first)) (passes_none p piece) none in
    let passed : p first ≡ false = not-true (p first) parts.0 in
    rw (passed, cut_at p piece byte rest parts.1 is) (omega arith)

pub before_cut : (p : ℕ → Bool) (piece : List ℕ) (byte : ℕ) (rest : List ℕ) → passes_none p piece ≡ true → p byte ≡ true → before_first p (piece ++ byte ∷ rest) ≡ piece
before_cut p piece byte rest none is = take_at piece (byte ∷ rest) _ (sym (cut_at p piece byte rest none is))

drop_past : (piece : List ℕ) (byte : ℕ) (rest : List ℕ) → drop (length piece + 1) (piece ++ byte ∷ rest) ≡ rest
drop_past [] byte rest = refl
drop_past (first ∷ piece) byte rest = rw add-one (rw add-one at (drop_past piece byte rest))

pub after_cut : (p : ℕ → Bool) (piece : List ℕ) (byte : ℕ) (rest : List ℕ) → passes_none p piece ≡ true → p byte ≡ true → after_first p (piece ++ byte ∷ rest) ≡ rest
after_cut p piece byte rest none is = rw (cut_at p piece byte rest none is) (drop_past piece byte rest)

none_by_index : (p : ℕ → Bool) (piece : List ℕ) → passes_none p piece ≡ true → All (λ byte. p byte ≡ false) piece
none_by_index p piece none = λ k d lt. not-true _ (AllPass-from_list_all (λ byte. not (p byte)) piece none k d lt)

pub pieces_cut : (p : ℕ → Bool) (piece : List ℕ) (byte : ℕ) (rest : List ℕ) → passes_none p piece ≡ true → p byte ≡ true → slice_split p (piece ++ byte ∷ rest) ≡ piece ∷ slice_split p rest
pieces_cut p piece byte rest none is = slice_split_at p piece byte rest (none_by_index p piece none) is

pub pieces_one : (p : ℕ → Bool) (piece : List ℕ) → passes_none p piece ≡ true → slice_split p piece ≡ piece ∷ []
pieces_one p piece none = slice_split_none p piece (none_by_index p piece none)

-- ---- the pieces of a text have no such byte

abbrev pub pass_none : (ℕ → Bool) → List (List ℕ) → Bool
pass_none p pieces = list_all (λ piece. passes_none p piece) pieces

onto_piece : (p : ℕ → Bool) (byte : ℕ) (pieces : List (List ℕ)) → p byte ≡ false → pass_none p pieces ≡ true → pass_none p (onto_first byte pieces) ≡ true
onto_piece p byte [] is all = rw is refl
onto_piece p byte (piece ∷ pieces) is all = rw is all

pub pieces_pass : (p : ℕ → Bool) (text : List ℕ) → pass_none p (slice_split p text) ≡ true
pieces_pass p [] = refl
pieces_pass p (byte ∷ text) =
    elim (cases_Bool (p byte)) [
      | inl cuts ↦ rw (slice_split-cons_yes p byte text cuts) (pieces_pass p text)
      | inr stays ↦ rw (slice_split-cons_no p byte text stays) (onto_piece p byte (slice_split p text) stays (pieces_pass p text))
    ]

-- ---- whole lines

abbrev pub are_lines : List (List ℕ) → Bool
are_lines lines = list_all is_line lines

pub text_of-cons : (line : List ℕ) (lines : List (List ℕ)) (rest : List ℕ) → text_of (line ∷ lines) ++ rest ≡ line ++ (10 ∷ (text_of lines ++ rest))
text_of-cons line lines rest = rw flat_map-cons (simp append_assoc)

pub lines_of-text_of : (lines : List (List ℕ)) (rest : List ℕ) → are_lines lines ≡ true → lines_of (text_of lines ++ rest) ≡ lines ++ lines_of rest
lines_of-text_of [] rest all = refl
lines_of-text_of (line ∷ lines) rest all =
    let parts = and_parts (is_line line) (are_lines lines) all in
    ap lines_of (text_of-cons line lines rest) ∙ pieces_cut is_line_end line 10 (text_of lines ++ rest) parts.0 refl ∙ ap (λ (more : List (List ℕ)). line ∷ more) (lines_of-text_of lines rest parts.1)

pub first_line-text_of : (line : List ℕ) (lines : List (List ℕ)) → is_line line ≡ true → first_line (text_of (line ∷ lines)) ≡ line
first_line-text_of line lines is = ap first_line (sym (append-nil (text_of (line ∷ lines))) ∙ text_of-cons line lines []) ∙ before_cut is_line_end line 10 (text_of lines ++ []) is refl

pub later_lines-text_of : (line : List ℕ) (lines : List (List ℕ)) → is_line line ≡ true → later_lines (text_of (line ∷ lines)) ≡ text_of lines
later_lines-text_of line lines is = ap later_lines (sym (append-nil (text_of (line ∷ lines))) ∙ text_of-cons line lines []) ∙ after_cut is_line_end line 10 (text_of lines ++ []) is refl ∙ append-nil (text_of lines)
