-- Texts that begin with a whole entry.
use Rattle.std.proofs.Common.{◌≡◌, ◌∙◌, ℕ, suc, ◌+◌, ◌<◌, ◌≤◌, Bool, true, false, not, cond, ltb, min, List, [], ◌∷◌, ◌++◌, length, take, decimal, refl, sym, ap, ap₂, subst, arith, inl, inr}
use Rattle.std.specs.Prelude.{codes}
use Rattle.std.specs.List.{before_first, join_with_byte, position_or_len}
use Rattle.std.proofs.lemmas.Bool.{and_from, cases_Bool, ltb-false, ltb-true}
use Rattle.std.proofs.lemmas.Fmt.{decimal_digit}
use Rattle.std.proofs.lemmas.List.{take_all}
use Rattle.std.proofs.lemmas.List.Splits.{join_with_byte-slice_split}
use Rattle.room_spec.specs.Grammar.{is_line}
use Rattle.room_files.specs.Blocks.{refused_line}
use Rattle.room_spec.specs.Texts.{is_line_end, lines_of}

-- a text whose first line has a line end
pub line_cut : (text line later : List ℕ) (pieces : List (List ℕ)) → pieces ≡ lines_of later → lines_of text ≡ line ∷ pieces → length line + 1 + length later ≡ length text → text ≡ line ++ 10 ∷ later
line_cut text line later [] is cut long =
    let whole : text ≡ line = sym (join_with_byte-slice_split 10 text) ∙ ap (join_with_byte 10) cut in
    absurd (omega (arith, ap length whole, long))
line_cut text line later (next ∷ pieces) is cut long =
    sym (join_with_byte-slice_split 10 text) ∙ ap (join_with_byte 10) cut ∙ ap (λ (l : List ℕ). line ++ 10 ∷ l) (ap (join_with_byte 10) is ∙ join_with_byte-slice_split 10 later)

first_passes : (ends : Bool) (byte : ℕ) (bytes : List ℕ) → is_line_end byte ≡ ends → is_line (before_first is_line_end bytes) ≡ true
    → is_line (take (cond (not ends) (1 + position_or_len is_line_end bytes) 0) (byte ∷ bytes)) ≡ true
first_passes true byte bytes is all = refl
first_passes false byte bytes is all =
    subst (λ (len : ℕ). is_line (take len (byte ∷ bytes)) ≡ true) (suc_plus (position_or_len is_line_end bytes)) (and_from (not (is_line_end byte)) (is_line (before_first is_line_end bytes)) (ap not is) all)
  where
    suc_plus : (n : ℕ) → suc n ≡ 1 + n
    suc_plus n = omega arith

-- the first line of a text has no line end
pub is_line-first : (text : List ℕ) → is_line (before_first is_line_end text) ≡ true
is_line-first [] = refl
is_line-first (byte ∷ bytes) = first_passes (is_line_end byte) byte bytes refl (is_line-first bytes)

-- the front of a text
pub take_front : (most : ℕ) (text : List ℕ) → take (min (length text) most) text ≡ take most text
take_front most text =
    elim (cases_Bool (ltb most (length text))) [
      | inl less ↦ let longer : most < length text = ltb-true _ _ less in ap (λ (n : ℕ). take n text) (omega (arith, longer))
      | inr more ↦ let within : length text ≤ most = ltb-false _ _ more in take_all (min (length text) most) text (omega (arith, within)) ∙ sym (take_all most text within)
    ]

-- the text of a block for which an allocation failed
pub unread_text : (output now : List ℕ) (line code : ℕ) → output ≡ [] → code ≡ 8 → now ≡ output ++ refused_line line (decimal code) → now ≡ refused_line line (codes "8")
unread_text output now line code none is text = text ∙ ap₂ (λ (o t : List ℕ). o ++ refused_line line t) none (ap decimal is ∙ decimal_digit 8 (omega arith))
