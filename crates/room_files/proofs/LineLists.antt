-- Lines, one by one.
use Rattle.std.proofs.Common.{◌≡◌, ◌∙◌, ℕ, ◌<◌, List, [], ◌∷◌, length, refl, ap, arith}
use Rattle.std.proofs.lemmas.List.Splits.{length-slice_split}
use Rattle.room_spec.specs.Texts.{is_line_end, lines_of}
use Rattle.room_files.specs.Lines.{lines_in, text_lines}

pub before_more : (line : List ℕ) (pieces : List (List ℕ)) → 0 < length pieces → lines_in (line ∷ pieces) ≡ line ∷ lines_in pieces
before_more line [] some = absurd (omega arith)
before_more line (piece ∷ pieces) some = refl

-- a line with its line end, and the lines behind it
pub first_and_later : (text line rest : List ℕ) → lines_of text ≡ line ∷ lines_of rest → text_lines text ≡ line ∷ text_lines rest
first_and_later text line rest cut =
    ap lines_in cut ∙ before_more line (lines_of rest) (rw (length-slice_split is_line_end rest) (omega arith))
