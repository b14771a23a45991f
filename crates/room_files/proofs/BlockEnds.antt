-- The lines of a block, as many as end with its line `end`.
use Rattle.std.proofs.Common.{◌≡◌, ◌∙◌, ℕ, suc, ◌<◌, ◌≤◌, List, [], ◌∷◌, ◌++◌, ◌+◌, ◌-◌, length, take, drop, Option, Some, None, refl, ap, arith, inl, inr}
use Rattle.std.specs.Prelude.{codes, option_map}
use Rattle.std.specs.List.{onto_first, position}
use Rattle.std.proofs.lemmas.Bool.{cases_Bool}
use Rattle.std.proofs.lemmas.List.{length-append, length-drop, length-take, length-take-le}
use Rattle.std.proofs.lemmas.List.Splits.{length-slice_split, slice_split-cons_no, slice_split-cons_yes}
use Rattle.room_spec.specs.Texts.{is_line_end, lines_of, pieces_of}
use Rattle.room_spec.specs.Blocks.{body_len, block_len, is_end}
use Rattle.room_spec.specs.Grammar.{text_of}
use Rattle.room_spec.proofs.CallerLemmas.{end_found, end_place, len_ends, lines_to_end, some_body, with_line_end}
use Rattle.room_files.specs.Lines.{lines_in, text_lines}
use Rattle.room_files.proofs.BlockSteps.{some_bytes}
use Rattle.room_files.proofs.LineLists.{before_more}

-- behind its line `end` a block has a line end or nothing
counted : (lines : List (List ℕ)) (later : Option (List ℕ)) → length (with_line_end later) ≤ 1 → length (lines_in (lines ++ codes "end" ∷ pieces_of is_line_end later)) ≡ suc (length lines)
counted [] None short = refl
counted [] (Some []) short = refl
counted [] (Some (byte ∷ bytes)) short = absurd (omega (arith, short))
counted (line ∷ lines) later short =
    ap length (before_more line (lines ++ codes "end" ∷ pieces_of is_line_end later) (omega (arith, length-append lines (codes "end" ∷ pieces_of is_line_end later))))
    ∙ ap suc (counted lines later short)

same_count : (found : Option ℕ) (place n : ℕ) → found ≡ Some place → option_map suc found ≡ Some n → suc place ≡ n
same_count found place n is counts = cc

pub lines_counted : (block : List ℕ) (n : ℕ) → block_len block ≡ Some (length block) → option_map suc (position is_end (lines_of block)) ≡ Some n → length (text_lines block) ≡ n
lines_counted block n whole counts =
    let found = some_body block (body_len block) (length block) whole in
    let end = end_found block found.0 found.1 in
    let long = ap length end.parts in
    let short : length (with_line_end end.later) ≤ 1 =
    omega (arith, found.2, end.extent, long, length-append (text_of end.lines) (codes "end" ++ with_line_end end.later), length-append (codes "end") (with_line_end end.later)) in
    let lines : lines_of block ≡ end.lines ++ codes "end" ∷ pieces_of is_line_end end.later = ap lines_of end.parts ∙ lines_to_end end.lines end.later end.no_end in
    let place : position is_end (lines_of block) ≡ Some (length end.lines) = ap (position is_end) lines ∙ end_place end.lines (pieces_of is_line_end end.later) end.no_end in
    ap (λ (ls : List (List ℕ)). length (lines_in ls)) lines ∙ counted end.lines end.later short ∙ same_count (position is_end (lines_of block)) (length end.lines) n place counts

pub positive_len : (text : List ℕ) (len : ℕ) → block_len text ≡ Some len → 0 < len
positive_len text len is = some_bytes text len (len_ends text len is)

few_in : (byte : ℕ) (pieces : List (List ℕ)) → length (lines_in (onto_first byte pieces)) ≤ suc (length (lines_in pieces))
few_in byte [] = omega arith
few_in byte (piece ∷ []) = omega arith
few_in byte (piece ∷ next ∷ pieces) = omega arith

pub few_lines : (text : List ℕ) → length (text_lines text) ≤ length text
few_lines [] = omega arith
few_lines (byte ∷ bytes) =
    elim (cases_Bool (is_line_end byte)) [
      | inl cuts ↦ rw (slice_split-cons_yes is_line_end byte bytes cuts, before_more [] (lines_of bytes) (omega (arith, length-slice_split is_line_end bytes))) (omega (arith, few_lines bytes))
      | inr stays ↦ rw (slice_split-cons_no is_line_end byte bytes stays) (omega (arith, few_in byte (lines_of bytes), few_lines bytes))
    ]

-- a text's first bytes have no more lines than bytes, and the others stand behind them
pub few_behind : (text : List ℕ) (n : ℕ) → n ≤ length text → length (text_lines (take n text)) + length (take (length text - n) (drop n text)) ≤ length text
few_behind text n within = omega (arith, few_lines (take n text), length-take-le n text within, length-take (length text - n) (drop n text), length-drop n text)
