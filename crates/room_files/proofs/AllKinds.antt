-- A block of an ordinary room says the same where blocks of all kinds are read.
use Rattle.std.proofs.Common.{◌≡◌, ◌∙◌, ℕ, ◌+◌, min, true, List, [], ◌∷◌, ◌++◌, length, take, Option, Some, None, Result, Ok, Err, refl, sym, ap, inl, inr}
use Rattle.std.specs.Prelude.{codes}
use Rattle.std.specs.Str.{bytes_eq}
use Rattle.std.proofs.lemmas.Bool.{cases_Bool}
use Rattle.std.proofs.lemmas.List.{append-nil, take_at}
use Rattle.std.proofs.lemmas.Slice.Eq.{bytes_eq-Decides}
use Rattle.protocol_lang.specs.Results.{◌>>=◌}
use Rattle.room_spec.specs.Rooms.{RoomSpec}
use Rattle.room_spec.specs.Texts.{is_line_end, first_line}
use Rattle.room_spec.specs.Blocks.{before_end, body_len, room_in}
use Rattle.room_spec.specs.Grammar.{text_of, are_before_end}
use Rattle.room_spec.specs.declared.fault.SpecFault.{SpecFault}
use Rattle.room_spec.specs.declared.fault.SpecFault.TheVariants.{BadLine}
use Rattle.room_spec.proofs.CallerLemmas.{end_found, before_line, before_cut, text_of-cons, with_line_end}
use Rattle.room_files.specs.Kinds.{block_of}
use Rattle.room_files.specs.declared.kinds.Kinds.{Kinds}
use Rattle.room_files.specs.declared.kinds.Kinds.TheVariants.{Ordinary, All}

-- the first line of a text, by the lines before its line `end`
pub first_of : (line : List ℕ) (lines : List (List ℕ)) (rest : List ℕ) → are_before_end (line ∷ lines) ≡ true → first_line (text_of (line ∷ lines) ++ rest) ≡ line
first_of line lines rest all = ap first_line (text_of-cons line lines rest) ∙ before_cut is_line_end line 10 (text_of lines ++ rest) (before_line line lines all).0 refl

pub first_of_end : (later : Option (List ℕ)) → first_line (codes "end" ++ with_line_end later) ≡ codes "end"
first_of_end None = refl
first_of_end (Some rest) = before_cut is_line_end (codes "end") 10 rest refl refl

-- the first line of a reduction begins no ordinary room
refused : (body : List ℕ) → first_line body ≡ codes "reduction 1" → room_in body ≡ Err (BadLine 1)
unfolding room_in
refused body first = rw first refl

no_room : (block : List ℕ) (found : Option ℕ) (read : RoomSpec × ℕ) → body_len block ≡ found → first_line block ≡ codes "reduction 1" → before_end room_in block found ≡ Ok read → ⊥
no_room block None read found first is = absurd cc
no_room block (Some body) read found first is = let end = end_found block body found in by end.lines end.later end.no_end end.parts end.extent
  where
    by : (lines : List (List ℕ)) (later : Option (List ℕ)) → are_before_end lines ≡ true → block ≡ text_of lines ++ (codes "end" ++ with_line_end later) → body ≡ length (text_of lines) → ⊥
    by [] later all parts extent = absurd (let h : codes "end" ≡ codes "reduction 1" = sym (ap first_line parts ∙ first_of_end later) ∙ first in cc)
    by (line ∷ lines) later all parts extent =
        let rest : List ℕ = codes "end" ++ with_line_end later in
        let front : take body block ≡ text_of (line ∷ lines) = ap (λ (t : List ℕ). take body t) parts ∙ take_at (text_of (line ∷ lines)) rest body (sym extent) in
        let one : line ≡ codes "reduction 1" = sym (ap first_line parts ∙ first_of line lines rest all) ∙ first in
        let begins : first_line (take body block) ≡ codes "reduction 1" = ap first_line (front ∙ sym (append-nil (text_of (line ∷ lines)))) ∙ first_of line lines [] all ∙ one in
        let bad : Err (BadLine 1) ≡ Ok read = sym (ap (λ (r : Result RoomSpec SpecFault). r >>= λ room. Ok (room, min (body + 4) (length block))) (refused (take body block) begins)) ∙ is in
        absurd cc

pub all_read : (kinds : Kinds) (block : List ℕ) (read : RoomSpec × ℕ) → block_of kinds block ≡ Ok read → block_of All block ≡ Ok read
all_read All block read is = is
all_read Ordinary block read is =
    elim (cases_Bool (bytes_eq (first_line block) (codes "reduction 1"))) [
      | inl begins ↦ absurd (no_room block (body_len block) read refl ((bytes_eq-Decides (first_line block) (codes "reduction 1")).0 begins) is)
      | inr other ↦ rw other is
    ]
