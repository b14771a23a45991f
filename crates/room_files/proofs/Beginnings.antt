-- A block whose first line begins no ordinary room says none.
use Rattle.std.proofs.Common.{◌≡◌, ◌∙◌, ℕ, ◌+◌, min, true, false, List, [], ◌∷◌, ◌++◌, length, take, ◌||◌, Option, Some, None, Result, Ok, Err, refl, sym, ap, inl, inr, nat_eq}
use Rattle.std.specs.Prelude.{codes}
use Rattle.std.specs.List.{starts_with}
use Rattle.std.specs.Str.{bytes_eq}
use Rattle.std.proofs.lemmas.Bool.{cases_Bool, true≢false}
use Rattle.std.proofs.lemmas.List.{append-nil, take_at}
use Rattle.std.proofs.lemmas.Slice.Eq.{bytes_eq-Decides}
use Rattle.protocol_lang.specs.Results.{◌>>=◌}
use Rattle.room_spec.specs.Rooms.{RoomSpec}
use Rattle.room_spec.specs.Texts.{first_line}
use Rattle.room_spec.specs.Blocks.{before_end, body_len, room_in, version_of}
use Rattle.room_spec.specs.Grammar.{text_of, are_before_end}
use Rattle.room_spec.specs.declared.fault.SpecFault.{SpecFault}
use Rattle.room_spec.specs.declared.fault.SpecFault.TheVariants.{BadLine}
use Rattle.room_spec.specs.declared.version.Version.{Version}
use Rattle.room_spec.proofs.CallerLemmas.{end_found, text_of-cons, with_line_end}
use Rattle.room_files.specs.Kinds.{begins_ordinary}
use Rattle.room_files.proofs.AllKinds.{first_of}

first_refused : (body : List ℕ) → version_of (first_line body) ≡ Err (BadLine 1) → room_in body ≡ Err (BadLine 1)
unfolding room_in
first_refused body bad = rw bad refl

no_version : (line : List ℕ) → (line ≡ codes "bgsim 1" → ⊥) → (line ≡ codes "bgsim 2" → ⊥) → version_of line ≡ Err (BadLine 1)
no_version line not_one not_two =
    elim (cases_Bool (bytes_eq line (codes "bgsim 1"))) [
      | inl one ↦ absurd (not_one ((bytes_eq-Decides line (codes "bgsim 1")).0 one))
      | inr other ↦
          elim (cases_Bool (bytes_eq line (codes "bgsim 2"))) [
            | inl two ↦ absurd (not_two ((bytes_eq-Decides line (codes "bgsim 2")).0 two))
            | inr neither ↦ rw (other, neither) refl
          ]
    ]

-- the block begins with this line, which isn't its last
no_room_line : (block line rest : List ℕ) → block ≡ line ++ (10 ∷ rest) → begins_ordinary block ≡ false → version_of line ≡ Err (BadLine 1)
no_room_line block line rest parts none =
    no_version line
    (λ one. true≢false (sym (let yes : begins_ordinary block ≡ true = ap begins_ordinary (parts ∙ ap (λ (l : List ℕ). l ++ (10 ∷ rest)) one) in yes) ∙ none))
    (λ two. true≢false (sym (let yes : begins_ordinary block ≡ true = ap begins_ordinary (parts ∙ ap (λ (l : List ℕ). l ++ (10 ∷ rest)) two) in yes) ∙ none))

refused_before : (block : List ℕ) (body : ℕ) → body_len block ≡ Some body → begins_ordinary block ≡ false → room_in (take body block) ≡ Err (BadLine 1)
refused_before block body found none = let end = end_found block body found in by end.lines end.later end.no_end end.parts end.extent
  where
    by : (lines : List (List ℕ)) (later : Option (List ℕ)) → are_before_end lines ≡ true → block ≡ text_of lines ++ (codes "end" ++ with_line_end later) → body ≡ length (text_of lines) → room_in (take body block) ≡ Err (BadLine 1)
    by [] later all parts extent = first_refused (take body block) (rw extent refl)
    by (line ∷ lines) later all parts extent =
        let rest : List ℕ = codes "end" ++ with_line_end later in
        let front : take body block ≡ text_of (line ∷ lines) = ap (λ (t : List ℕ). take body t) parts ∙ take_at (text_of (line ∷ lines)) rest body (sym extent) in
        let first : first_line (take body block) ≡ line = ap first_line (front ∙ sym (append-nil (text_of (line ∷ lines)))) ∙ first_of line lines [] all in
        let bad : version_of line ≡ Err (BadLine 1) = no_room_line block line (text_of lines ++ rest) (parts ∙ text_of-cons line lines rest) none in
        first_refused (take body block) (ap version_of first ∙ bad)

pub refused_at_once : (block : List ℕ) (found : Option ℕ) (body : ℕ) → body_len block ≡ found → found ≡ Some body → begins_ordinary block ≡ false → before_end room_in block found ≡ Err (BadLine 1)
refused_at_once block found body is some none =
    ap (before_end room_in block) some ∙ ap (λ (read : Result RoomSpec SpecFault). read >>= λ room. Ok (room, min (body + 4) (length block))) (refused_before block body (is ∙ some) none)
