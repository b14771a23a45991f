-- Names that no room has.
use Rattle.std.specs.Prelude.{ℕ, ◌+◌, ◌==◌, Bool, List, [], ◌∷◌, ◌++◌, length, min, nat_lt, codes, decimal, if◌then◌else◌}
use Rattle.std.specs.List.{flat_map, list_any}
use Rattle.std.specs.Str.{bytes_eq}
use Rattle.room_files.specs.Lines.{text_lines}
use Rattle.fault_text.specs.Hints.{is_near, near_words}
use Rattle.fault_text.specs.Refusals.{after_room, most_explained, named_refusals}
use Rattle.fault_text.specs.declared.refusals.RefusedBlock.{RefusedBlock}

-- the names that were met first, and how many more came with one of them
pub record MetNames : Type 0 where
  pub names : List (List ℕ)
  pub more : ℕ

abbrev pub is_met : List ℕ → MetNames → Bool
is_met name unknown_names = list_any (λ known. bytes_eq known name) unknown_names.names

-- after one more with this name; no input has as many as numbers can count
abbrev pub met : List ℕ → MetNames → MetNames
met name unknown_names =
    if is_met name unknown_names then record { names = unknown_names.names; more = min (unknown_names.more + 1) 18446744073709551615 }
    else if nat_lt (length unknown_names.names) most_explained then record { names = unknown_names.names ++ name ∷ []; more = unknown_names.more }
    else unknown_names

-- which blocks of rooms of these names are refused, of the first hundred
abbrev pub refused_unknown_names : List ℕ → List RefusedBlock → List (List ℕ) → List ℕ
refused_unknown_names input refused names = flat_map (λ name. named_refusals input name refused) names

abbrev pub more_note : List ℕ → MetNames → List ℕ
more_note words unknown_names = if unknown_names.more == 0 then [] else codes "    and" ++ ((32 ∷ decimal unknown_names.more) ++ (words ++ codes "\n"))

-- ---- what the blocks of an input say of such a name

-- the name in the first of these lines `room NAME` that is near this one, or nothing
unfoldable pub nearest_room : List ℕ → List (List ℕ) → List ℕ
nearest_room name [] = []
nearest_room name (line ∷ lines) = if is_near name (after_room line) then after_room line else nearest_room name lines

-- which room may be meant by a name of two bytes at least
abbrev pub near_room : List ℕ → List ℕ → List ℕ
near_room input name = if nat_lt (length name) 2 then [] else near_words (nearest_room name (text_lines input))

-- one of the lines is `room NAME` with this name
unfoldable pub has_room_line : List ℕ → List ℕ → Bool
has_room_line name input = list_any (λ line. bytes_eq (after_room line) name) (text_lines input)
