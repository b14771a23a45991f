-- What is said of a line that has not the form that it should have.
use Rattle.std.specs.Prelude.{ℕ, ◌+◌, ◌-◌, ◌==◌, ◌&&◌, ◌||◌, Bool, false, not, min, List, [], ◌∷◌, ◌++◌, length, take, drop, max, nat_eq, nat_le, nat_lt, Option, Some, None, codes, decimal, if◌then◌else◌}
use Rattle.std.specs.List.{ends_with, prefix_len}
use Rattle.fault_text.specs.Forms.{misfit_from, range_of}
use Rattle.fault_text.specs.Hints.{first_word, is_near, line_hints}
use Rattle.fault_text.specs.Lines.{indented_all, word_len}
use Rattle.fault_text.specs.Places.{place_notes}

-- ---- forms in words

abbrev pub shown_letter : ℕ → List ℕ
shown_letter byte =
    if byte == 78 then codes "NAME"
    else if byte == 87 || byte == 79 then codes " V .."
    else if byte == 70 then codes " E .."
    else if byte == 66 then codes "V"
    else if byte == 81 then codes "N"
    else if byte == 74 then codes "I"
    else byte ∷ []

-- as documents write the form
unfoldable pub shown_form : List ℕ → List ℕ
shown_form [] = []
shown_form (byte ∷ form) = shown_letter byte ++ shown_form form

abbrev pub is_literal : ℕ → Bool
is_literal byte = not (nat_le 65 byte && nat_le byte 90 || byte == 32)

abbrev pub literal_len : List ℕ → ℕ
literal_len form = prefix_len is_literal form

abbrev pub range_words : Option (ℕ × ℕ) → List ℕ → List ℕ
range_words None left = codes "`" ++ (take (literal_len left) left ++ codes "`")
range_words (Some range) left = codes "a number from" ++ ((32 ∷ decimal range.0) ++ (codes " to" ++ (32 ∷ decimal range.1)))

-- what a line should have where this is left of its form
abbrev pub wanted : List ℕ → List ℕ
wanted [] = codes "the end of the line"
wanted (byte ∷ left) =
    if byte == 78 then codes "a name: 1 to 32 of a to z, 0 to 9, _ and -"
    else if byte == 87 || byte == 79 then codes "a number from 0 to 4294967295"
    else if byte == 69 || byte == 70 then codes "a number from 0 to 4294967295, or `.`"
    else if byte == 32 then codes "a space"
    else range_words (range_of byte) (byte ∷ left)

-- a name comes right before what is left of the form
abbrev pub is_after_name : List ℕ → List ℕ → Bool
is_after_name form left = ends_with nat_eq (take (length form - length left) form) (codes "N")

abbrev pub name_if : List ℕ → List ℕ → List ℕ
name_if form left = if is_after_name form left then codes " after a name of a to z, 0 to 9, _ and -" else []

-- the same, unless the form begins there with a word; and what a name has that comes before it
abbrev pub wanted_if : List ℕ → List ℕ → List ℕ
wanted_if form left = if (length left == length form) && nat_lt 0 (literal_len left) then [] else codes ", here " ++ (wanted left ++ name_if form left)

abbrev pub expects : List ℕ → List ℕ → List ℕ
expects form left = codes "expected `" ++ (shown_form form ++ (codes "`" ++ wanted_if form left))

-- ---- the forms that a line may have

-- a line that leaves the form at this place does so within its first word, which is not near the form's
abbrev pub is_other_word : ℕ → List ℕ → List ℕ → Bool
is_other_word at form line = nat_lt at (literal_len form) && not (is_near (first_word line) (take (literal_len form) form))

-- where a line leaves a form, and what is left of the form there; one whose first word is another leaves it at once
abbrev pub misfit : List ℕ → List ℕ → ℕ × List ℕ
misfit form line = if is_other_word (misfit_from 0 form line).0 form line then (0, form) else misfit_from 0 form line

-- the last of the places at which it leaves them
unfoldable pub furthest : List ℕ → List (List ℕ) → ℕ
furthest line [] = 0
furthest line (form ∷ forms) = max (misfit form line).0 (furthest line forms)

abbrev pub fits : List ℕ → List ℕ → Bool
fits line form = (length (misfit_from 0 form line).1 == 0) && ((misfit_from 0 form line).0 == length line)

-- the line has one of them
unfoldable pub fits_one : List ℕ → List (List ℕ) → Bool
fits_one line [] = false
fits_one line (form ∷ forms) = fits line form || fits_one line forms

-- after the first word and the space after that
abbrev pub value_place : List ℕ → ℕ
value_place line = min (word_len line + 1) (length line)

-- the place of a line that has one of these forms, or should
abbrev pub place_in : List ℕ → List (List ℕ) → ℕ
place_in line forms = if fits_one line forms then value_place line else furthest line forms

-- what the form has at this place, if the line leaves it there
abbrev pub expected_if : ℕ → List ℕ → List ℕ → List (List ℕ)
expected_if at line form = if (misfit form line).0 == at then expects form (misfit form line).1 ∷ [] else []

unfoldable pub expected_notes : ℕ → List ℕ → List (List ℕ) → List (List ℕ)
expected_notes at line [] = []
expected_notes at line (form ∷ forms) = expected_if at line form ++ expected_notes at line forms

-- what is expected at this place of the line, and what may help
abbrev pub form_notes : ℕ → List ℕ → List (List ℕ) → List ℕ
form_notes at line forms = indented_all (expected_notes at line forms) ++ line_hints line (take at line) (drop at line)

-- the sentence about this place of the line, and these notes
abbrev pub fault_at : ℕ → List ℕ → ℕ → List ℕ → List (List ℕ) → List ℕ
fault_at number sentence at line forms = indented_all (place_notes number sentence (take at line) (drop at line)) ++ form_notes at line forms

-- The sentence about a line that has one of these forms, or should, with its place: its first value if it has one, or else the first byte
-- at which it leaves the one that it follows furthest; what is expected there; and what may help.
unfoldable pub form_fault : ℕ → List ℕ → List ℕ → List (List ℕ) → List ℕ
form_fault number sentence line forms = fault_at number sentence (place_in line forms) line forms
