-- No number in the JSON of faults has a fraction.
use Rattle.std.proofs.Common.{◌≡◌, Bool, true, false, ◌||◌, List, ℕ, Option, Some, None, refl}
use Rattle.serde_json.specs.Written.{has_float}
use Rattle.json_lines.specs.Values.{entry_data, text_data}
use Rattle.json_lines.proofs.CallerLemmas.{both, items_are, text_is}
use Rattle.room_spec.specs.Texts.{first_line}
use Rattle.fault_text.specs.Spots.{SpotParts}
use Rattle.room_warnings.specs.Json.{warning_data}
use Rattle.file_faults.specs.declared.warnings.TheConstants.{EMPTY_FILE}
use Rattle.file_faults.specs.Json.{fault_data, head_lines, hints_data, more_data, note_data, refused_data}

note_is : (line : List ℕ) → has_float (note_data line) ≡ false
note_is line = text_is _

hints_are : (heads : ℕ) (said : List ℕ) → has_float (hints_data heads said) ≡ false
hints_are heads said = items_are note_data note_is _

place_is : (place : Option ℕ) → has_float (entry_data place) ≡ false
place_is None = refl
place_is (Some place) = refl

refused_is : (refused : Bool) (said : List ℕ) → has_float (refused_data refused said) ≡ false
refused_is true said = note_is (first_line said)
refused_is false said = refl

pub fault_is : (refused : Bool) (spot : SpotParts) (said : List ℕ) → has_float (fault_data refused spot said) ≡ false
fault_is refused spot said =
    let place = has_float (entry_data spot.place) in
    let block = has_float (refused_data refused said) in
    both (has_float (hints_data (head_lines refused spot.place) said)) (place || (block || false)) (hints_are (head_lines refused spot.place) said)
    (both place (block || false) (place_is spot.place) (both block false (refused_is refused said) refl))

pub more_is : (said : List ℕ) → has_float (more_data said) ≡ false
more_is said = both (has_float (note_data (first_line said))) false (note_is (first_line said)) refl

pub empty_is : has_float (warning_data None None EMPTY_FILE.now) ≡ false
empty_is = both (has_float (text_data EMPTY_FILE.now)) false (text_is EMPTY_FILE.now) refl
