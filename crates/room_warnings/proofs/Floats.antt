-- No number in the JSON of a warning has a fraction.
use Rattle.std.proofs.Common.{◌≡◌, ℕ, List, Some, false, refl}
use Rattle.serde_json.specs.Written.{has_float}
use Rattle.json_lines.specs.Values.{text_data}
use Rattle.json_lines.proofs.CallerLemmas.{both, text_is}
use Rattle.room_warnings.specs.Json.{warning_data}

pub warning_is : (number place : ℕ) (sentence : List ℕ) → has_float (warning_data (Some number) (Some place) sentence) ≡ false
warning_is number place sentence = both (has_float (text_data sentence)) false (text_is sentence) refl
