-- A warning, as text or as JSON.
use Rattle.std.specs.Prelude.{ℕ, ◌+◌, Bool, true, false, List, length, codes, Option, Some}
use Rattle.serde_json.specs.Data.{Data, member, no_members, object, string}
use Rattle.json_lines.specs.Lines.{json_line}
use Rattle.json_lines.specs.Values.{entry_data, text_data}
use Rattle.fault_text.specs.Lines.{indented_all}
use Rattle.fault_text.specs.Places.{place_notes}

-- the line and the byte in it that the warning is about, both counted from 1, if there are such, and its sentence
abbrev pub warning_data : Option ℕ → Option ℕ → List ℕ → Data
warning_data line place sentence =
    object (member (codes "kind") (string (codes "warning")) (member (codes "line") (entry_data line) (member (codes "place") (entry_data place) (member (codes "what") (text_data sentence) no_members))))

-- the sentence about a place of a line, which has these bytes before it and from it on
abbrev pub warning_in : Bool → ℕ → List ℕ → List ℕ → List ℕ → List ℕ
warning_in false number sentence front back = indented_all (place_notes number sentence front back)
warning_in true number sentence front back = json_line (warning_data (Some number) (Some (length front + 1)) sentence)
