-- What `lint` says of a file as JSON: an object a line.
use Rattle.std.specs.Prelude.{◌≡◌, ℕ, ◌+◌, Bool, true, false, List, [], ◌∷◌, ◌++◌, map, drop, is_some, Option, codes, if◌then◌else◌}
use Rattle.serde_json.specs.Data.{Data, array, member, no_members, null, object, string}
use Rattle.serde_json.specs.View.{items_of}
use Rattle.json_lines.specs.Lines.{json_line}
use Rattle.json_lines.specs.Values.{entry_data, number_data, text_data}
use Rattle.room_files.specs.Blocks.{refused_line}
use Rattle.room_files.specs.Lines.{text_lines}
use Rattle.room_spec.specs.Texts.{first_line}
use Rattle.fault_text.specs.Lines.{lines_after}
use Rattle.fault_text.specs.Spots.{IsSaidAt, SpotParts}
use Rattle.fault_text.specs.declared.refusals.TheConstants.{ENOUGH}

-- a line for people, without the four blanks before it
abbrev pub note_data : List ℕ → Data
note_data line = text_data (drop 4 line)

-- ---- a fault

-- how many lines of what is said of a fault are not hints: the line that a block is refused, the sentence, and the line of the file with a caret below it
abbrev pub head_lines : Bool → Option ℕ → ℕ
head_lines refused place = (if refused then 1 else 0) + (if is_some place then 3 else 1)

-- the lines after these
abbrev pub hints_data : ℕ → List ℕ → Data
hints_data heads said = array (items_of (map note_data (text_lines (lines_after heads said))))

-- the line that says that a block is refused
abbrev pub refused_data : Bool → List ℕ → Data
refused_data refused said = if refused then note_data (first_line said) else null

-- a fault of a refused block or of a line, by its place and by what is said of it
abbrev pub fault_data : Bool → SpotParts → List ℕ → Data
fault_data refused spot said =
    object (member (codes "hints") (hints_data (head_lines refused spot.place) said) (member (codes "kind") (string (codes "fault")) (member (codes "line") (number_data spot.line)
    (member (codes "place") (entry_data spot.place) (member (codes "refused") (refused_data refused said) (member (codes "what") (string spot.what) no_members))))))

-- ---- parts of a file

-- what is said of a part, as text or as JSON; of some parts nothing is said
abbrev pub fault_in : Bool → Bool → SpotParts → List ℕ → List ℕ
fault_in false refused spot said = said
fault_in true refused spot [] = []
fault_in true refused spot (byte ∷ said) = json_line (fault_data refused spot (byte ∷ said))

abbrev pub more_data : List ℕ → Data
more_data said = object (member (codes "kind") (string (codes "more")) (member (codes "what") (note_data (first_line said)) no_members))

-- how many parts were not explained, since they have a name of which it is said before
abbrev pub more_in : Bool → List ℕ → List ℕ
more_in false said = said
more_in true [] = []
more_in true (byte ∷ said) = json_line (more_data (byte ∷ said))

-- that no further faults are explained
abbrev pub enough_in : Bool → List ℕ
enough_in json = more_in json ENOUGH.now

-- ---- laws

-- What is said begins with what the spot says, after the line that a block is refused, if one is.
abbrev pub IsHeadedBy : Bool → SpotParts → List ℕ → Type 0
IsHeadedBy false spot said = IsSaidAt spot said
IsHeadedBy true spot said = (first : ℕ) × (why : List ℕ) × (rest : List ℕ) × (said ≡ codes "    " ++ (refused_line first why ++ rest)) × IsSaidAt spot rest

-- the same of a part of which something is said
abbrev pub IsHeaded : Bool → SpotParts → List ℕ → Type 0
IsHeaded refused spot said = (said ≡ [] → ⊥) → IsHeadedBy refused spot said
