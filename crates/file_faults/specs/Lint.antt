-- What a file is read as, and all its faults.
use Rattle.std.specs.Prelude.{◌≡◌, ℕ, ◌==◌, Bool, true, false, List, ◌++◌, length, codes, if◌then◌else◌}
use Rattle.serde_json.specs.Data.{Data, member, no_members, object, string}
use Rattle.json_lines.specs.Lines.{json_line}
use Rattle.file_faults.specs.Kinds.{AreFaultsOf, AreObjectsOf, kind_of}
use Rattle.file_faults.specs.declared.kinds.Kind.{Kind}
use Rattle.file_faults.specs.declared.kinds.Kind.TheVariants.{Rooms, Script, Transcript}
use Rattle.file_faults.specs.Warnings.{warnings_said}
use Rattle.room_files.specs.Verdicts.{outcome_if}
use Rattle.room_files.specs.declared.outcome.Outcome.{Outcome}

abbrev pub kind_line : Kind → List ℕ
kind_line Rooms = codes "read as rooms\n"
kind_line Script = codes "read as a script\n"
kind_line Transcript = codes "read as a transcript\n"

abbrev pub said_or_none : List ℕ → List ℕ
said_or_none said = if length said == 0 then codes "no faults\n" else said

-- The output says what the file is read as, and then all its faults, or that it has none. All is well if it has none.
pub record IsLinted (kind : Kind) (input : List ℕ) (outcome : Outcome) (output : List ℕ) : Type 0 where
  pub said : List ℕ
  pub are_faults : AreFaultsOf kind input said
  pub output_is : output ≡ kind_line kind ++ said_or_none said
  pub outcome_is : outcome ≡ outcome_if (length said == 0)

unfoldable pub IsLintFor : List ℕ → Outcome → List ℕ → Type 0
IsLintFor input outcome output = IsLinted (kind_of input) input outcome output

-- ---- as JSON

abbrev pub kind_word : Kind → List ℕ
kind_word Rooms = codes "rooms"
kind_word Script = codes "script"
kind_word Transcript = codes "transcript"

-- what a file is read as
abbrev pub kind_data : Kind → Data
kind_data kind = object (member (codes "kind") (string (codes "file")) (member (codes "read_as") (string (kind_word kind)) no_members))

-- An object that says what the file is read as, then one for each of its faults, and for each thing that is warned of. All is well if it has no fault.
pub record IsLintedJson (kind : Kind) (input : List ℕ) (outcome : Outcome) (output : List ℕ) : Type 0 where
  pub said : List ℕ
  pub are_faults : AreObjectsOf kind input said
  pub output_is : output ≡ json_line (kind_data kind) ++ (said ++ warnings_said true input)
  pub outcome_is : outcome ≡ outcome_if (length said == 0)

-- as text or as JSON
abbrev pub IsLintIn : Bool → List ℕ → Outcome → List ℕ → Type 0
IsLintIn false input outcome output = IsLintFor input outcome output
IsLintIn true input outcome output = IsLintedJson (kind_of input) input outcome output
