-- What a file is read as, and what is said of its faults.
use Rattle.std.specs.Prelude.{◌≡◌, ℕ, ◌||◌, Bool, true, List, codes, is_some, if◌then◌else◌}
use Rattle.std.specs.List.{list_any}
use Rattle.std.specs.Str.{bytes_eq}
use Rattle.room_spec.specs.Texts.{first_line}
use Rattle.room_files.specs.Lines.{text_lines}
use Rattle.script_play.specs.Script.{command_in}
use Rattle.file_faults.specs.Files.{AreRoomFaults, AreRoomObjects, AreTranscriptFaults, AreTranscriptObjects}
use Rattle.file_faults.specs.Scripts.{script_faults, script_said}
use Rattle.file_faults.specs.declared.kinds.Kind.{Kind}
use Rattle.file_faults.specs.declared.kinds.Kind.TheVariants.{Rooms, Script, Transcript}

abbrev pub is_either : List ℕ → List ℕ → List ℕ → Bool
is_either word other line = bytes_eq line word || bytes_eq line other

-- one of the lines of a text is one of these two words
unfoldable pub has_line : List ℕ → List ℕ → List ℕ → Bool
has_line word other text = list_any (is_either word other) (text_lines text)

abbrev pub begins_with_command : List ℕ → Bool
begins_with_command text = is_some (command_in (first_line text))

-- a transcript has a line `events`, a script a line `open` or a command at its beginning; other files are rooms. A carriage return may come
-- after such a word, as on Windows
abbrev pub kind_of : List ℕ → Kind
kind_of text = if has_line (codes "events") (codes "events\r") text then Transcript else if has_line (codes "open") (codes "open\r") text || begins_with_command text then Script else Rooms

-- what is said of all faults of a file that is read as one of this kind
abbrev pub AreFaultsOf : Kind → List ℕ → List ℕ → Type 0
AreFaultsOf Rooms input said = AreRoomFaults input said
AreFaultsOf Script input said = said ≡ script_faults input
AreFaultsOf Transcript input said = AreTranscriptFaults input said

-- the same as JSON
abbrev pub AreObjectsOf : Kind → List ℕ → List ℕ → Type 0
AreObjectsOf Rooms input said = AreRoomObjects input said
AreObjectsOf Script input said = said ≡ script_said true input
AreObjectsOf Transcript input said = AreTranscriptObjects input said
