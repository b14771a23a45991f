-- What is said of the faults of a page's files.
use Rattle.std.specs.Prelude.{◌≡◌, ◌==◌, ℕ, List, [], ◌++◌, length, codes, if◌then◌else◌}
use Rattle.file_faults.specs.Files.{AreTranscriptFaults}
use Rattle.file_faults.specs.Scripts.{script_faults}
use Rattle.step_page.specs.declared.page.FileKind.{FileKind}
use Rattle.step_page.specs.declared.page.FileKind.TheVariants.{Script, Transcript}
use Rattle.view_page.specs.Pages.{kind_of}

-- what is said of all faults of a file, by what it is
abbrev pub AreFileFaults : FileKind → List ℕ → List ℕ → Type 0
AreFileFaults Script file said = said ≡ script_faults file
AreFileFaults Transcript file said = AreTranscriptFaults file said

-- what is said of a file of this name, after its name, if something is said
abbrev pub said_in : List ℕ → List ℕ → List ℕ
said_in name said = if length said == 0 then [] else codes "    in " ++ (name ++ (codes ":\n" ++ said))

-- A file by its name.
pub record NamedFile : Type 0 where
  pub name : List ℕ
  pub bytes : List ℕ

-- of all faults of two files, in order, each after the name of its file
abbrev pub AreBothFaults : NamedFile → NamedFile → List ℕ → Type 0
AreBothFaults file next said =
    (first later : List ℕ) × AreFileFaults (kind_of file.bytes) file.bytes first × AreFileFaults (kind_of next.bytes) next.bytes later
    × (said ≡ said_in file.name first ++ said_in next.name later)
