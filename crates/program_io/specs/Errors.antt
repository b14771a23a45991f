-- What a program says on standard error.
use Rattle.std.specs.Prelude.{◌≡◌, ℕ, Bool, false, List, ◌++◌, Option, codes, decimal}
use Rattle.std.specs.Io.KnownBytes.{Appends}

-- What standard error has before and after, if that is known, and whether a write failed.
pub record Errors : Type 0 where
  pub before : Option (List ℕ)
  pub after : Option (List ℕ)
  pub failed : Bool

-- this text is written, if no write failed
abbrev pub IsSaid : Errors → List ℕ → Type 0
IsSaid errors text = errors.failed ≡ false → Appends errors.before errors.after text

-- on which line an input has a fault, and the fault's number
abbrev pub place_words : ℕ → ℕ → List ℕ
place_words line code = codes "line " ++ ((decimal line ++ codes ": fault ") ++ decimal code)

-- the line in which a program says a fault: first its name, then the words of the fault
abbrev pub fault_line : List ℕ → List ℕ → List ℕ
fault_line name words = name ++ (words ++ codes "\n")
