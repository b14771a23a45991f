-- What a program's words name, and what it writes.
use Rattle.std.specs.Prelude.{ℕ, List, Option, None, Some}
use Rattle.std.specs.Io.KnownBytes.{Appends}

-- What a writer has before and after.
pub record Writes : Type 0 where
  pub before : Option (List ℕ)
  pub after : Option (List ℕ)

abbrev pub HasAppended : Writes → List ℕ → Type 0
HasAppended writes output = Appends writes.before writes.after output

-- what the input gives that the words name, if it is known: a file, or standard input if they name none
abbrev pub input_named : Option (List ℕ) → (List ℕ → Option (List ℕ)) → Option (List ℕ) → Option (List ℕ)
input_named standard file None = standard
input_named standard file (Some path) = file path
