-- What was written of an output.
use Rattle.std.specs.Prelude.{◌≡◌, ℕ, ◌+◌, ◌≤◌, List, ◌++◌, length, Option}
use Rattle.std.specs.Io.KnownBytes.{Appends}

-- the writer took a beginning of the output, in at most a write for each of its bytes, and one write more failed
pub record AppendsPart (old new : Option (List ℕ)) (output : List ℕ) (writes_before writes : ℕ) : Type 0 where
  pub part : List ℕ
  pub rest : List ℕ
  pub split : output ≡ part ++ rest
  pub appends : Appends old new part
  pub few : writes ≤ writes_before + length part + 1
