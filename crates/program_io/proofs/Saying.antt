-- What is written if no write failed.
use Rattle.std.proofs.Common.{◌≡◌, ◌||◌, ℕ, Bool, false, List, Option}
use Rattle.std.specs.Prelude.{Result, Ok, Err, OnOk, is_err}
use Rattle.std.specs.Io.KnownBytes.{Appends}
use Rattle.program_io.specs.Errors.{IsSaid}

-- a text that is written unless a call fails is said
pub said_if : {A E : Type 0} (result : Result A E) (old new : Bool) (text : List ℕ) (a b : Option (List ℕ)) → old ≡ false → new ≡ (old || is_err result) → OnOk result (Appends a b text)
    → IsSaid (record { before = a; after = b; failed = new }) text
said_if (Ok value) old new text a b was is holds whole = holds
said_if (Err fault) old new text a b was is holds whole = absurd cc
