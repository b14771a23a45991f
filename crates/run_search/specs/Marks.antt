-- Marks: a bit for each local state. A set whose marks are not all among those of another has a local state that the other has not.
use Rattle.std.specs.Prelude.{◌≡◌, ℕ, ◌+◌, ◌*◌, ◌%◌}
use Rattle.std.specs.Int.{bit_at}
use Rattle.run_search.specs.declared.local_state.Due.{Due}
use Rattle.run_search.specs.declared.local_state.Due.TheVariants.{Write, Snap, Decide, Decided, Spent}
use Rattle.run_search.specs.declared.local_state.LocalState.{LocalState}

-- a number for what a process does next
abbrev pub number_of : Due → ℕ
number_of (Write v) = 5 * v
number_of Snap = 1
number_of (Decide v) = 5 * v + 2
number_of (Decided v) = 5 * v + 3
number_of Spent = 4

-- which of the 64 bits of a word is the mark of a local state of process p
abbrev pub mark_of : ℕ → LocalState → ℕ
mark_of p local = (number_of local.due + 7 * local.writes + 13 * (p % 16)) % 64

-- each mark is that of a local state that some process has
abbrev pub AreMarksOf : (ℕ → LocalState → Type 0) → ℕ → Type 0
AreMarksOf has marks = (k : ℕ) → bit_at marks k ≡ 1 → (p : ℕ) × (local : LocalState) × has p local × (mark_of p local ≡ k)
