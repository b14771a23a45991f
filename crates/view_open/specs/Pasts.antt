-- What is kept of the rooms of a script, by their names. All of it is used inside the crate alone.
use Rattle.std.specs.Prelude.{◌≡◌, ℕ, false, List, [], Option, Some, None}
use Rattle.std.specs.Global.{Vec}
use Rattle.std.specs.Map.{lookup}
use Rattle.std.specs.Str.{bytes_eq}
use Rattle.run_search.specs.Outcomes.{Ends}
use Rattle.room_search.specs.declared.beginning.Act.{Act}
use Rattle.view_open.specs.Logs.{Noted, acts_of, known_of}
use Rattle.view_open.specs.declared.log.Past.{Past}

abbrev pub PastEntries : Type 0
PastEntries = List (Vec ℕ × Past)

-- what is kept of the room of this name
abbrev pub past_at : PastEntries → List ℕ → Option Past
past_at pasts name = lookup (λ key. bytes_eq name key.items) pasts

-- nothing was done to a room of which nothing is kept
abbrev pub acts_kept : Option Past → List Act
acts_kept None = []
acts_kept (Some past) = past.acts.items

-- and no outcome of it is known to be open
abbrev pub known_kept : Option Past → List Ends
known_kept None = []
known_kept (Some past) = past.known.items

-- what is kept of the rooms of other names stays
abbrev pub KeepOthers : PastEntries → List ℕ → PastEntries → Type 0
KeepOthers old name new = (other : List ℕ) → bytes_eq other name ≡ false → past_at new other ≡ past_at old other

-- what is kept of each room is what the log says of it
pub record AreOf (pasts : PastEntries) (log : List Noted) : Type 0 where
  pub acts : (name : List ℕ) → acts_kept (past_at pasts name) ≡ acts_of name log
  pub known : (name : List ℕ) → known_kept (past_at pasts name) ≡ known_of name log
