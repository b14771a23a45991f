-- Specs under their names.
use Rattle.std.specs.Prelude.{◌≡◌, List, ℕ, map}
use Rattle.room_spec.specs.Rooms.{RoomSpec}
use Rattle.history_checker.specs.Verdicts.{names_of}

-- the specs of a map from names, in its order
abbrev pub specs_in : List (List ℕ × RoomSpec) → List RoomSpec
specs_in entries = map (λ entry. entry.1) entries

-- each is under its own name
abbrev pub AreNamed : List (List ℕ × RoomSpec) → Type 0
AreNamed entries = map (λ entry. entry.0) entries ≡ names_of (specs_in entries)
