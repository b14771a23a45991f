-- What is said of the words of a room, by those who know only some of them.
use Rattle.std.specs.Prelude.{◌≡◌, ◌≢◌, ℕ, ◌+◌, ◌-◌, List, map, slice_index}
use Rattle.room_spec.specs.Rooms.{RoomSpec}
use Rattle.room_spec.specs.Sizes.{sizes_in}
use Rattle.view_table.specs.Places.{IsPlaceAt}
use Rattle.view_table.specs.declared.place.Place.{Place}
use Rattle.view_table.specs.declared.place.Place.TheVariants.{Memory, Levels, View, Value, Out}

-- A list of numbers says of each word either what it is, by the number after it, or nothing, by 0. All that it says of these words is so.
abbrev pub DoSay : List ℕ → List ℕ → Type 0
DoSay said words = (at word : ℕ) → slice_index said at ≡ word + 1 → slice_index words at ≡ word

-- the words as far as they are said; the others are 0
abbrev pub heard : List ℕ → List ℕ
heard said = map (λ number. number - 1) said

-- which simulator alone stores words at a place, and one more; 0 if each does
abbrev pub writer_of : Place → ℕ
writer_of (Memory w) = 0
writer_of (Levels j k) = 0
writer_of (View i j k w) = i + 1
writer_of (Value i j k) = i + 1
writer_of (Out i j) = i + 1

-- the word of this index is at a place with this writer
pub record IsAtPlaceOf (spec : RoomSpec) (writer at : ℕ) : Type 0 where
  pub place : Place
  pub is : IsPlaceAt (sizes_in spec) place at
  pub writer_is : writer ≡ writer_of place

-- it is one of simulator i
abbrev pub IsWordOf : RoomSpec → ℕ → ℕ → Type 0
IsWordOf spec i at = IsAtPlaceOf spec (i + 1) at

-- something is said only of words of simulator i
abbrev pub IsOwn : RoomSpec → ℕ → List ℕ → Type 0
IsOwn spec i said = (at : ℕ) → slice_index said at ≢ 0 → IsWordOf spec i at
