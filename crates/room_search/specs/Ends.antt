-- How the processes of a room end, by what is said of its words.
use Rattle.std.specs.Prelude.{◌≡◌, ◌≢◌, ℕ, ◌==◌, Bool, true, false, List, [], map, None, slice_index}
use Rattle.std.specs.List.{range_with_len}
use Rattle.room_spec.specs.Rooms.{RoomSpec, processes}
use Rattle.room_spec.specs.Sizes.{sizes_in}
use Rattle.level_cells.specs.Fields.{level_of}
use Rattle.view_table.specs.Places.{IsPlace, IsPlaceAt, index_of}
use Rattle.view_table.specs.Words.{word_at}
use Rattle.view_table.specs.declared.place.Place.{Place}
use Rattle.view_table.specs.declared.place.Place.TheVariants.{Memory, Levels, View, Value, Out}
use Rattle.room_core.specs.Agreements.{decided_in}
use Rattle.simulator.specs.Minds.{MindOf, opening_mind_of}
use Rattle.room_core.specs.Fields.{Fields, StepMap, no_steps}
use Rattle.room_core.specs.Reading.{fields_in}
use Rattle.ws_history.specs.Readings.{small_fields}
use Rattle.ws_history.specs.Reports.{is_spent, state_by}
use Rattle.run_search.specs.declared.ended.Ended.{Ended}
use Rattle.room_outcomes.specs.Ends.{end_of}
use Rattle.room_search.specs.Saying.{DoSay, heard}

-- a mind that has the input of each process
abbrev pub knowing_all : RoomSpec → ℕ → MindOf StepMap
knowing_all spec i = record (opening_mind_of no_steps spec i) { goals = [] }

-- The fields that the words of a room say. In a reduction each process is taken for one whose input is known: one whose last snapshot can be read is.
abbrev pub fields_by : RoomSpec → List ℕ → Fields
fields_by spec words = record (small_fields (fields_in (record { spec = spec; words = words; sweeps = []; crashed = [] }))) { mind = knowing_all spec }

-- how process j ends: one that is held or still going counts as stopped
abbrev pub end_by : RoomSpec → List ℕ → ℕ → Ended
end_by spec words j = end_of (state_by (decided_in spec (fields_by spec words) j) (is_spent spec (fields_by spec words) j) None)

abbrev pub ends_by : RoomSpec → List ℕ → List Ended
ends_by spec words = map (end_by spec words) (range_with_len 0 (processes spec))

-- The word of a place counts for how the processes end: a proposal does only if its simulator is at level 2.
abbrev pub counts : RoomSpec → List ℕ → Place → Bool
counts spec words (Memory w) = true
counts spec words (Levels j k) = true
counts spec words (View i j k w) = level_of (word_at (sizes_in spec) words (Levels j k)) i == 2
counts spec words (Value i j k) = true
counts spec words (Out i j) = true

-- the word of this index doesn't count
pub record IsNotCounted (spec : RoomSpec) (words : List ℕ) (at : ℕ) : Type 0 where
  pub place : Place
  pub is : IsPlaceAt (sizes_in spec) place at
  pub no : counts spec words place ≡ false

-- each word that counts is said
abbrev pub SaysEnough : RoomSpec → List ℕ → Type 0
SaysEnough spec said = (place : Place) → IsPlace (sizes_in spec) place → counts spec (heard said) place ≡ true → slice_index said (index_of (sizes_in spec) place) ≢ 0

-- The processes of each room of which this is said end like this.
abbrev pub DoEnd : RoomSpec → List ℕ → List Ended → Type 0
DoEnd spec said ends = (words : List ℕ) → DoSay said words → ends_by spec words ≡ ends
