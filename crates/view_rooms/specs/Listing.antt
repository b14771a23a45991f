-- All outcomes that the simulators of a room can reach, in the order in which they are written.
use Rattle.std.specs.Prelude.{◌<◌, ◌≤◌, ℕ, ◌+◌, max, IsPermutation, List, length, slice_index_or}
use Rattle.std.specs.List.{fold}
use Rattle.room_spec.specs.Rooms.{RoomSpec}
use Rattle.room_search.specs.declared.reached.Reached.{Reached}
use Rattle.room_search.specs.declared.search.Reach.{Reach}
use Rattle.room_search.specs.Reaching.{AreAllReached}
use Rattle.view_sample.specs.Counts.{values_in}
use Rattle.view_sample.specs.Leads.{LeadsTo}
use Rattle.view_sample.specs.Texts.{script_text}

-- how many different values are decided in an outcome
abbrev pub values_of : Reached → ℕ
values_of one = values_in one.states.items

-- the most different values that any outcome has
abbrev pub most_values : List Reached → ℕ
most_values all = fold (λ most one. max (values_of one) most) 0 all

-- those with most decided values are first
abbrev pub AreMostFirst : List Reached → Type 0
AreMostFirst all = (k : ℕ) (d : Reached) → k + 1 < length all → values_of (slice_index_or all (k + 1) d) ≤ values_of (slice_index_or all k d)

-- All outcomes that the room's simulators can reach if at most this many crash: those that a search found, in the order of the list.
pub record AreInOrder (spec : RoomSpec) (crashes limit : ℕ) (all : Reach) : Type 0 where
  pub found : List Reached
  pub reached : AreAllReached spec crashes all.missed found
  pub same : IsPermutation found all.outcomes.items
  pub most_first : AreMostFirst all.outcomes.items
  pub nodes : all.nodes ≤ limit

-- The script of the outcome leads to it: `play` replies that the room takes each step and crash of its schedule, and then reports these states.
abbrev pub HasScript : List ℕ → List ℕ → Reached → Type 0
HasScript name block one = LeadsTo block name one.schedule.items one.states.items (script_text name block one.schedule.items)
