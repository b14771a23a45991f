-- What is written of rooms whose histories are judged, one by one.
use Rattle.std.proofs.Common.{◌≡◌, ℕ, ◌≤◌, Bool, true, false, List, [], length, take, Option, Some, None, is_none, is_some, not, refl}
use Rattle.serde_json.specs.Written.{has_float}
use Rattle.json_lines.proofs.CallerLemmas.{both}
use Rattle.protocol_lang.specs.Trees.{Tree}
use Rattle.room_spec.specs.Rooms.{RoomSpec}
use Rattle.room_sample.specs.declared.sampling.Plan.{Plan}
use Rattle.sample_breaks.specs.declared.breaks.Breaks.{Breaks}
use Rattle.sample_breaks.specs.declared.breaks.Broken.{Broken}
use Rattle.view_sample.specs.Json.{schedule_unless}
use Rattle.view_sample.specs.EachRoom.{AddsRooms}
use Rattle.view_sample.specs.Keeping.{IsBreaksText, breaks_data, first_data}
use Rattle.view_sample.proofs.JsonNumbers.{unless_is}
use Rattle.view_sample.proofs.RoomByRoom.{all_rooms, no_rooms}

-- ---- one room more

pub no_breaks : (lines : List Tree) (plan : Plan) (before : List ℕ) → AddsRooms (IsBreaksText lines plan) [] true before before
no_breaks lines plan before = no_rooms (IsBreaksText lines plan) before

pub all_breaks : (lines : List Tree) (plan : Plan) (specs : List RoomSpec) (i : ℕ) (kept : Bool) (before after : List ℕ) → length specs ≤ i → AddsRooms (IsBreaksText lines plan) (take i specs) kept before after → AddsRooms (IsBreaksText lines plan) specs kept before after
all_breaks lines plan specs i kept before after past adds = all_rooms (IsBreaksText lines plan) specs i kept before after past adds

-- ---- no number has a fraction

first_is : (brief : Bool) (first : Option Broken) → has_float (first_data brief first) ≡ false
first_is brief None = refl
first_is brief (Some broken) = both (has_float (schedule_unless brief broken.schedule.items)) false (unless_is brief broken.schedule.items) refl

pub breaks_are : (name : List ℕ) (plan : Plan) (breaks : Breaks) → has_float (breaks_data name plan breaks) ≡ false
breaks_are name plan breaks = both (has_float (first_data plan.brief breaks.first)) false (first_is plan.brief breaks.first) refl

pub none_is : (first : Option Broken) (none : Bool) → is_some first ≡ not none → none ≡ is_none first
none_is None true is = refl
none_is None false is = absurd cc
none_is (Some broken) true is = absurd cc
none_is (Some broken) false is = refl
