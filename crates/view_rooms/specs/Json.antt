-- What is said of the outcomes as JSON: an object a line.
use Rattle.std.specs.Prelude.{ℕ, Bool, false, ◌==◌, List, length, codes}
use Rattle.std.specs.List.{flat_map}
use Rattle.serde_json.specs.Data.{Data, boolean, member, no_members, null, object, string}
use Rattle.json_lines.specs.Lines.{json_line}
use Rattle.json_lines.specs.Values.{number_data, processes_data}
use Rattle.room_spec.specs.Rooms.{RoomSpec}
use Rattle.room_search.specs.declared.reached.Reached.{Reached}
use Rattle.room_search.specs.declared.search.Reach.{Reach}
use Rattle.view_sample.specs.Json.{schedule_unless}
use Rattle.view_rooms.specs.Listing.{most_values}

-- an outcome: the states of the processes in it, and a schedule that leads there
abbrev pub outcome_data : List ℕ → Bool → Reached → Data
outcome_data name brief one =
    object (member (codes "processes") (processes_data one.states.items) (member (codes "room") (string name) (member (codes "schedule") (schedule_unless brief one.schedule.items) no_members)))

abbrev pub outcome_line : List ℕ → Bool → Reached → List ℕ
outcome_line name brief one = json_line (outcome_data name brief one)

abbrev pub outcome_lines : List ℕ → Bool → List Reached → List ℕ
outcome_lines name brief all = flat_map (outcome_line name brief) all

-- what all outcomes have in common; `null` for what isn't known after a search that didn't end
abbrev pub room_data : RoomSpec → ℕ → ℕ → Bool → Data → Data → Data → Data → Data
room_data spec crashes limit complete values missed nodes count =
    object (member (codes "complete") (boolean complete) (member (codes "crashes") (number_data crashes) (member (codes "decided_at_most") values
    (member (codes "limit") (number_data limit) (member (codes "missed") missed (member (codes "nodes") nodes (member (codes "outcomes") count (member (codes "room") (string spec.name) no_members))))))))

-- a room that was searched to the end
abbrev pub found_data : RoomSpec → ℕ → ℕ → Reach → Data
found_data spec crashes limit reach =
    room_data spec crashes limit (reach.missed == 0) (number_data (most_values reach.outcomes.items)) (number_data reach.missed) (number_data reach.nodes) (number_data (length reach.outcomes.items))

-- a room with more nodes than the limit
abbrev pub unfinished_data : RoomSpec → ℕ → ℕ → Data
unfinished_data spec crashes limit = room_data spec crashes limit false null null null null
