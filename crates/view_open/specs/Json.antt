-- What is written after a command of a script as JSON: an object a line.
use Rattle.std.specs.Prelude.{ℕ, Bool, false, ◌==◌, List, [], ◌∷◌, map, Option, Some, None, if◌then◌else◌, codes}
use Rattle.std.specs.List.{flat_map}
use Rattle.serde_json.specs.Data.{Data, array, boolean, member, no_members, null, object, string}
use Rattle.serde_json.specs.View.{items_of}
use Rattle.json_lines.specs.Values.{number_data, text_data}
use Rattle.room_spec.specs.Texts.{first_line}
use Rattle.run_search.specs.Outcomes.{Ends}
use Rattle.run_search.specs.declared.ended.Ended.{Ended}
use Rattle.run_search.specs.declared.ended.Ended.TheVariants.{Decided, Spent, Stopped}
use Rattle.view_open.specs.Texts.{is_closed}
use Rattle.view_open.specs.declared.searching.Found.{Found}

abbrev pub end_data : Ended → Data
end_data (Decided v) = object (member (codes "state") (string (codes "decided")) (member (codes "value") (number_data v) no_members))
end_data Spent = object (member (codes "state") (string (codes "spent")) no_members)
end_data Stopped = object (member (codes "state") (string (codes "stopped")) no_members)

-- how each process ends
abbrev pub ends_data : List Ended → Data
ends_data ends = array (items_of (map end_data ends))

abbrev pub outcomes_data : List Ends → Data
outcomes_data outcomes = array (items_of (map (λ (one : Ends). ends_data one.items) outcomes))

abbrev pub closed_item : List Ends → Ends → List Data
closed_item still one = if is_closed still one then ends_data one.items ∷ [] else []

abbrev pub closed_items : List Ends → List Ends → List Data
closed_items still known = flat_map (closed_item still) known

-- those that were known to be open, and are no more; `null` if nodes were missed
abbrev pub closed_data : ℕ → List Ends → List Ends → Data
closed_data missed known still = if missed == 0 then array (items_of (closed_items still known)) else null

-- the first line that `play` writes
abbrev pub words_data : List ℕ → Data
words_data words = text_data (first_line words)

-- something that changes no room
abbrev pub reply_data : List ℕ → Data
reply_data words = object (member (codes "reply") (words_data words) no_members)

-- a command that changes the room of this name; `null` for what isn't known
abbrev pub room_data : List ℕ → List ℕ → ℕ → ℕ → Bool → Data → Data → Data → Data → Data
room_data words name crashes limit complete closed missed nodes still =
    object (member (codes "closed") closed (member (codes "complete") (boolean complete) (member (codes "crashes") (number_data crashes) (member (codes "limit") (number_data limit) (member (codes "missed") missed
    (member (codes "nodes") nodes (member (codes "open") still (member (codes "reply") (words_data words) (member (codes "room") (string name) no_members)))))))))

abbrev pub found_data : List ℕ → List ℕ → ℕ → ℕ → List Ends → Found → Data
found_data words name crashes limit known found =
    room_data words name crashes limit (found.missed == 0) (closed_data found.missed known found.ends.items) (number_data found.missed) (number_data found.nodes) (outcomes_data found.ends.items)

-- the room has more nodes than the limit
abbrev pub unfinished_data : List ℕ → List ℕ → ℕ → ℕ → Data
unfinished_data words name crashes limit = room_data words name crashes limit false null null null null

abbrev pub open_data : List ℕ → List ℕ → ℕ → ℕ → List Ends → Option Found → Data
open_data words name crashes limit known None = unfinished_data words name crashes limit
open_data words name crashes limit known (Some found) = found_data words name crashes limit known found
