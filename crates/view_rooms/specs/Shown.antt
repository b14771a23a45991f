-- What is written of a room, as text or as JSON.
use Rattle.std.specs.Prelude.{ℕ, Bool, List, [], ◌++◌, if◌then◌else◌}
use Rattle.json_lines.specs.Lines.{json_line}
use Rattle.room_spec.specs.Rooms.{RoomSpec}
use Rattle.room_search.specs.declared.reached.Reached.{Reached}
use Rattle.room_search.specs.declared.search.Reach.{Reach}
use Rattle.view_rooms.specs.declared.plan.RoomPlan.{RoomPlan}
use Rattle.view_rooms.specs.Json.{found_data, outcome_lines, unfinished_data}
use Rattle.view_rooms.specs.Texts.{advice, common_text, head_line, outcome_texts, unfinished_line}

-- what a room's outcomes begin with: in text, how many simulators crash at most
abbrev pub head_shown : Bool → List ℕ → ℕ → List ℕ
head_shown json name crashes = if json then [] else head_line name crashes

abbrev pub outcomes_shown : Bool → Bool → List ℕ → List ℕ → List Reached → List ℕ
outcomes_shown json brief name block all = if json then outcome_lines name brief all else outcome_texts brief name block all

-- what all outcomes have in common, and how many there are
abbrev pub common_shown : Bool → RoomSpec → ℕ → ℕ → Reach → List ℕ
common_shown json spec crashes limit reach = if json then json_line (found_data spec crashes limit reach) else common_text spec.name reach

-- all outcomes, and what they have in common
abbrev pub found_shown : RoomPlan → RoomSpec → List ℕ → ℕ → Reach → List ℕ
found_shown plan spec block crashes reach = outcomes_shown plan.json plan.brief spec.name block reach.outcomes.items ++ common_shown plan.json spec crashes plan.nodes reach

-- the room has more nodes than the limit
abbrev pub unfinished_shown : Bool → RoomSpec → ℕ → ℕ → List ℕ
unfinished_shown json spec crashes limit = if json then json_line (unfinished_data spec crashes limit) else unfinished_line limit advice
