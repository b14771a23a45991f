-- What is written of all outcomes that the simulators of a room can reach.
use Rattle.std.specs.Prelude.{ℕ, ◌==◌, Bool, List, ◌∷◌, ◌++◌, length, if◌then◌else◌, codes, decimal}
use Rattle.std.specs.List.{flat_map}
use Rattle.report_text.specs.ReportTexts.{process_lines}
use Rattle.room_search.specs.declared.reached.Reached.{Reached}
use Rattle.room_search.specs.declared.search.Reach.{Reach}
use Rattle.view_sample.specs.Texts.{script_unless}
use Rattle.view_rooms.specs.Listing.{most_values}

abbrev pub head_line : List ℕ → ℕ → List ℕ
head_line name crashes = (name ++ codes " outcomes rooms crashes") ++ ((32 ∷ decimal crashes) ++ codes "\n")

-- the states of the processes in an outcome, and a script that leads there
abbrev pub outcome_text : Bool → List ℕ → List ℕ → Reached → List ℕ
outcome_text brief name block one = codes "\n" ++ (process_lines name one.states.items ++ script_unless brief name block one.schedule.items)

abbrev pub outcome_texts : Bool → List ℕ → List ℕ → List Reached → List ℕ
outcome_texts brief name block all = flat_map (outcome_text brief name block) all

abbrev pub most_line : List ℕ → List Reached → List ℕ
most_line name all = (codes "\n" ++ name) ++ (codes " decided at most" ++ ((32 ∷ decimal (most_values all)) ++ codes " values\n"))

abbrev pub reached_words : ℕ → List ℕ
reached_words count = codes "these are all outcomes in which no simulator runs out of turns:" ++ ((32 ∷ decimal count) ++ codes " of them,")

-- how many outcomes there are, and how many nodes were searched
abbrev pub reached_line : ℕ → ℕ → List ℕ
reached_line count nodes = reached_words count ++ ((32 ∷ decimal nodes) ++ codes " nodes searched\n")

abbrev pub missed_words : ℕ → List ℕ
missed_words missed = codes "some outcomes may be missing: for" ++ ((32 ∷ decimal missed) ++ codes " of")

-- for how many nodes, which may have others, no schedule was found
abbrev pub missed_line : ℕ → ℕ → List ℕ
missed_line missed nodes = missed_words missed ++ ((32 ∷ decimal nodes) ++ codes " nodes, which may have others, no schedule was found; if the room has few turns, try more\n")

abbrev pub end_line : Reach → List ℕ
end_line reach = if reach.missed == 0 then reached_line (length reach.outcomes.items) reach.nodes else missed_line reach.missed reach.nodes

-- what all outcomes have in common, and how many there are
abbrev pub common_text : List ℕ → Reach → List ℕ
common_text name reach = most_line name reach.outcomes.items ++ end_line reach

-- what may help is said after the limit
abbrev pub unfinished_line : ℕ → List ℕ → List ℕ
unfinished_line limit advice = codes "more than" ++ ((32 ∷ decimal limit) ++ advice)

abbrev pub advice : List ℕ
advice = codes " nodes: not searched to the end; try a greater --nodes, fewer simulators, processes or rounds, or sample\n"
