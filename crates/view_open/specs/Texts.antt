-- What is written after a command of a script of the outcomes that are open.
use Rattle.std.specs.Prelude.{ℕ, ◌==◌, Bool, not, List, [], ◌∷◌, ◌++◌, length, map, Option, Some, None, slice_index_or, if◌then◌else◌, codes, decimal}
use Rattle.std.specs.Cmp.Lexicographic.{pointwise}
use Rattle.std.specs.List.{concat, flat_map, list_any, range_with_len}
use Rattle.run_search.specs.Outcomes.{Ends}
use Rattle.run_search.specs.contracts.ended.EndedPartialEq.TheImpl.{ghosts}
use Rattle.run_search.specs.declared.ended.Ended.{Ended}
use Rattle.run_search.specs.declared.ended.Ended.TheVariants.{Decided, Spent, Stopped}
use Rattle.view_open.specs.declared.searching.Found.{Found}

-- ---- an outcome

abbrev pub end_words : Ended → List ℕ
end_words (Decided v) = codes " decided" ++ (32 ∷ decimal v)
end_words Spent = codes " spent"
end_words Stopped = codes " stopped"

-- a comma, but before the first process
abbrev pub comma : ℕ → List ℕ
comma p = if p == 0 then [] else codes ","

abbrev pub end_text : ℕ → Ended → List ℕ
end_text p ended = comma p ++ end_words ended

-- how each process ends, in order of their numbers
abbrev pub ends_text : List Ended → List ℕ
ends_text ends = concat (map (λ p. end_text p (slice_index_or ends p Stopped)) (range_with_len 0 (length ends)))

abbrev pub outcome_line : List ℕ → List Ended → List ℕ
outcome_line word ends = word ++ (ends_text ends ++ codes "\n")

-- ---- those that are open, and those that have closed

abbrev pub open_lines : List Ends → List ℕ
open_lines still = flat_map (λ (one : Ends). outcome_line (codes "    open") one.items) still

-- it is none of those that are open
abbrev pub is_closed : List Ends → Ends → Bool
is_closed still one = not (list_any (λ (other : Ends). pointwise ghosts.eq other.items one.items) still)

abbrev pub closed_line : List Ends → Ends → List ℕ
closed_line still one = if is_closed still one then outcome_line (codes "    closed") one.items else []

-- those that were known to be open, and are no more; nothing is said of them if nodes were missed
abbrev pub closed_lines : ℕ → List Ends → List Ends → List ℕ
closed_lines missed known still = if missed == 0 then flat_map (closed_line still) known else []

-- ---- how many are open

abbrev pub open_words : ℕ → List ℕ
open_words count = codes "   " ++ ((32 ∷ decimal count) ++ codes " open,")

abbrev pub complete_line : ℕ → ℕ → List ℕ
complete_line count nodes = open_words count ++ ((32 ∷ decimal nodes) ++ codes " nodes searched\n")

abbrev pub missed_words : ℕ → ℕ → List ℕ
missed_words count missed = open_words count ++ (codes " and some may be missing: for" ++ ((32 ∷ decimal missed) ++ codes " of"))

-- for how many nodes, which may have other outcomes, no schedule was found
abbrev pub missed_line : ℕ → ℕ → ℕ → List ℕ
missed_line count missed nodes = missed_words count missed ++ ((32 ∷ decimal nodes) ++ codes " nodes, which may have others, no schedule was found; if the room has few turns, try more\n")

abbrev pub count_line : Found → List ℕ
count_line found = if found.missed == 0 then complete_line (length found.ends.items) found.nodes else missed_line (length found.ends.items) found.missed found.nodes

abbrev pub found_notes : List Ends → Found → List ℕ
found_notes known found = count_line found ++ (open_lines found.ends.items ++ closed_lines found.missed known found.ends.items)

-- the room has more nodes than the limit
abbrev pub unfinished_line : ℕ → List ℕ
unfinished_line limit = codes "    more than" ++ ((32 ∷ decimal limit) ++ codes " nodes: not searched to the end; try a greater --nodes\n")

abbrev pub open_notes : ℕ → List Ends → Option Found → List ℕ
open_notes limit known None = unfinished_line limit
open_notes limit known (Some found) = found_notes known found
