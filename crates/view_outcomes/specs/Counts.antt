-- What outcomes have in common.
use Rattle.std.specs.Prelude.{ℕ, suc, max, Bool, true, false, not, List, [], ◌∷◌, ◌&&◌, if◌then◌else◌, slice_index_or}
use Rattle.std.specs.List.{fold, list_any}
use Rattle.run_search.specs.declared.ended.Ended.{Ended}
use Rattle.run_search.specs.declared.ended.Ended.TheVariants.{Decided, Spent, Stopped}
use Rattle.run_search.specs.contracts.ended.EndedPartialEq.TheImpl.{ghosts}
use Rattle.view_outcomes.specs.declared.listing.Listed.{Listed}

abbrev pub is_decided : Ended → Bool
is_decided (Decided v) = true
is_decided Spent = false
is_decided Stopped = false

abbrev pub is_spent : Ended → Bool
is_spent (Decided v) = false
is_spent Spent = true
is_spent Stopped = false

-- how many different values are decided: each counts at the last process that decides it
abbrev pub values_in : List Ended → ℕ
values_in [] = 0
values_in (ended ∷ ends) = if is_decided ended && not (list_any (ghosts.eq ended) ends) then suc (values_in ends) else values_in ends

-- the most different values that any outcome has
abbrev pub most_values : List Listed → ℕ
most_values all = fold (λ most one. max (values_in one.ends.items) most) 0 all

abbrev pub is_spent_at : ℕ → List Ended → Bool
is_spent_at p ends = is_spent (slice_index_or ends p Stopped)

-- process p is spent in some outcome
abbrev pub can_be_spent : List Listed → ℕ → Bool
can_be_spent all p = list_any (λ one. is_spent_at p one.ends.items) all

abbrev pub has_spent : List Ended → Bool
has_spent ends = list_any is_spent ends
