-- How many values are decided in an outcome, and how many processes are held.
use Rattle.std.specs.Prelude.{ℕ, suc, max, ◌==◌, not, List, [], ◌∷◌, ◌&&◌, if◌then◌else◌}
use Rattle.std.specs.List.{count_by, fold, list_any, sum_by}
use Rattle.ws_history.specs.Reports.{is_decided, is_held}
use Rattle.ws_history.specs.contracts.states.ProcessStatePartialEq.TheImpl.{ghosts}
use Rattle.ws_history.specs.declared.states.ProcessState.{ProcessState}
use Rattle.room_sample.specs.Samples.{Counted}

-- how many different values are decided: each counts at the last process that decides it
abbrev pub values_in : List ProcessState → ℕ
values_in [] = 0
values_in (state ∷ states) = if is_decided state && not (list_any (ghosts.eq state) states) then suc (values_in states) else values_in states

abbrev pub held_in : List ProcessState → ℕ
held_in states = count_by is_held states

-- the most that any outcome has
abbrev pub most_of : (List ProcessState → ℕ) → List Counted → ℕ
most_of count outcomes = fold (λ most one. max (count one.states) most) 0 outcomes

abbrev pub one_if_once : Counted → ℕ
one_if_once one = if one.times == 1 then 1 else 0

-- how many outcomes came only once
abbrev pub once_in : List Counted → ℕ
once_in outcomes = sum_by one_if_once outcomes
