-- Simulators that can go no further.
use Rattle.std.specs.Prelude.{◌≡◌, ℕ, ◌<◌, Bool, true, false, List, not, is_some, slice_index}
use Rattle.room_spec.specs.Rooms.{RoomSpec, processes}
use Rattle.view_table.specs.declared.place.Place.TheVariants.{Levels}
use Rattle.simulator.specs.declared.goal.Goal.{Goal}
use Rattle.simulator.specs.declared.goal.Goal.TheVariants.{Write, Ask, Propose, AskInput, Done, Spent}
use Rattle.simulator.specs.Minds.{goal_at}
use Rattle.simulator.specs.Moves.{chosen_in, index_in}

-- by the words, no proposal is chosen in the agreement on the snapshot of process j in round k, or on its input in the round 0
abbrev pub is_unresolved : RoomSpec → List ℕ → ℕ → ℕ → Bool
is_unresolved spec words j k = not (is_some (chosen_in spec (slice_index words (index_in spec (Levels j k)))))

-- Nothing is left to do for process j in a mind with this goal while the words stay so: it is done, or spent, or an ask would be in vain.
abbrev pub waits : RoomSpec → List ℕ → ℕ → Goal → Bool
waits spec words j (Write k value) = false
waits spec words j (Ask k) = is_unresolved spec words j k
waits spec words j (Propose value) = false
waits spec words j AskInput = is_unresolved spec words j 0
waits spec words j Done = true
waits spec words j Spent = true

-- So it is for each process: a simulator with these goals can go no further.
abbrev pub Rests : RoomSpec → List ℕ → List Goal → Type 0
Rests spec words goals = (j : ℕ) → j < processes spec → waits spec words j (goal_at goals j) ≡ true
