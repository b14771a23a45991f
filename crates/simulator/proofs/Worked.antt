-- The definitions on minds and words that were worked by hand.
use Rattle.std.proofs.Common.{◌≡◌, ℕ, List, [], ◌∷◌, get_or, Some, None, refl}
use Rattle.simulator.specs.declared.goal.Goal.{Goal}
use Rattle.simulator.specs.declared.goal.Goal.TheVariants.{Write, Ask, Done, Spent}
use Rattle.room_spec.specs.Rooms.{RoomSpec}
use Rattle.simulator.specs.declared.line.Line.TheVariants as lines
use Rattle.simulator.specs.declared.operation.Move.TheVariants.{Load, Store, Add, Sub, Finished}
use Rattle.simulator.specs.declared.sweep.Ready.TheVariants.{Step, Idle, OutOfTurns}
use Rattle.simulator.specs.declared.turn.Turn.TheVariants.{Still, Useful, Quiet}
use Rattle.simulator.specs.Minds.{no_words, MindState, next_process, unfinished_in}
use Rattle.simulator.specs.Turns.{padded, after_write, decided, ended, asked}
use Rattle.simulator.specs.Moves.{words_after, answer_of}
use Rattle.simulator.specs.Quiet.{IsQuietCount, unfinished_from}
use Rattle.simulator.specs.Sweeps.{quiet_after, ready_of}

-- four processes, of which the second is done and the last is spent
abbrev goals : List Goal
goals = Write 1 7 ∷ Done ∷ Ask 2 ∷ Spent ∷ []

next_of_four : (next_process goals 0 ≡ Some 0) × (next_process goals 1 ≡ Some 2) × (next_process goals 2 ≡ Some 2) × (next_process goals 3 ≡ Some 0)
next_of_four = (refl, refl, refl, refl)

unfinished_of_four : unfinished_in goals ≡ 2
unfinished_of_four = refl

none_of_two : next_process (Done ∷ Spent ∷ []) 1 ≡ None
none_of_two = refl

-- two writes of process 1 and one of process 3
abbrev shows : ℕ → ℕ
shows process = get_or (0 ∷ 2 ∷ 0 ∷ 1 ∷ []) process 0

padded_to_1 : padded shows 4 [] ≡ None ∷ []
padded_to_1 = refl

padded_to_3 : padded shows 4 (None ∷ Some 5 ∷ []) ≡ None ∷ Some 5 ∷ None ∷ []
padded_to_3 = refl

padded_to_the_end : padded shows 4 (None ∷ Some 5 ∷ None ∷ Some 6 ∷ []) ≡ None ∷ Some 5 ∷ None ∷ Some 6 ∷ []
padded_to_the_end = refl

padded_past_the_last : (padded shows 5 (None ∷ Some 5 ∷ None ∷ Some 6 ∷ []) ≡ None ∷ Some 5 ∷ None ∷ Some 6 ∷ None ∷ []) × (padded (λ process. 0) 3 [] ≡ None ∷ None ∷ None ∷ [])
padded_past_the_last = (refl, refl)

after_writes : (after_write 2 1 9 ≡ Write 2 9) × (after_write 2 2 9 ≡ Spent)
after_writes = (refl, refl)

quiet_counts : (quiet_after Quiet 0 ≡ 1) × (quiet_after Quiet 255 ≡ 255) × (quiet_after Useful 7 ≡ 0) × (quiet_after Still 7 ≡ 7)
quiet_counts = (refl, refl, refl, refl)

stored : words_after (Store 1 9) (4 ∷ 5 ∷ []) ≡ 4 ∷ 9 ∷ []
stored = refl

summed : (words_after (Add 0 3) (4 ∷ 5 ∷ []) ≡ 7 ∷ 5 ∷ []) × (words_after (Sub 0 3) (4 ∷ 5 ∷ []) ≡ 1 ∷ 5 ∷ [])
summed = (refl, refl)

loaded : (answer_of (Load 1) (4 ∷ 5 ∷ []) ≡ 5) × (words_after Finished (4 ∷ 5 ∷ []) ≡ 4 ∷ 5 ∷ [])
loaded = (refl, refl)

-- the mind of simulator 2, which asks for process 2, and the same between two turns
abbrev asking : MindState
asking = record { number = 2; goals = goals; process = 2; turns = 3; steps = 20; turn_steps = 6; line = lines.Ask; word = 0; collects = 0; before = no_words; snapshot = no_words; entries = []; inputs = []; decision = None }

abbrev resting : MindState
resting = record asking { line = lines.Rest }

quiet_turn : ((asked None asking).turn ≡ Quiet) × ((asked None asking).mind.process ≡ 3) × ((asked None asking).mind.turn_steps ≡ 0) × ((asked None asking).mind.goals ≡ goals)
quiet_turn = (refl, refl, refl, refl)

useful_turn : ((ended Useful Done asking).mind.goals ≡ Write 1 7 ∷ Done ∷ Done ∷ Spent ∷ []) × (next_process (ended Useful Done asking).mind.goals 3 ≡ Some 0)
useful_turn = (refl, refl)

-- the first decision that it stores is its own, and the next one isn't
two_decisions : ((decided 7 asking).mind.decision ≡ Some 7) × ((decided 3 (decided 7 asking).mind).mind.decision ≡ Some 7) × ((decided 7 asking).mind.goals ≡ Write 1 7 ∷ Done ∷ Done ∷ Spent ∷ [])
two_decisions = (refl, refl, refl)

ready_in_turn : (spec : RoomSpec) → ready_of spec asking 2 ≡ Step
ready_in_turn spec = refl

ready_at_rest : (spec : RoomSpec) → ready_of spec resting 2 ≡ Idle
ready_at_rest spec = refl

ready_with_turns : (spec : RoomSpec) → ready_of (record spec { turns = 4 }) resting 1 ≡ Step
ready_with_turns spec = refl

ready_without_turns : (spec : RoomSpec) → ready_of (record spec { turns = 3 }) resting 1 ≡ OutOfTurns
ready_without_turns spec = refl

in_order_of_four : (unfinished_from goals 0 ≡ Write 1 7 ∷ Ask 2 ∷ []) × (unfinished_from goals 1 ≡ Ask 2 ∷ Write 1 7 ∷ []) × (unfinished_from goals 3 ≡ Write 1 7 ∷ Ask 2 ∷ [])
in_order_of_four = (refl, refl, refl)

-- it has asked for process 2, at which it stands or which it has gone past; and for process 0 not yet

one_quiet : IsQuietCount (record resting { process = 3 }) 1
one_quiet = (tt, tt)

not_two : IsQuietCount (record resting { process = 3 }) 2 → ⊥
not_two counts = counts.1.0

none_yet : IsQuietCount resting 1 → ⊥
none_yet counts = counts.0

-- with asks alone every number counts
all_quiet : IsQuietCount (record resting { goals = Ask 1 ∷ Done ∷ Ask 2 ∷ [] }) 255
all_quiet = (tt, (tt, tt))
