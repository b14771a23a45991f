-- Whole turns worked by hand: the moves of a simulator, each with its answer, and where it stands then.
use Rattle.std.proofs.Common.{◌≡◌, ℕ, zero, suc, replicate, List, [], ◌∷◌, ◌++◌, None, Some, take, drop, refl}
use Rattle.std.specs.Prelude.{codes}
use Rattle.protocol_lang.specs.Trees.{Expression, Number, Named}
use Rattle.protocol_lang.specs.declared.tree.Kind.{Kind}
use Rattle.protocol_lang.specs.declared.tree.Kind.TheVariants.{Decide, Write}
use Rattle.protocol_lang.specs.declared.tree.Name.TheVariants.{Input, Mine, Min, Count}
use Rattle.room_spec.specs.Rooms.{RoomSpec}
use Rattle.room_spec.specs.declared.version.Version.TheVariants.{One, Two}
use Rattle.simulator.specs.declared.operation.Move.{Move}
use Rattle.simulator.specs.declared.operation.Move.TheVariants.{Load, Store, Add, Sub, Finished, OutOfTurns}
use Rattle.simulator.specs.declared.sweep.Ready.TheVariants.{Step, Idle, OutOfTurns as WithoutTurns}
use Rattle.simulator.specs.declared.sweep.Ready.{Ready}
use Rattle.simulator.specs.Minds.{MindState, opening_mind, unfinished_in}
use Rattle.simulator.specs.Moves.{answer_of, move_of, taken, words_after, entry_in, holder_in}
use Rattle.simulator.specs.Sweeps.{SweepState, opening_sweep, quiet_after, ready_of}
use Rattle.protocol_lang.specs.Thresholds.{waits_for_all_but}
use Rattle.room_spec.specs.Sizes.{memory_words, sizes_in}
use Rattle.view_table.specs.Places.{index_of, words_of}

-- a room of one round, with the protocol `first input; else ..;`
abbrev room_of : List ℕ → ℕ → ℕ → Kind → Expression → RoomSpec
room_of inputs simulators turns kind value = record {
  version = One;
  name = codes "a";
  inputs = inputs;
  own = [];
  simulators = simulators;
  rounds = 1;
  turns = turns;
  task = None;
  fuses = [];
  protocol = record { first = Named Input; rules = []; last = record { kind = kind; value = value } };
}

abbrev one : RoomSpec
one = room_of (5 ∷ []) 1 10 Decide (Named Mine)

abbrev pair : RoomSpec
pair = room_of (7 ∷ 3 ∷ []) 2 100 Decide (Named Min)

-- the moves of a mind whose steps are answered so, and the one that comes next
abbrev moves_from : RoomSpec → MindState → List ℕ → List Move
moves_from spec mind [] = move_of spec mind ∷ []
moves_from spec mind (answer ∷ later) = move_of spec mind ∷ moves_from spec (taken spec mind answer).mind later

abbrev moves : RoomSpec → ℕ → List ℕ → List Move
moves spec i answers = moves_from spec (opening_mind spec i) answers

abbrev mind_from : RoomSpec → MindState → List ℕ → MindState
mind_from spec mind [] = mind
mind_from spec mind (answer ∷ later) = mind_from spec (taken spec mind answer).mind later

abbrev mind_after : RoomSpec → ℕ → List ℕ → MindState
mind_after spec i answers = mind_from spec (opening_mind spec i) answers

-- steps and turns taken, steps of the open turn, and processes unfinished
abbrev counts : MindState → List ℕ
counts mind = mind.steps ∷ mind.turns ∷ mind.turn_steps ∷ unfinished_in mind.goals ∷ []

-- ---- one process and one simulator

abbrev one_answers : List ℕ
one_answers = 0 ∷ 0 ∷ 1 ∷ 0 ∷ 0 ∷ 1 ∷ 0 ∷ 2 ∷ 1 ∷ 5 ∷ 0 ∷ []

smallest_room : moves one 0 one_answers
    ≡ Store 3 5 ∷ Add 0 1 ∷ Load 0 ∷ Store 2 1 ∷ Add 1 1 ∷ Load 1 ∷ Add 1 1 ∷ Load 1 ∷ Load 2 ∷ Load 3 ∷ Store 4 6 ∷ Finished ∷ []
unfolding index_of memory_words
smallest_room = refl

smallest_counts : (counts (mind_after one 0 []) ≡ 0 ∷ 0 ∷ 0 ∷ 1 ∷ []) × (counts (mind_after one 0 (take 10 one_answers)) ≡ 10 ∷ 1 ∷ 10 ∷ 1 ∷ []) × (counts (mind_after one 0 one_answers) ≡ 11 ∷ 1 ∷ 0 ∷ 0 ∷ [])
unfolding memory_words
smallest_counts = (refl, refl, refl)

-- it decides with its last step
smallest_decision : ((mind_after one 0 (take 10 one_answers)).decision ≡ None) × ((mind_after one 0 one_answers).decision ≡ Some 5)
unfolding memory_words
smallest_decision = (refl, refl)

-- a process that asks for a write more than it has rounds is spent
is_spent : moves (room_of (5 ∷ []) 1 10 Write (Number 6)) 0 (take 10 one_answers)
    ≡ Store 3 5 ∷ Add 0 1 ∷ Load 0 ∷ Store 2 1 ∷ Add 1 1 ∷ Load 1 ∷ Add 1 1 ∷ Load 1 ∷ Load 2 ∷ Load 3 ∷ Finished ∷ []
unfolding index_of memory_words
is_spent = refl

spent_counts : counts (mind_after (room_of (5 ∷ []) 1 10 Write (Number 6)) 0 (take 10 one_answers)) ≡ 10 ∷ 1 ∷ 0 ∷ 0 ∷ []
unfolding memory_words
spent_counts = refl

-- the last three moves, where the view and then the value are loaded so
abbrev ending : Expression → List ℕ → List Move
ending value answers = drop 8 (moves (room_of (5 ∷ []) 1 10 Decide value) 0 (take 8 one_answers ++ answers))

decides : (ending (Number 4294967295) (1 ∷ 5 ∷ 0 ∷ []) ≡ Load 2 ∷ Load 3 ∷ Store 4 4294967296 ∷ Finished ∷ []) × (ending (Number 0) (1 ∷ 0 ∷ 0 ∷ []) ≡ Load 2 ∷ Load 3 ∷ Store 4 1 ∷ Finished ∷ [])
unfolding index_of memory_words
decides = (refl, refl)

-- numbers above the greatest value, and bits that no row has, are read as well
reads_any_number : (ending (Named Mine) (1 ∷ 4294967295 ∷ 0 ∷ []) ≡ Load 2 ∷ Load 3 ∷ Store 4 4294967296 ∷ Finished ∷ []) × (ending (Named Mine) (1 ∷ 18446744073709551615 ∷ 0 ∷ []) ≡ Load 2 ∷ Load 3 ∷ Store 4 4294967296 ∷ Finished ∷ []) × (ending (Named Mine) (18446744073709551615 ∷ 6 ∷ 0 ∷ []) ≡ Load 2 ∷ Load 3 ∷ Store 4 7 ∷ Finished ∷ [])
unfolding index_of memory_words
reads_any_number = (refl, refl, refl)

sees_nothing_in_a_view_of_0 : ending (Named Count) (0 ∷ 0 ∷ []) ≡ Load 2 ∷ Store 4 1 ∷ Finished ∷ []
unfolding index_of memory_words
sees_nothing_in_a_view_of_0 = refl

-- ---- two processes and two simulators

-- whoever comes second proposes both writes
views_in_either_order : (moves pair 0 (0 ∷ 0 ∷ 1 ∷ []) ≡ Store 7 7 ∷ Add 0 1 ∷ Load 0 ∷ Store 3 1 ∷ []) × (moves pair 1 (0 ∷ 0 ∷ 9 ∷ []) ≡ Store 10 3 ∷ Add 0 8 ∷ Load 0 ∷ Store 6 9 ∷ []) × (moves pair 0 (0 ∷ 0 ∷ 9 ∷ []) ≡ Store 7 7 ∷ Add 0 1 ∷ Load 0 ∷ Store 3 9 ∷ []) × (moves pair 1 (0 ∷ 0 ∷ 8 ∷ []) ≡ Store 10 3 ∷ Add 0 8 ∷ Load 0 ∷ Store 6 8 ∷ [])
unfolding index_of memory_words
views_in_either_order = (refl, refl, refl, refl)

view_counts : counts (mind_after pair 1 (0 ∷ 0 ∷ 9 ∷ [])) ≡ 3 ∷ 1 ∷ 3 ∷ 2 ∷ []
unfolding memory_words
view_counts = refl

abbrev beside_a_two : List ℕ
beside_a_two = 0 ∷ 0 ∷ 12 ∷ 0 ∷ 0 ∷ 6 ∷ 0 ∷ 2 ∷ 13 ∷ 7 ∷ 3 ∷ 0 ∷ 0 ∷ []

-- simulator 0's proposal stands already, so simulator 1 takes back its level
withdraws_beside_a_two : moves pair 1 beside_a_two
    ≡ Store 10 3 ∷ Add 0 8 ∷ Load 0 ∷ Store 6 12 ∷ Add 2 4 ∷ Load 2 ∷ Sub 2 4 ∷ Load 2 ∷ Load 4 ∷ Load 7 ∷ Load 10 ∷ Store 14 4 ∷ Store 9 7 ∷ Add 0 4 ∷ []
unfolding index_of memory_words
withdraws_beside_a_two = refl

counts_beside_a_two : counts (mind_after pair 1 beside_a_two) ≡ 13 ∷ 2 ∷ 1 ∷ 1 ∷ []
unfolding memory_words
counts_beside_a_two = refl

-- who has stored the last write of a process that a word shows, and which write that is
last_writes : (holder_in pair (9 ∷ []) 0 ≡ 0) × (entry_in pair (9 ∷ []) 0 ≡ 1) × (holder_in pair (9 ∷ []) 1 ≡ 1) × (entry_in pair (9 ∷ []) 1 ≡ 1) × (holder_in pair (6 ∷ []) 0 ≡ 1) × (entry_in pair (6 ∷ []) 0 ≡ 1) × (holder_in pair (6 ∷ []) 1 ≡ 0) × (entry_in pair (6 ∷ []) 1 ≡ 1) × (entry_in pair (8 ∷ []) 0 ≡ 0)
unfolding memory_words
last_writes = (refl, refl, refl, refl, refl, refl, refl, refl, refl)

-- ---- three processes, one simulator, seven turns

abbrev three : RoomSpec
three = room_of (5 ∷ 6 ∷ 7 ∷ []) 1 7 Decide (Named Mine)

abbrev round_answers : List ℕ
round_answers = 0 ∷ 0 ∷ 0 ∷ 0 ∷ 0 ∷ 0 ∷ 0 ∷ 0 ∷ 0 ∷ 0 ∷ 0 ∷ 0 ∷ 0 ∷ 0 ∷ 0 ∷ 0 ∷ 0 ∷ 0 ∷ 0 ∷ 0 ∷ 0 ∷ 0 ∷ 0 ∷ 0 ∷ 0 ∷ 2 ∷ 7 ∷ 5 ∷ 6 ∷ 7 ∷ 0 ∷ 1 ∷ 0 ∷ []

goes_round : moves three 0 round_answers
    ≡ Store 7 5 ∷ Add 0 1 ∷ Load 0 ∷ Store 4 0 ∷ Add 1 1 ∷ Load 1 ∷ Add 1 1 ∷ Load 1
    ∷ Store 8 6 ∷ Add 0 2 ∷ Load 0 ∷ Store 5 0 ∷ Add 2 1 ∷ Load 2 ∷ Add 2 1 ∷ Load 2
    ∷ Store 9 7 ∷ Add 0 4 ∷ Load 0 ∷ Store 6 0 ∷ Add 3 1 ∷ Load 3 ∷ Add 3 1 ∷ Load 3
    ∷ Load 1
    ∷ Load 2 ∷ Load 5 ∷ Load 7 ∷ Load 8 ∷ Load 9 ∷ Store 11 7
    ∷ Load 3
    ∷ Load 1
    ∷ OutOfTurns ∷ []
unfolding index_of memory_words
goes_round = refl

round_counts : (counts (mind_after three 0 (take 8 round_answers)) ≡ 8 ∷ 1 ∷ 0 ∷ 3 ∷ []) × (counts (mind_after three 0 (take 26 round_answers)) ≡ 26 ∷ 5 ∷ 1 ∷ 3 ∷ []) × (counts (mind_after three 0 round_answers) ≡ 33 ∷ 7 ∷ 0 ∷ 2 ∷ [])
unfolding memory_words
round_counts = (refl, refl, refl)

-- ---- sweeps

-- the quiet count after steps that are answered so
abbrev quiet_from : RoomSpec → SweepState → List ℕ → SweepState
quiet_from spec sweep [] = sweep
quiet_from spec sweep (answer ∷ later) = quiet_from spec (record { mind = (taken spec sweep.mind answer).mind; quiet = quiet_after (taken spec sweep.mind answer).turn sweep.quiet }) later

abbrev sweep_after : RoomSpec → List ℕ → SweepState
sweep_after spec answers = quiet_from spec (opening_sweep spec 0) answers

abbrev ready_as : RoomSpec → SweepState → Ready
ready_as spec sweep = ready_of spec sweep.mind sweep.quiet

abbrev woken : SweepState → SweepState
woken sweep = record { mind = sweep.mind; quiet = 0 }

abbrev two_turns : RoomSpec
two_turns = room_of (5 ∷ []) 1 2 Decide (Named Mine)

-- It is in its turn until it asks, in vain the first time: then it is idle, and with the count anew it asks once more.
ready_in_order : (ready_as two_turns (sweep_after two_turns (take 1 one_answers)) ≡ Step) × (ready_as two_turns (sweep_after two_turns (take 7 one_answers)) ≡ Step) × (ready_as two_turns (sweep_after two_turns (take 7 one_answers ++ 1 ∷ [])) ≡ Idle) × (ready_as two_turns (woken (sweep_after two_turns (take 7 one_answers ++ 1 ∷ []))) ≡ Step)
unfolding memory_words
ready_in_order = (refl, refl, refl, refl)

-- idle comes before out of turns
without_turns : (ready_as two_turns (quiet_from two_turns (woken (sweep_after two_turns (take 7 one_answers ++ 1 ∷ []))) (1 ∷ [])) ≡ Idle) × (ready_as two_turns (woken (sweep_after two_turns (take 7 one_answers ++ 1 ∷ 1 ∷ []))) ≡ WithoutTurns)
unfolding memory_words
without_turns = (refl, refl)

abbrev one_turn : RoomSpec
one_turn = room_of (5 ∷ []) 1 1 Decide (Named Mine)

idle_with_nothing_left : (ready_as one_turn (sweep_after one_turn one_answers) ≡ Idle) × (ready_as one_turn (woken (sweep_after one_turn one_answers)) ≡ Idle)
unfolding memory_words
idle_with_nothing_left = (refl, refl)

-- ---- nine processes, two simulators and fifteen rounds: two memory words

abbrev big : RoomSpec
big = record {
  version = Two;
  name = codes "big";
  inputs = 1 ∷ 2 ∷ 3 ∷ 4 ∷ 5 ∷ 6 ∷ 7 ∷ 8 ∷ 9 ∷ [];
  own = [];
  simulators = 2;
  rounds = 15;
  turns = 100;
  task = None;
  fuses = [];
  protocol = record { first = Named Input; rules = []; last = record { kind = Decide; value = Named Min } };
}

-- simulator 1 raises process 1 between the first two collects of simulator 0, which so makes three
abbrev scan_answers : List ℕ
scan_answers = 0 ∷ 0 ∷ 1 ∷ 0 ∷ 1099511627777 ∷ 0 ∷ 1099511627777 ∷ 0 ∷ []

three_collects : moves big 0 scan_answers ≡ Store 677 1 ∷ Add 0 1 ∷ Load 0 ∷ Load 1 ∷ Load 0 ∷ Load 1 ∷ Load 0 ∷ Load 1 ∷ Store 137 1099511627777 ∷ []
unfolding index_of memory_words
three_collects = refl

count_of_collects : ((mind_after big 0 (take 4 scan_answers)).collects ≡ 1) × ((mind_after big 0 (take 6 scan_answers)).collects ≡ 2) × ((mind_after big 0 (take 7 scan_answers)).collects ≡ 2) × ((mind_after big 0 scan_answers).collects ≡ 3)
unfolding memory_words
count_of_collects = (refl, refl, refl, refl)

-- both words of the proposal are stored before it enters; its last two moves of a whole turn are those of the decision and the next write
whole_turn : (drop 8 (moves big 0 (scan_answers ++ 0 ∷ 0 ∷ 0 ∷ 1 ∷ 0 ∷ 2 ∷ 1099511627777 ∷ 0 ∷ 1 ∷ 2 ∷ 0 ∷ []))
    ≡ Store 137 1099511627777 ∷ Store 138 0 ∷ Add 2 1 ∷ Load 2 ∷ Add 2 1 ∷ Load 2 ∷ Load 137 ∷ Load 138 ∷ Load 677 ∷ Load 827 ∷ Store 947 2 ∷ Store 692 2 ∷ [])
    × ((mind_after big 0 (scan_answers ++ 0 ∷ 0 ∷ 0 ∷ 1 ∷ 0 ∷ 2 ∷ 1099511627777 ∷ 0 ∷ 1 ∷ 2 ∷ [])).collects ≡ 3) × ((mind_after big 0 (scan_answers ++ 0 ∷ 0 ∷ 0 ∷ 1 ∷ 0 ∷ 2 ∷ 1099511627777 ∷ 0 ∷ 1 ∷ 2 ∷ 0 ∷ [])).collects ≡ 0)
unfolding index_of memory_words
whole_turn = (refl, refl, refl)

-- ---- a reduction: two simulators with the inputs 7 and 3 run three processes

abbrev shared : RoomSpec
shared = record {
  version = Two;
  name = codes "vote";
  inputs = 7 ∷ 7 ∷ 7 ∷ [];
  own = 7 ∷ 3 ∷ [];
  simulators = 2;
  rounds = 2;
  turns = 100;
  task = None;
  fuses = [];
  protocol = waits_for_all_but 1;
}

-- it proposes its own input, and the process whose input it has then makes its first write at once
agrees_alone : moves shared 0 (0 ∷ 0 ∷ 1 ∷ 1 ∷ 2 ∷ 7 ∷ []) ≡ Store 40 7 ∷ Add 37 1 ∷ Load 37 ∷ Add 37 1 ∷ Load 37 ∷ Load 40 ∷ Store 19 7 ∷ []
unfolding index_of memory_words
agrees_alone = refl

-- one that comes late takes the input that was chosen
comes_late : (moves shared 1 (0 ∷ 0 ∷ 6 ∷ 6 ∷ 2 ∷ 7 ∷ []) ≡ Store 44 3 ∷ Add 38 4 ∷ Load 38 ∷ Sub 38 4 ∷ Load 38 ∷ Load 41 ∷ Store 27 7 ∷ []) × (counts (mind_after shared 1 (0 ∷ 0 ∷ 6 ∷ 6 ∷ 2 ∷ 7 ∷ [])) ≡ 6 ∷ 1 ∷ 0 ∷ 3 ∷ [])
unfolding index_of memory_words
comes_late = (refl, refl)

-- one that finds another inside the agreement goes on to the next process
finds_it_open : moves shared 1 (0 ∷ 0 ∷ 5 ∷ 5 ∷ 9 ∷ []) ≡ Store 44 3 ∷ Add 38 4 ∷ Load 38 ∷ Add 38 4 ∷ Load 38 ∷ Store 45 3 ∷ []
unfolding index_of memory_words
finds_it_open = refl

knows_inputs : ((mind_after shared 1 (0 ∷ 0 ∷ 1 ∷ 1 ∷ 8 ∷ [])).inputs ≡ 7 ∷ 7 ∷ 7 ∷ []) × ((mind_after shared 1 (0 ∷ 0 ∷ 4 ∷ 4 ∷ 8 ∷ 3 ∷ [])).inputs ≡ 7 ∷ 3 ∷ 7 ∷ [])
unfolding memory_words
knows_inputs = (refl, refl)

-- a simulator that runs alone on words: what it knows after so many steps
abbrev alone : ℕ → RoomSpec → MindState → List ℕ → MindState
alone zero spec mind words = mind
alone (suc steps) spec mind words = alone steps spec (taken spec mind (answer_of (move_of spec mind) words)).mind (words_after (move_of spec mind) words)

-- it gives each process its own input, and decides it
decides_alone : (counts (alone 66 shared (opening_mind shared 1) (replicate (words_of (sizes_in shared)) 0)) ≡ 66 ∷ 7 ∷ 0 ∷ 0 ∷ []) × ((alone 66 shared (opening_mind shared 1) (replicate (words_of (sizes_in shared)) 0)).decision ≡ Some 3)
unfolding index_of words_of memory_words
decides_alone = (refl, refl)
