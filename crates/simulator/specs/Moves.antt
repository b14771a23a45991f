-- The operation on one word that a mind wants next, and the mind that its answer makes.
use Rattle.std.specs.Prelude.{ℕ, ◌+◌, ◌*◌, ◌-◌, ◌%◌, ◌^◌, ◌<◌, Bool, true, false, List, length, Option, Some, None, slice_index, slice_set, nat_lt, ◌==◌, ◌&&◌, if◌then◌else◌, ⊤}
use Rattle.room_spec.specs.Rooms.{RoomSpec}
use Rattle.room_spec.specs.Sizes.{sizes_in}
use Rattle.level_cells.specs.Fields.{levels_of}
use Rattle.view_table.specs.Places.{index_of}
use Rattle.view_table.specs.declared.place.Place.{Place}
use Rattle.view_table.specs.declared.place.Place.TheVariants as places
use Rattle.safe_agreement.specs.Levels.{has_level, resolved_of}
use Rattle.sim_memory.specs.Steps.{merged_of, holder_of, place_of, step_in, word_of}
use Rattle.simulator.specs.declared.goal.Goal.{Goal}
use Rattle.simulator.specs.declared.goal.Goal.TheVariants as goals
use Rattle.simulator.specs.declared.line.Line.{Line}
use Rattle.simulator.specs.declared.line.Line.TheVariants.{Rest, Raise, Snap, Show, Enter, Look, Leave, Ask, GetInput, GetView, Values, Out}
use Rattle.simulator.specs.declared.operation.Move.{Move}
use Rattle.simulator.specs.declared.operation.Move.TheVariants.{Load, Store, Add, Sub, Finished, OutOfTurns}
use Rattle.simulator.specs.Minds.{MindState, goal_at, current_round, next_process}
use Rattle.simulator.specs.Turns.{TakenOf, counted, goes_on, snapped, showed, asked, got_input, got_view, got_value, decided, opened}

-- ---- words

-- the index of a place of the room
abbrev pub index_in : RoomSpec → Place → ℕ
index_in spec place = index_of (sizes_in spec) place

-- the indexes of the words that a mind works on in its open turn
abbrev pub levels_index : RoomSpec → MindState → ℕ
levels_index spec mind = index_in spec (places.Levels mind.process (current_round mind))

abbrev pub view_index : RoomSpec → ℕ → MindState → ℕ
view_index spec simulator mind = index_in spec (places.View simulator mind.process (current_round mind) mind.word)

abbrev pub memory_index : RoomSpec → ℕ → ℕ
memory_index spec w = index_in spec (places.Memory w)

-- the word of its own step number of the process
abbrev pub step_index : RoomSpec → MindState → ℕ
step_index spec mind = memory_index spec (word_of (sizes_in spec) mind.number mind.process)

-- one at the lowest bit of its own level, and of that step number
abbrev pub level_unit : MindState → ℕ
level_unit mind = 2 ^ (2 * mind.number)

abbrev pub step_unit : RoomSpec → MindState → ℕ
step_unit spec mind = 2 ^ place_of (sizes_in spec) mind.number mind.process

-- ---- what memory words show

-- how many writes of a process
abbrev pub entry_in : RoomSpec → List ℕ → ℕ → ℕ
entry_in spec words process = merged_of spec.simulators (step_in (sizes_in spec) words) process

-- the simulator that has stored the last of them
abbrev pub holder_in : RoomSpec → List ℕ → ℕ → ℕ
holder_in spec words process = holder_of spec.simulators (step_in (sizes_in spec) words) process

-- ---- moves

-- the value that is to be loaded next: the last write that the snapshot shows of the next process
abbrev pub value_index : RoomSpec → MindState → ℕ → ℕ
value_index spec mind process = index_in spec (places.Value (holder_in spec mind.snapshot process) process (entry_in spec mind.snapshot process))

abbrev pub leave_by : Bool → ℕ → ℕ → Move
leave_by true index unit = Sub index unit
leave_by false index unit = Add index unit

abbrev pub first_move_at : Goal → RoomSpec → ℕ → ℕ → Move
first_move_at (goals.Write round value) spec simulator process = Store (index_in spec (places.Value simulator process round)) value
first_move_at (goals.Ask round) spec simulator process = Load (index_in spec (places.Levels process round))
first_move_at (goals.Propose value) spec simulator process = Store (index_in spec (places.Value simulator process 0)) value
first_move_at goals.AskInput spec simulator process = Load (index_in spec (places.Levels process 0))
first_move_at goals.Done spec simulator process = Finished
first_move_at goals.Spent spec simulator process = Finished

-- the first step of the next turn: finished comes before out of turns
abbrev pub first_move : Option ℕ → RoomSpec → MindState → Move
first_move None spec mind = Finished
first_move (Some process) spec mind =
    if nat_lt mind.turns spec.turns then first_move_at (goal_at mind.goals process) spec mind.number process else OutOfTurns

abbrev pub move_at : Line → RoomSpec → MindState → Move
move_at Rest spec mind = first_move (next_process mind.goals mind.process) spec mind
move_at Raise spec mind = Add (step_index spec mind) (step_unit spec mind)
move_at Snap spec mind = Load (memory_index spec mind.word)
move_at Show spec mind = Store (view_index spec mind.number mind) (slice_index mind.snapshot mind.word)
move_at Enter spec mind = Add (levels_index spec mind) (level_unit mind)
move_at Look spec mind = Load (levels_index spec mind)
move_at (Leave saw_two) spec mind = leave_by saw_two (levels_index spec mind) (level_unit mind)
move_at Ask spec mind = Load (levels_index spec mind)
move_at (GetInput chosen) spec mind = Load (index_in spec (places.Value chosen mind.process 0))
move_at (GetView chosen) spec mind = Load (view_index spec chosen mind)
move_at Values spec mind = Load (value_index spec mind (length mind.entries))
move_at (Out decision) spec mind = Store (index_in spec (places.Out mind.number mind.process)) (decision + 1)

abbrev pub move_of : RoomSpec → MindState → Move
move_of spec mind = move_at mind.line spec mind

-- it is an operation on a word
abbrev pub IsOperation : Move → Type 0
IsOperation (Load index) = ⊤
IsOperation (Store index number) = ⊤
IsOperation (Add index number) = ⊤
IsOperation (Sub index number) = ⊤
IsOperation Finished = ⊥
IsOperation OutOfTurns = ⊥

-- its word is one of the first `count`
abbrev pub IsWithin : Move → ℕ → Type 0
IsWithin (Load index) count = index < count
IsWithin (Store index number) count = index < count
IsWithin (Add index number) count = index < count
IsWithin (Sub index number) count = index < count
IsWithin Finished count = ⊤
IsWithin OutOfTurns count = ⊤

-- ---- answers

-- what a word of levels says
abbrev pub chosen_in : RoomSpec → ℕ → Option ℕ
chosen_in spec word = resolved_of (levels_of word spec.simulators)

-- a word of memory was loaded
abbrev pub loaded : ℕ → MindState → MindState
loaded answer mind = record mind { snapshot = slice_set mind.snapshot mind.word answer }

-- whether two lists of memory words are the same
abbrev pub same_words : List ℕ → List ℕ → Bool
same_words words others =
    (slice_index words 0 == slice_index others 0) && (slice_index words 1 == slice_index others 1) && (slice_index words 2 == slice_index others 2) && (slice_index words 3 == slice_index others 3)

-- whether the collect of a mind is the one before
abbrev pub is_again : MindState → Bool
is_again mind = same_words mind.snapshot mind.before

abbrev pub taken_at : Line → RoomSpec → MindState → ℕ → TakenOf (List ℕ)
taken_at Rest spec mind answer = opened (next_process mind.goals mind.process) (chosen_in spec answer) mind
taken_at Raise spec mind answer = goes_on Snap mind
taken_at Snap spec mind answer = snapped spec (is_again (loaded answer mind)) (loaded answer mind)
taken_at Show spec mind answer = showed spec mind
taken_at Enter spec mind answer = goes_on Look mind
taken_at Look spec mind answer = goes_on (Leave (has_level 2 (levels_of answer spec.simulators))) mind
taken_at (Leave saw_two) spec mind answer = goes_on Ask mind
taken_at Ask spec mind answer = asked (chosen_in spec answer) mind
taken_at (GetInput chosen) spec mind answer = got_input spec answer mind
taken_at (GetView chosen) spec mind answer = got_view (entry_in spec (loaded answer mind).snapshot) spec chosen (loaded answer mind)
taken_at Values spec mind answer = got_value (entry_in spec mind.snapshot) spec answer mind
taken_at (Out decision) spec mind answer = decided decision mind

-- the mind after its move was answered, and what has become of its turn
abbrev pub taken : RoomSpec → MindState → ℕ → TakenOf (List ℕ)
taken spec mind answer = taken_at mind.line spec (counted mind) answer

-- ---- moves on a list of words, in which a sum and a difference wrap at 2 ^ 64

abbrev pub words_after : Move → List ℕ → List ℕ
words_after (Load index) words = words
words_after (Store index number) words = slice_set words index number
words_after (Add index number) words = slice_set words index ((slice_index words index + number) % 2 ^ 64)
words_after (Sub index number) words = slice_set words index ((slice_index words index + (2 ^ 64 - number)) % 2 ^ 64)
words_after Finished words = words
words_after OutOfTurns words = words

-- what a move answers; only that of a load counts
abbrev pub answer_of : Move → List ℕ → ℕ
answer_of (Load index) words = slice_index words index
answer_of (Store index number) words = number
answer_of (Add index number) words = slice_index words index
answer_of (Sub index number) words = slice_index words index
answer_of Finished words = 0
answer_of OutOfTurns words = 0
