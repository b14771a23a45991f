-- The lines of a turn: what each makes of a mind. They too are the same whatever a snapshot is; S is its type.
use Rattle.std.specs.Prelude.{ℕ, zero, suc, ◌+◌, ◌-◌, ◌*◌, ◌%◌, Bool, ◌&&◌, ◌||◌, List, [], ◌∷◌, ◌++◌, length, map, Option, Some, None, slice_set, min, nat_lt, ◌==◌, if◌then◌else◌}
use Rattle.std.specs.List.{range_with_len, take_while}
use Rattle.protocol_lang.specs.Numbers.{greatest}
use Rattle.protocol_lang.specs.Meaning.{next_action}
use Rattle.protocol_lang.specs.declared.meaning.Action.{Action}
use Rattle.protocol_lang.specs.declared.meaning.Action.TheVariants as actions
use Rattle.room_spec.specs.Rooms.{RoomSpec, processes}
use Rattle.room_spec.specs.Sizes.{memory_words, sizes_in}
use Rattle.simulator.specs.declared.goal.Goal.{Goal}
use Rattle.simulator.specs.declared.goal.Goal.TheVariants as goals
use Rattle.simulator.specs.declared.line.Line.{Line}
use Rattle.simulator.specs.declared.line.Line.TheVariants.{Rest, Raise, Snap, Show, Enter, GetInput, GetView, Values, Out}
use Rattle.simulator.specs.declared.turn.Turn.{Turn}
use Rattle.simulator.specs.declared.turn.Turn.TheVariants.{Still, Useful, Quiet}
use Rattle.simulator.specs.Minds.{MindOf, goal_at, current_input, current_round, first_write, or_else}

-- the mind after an atomic step, and what has become of its turn
pub record TakenOf (S : Type 0) : Type 0 where
  pub mind : MindOf S
  pub turn : Turn

-- one atomic step more
abbrev pub counted : {S : Type 0} → MindOf S → MindOf S
counted mind = record mind { steps = mind.steps + 1; turn_steps = mind.turn_steps + 1 }

-- this many atomic steps more, of one turn
abbrev pub counted_by : {S : Type 0} → ℕ → MindOf S → MindOf S
counted_by count mind = record mind { steps = mind.steps + count; turn_steps = mind.turn_steps + count }

-- a turn begins, on this process
abbrev pub begun : {S : Type 0} → ℕ → MindOf S → MindOf S
begun process mind = record mind { process = process; turns = mind.turns + 1 }

-- the turn goes on, at this line
abbrev pub goes_on : {S : Type 0} → Line → MindOf S → TakenOf S
goes_on line mind = record { mind = record mind { line = line }; turn = Still }

-- The turn ends, with this goal for its process from now on; the sweep goes on by one process.
abbrev pub ended : {S : Type 0} → Turn → Goal → MindOf S → TakenOf S
ended turn goal mind = record {
  mind = record mind { goals = slice_set mind.goals mind.process goal; process = (mind.process + 1) % length mind.goals; turn_steps = 0; line = Rest; collects = 0 };
  turn = turn;
}

-- The turn ends, with this goal for its process from now on; the sweep stays at the process.
abbrev pub stayed : {S : Type 0} → Turn → Goal → MindOf S → TakenOf S
stayed turn goal mind = record {
  mind = record mind { goals = slice_set mind.goals mind.process goal; turn_steps = 0; line = Rest; collects = 0 };
  turn = turn;
}

-- how many words hold the step numbers
abbrev pub words_in : RoomSpec → ℕ
words_in spec = memory_words (sizes_in spec)

-- The line has done with one of the memory's words. It goes on with the next one, or is through with this.
abbrev pub on_word : {S : Type 0} → RoomSpec → Line → MindOf S → TakenOf S → TakenOf S
on_word spec line mind last = if nat_lt (mind.word + 1) (words_in spec) then goes_on line (record mind { word = mind.word + 1 }) else last

-- a scan makes no more collects: as many as there are writes in the room, and two
abbrev pub most_collects : RoomSpec → ℕ
most_collects spec = spec.simulators * processes spec * spec.rounds + 2

-- One more whole collect was made; same: it is the one before. The scan ends with the first that is.
abbrev pub collected : {S : Type 0} → RoomSpec → Bool → MindOf S → TakenOf S
collected spec same mind =
    if (same && nat_lt 1 mind.collects) || (mind.collects == most_collects spec) then goes_on Show mind
    else goes_on Snap (record mind { before = mind.snapshot })

-- if the memory is one word, one load of it is a snapshot
abbrev pub scanned : {S : Type 0} → RoomSpec → Bool → MindOf S → TakenOf S
scanned spec same mind = if words_in spec == 1 then goes_on Show mind else collected spec same (record mind { collects = mind.collects + 1 })

-- The mind has loaded a word of the simulated memory, for the snapshot that it will propose.
abbrev pub snapped : {S : Type 0} → RoomSpec → Bool → MindOf S → TakenOf S
snapped spec same mind = on_word spec Snap mind (scanned spec same (record mind { word = 0 }))

-- it has stored a word of its proposal
abbrev pub showed : {S : Type 0} → RoomSpec → MindOf S → TakenOf S
showed spec mind = on_word spec Show mind (goes_on Enter (record mind { word = 0 }))

-- what is left to do if nothing was chosen in this round, and the line after the choice; in the round 0 an input is chosen
abbrev pub asks_in : ℕ → Goal
asks_in zero = goals.AskInput
asks_in (suc round) = goals.Ask (suc round)

abbrev pub gets_in : ℕ → ℕ → Line
gets_in zero chosen = GetInput chosen
gets_in (suc round) chosen = GetView chosen

-- It has asked which proposal was chosen. If none is yet, the turn is quiet.
abbrev pub asked : {S : Type 0} → Option ℕ → MindOf S → TakenOf S
asked None mind = ended Quiet (asks_in (current_round mind)) mind
asked (Some chosen) mind = goes_on (gets_in (current_round mind) chosen) mind

-- It has the input of its process that was chosen; a number above the greatest value reads as that. The process makes its first
-- write in the next turn, which is on it again.
abbrev pub with_input : {S : Type 0} → ℕ → MindOf S → MindOf S
with_input input mind = record mind { inputs = slice_set mind.inputs mind.process input }

abbrev pub got_input : {S : Type 0} → RoomSpec → ℕ → MindOf S → TakenOf S
got_input spec answer mind = stayed Useful (first_write spec (min answer greatest) mind.process) (with_input (min answer greatest) mind)

-- what the process does after the snapshot that was agreed on: where it asks for a write after its last round, it is spent
abbrev pub after_write : ℕ → ℕ → ℕ → Goal
after_write rounds round value = if nat_lt round rounds then goals.Write (round + 1) value else goals.Spent

abbrev pub acted : {S : Type 0} → RoomSpec → Action → MindOf S → TakenOf S
acted spec (actions.Write value) mind = ended Useful (after_write spec.rounds (current_round mind) value) mind
acted spec (actions.Decide decision) mind = goes_on (Out decision) mind

-- the processes from p on, below n, up to the next of which the row shows a write
abbrev pub silent_from : (ℕ → ℕ) → ℕ → ℕ → List ℕ
silent_from row n p = take_while (λ q. row q == 0) (range_with_len p (n - p))

-- the entries of the first of n processes, and nothing for each of the silent ones after them
abbrev pub padded : (ℕ → ℕ) → ℕ → List (Option ℕ) → List (Option ℕ)
padded row n entries = entries ++ map (λ q. None) (silent_from row n (length entries))

-- The mind goes on to the next process of which the row shows a write. After the last it asks the protocol.
abbrev pub gathered_all : {S : Type 0} → RoomSpec → MindOf S → TakenOf S
gathered_all spec mind =
    if nat_lt (length mind.entries) (processes spec) then goes_on Values mind
    else acted spec (next_action spec.protocol (current_input spec mind) mind.process (current_round mind) mind.entries) mind

abbrev pub gathered : {S : Type 0} → (ℕ → ℕ) → RoomSpec → List (Option ℕ) → MindOf S → TakenOf S
gathered row spec entries mind =
    gathered_all spec (record mind { entries = padded row (processes spec) entries })

-- it has loaded a word of the chosen proposal, whose row this is
abbrev pub got_view : {S : Type 0} → (ℕ → ℕ) → RoomSpec → ℕ → MindOf S → TakenOf S
got_view row spec chosen mind = on_word spec (GetView chosen) mind (gathered row spec [] (record mind { word = 0 }))

-- it has the value of the next process, and nothing for each of the silent ones after that
abbrev pub with_value : {S : Type 0} → (ℕ → ℕ) → RoomSpec → ℕ → MindOf S → MindOf S
with_value row spec value mind = record mind { entries = padded row (processes spec) (mind.entries ++ Some (min value greatest) ∷ []) }

-- it has loaded the value of the next process; a number above the greatest value reads as that
abbrev pub got_value : {S : Type 0} → (ℕ → ℕ) → RoomSpec → ℕ → MindOf S → TakenOf S
got_value row spec value mind = gathered row spec (mind.entries ++ Some (min value greatest) ∷ []) mind

-- the first decision that a simulator stores is its own, and stays so
abbrev pub with_decision : {S : Type 0} → ℕ → MindOf S → MindOf S
with_decision decision mind = record mind { decision = or_else mind.decision (Some decision) }

-- it has stored this decision of its process
abbrev pub decided : {S : Type 0} → ℕ → MindOf S → TakenOf S
decided decision mind = ended Useful goals.Done (with_decision decision mind)

-- The first step of a turn: the store of a write or of a proposed input, or an ask, of which the answer is given.
abbrev pub opened_at : {S : Type 0} → Goal → Option ℕ → MindOf S → TakenOf S
opened_at (goals.Write round value) chosen mind = goes_on Raise mind
opened_at (goals.Ask round) chosen mind = asked chosen mind
opened_at (goals.Propose value) chosen mind = goes_on Enter mind
opened_at goals.AskInput chosen mind = asked chosen mind
opened_at goals.Done chosen mind = goes_on Rest mind
opened_at goals.Spent chosen mind = goes_on Rest mind

abbrev pub opened : {S : Type 0} → Option ℕ → Option ℕ → MindOf S → TakenOf S
opened None chosen mind = goes_on Rest mind
opened (Some process) chosen mind = opened_at (goal_at mind.goals process) chosen (begun process mind)
