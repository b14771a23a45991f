-- Each word that a mind works on is one of its room.
use Rattle.std.proofs.Common.{◌≡◌, ℕ, ◌<◌, ◌≤◌, Bool, true, false, cond, ltb, List, length, Option, Some, None, refl, sym, subst, arith}
use Rattle.std.proofs.lemmas.List.FromFn.{length-map-range_with_len}
use Rattle.room_spec.specs.Rooms.{RoomSpec, processes}
use Rattle.room_spec.specs.Sizes.{Sizes, sizes_in}
use Rattle.level_cells.specs.Fields.{level_of, levels_of}
use Rattle.view_table.specs.declared.place.Place.{Place}
use Rattle.view_table.specs.declared.place.Place.TheVariants as places
use Rattle.view_table.specs.Places.{IsAgreementRound, IsPlace, IsRound, words_of}
use Rattle.view_table.proofs.CallerLemmas.{agreement_round, zero_agreed, within as place_within}
use Rattle.safe_agreement.proofs.CallerLemmas.{resolved_to}
use Rattle.sim_memory.specs.Steps.{step_in, word_of}
use Rattle.sim_memory.proofs.CallerLemmas.{word_below, holder_of_is, holder_merged, greatest_at, merged_below}
use Rattle.simulator.specs.Turns.{words_in}
use Rattle.simulator.specs.declared.goal.Goal.{Goal}
use Rattle.simulator.specs.declared.goal.Goal.TheVariants as goals
use Rattle.simulator.specs.declared.line.Line.{Line}
use Rattle.simulator.specs.declared.line.Line.TheVariants.{Rest, Raise, Snap, Show, Enter, Look, Leave, Ask, GetInput, GetView, Values, Out}
use Rattle.simulator.specs.declared.operation.Move.{Move}
use Rattle.simulator.specs.declared.operation.Move.TheVariants.{OutOfTurns}
use Rattle.simulator.specs.Minds.{MindState, is_unfinished, round_of, goal_at, current_goal, current_round, next_process}
use Rattle.simulator.specs.Moves.{index_in, levels_index, view_index, value_index, entry_in, holder_in, chosen_in, level_unit, leave_by, first_move_at, first_move, move_at, move_of, IsWithin}
use Rattle.simulator.specs.Ranges.{IsGoal, IsLineIn, IsOpenAt, IsMind, words_at}
use Rattle.simulator.proofs.Processes.{next_is_left}

-- ---- rounds, rows, holders, chosen simulators

-- a round of writes and snapshots
pub round_range : (sizes : Sizes) (goal : Goal) → IsGoal sizes goal → is_unfinished goal ≡ true → 1 ≤ round_of goal → IsRound sizes (round_of goal)
round_range sizes (goals.Write round value) range is some = range
round_range sizes (goals.Ask round) range is some = range
round_range sizes (goals.Propose value) range is some = absurd (omega (arith, some))
round_range sizes goals.AskInput range is some = absurd (omega (arith, some))
round_range sizes goals.Done range is some = absurd cc
round_range sizes goals.Spent range is some = absurd cc

-- a round of agreements
pub agreed_range : (sizes : Sizes) (goal : Goal) → IsGoal sizes goal → is_unfinished goal ≡ true → IsAgreementRound sizes (round_of goal)
agreed_range sizes (goals.Write round value) range is = agreement_round sizes round range
agreed_range sizes (goals.Ask round) range is = agreement_round sizes round range
agreed_range sizes (goals.Propose value) range is = zero_agreed sizes range
agreed_range sizes goals.AskInput range is = zero_agreed sizes range
agreed_range sizes goals.Done range is = absurd cc
agreed_range sizes goals.Spent range is = absurd cc

pub last_range : (sizes : Sizes) (goal : Goal) → IsGoal sizes goal → is_unfinished goal ≡ true → round_of goal ≤ sizes.rounds
last_range sizes goal range is = let agreed = agreed_range sizes goal range is in agreed.1

-- only in a reduction it is the round 0
pub zero_range : (sizes : Sizes) (goal : Goal) → IsGoal sizes goal → is_unfinished goal ≡ true → round_of goal ≡ 0 → sizes.reduction ≡ true
zero_range sizes (goals.Write round value) range is none = absurd (omega (arith, range.0, none))
zero_range sizes (goals.Ask round) range is none = absurd (omega (arith, range.0, none))
zero_range sizes (goals.Propose value) range is none = range
zero_range sizes goals.AskInput range is none = range
zero_range sizes goals.Done range is none = absurd cc
zero_range sizes goals.Spent range is none = absurd cc

pub row_most : (spec : RoomSpec) (words : List ℕ) (process : ℕ) → entry_in spec words process ≤ spec.rounds
row_most spec words process = merged_below spec.simulators (step_in (sizes_in spec) words) process spec.rounds (λ i below. omega arith)

pub holder_below : (spec : RoomSpec) (words : List ℕ) (process : ℕ) → 0 < spec.simulators → holder_in spec words process < spec.simulators
holder_below spec words process some = let is = holder_of_is spec.simulators (step_in (sizes_in spec) words) process some in is.below

-- the row is what the holder has
pub row_of_holder : (spec : RoomSpec) (words : List ℕ) (process : ℕ) → 0 < spec.simulators → entry_in spec words process ≡ step_in (sizes_in spec) words (holder_in spec words process) process
row_of_holder spec words process some = holder_merged spec.simulators (step_in (sizes_in spec) words) process (holder_in spec words process) (holder_of_is spec.simulators (step_in (sizes_in spec) words) process some)

-- a simulator that has a write shows it
pub row_at : (spec : RoomSpec) (words : List ℕ) (process i : ℕ) → i < spec.simulators → step_in (sizes_in spec) words i process ≤ entry_in spec words process
row_at spec words process i below = greatest_at spec.simulators (λ k. step_in (sizes_in spec) words k process) i below

pub chosen_below : (spec : RoomSpec) (word chosen : ℕ) → chosen_in spec word ≡ Some chosen → chosen < spec.simulators
chosen_below spec word chosen is =
    let to = resolved_to (levels_of word spec.simulators) chosen is in
    omega (arith, to.below, length-map-range_with_len (λ i. level_of word i) 0 spec.simulators)

-- ---- the places of an open turn

within_index : (spec : RoomSpec) (place : Place) → IsPlace (sizes_in spec) place → index_in spec place < words_of (sizes_in spec)
within_index spec place range = place_within (sizes_in spec) place range

current_range : (spec : RoomSpec) (mind : MindState) → IsMind spec mind → is_unfinished (current_goal mind) ≡ true → IsAgreementRound (sizes_in spec) (current_round mind)
current_range spec mind is unfinished = agreed_range (sizes_in spec) (current_goal mind) (is.rounds mind.process is.process) unfinished

levels_within : (spec : RoomSpec) (mind : MindState) → IsMind spec mind → is_unfinished (current_goal mind) ≡ true → levels_index spec mind < words_of (sizes_in spec)
levels_within spec mind is unfinished = within_index spec (places.Levels mind.process (current_round mind)) (is.process, current_range spec mind is unfinished)

view_within : (spec : RoomSpec) (simulator : ℕ) (mind : MindState) → IsMind spec mind → is_unfinished (current_goal mind) ≡ true → 1 ≤ current_round mind → simulator < spec.simulators → mind.word < words_in spec → view_index spec simulator mind < words_of (sizes_in spec)
view_within spec simulator mind is unfinished some below word =
    within_index spec (places.View simulator mind.process (current_round mind) mind.word) (below, is.process, round_range (sizes_in spec) (current_goal mind) (is.rounds mind.process is.process) unfinished some, word)

input_within : (spec : RoomSpec) (chosen : ℕ) (mind : MindState) → IsMind spec mind → is_unfinished (current_goal mind) ≡ true → current_round mind ≡ 0 → chosen < spec.simulators → index_in spec (places.Value chosen mind.process 0) < words_of (sizes_in spec)
input_within spec chosen mind is unfinished none below =
    within_index spec (places.Value chosen mind.process 0) (below, is.process, zero_agreed (sizes_in spec) (zero_range (sizes_in spec) (current_goal mind) (is.rounds mind.process is.process) unfinished none))

value_within : (spec : RoomSpec) (mind : MindState) (process : ℕ) → IsMind spec mind → process < processes spec → 1 ≤ entry_in spec mind.snapshot process → value_index spec mind process < words_of (sizes_in spec)
value_within spec mind process is below shown =
    let holder = holder_below spec mind.snapshot process (omega (arith, is.number)) in
    within_index spec (places.Value (holder_in spec mind.snapshot process) process (entry_in spec mind.snapshot process)) (holder, below, agreement_round (sizes_in spec) (entry_in spec mind.snapshot process) (shown, row_most spec mind.snapshot process))

-- ---- moves

leave_within : (saw_two : Bool) (index unit count : ℕ) → index < count → IsWithin (leave_by saw_two index unit) count
leave_within true index unit count below = below
leave_within false index unit count below = below

first_within_at : (goal : Goal) (spec : RoomSpec) (simulator process : ℕ) → IsGoal (sizes_in spec) goal → simulator < spec.simulators → process < processes spec → IsWithin (first_move_at goal spec simulator process) (words_of (sizes_in spec))
first_within_at (goals.Write round value) spec simulator process range below within = within_index spec (places.Value simulator process round) (below, within, agreement_round (sizes_in spec) round range)
first_within_at (goals.Ask round) spec simulator process range below within = within_index spec (places.Levels process round) (within, agreement_round (sizes_in spec) round range)
first_within_at (goals.Propose value) spec simulator process range below within = within_index spec (places.Value simulator process 0) (below, within, zero_agreed (sizes_in spec) range)
first_within_at goals.AskInput spec simulator process range below within = within_index spec (places.Levels process 0) (within, zero_agreed (sizes_in spec) range)
first_within_at goals.Done spec simulator process range below within = tt
first_within_at goals.Spent spec simulator process range below within = tt

charged_within : (has_turns : Bool) (move : Move) (count : ℕ) → IsWithin move count → IsWithin (cond has_turns move OutOfTurns) count
charged_within true move count within = within
charged_within false move count within = tt

first_within : (spec : RoomSpec) (mind : MindState) (next : Option ℕ) → IsMind spec mind → next_process mind.goals mind.process ≡ next → IsWithin (first_move next spec mind) (words_of (sizes_in spec))
first_within spec mind None is found = tt
first_within spec mind (Some process) is found =
    let left = next_is_left mind.goals mind.process process (omega (arith, is.process, is.goals)) found in
    let below : process < processes spec = omega (arith, left.below, is.goals) in
    charged_within (ltb mind.turns spec.turns) (first_move_at (goal_at mind.goals process) spec mind.number process) (words_of (sizes_in spec))
    (first_within_at (goal_at mind.goals process) spec mind.number process (is.rounds process below) is.number below)

within_at : (line : Line) (spec : RoomSpec) (mind : MindState) → IsMind spec mind → mind.word < words_at spec line → IsOpenAt line spec mind → IsLineIn (current_round mind) line → IsWithin (move_at line spec mind) (words_of (sizes_in spec))
within_at Rest spec mind is word at round = first_within spec mind (next_process mind.goals mind.process) is refl
within_at Raise spec mind is word at round = within_index spec (places.Memory (word_of (sizes_in spec) mind.number mind.process)) (word_below (sizes_in spec) mind.number mind.process is.limits.shape is.number is.process)
within_at Snap spec mind is word at round = within_index spec (places.Memory mind.word) word
within_at Show spec mind is word at round = view_within spec mind.number mind is at round is.number word
within_at Enter spec mind is word at round = levels_within spec mind is at
within_at Look spec mind is word at round = levels_within spec mind is at
within_at (Leave saw_two) spec mind is word at round = leave_within saw_two (levels_index spec mind) (level_unit mind) (words_of (sizes_in spec)) (levels_within spec mind is at)
within_at Ask spec mind is word at round = levels_within spec mind is at
within_at (GetInput chosen) spec mind is word at round = input_within spec chosen mind is at.0 round at.1
within_at (GetView chosen) spec mind is word at round = view_within spec chosen mind is at.0 round at.1 word
within_at Values spec mind is word at round = value_within spec mind (length mind.entries) is at.1 at.2
within_at (Out decision) spec mind is word at round = within_index spec (places.Out mind.number mind.process) (is.number, is.process)

-- the same where a move is known to be that of a line, on a list that has all words
pub within_words : (line : Line) (spec : RoomSpec) (mind : MindState) (move : Move) (count : ℕ) → move ≡ move_at line spec mind → count ≡ words_of (sizes_in spec) → IsMind spec mind → mind.word < words_at spec line → IsOpenAt line spec mind → IsLineIn (current_round mind) line → IsWithin move count
within_words line spec mind move count is all mind_is word at round = subst (λ n. IsWithin move n) (sym all) (subst (λ m. IsWithin m (words_of (sizes_in spec))) (sym is) (within_at line spec mind mind_is word at round))

pub within : (spec : RoomSpec) (mind : MindState) → IsMind spec mind → IsWithin (move_of spec mind) (words_of (sizes_in spec))
within spec mind is = within_at mind.line spec mind is is.word is.at is.round

pub within_of : (spec : RoomSpec) (mind : MindState) (move : Move) → move ≡ move_of spec mind → IsMind spec mind → IsWithin move (words_of (sizes_in spec))
within_of spec mind move is mind_is = subst (λ m. IsWithin m (words_of (sizes_in spec))) (sym is) (within spec mind mind_is)
