-- What a line does, as one relation: what the simulator that takes it has before and after. What the others have stays.
use Rattle.std.proofs.Common.{◌≡◌, ◌≢◌, ◌⊎◌, inl, inr, eqb, ℕ, zero, suc, ◌+◌, ◌<◌, ◌≤◌, Bool, true, false, cond, ltb, min, [], ◌∷◌, ◌++◌, length, Option, Some, None, refl, sym, ap, ◌∙◌, subst, arith}
use Rattle.std.proofs.lemmas.Bool.{eqb-true, eqb-false, ltb-true, ltb-false}
use Rattle.std.specs.Prelude.{◌&&◌, ◌||◌}
use Rattle.protocol_lang.specs.Numbers.{greatest}
use Rattle.protocol_lang.specs.Meaning.{next_action}
use Rattle.protocol_lang.specs.declared.meaning.Action.{Action}
use Rattle.protocol_lang.specs.declared.meaning.Action.TheVariants as actions
use Rattle.room_spec.specs.Rooms.{RoomSpec, is_reduction, processes}
use Rattle.room_spec.specs.Sizes.{sizes_in}
use Rattle.safe_agreement.specs.Levels.{has_level, left_level}
use Rattle.simulator.specs.declared.goal.Goal.{Goal}
use Rattle.simulator.specs.declared.goal.Goal.TheVariants as goals
use Rattle.simulator.specs.declared.line.Line.{Line}
use Rattle.simulator.specs.declared.line.Line.TheVariants.{Rest, Raise, Snap, Show, Enter, Look, Leave, Ask, GetInput, GetView, Values, Out}
use Rattle.simulator.specs.declared.turn.Turn.TheVariants.{Useful, Quiet}
use Rattle.simulator.specs.Minds.{MindOf, goal_at, current_goal, current_input, current_round, is_unfinished, round_of, next_process}
use Rattle.simulator.specs.Turns.{TakenOf, counted, begun, goes_on, ended, scanned, collected, gathered, most_collects, words_in, asked, asks_in, gets_in, got_input, acted, decided, padded, after_write, opened_at}
use Rattle.simulator.specs.Moves.{IsOperation, first_move_at, first_move}
use Rattle.simulator.specs.Ranges.{IsGoal, IsLineIn}
use Rattle.room_core.specs.Fields.{StepMap, Fields, changed, changed_pair, levels_at, chosen_at, entry_of_steps, is_same_collect, shown_value, with_loaded, with_shown, with_taken, line}
use Rattle.room_core.specs.Reading.{worded}
use Rattle.room_core.specs.Rooms.{Configuration, IsShaped, HasLine}
use Rattle.room_core.specs.Tracks.{StandsFor, AtRest, Tells, stage_of, stage_for}
use Rattle.room_core.proofs.fields.FieldReplays.{stands_at, line_is}
use Rattle.room_core.proofs.fields.Maps.{changed_here, changed_else}
use Rattle.sim_memory.specs.Steps.{word_of}
use Rattle.sim_memory.proofs.CallerLemmas.{word_below}
use Rattle.room_core.proofs.fields.Snapshots.{same_row}
use Rattle.room_core.proofs.fields.Tracks.{stored_round, counted_round, inside_round, past_round, outside, inside, rest_stage_for, aside_stage_for, here_stage_for}
use Rattle.room_core.proofs.fields.Lines.{stored_first_at, stored_first, stored_on, taken_first_at, taken_first, taken_on, operation_of, first_goal_in, first_place, open_round, StandsAt}
use Rattle.room_core.proofs.fields.LineTracks.{each_at_rest}
use Rattle.room_core.proofs.fields.FieldLines.{IsStoreOf, is_store}
use Rattle.room_core.proofs.agreements.Stages.{Past, is_unproposed, line_progress}

-- what is simulator i's own in the fields: its mind and its rows
pub record Own : Type 0 where
  pub mind : MindOf StepMap
  pub step : ℕ → ℕ
  pub level : ℕ → ℕ → ℕ
  pub view : ℕ → ℕ → StepMap
  pub value : ℕ → ℕ → ℕ
  pub out : ℕ → ℕ

abbrev pub own_of : Fields → ℕ → Own
own_of fields i = record { mind = fields.mind i; step = fields.step i; level = fields.level i; view = fields.view i; value = fields.value i; out = fields.out i }

-- the process and the round of an open turn
abbrev pub process_on : Own → ℕ
process_on own = own.mind.process

abbrev pub round_on : Own → ℕ
round_on own = current_round own.mind

-- the open turn has got the proposal that was chosen
abbrev pub is_reading : Line → Bool
is_reading (GetView chosen) = true
is_reading Values = true
is_reading (Out decision) = true
is_reading line = false

-- or it gets the input that was chosen
abbrev pub is_getting : Line → Bool
is_getting (GetInput chosen) = true
is_getting line = false

abbrev pub is_got : Line → Bool
is_got (GetInput chosen) = true
is_got (GetView chosen) = true
is_got line = false

-- the line after a choice is no other
pub gets_not : (round chosen : ℕ) (line : Line) → is_got line ≡ false → gets_in round chosen ≡ line → ⊥
gets_not zero chosen line none is = let wrong : true ≡ false = ap is_got is ∙ none in absurd cc
gets_not (suc round) chosen line none is = let wrong : true ≡ false = ap is_got is ∙ none in absurd cc

-- an open turn, at this line
pub record IsTurn (spec : RoomSpec) (own : Own) (line : Line) : Type 0 where
  pub stands : own.mind.line ≡ line
  pub left : is_unfinished (current_goal own.mind) ≡ true
  pub process : own.mind.process < processes spec
  pub goal : IsGoal (sizes_in spec) (current_goal own.mind)
  pub first : IsLineIn (current_round own.mind) line
  pub last : current_round own.mind ≤ spec.rounds
  pub long : length own.mind.goals ≡ processes spec

-- a mind that asks, at line Ask or in the first line of a turn, after it has counted that step
pub record IsAsking (spec : RoomSpec) (own : Own) (asking : MindOf StepMap) : Type 0 where
  pub goals : asking.goals ≡ own.mind.goals
  pub decision : asking.decision ≡ own.mind.decision
  pub inputs : asking.inputs ≡ own.mind.inputs
  pub past : line_progress own.mind.line ≡ Past
  pub unread : is_reading own.mind.line ≡ false
  pub fresh : asking.word ≡ 0
  pub left : is_unfinished (current_goal asking) ≡ true
  pub count : own.step asking.process ≡ current_round asking
  pub process : asking.process < processes spec
  pub goal : IsGoal (sizes_in spec) (current_goal asking)
  pub last : current_round asking ≤ spec.rounds
  -- it has begun to propose an input of its process, if it is to; and no turn is open on another
  pub proposed : is_unproposed (goal_at own.mind.goals asking.process) (stage_for own.mind asking.process) ≡ false
  pub aside : (p : ℕ) → p ≢ asking.process → stage_for own.mind p ≡ AtRest
  pub long : length asking.goals ≡ processes spec

-- a line that works on memory words has done with the last of them
abbrev pub IsLastWord : RoomSpec → Own → Type 0
IsLastWord spec own = own.mind.word + 1 ≡ words_in spec

-- a mind that has loaded a word of the step numbers, and of a proposal, after it has counted that step
abbrev pub step_loaded : RoomSpec → Fields → Own → MindOf StepMap
step_loaded spec fields own = with_loaded spec fields.step (counted own.mind)

abbrev pub view_loaded : RoomSpec → Fields → Own → ℕ → MindOf StepMap
view_loaded spec fields own chosen = with_loaded spec (fields.view chosen (process_on own) (round_on own)) (counted own.mind)

-- whether a scan ends with the collect of this mind
abbrev pub is_end : RoomSpec → MindOf StepMap → Bool
is_end spec mind = (is_same_collect spec mind && ltb 1 (mind.collects + 1)) || eqb (mind.collects + 1) (most_collects spec)

-- a mind that has just loaded the proposal that was chosen, or a value, and has made of it what entries it can
pub data Loads (spec : RoomSpec) (fields : Fields) (own : Own) : MindOf StepMap → Type 0 where
  loads_view : (chosen : ℕ) → IsTurn spec own (GetView chosen) → chosen < spec.simulators → IsLastWord spec own → ((a p : ℕ) → a < spec.simulators → p < processes spec → word_of (sizes_in spec) a p < words_in spec)
      → Loads spec fields own (record (view_loaded spec fields own chosen) { word = 0; entries = padded (entry_of_steps spec (view_loaded spec fields own chosen).snapshot) (processes spec) [] })
  loads_value : IsTurn spec own Values → length own.mind.entries < processes spec → 1 ≤ entry_of_steps spec own.mind.snapshot (length own.mind.entries)
      → Loads spec fields own (record (counted own.mind) { entries = padded (entry_of_steps spec own.mind.snapshot) (processes spec) (own.mind.entries ++ Some (min (shown_value spec fields own.mind.snapshot (length own.mind.entries)) greatest) ∷ []) })

pub record IsReading (spec : RoomSpec) (fields : Fields) (own : Own) (reading : MindOf StepMap) : Type 0 where
  pub goals : reading.goals ≡ own.mind.goals
  pub same : reading.process ≡ own.mind.process
  pub past : line_progress own.mind.line ≡ Past
  pub reads : is_reading own.mind.line ≡ true
  pub left : is_unfinished (current_goal own.mind) ≡ true
  pub count : own.step own.mind.process ≡ current_round own.mind
  pub process : own.mind.process < processes spec
  pub long : length own.mind.goals ≡ processes spec
  pub first : 1 ≤ current_round own.mind
  pub last : current_round own.mind ≤ spec.rounds
  pub loads : Loads spec fields own reading

-- what the process does next, by the entries that were gathered
abbrev pub action_of : RoomSpec → MindOf StepMap → Action
action_of spec mind = next_action spec.protocol (current_input spec mind) mind.process (current_round mind) mind.entries

-- Why a scan ends: the memory is one word; or the collect is the last, and one more was made.
abbrev pub ScanEnds : RoomSpec → Fields → Own → ℕ → Type 0
ScanEnds spec fields own collects = (words_in spec ≡ 1) ⊎ ((words_in spec ≢ 1) × (is_end spec (step_loaded spec fields own) ≡ true) × (collects ≡ own.mind.collects + 1))

pub data Effect (spec : RoomSpec) (fields : Fields) (own : Own) : Own → Type 0 where
  stores : (j k value : ℕ) → own.mind.line ≡ Rest → goal_at own.mind.goals j ≡ goals.Write k value → own.step j + 1 ≡ k → j < processes spec → 1 ≤ k → k ≤ spec.rounds
      → Effect spec fields own (record own { mind = (goes_on Raise (begun j (counted own.mind))).mind; value = changed_pair own.value j k value })
  proposes : (j value : ℕ) → own.mind.line ≡ Rest → goal_at own.mind.goals j ≡ goals.Propose value → own.step j ≡ 0 → own.level j 0 ≡ 0 → j < processes spec → is_reduction spec ≡ true
      → Effect spec fields own (record own { mind = (goes_on Enter (begun j (counted own.mind))).mind; value = changed_pair own.value j 0 value })
  raises : IsTurn spec own Raise → own.mind.word ≡ 0 → own.mind.collects ≡ 0 → own.step (process_on own) + 1 ≡ round_on own
      → Effect spec fields own (record own { mind = (goes_on Snap (counted own.mind)).mind; step = changed own.step (process_on own) (own.step (process_on own) + 1) })
  collects_word : IsTurn spec own Snap → own.step (process_on own) ≡ round_on own → own.level (process_on own) (round_on own) ≡ 0 → own.mind.word + 1 < words_in spec
      → Effect spec fields own (record own { mind = (goes_on Snap (record (step_loaded spec fields own) { word = own.mind.word + 1 })).mind })
  collects_again : IsTurn spec own Snap → own.step (process_on own) ≡ round_on own → own.level (process_on own) (round_on own) ≡ 0 → IsLastWord spec own → words_in spec ≢ 1 → is_end spec (step_loaded spec fields own) ≡ false
      → Effect spec fields own (record own { mind = (goes_on Snap (record (step_loaded spec fields own) { word = 0; collects = own.mind.collects + 1; before = (step_loaded spec fields own).snapshot })).mind })
  scans : (collects : ℕ) → IsTurn spec own Snap → own.step (process_on own) ≡ round_on own → own.level (process_on own) (round_on own) ≡ 0 → IsLastWord spec own → ScanEnds spec fields own collects
      → Effect spec fields own (record own { mind = (goes_on Show (record (step_loaded spec fields own) { word = 0; collects = collects })).mind })
  shows_word : IsTurn spec own Show → own.step (process_on own) ≡ round_on own → own.level (process_on own) (round_on own) ≡ 0 → own.mind.word + 1 < words_in spec
      → Effect spec fields own (record own { mind = (goes_on Show (record (counted own.mind) { word = own.mind.word + 1 })).mind; view = changed_pair own.view (process_on own) (round_on own) (with_shown spec (own.view (process_on own) (round_on own)) own.mind) })
  shows : IsTurn spec own Show → own.step (process_on own) ≡ round_on own → own.level (process_on own) (round_on own) ≡ 0 → IsLastWord spec own
      → Effect spec fields own (record own { mind = (goes_on Enter (record (counted own.mind) { word = 0 })).mind; view = changed_pair own.view (process_on own) (round_on own) (with_shown spec (own.view (process_on own) (round_on own)) own.mind) })
  enters : IsTurn spec own Enter → own.step (process_on own) ≡ round_on own → own.level (process_on own) (round_on own) ≡ 0
      → Effect spec fields own (record own { mind = (goes_on Look (counted own.mind)).mind; level = changed_pair own.level (process_on own) (round_on own) (own.level (process_on own) (round_on own) + 1) })
  looks : IsTurn spec own Look → own.step (process_on own) ≡ round_on own → own.level (process_on own) (round_on own) ≡ 1
      → Effect spec fields own (record own { mind = (goes_on (Leave (has_level 2 (levels_at spec fields (process_on own) (round_on own)))) (counted own.mind)).mind })
  leaves : (saw_two : Bool) → IsTurn spec own (Leave saw_two) → own.step (process_on own) ≡ round_on own → own.level (process_on own) (round_on own) ≡ 1
      → Effect spec fields own (record own { mind = (goes_on Ask (counted own.mind)).mind; level = changed_pair own.level (process_on own) (round_on own) (left_level saw_two) })
  asks_in_vain : (asking : MindOf StepMap) → IsAsking spec own asking → chosen_at spec fields asking.process (current_round asking) ≡ None
      → Effect spec fields own (record own { mind = (ended Quiet (asks_in (current_round asking)) asking).mind })
  finds : (asking : MindOf StepMap) (chosen : ℕ) → IsAsking spec own asking → chosen_at spec fields asking.process (current_round asking) ≡ Some chosen
      → Effect spec fields own (record own { mind = (goes_on (gets_in (current_round asking) chosen) asking).mind })
  gets_input : (chosen : ℕ) → IsTurn spec own (GetInput chosen) → own.step (process_on own) ≡ round_on own → chosen < spec.simulators
      → Effect spec fields own (record own { mind = (got_input spec (fields.value chosen (process_on own) 0) (counted own.mind)).mind })
  loads_word : (chosen : ℕ) → IsTurn spec own (GetView chosen) → chosen < spec.simulators → own.mind.word + 1 < words_in spec
      → Effect spec fields own (record own { mind = (goes_on (GetView chosen) (record (view_loaded spec fields own chosen) { word = own.mind.word + 1 })).mind })
  gathers : (reading : MindOf StepMap) → IsReading spec fields own reading → length reading.entries < processes spec
      → Effect spec fields own (record own { mind = (goes_on Values reading).mind })
  goes_to : (reading : MindOf StepMap) (value : ℕ) → IsReading spec fields own reading → processes spec ≤ length reading.entries → action_of spec reading ≡ actions.Write value
      → Effect spec fields own (record own { mind = (ended Useful (after_write spec.rounds (current_round reading) value) reading).mind })
  will_decide : (reading : MindOf StepMap) (decision : ℕ) → IsReading spec fields own reading → processes spec ≤ length reading.entries → action_of spec reading ≡ actions.Decide decision
      → Effect spec fields own (record own { mind = (goes_on (Out decision) reading).mind })
  decides : (decision : ℕ) → IsTurn spec own (Out decision) → own.step (process_on own) ≡ round_on own
      → Effect spec fields own (record own { mind = (decided decision (counted own.mind)).mind; out = changed own.out (process_on own) (decision + 1) })

-- ---- each line has its effect

-- what i has after a line, as the two parts of the line have it
abbrev pub own_after : Fields → ℕ → MindOf StepMap → Own
own_after stored i mind = record { mind = mind; step = stored.step i; level = stored.level i; view = stored.view i; value = stored.value i; out = stored.out i }

-- what follows from a test
either_is : {A : Type 0} (P : A → Type 0) (b : Bool) (one other : A) → (b ≡ true → P one) → (b ≡ false → P other) → P (cond b one other)
either_is P true one other is is' = is refl
either_is P false one other is is' = is' refl

last_word : (word words : ℕ) → word < words → ltb (word + 1) words ≡ false → word + 1 ≡ words
last_word word words less stop = let most = ltb-false (word + 1) words stop in omega arith

module _ (spec : RoomSpec) (fields : Fields) (i : ℕ) where
  is_turn : (line : Line) → (fields.mind i).line ≡ line → is_unfinished (current_goal (fields.mind i)) ≡ true → StandsAt line spec fields i (fields.mind i) → IsTurn spec (own_of fields i) line
  is_turn line is left at =
      let mind = fields.mind i in
      let place = open_round spec mind at.is_mind left in
      record { stands = is; left = left; process = at.is_mind.process; goal = at.is_mind.rounds mind.process at.is_mind.process; first = at.round; last = place.1; long = at.is_mind.goals }

  asked_effect : (asking : MindOf StepMap) (chosen : Option ℕ) → IsAsking spec (own_of fields i) asking → chosen_at spec fields asking.process (current_round asking) ≡ chosen
      → Effect spec fields (own_of fields i) (own_after fields i (asked chosen asking).mind)
  asked_effect asking None asks is = asks_in_vain asking asks is
  asked_effect asking (Some chosen) asks is = finds asking chosen asks is

  acted_effect : (reading : MindOf StepMap) (action : Action) → IsReading spec fields (own_of fields i) reading → processes spec ≤ length reading.entries → action_of spec reading ≡ action
      → Effect spec fields (own_of fields i) (own_after fields i (acted spec action reading).mind)
  acted_effect reading (actions.Write value) reads all is = goes_to reading value reads all is
  acted_effect reading (actions.Decide decision) reads all is = will_decide reading decision reads all is

  gathered_effect : (reading : MindOf StepMap) (b : Bool) (action : Action) → IsReading spec fields (own_of fields i) reading → ltb (length reading.entries) (processes spec) ≡ b → action_of spec reading ≡ action
      → Effect spec fields (own_of fields i) (own_after fields i (cond b (goes_on Values reading) (acted spec action reading)).mind)
  gathered_effect reading true action reads more is = gathers reading reads (ltb-true _ _ more)
  gathered_effect reading false action reads more is = acted_effect reading action reads (ltb-false _ _ more) is

  -- the first line of a turn
  first_effect : (goal : Goal) (j number : ℕ) → goal_at (fields.mind i).goals j ≡ goal → (fields.mind i).line ≡ Rest → StandsAt Rest spec fields i (fields.mind i) → IsOperation (first_move_at goal spec number j)
      → Effect spec fields (own_of fields i) (own_after (stored_first_at goal fields i j) i (taken_first_at goal spec fields j (counted (fields.mind i))).mind)
  first_effect (goals.Write k value) j number is rest at moves =
      let mind = fields.mind i in
      let place = first_place spec mind j (goals.Write k value) at.is_mind is refl in
      let range = first_goal_in spec mind j (goals.Write k value) at.is_mind is refl in
      let tells = each_at_rest spec.rounds mind.process mind.goals (fields.step i) (fields.level i) at.others at.own j in
      let count : fields.step i j + 1 ≡ k = (subst (λ (g : Goal). Tells spec.rounds g AtRest (fields.step i j) (fields.level i j)) is tells).counts in
      subst (λ (mind' : MindOf StepMap). Effect spec fields (own_of fields i) (own_after (stored_first_at (goals.Write k value) fields i j) i mind')) (sym (ap (λ (g : Goal). (opened_at g None (begun j (counted mind))).mind) is))
      (subst (λ (row : ℕ → ℕ → ℕ). Effect spec fields (own_of fields i) (record (own_of fields i) { mind = (goes_on Raise (begun j (counted mind))).mind; value = row })) (sym (changed_here fields.value i (changed_pair (fields.value i) j k value) i refl))
      (stores j k value rest is count place.0 range.0 range.1))
  first_effect (goals.Ask k) j number is rest at moves =
      let mind = fields.mind i in
      let place = first_place spec mind j (goals.Ask k) at.is_mind is refl in
      let tells = each_at_rest spec.rounds mind.process mind.goals (fields.step i) (fields.level i) at.others at.own j in
      let count : fields.step i j ≡ k = (subst (λ (g : Goal). Tells spec.rounds g AtRest (fields.step i j) (fields.level i j)) is tells).counts in
      let round : round_of (goal_at mind.goals j) ≡ k = ap round_of is in
      subst (λ (mind' : MindOf StepMap). Effect spec fields (own_of fields i) (own_after fields i mind')) (sym (ap (λ (g : Goal). (opened_at g (chosen_at spec fields j k) (begun j (counted mind))).mind) is))
      (asked_effect (begun j (counted mind)) (chosen_at spec fields j k) (record {
        goals = refl;
        decision = refl;
        inputs = refl;
        past = ap line_progress rest;
        unread = ap is_reading rest;
        fresh = let w = at.word in omega arith;
        left = ap is_unfinished is;
        count = count ∙ sym round;
        process = place.0;
        goal = at.is_mind.rounds j place.0;
        last = let b = place.1.1 in omega arith;
        proposed = ap (λ (g : Goal). is_unproposed g (stage_for mind j)) is ∙ ap (is_unproposed (goals.Ask k)) (rest_stage_for mind j rest);
        aside = λ p other. rest_stage_for mind p rest;
        long = at.is_mind.goals;
      }) (ap (λ (r : ℕ). chosen_at spec fields j r) round))
  first_effect (goals.Propose value) j number is rest at moves =
      let mind = fields.mind i in
      let place = first_place spec mind j (goals.Propose value) at.is_mind is refl in
      let tells = each_at_rest spec.rounds mind.process mind.goals (fields.step i) (fields.level i) at.others at.own j in
      let told : Tells spec.rounds (goals.Propose value) AtRest (fields.step i j) (fields.level i j) = subst (λ (g : Goal). Tells spec.rounds g AtRest (fields.step i j) (fields.level i j)) is tells in
      let none : fields.step i j ≡ 0 = told.counts in
      subst (λ (mind' : MindOf StepMap). Effect spec fields (own_of fields i) (own_after (stored_first_at (goals.Propose value) fields i j) i mind')) (sym (ap (λ (g : Goal). (opened_at g None (begun j (counted mind))).mind) is))
      (subst (λ (row : ℕ → ℕ → ℕ). Effect spec fields (own_of fields i) (record (own_of fields i) { mind = (goes_on Enter (begun j (counted mind))).mind; value = row })) (sym (changed_here fields.value i (changed_pair (fields.value i) j 0 value) i refl))
      (proposes j value rest is none (told.levels.0 0 (omega (arith, none))) place.0 (first_goal_in spec mind j (goals.Propose value) at.is_mind is refl)))
  first_effect goals.AskInput j number is rest at moves =
      let mind = fields.mind i in
      let place = first_place spec mind j goals.AskInput at.is_mind is refl in
      let tells = each_at_rest spec.rounds mind.process mind.goals (fields.step i) (fields.level i) at.others at.own j in
      let count : fields.step i j ≡ 0 = (subst (λ (g : Goal). Tells spec.rounds g AtRest (fields.step i j) (fields.level i j)) is tells).counts in
      let round : round_of (goal_at mind.goals j) ≡ 0 = ap round_of is in
      subst (λ (mind' : MindOf StepMap). Effect spec fields (own_of fields i) (own_after fields i mind')) (sym (ap (λ (g : Goal). (opened_at g (chosen_at spec fields j 0) (begun j (counted mind))).mind) is))
      (asked_effect (begun j (counted mind)) (chosen_at spec fields j 0) (record {
        goals = refl;
        decision = refl;
        inputs = refl;
        past = ap line_progress rest;
        unread = ap is_reading rest;
        fresh = let w = at.word in omega arith;
        left = ap is_unfinished is;
        count = count ∙ sym round;
        process = place.0;
        goal = at.is_mind.rounds j place.0;
        last = omega (arith, round);
        proposed = ap (λ (g : Goal). is_unproposed g (stage_for mind j)) is ∙ ap (is_unproposed goals.AskInput) (rest_stage_for mind j rest);
        aside = λ p other. rest_stage_for mind p rest;
        long = at.is_mind.goals;
      }) (ap (λ (r : ℕ). chosen_at spec fields j r) round))
  first_effect goals.Done j number is rest at moves = absurd moves
  first_effect goals.Spent j number is rest at moves = absurd moves

  next_effect : (next : Option ℕ) → (fields.mind i).line ≡ Rest → StandsAt Rest spec fields i (fields.mind i) → IsOperation (first_move next spec (worded (sizes_in spec) (fields.mind i)))
      → Effect spec fields (own_of fields i) (own_after (stored_first next fields i (counted (fields.mind i))) i (taken_first next spec fields (counted (fields.mind i))).mind)
  next_effect None rest at moves = absurd moves
  next_effect (Some j) rest at moves =
      let mind = fields.mind i in
      first_effect (goal_at mind.goals j) j mind.number refl rest at (operation_of (ltb mind.turns spec.turns) (first_move_at (goal_at mind.goals j) spec mind.number j) moves)

  reads_at : (line : Line) (reading : MindOf StepMap) → (fields.mind i).line ≡ line → StandsAt line spec fields i (fields.mind i) → line_progress line ≡ Past → is_reading line ≡ true
      → reading.goals ≡ (fields.mind i).goals → reading.process ≡ (fields.mind i).process → is_unfinished (current_goal (fields.mind i)) ≡ true → fields.step i (fields.mind i).process ≡ current_round (fields.mind i)
      → 1 ≤ current_round (fields.mind i) → Loads spec fields (own_of fields i) reading → IsReading spec fields (own_of fields i) reading
  reads_at line reading is at past reads same same' left count first loads = record {
    goals = same;
    same = same';
    past = ap line_progress is ∙ past;
    reads = ap is_reading is ∙ reads;
    left = left;
    count = count;
    process = at.is_mind.process;
    long = at.is_mind.goals;
    first = first;
    last = (open_round spec (fields.mind i) at.is_mind left).1;
    loads = loads;
  }

  pub effect_on : (line : Line) → (fields.mind i).line ≡ line → StandsAt line spec fields i (fields.mind i)
      → Effect spec fields (own_of fields i) (own_after (stored_on line spec fields i (fields.mind i).process (current_round (fields.mind i)) (counted (fields.mind i))) i (taken_on line spec fields (fields.mind i).process (current_round (fields.mind i)) (counted (fields.mind i))).mind)
  effect_on Rest is at = next_effect (next_process (fields.mind i).goals (fields.mind i).process) is at at.moves
  effect_on Raise is at =
      let mind = fields.mind i in
      let j = mind.process in
      subst (λ (row : ℕ → ℕ). Effect spec fields (own_of fields i) (record (own_of fields i) { mind = (goes_on Snap (counted mind)).mind; step = row })) (sym (changed_here fields.step i (changed (fields.step i) j (fields.step i j + 1)) i refl))
      (raises (is_turn Raise is at.open_at at) (let w = at.word in omega arith) at.collects (stored_round spec.rounds (current_goal mind) (fields.step i j) at.own.counts))
  effect_on Snap is at =
      let mind = fields.mind i in
      let into = with_loaded spec fields.step (counted mind) in
      let same = is_same_collect spec into in
      let turn = is_turn Snap is at.open_at at in
      let count = counted_round spec.rounds (current_goal mind) (fields.step i mind.process) at.own.counts in
      let none = outside spec.rounds (current_goal mind) (fields.step i mind.process) (fields.level i mind.process) at.own in
      let more = record into { word = 0; collects = mind.collects + 1 } in
      either_is (λ (taken : TakenOf StepMap). Effect spec fields (own_of fields i) (own_after fields i taken.mind)) (ltb (mind.word + 1) (words_in spec)) (goes_on Snap (record into { word = mind.word + 1 })) (scanned spec same (record into { word = 0 }))
      (λ next. collects_word turn count none (ltb-true _ _ next))
      (λ stop.
      let last = last_word mind.word (words_in spec) at.word stop in
      either_is (λ (taken : TakenOf StepMap). Effect spec fields (own_of fields i) (own_after fields i taken.mind)) (eqb (words_in spec) 1) (goes_on Show (record into { word = 0 })) (collected spec same more)
      (λ one. scans mind.collects turn count none last (inl (eqb-true _ _ one)))
      (λ several.
      either_is (λ (taken : TakenOf StepMap). Effect spec fields (own_of fields i) (own_after fields i taken.mind)) (is_end spec into) (goes_on Show more) (goes_on Snap (record more { before = into.snapshot }))
      (λ ends. scans (mind.collects + 1) turn count none last (inr (eqb-false _ _ several, ends, refl)))
      (λ goes. collects_again turn count none last (eqb-false _ _ several) goes)))
  effect_on Show is at =
      let mind = fields.mind i in
      let j = mind.process in
      let k = current_round mind in
      let view = with_shown spec (fields.view i j k) mind in
      let turn = is_turn Show is at.open_at at in
      let count = counted_round spec.rounds (current_goal mind) (fields.step i j) at.own.counts in
      let none = outside spec.rounds (current_goal mind) (fields.step i j) (fields.level i j) at.own in
      either_is (λ (taken : TakenOf StepMap). Effect spec fields (own_of fields i) (own_after (stored_on Show spec fields i j k (counted mind)) i taken.mind)) (ltb (mind.word + 1) (words_in spec)) (goes_on Show (record (counted mind) { word = mind.word + 1 })) (goes_on Enter (record (counted mind) { word = 0 }))
      (λ next.
      subst (λ (row : ℕ → ℕ → StepMap). Effect spec fields (own_of fields i) (record (own_of fields i) { mind = (goes_on Show (record (counted mind) { word = mind.word + 1 })).mind; view = row })) (sym (changed_here fields.view i (changed_pair (fields.view i) j k view) i refl))
      (shows_word turn count none (ltb-true _ _ next)))
      (λ stop.
      subst (λ (row : ℕ → ℕ → StepMap). Effect spec fields (own_of fields i) (record (own_of fields i) { mind = (goes_on Enter (record (counted mind) { word = 0 })).mind; view = row })) (sym (changed_here fields.view i (changed_pair (fields.view i) j k view) i refl))
      (shows turn count none (last_word mind.word (words_in spec) at.word stop)))
  effect_on Enter is at =
      let mind = fields.mind i in
      let j = mind.process in
      subst (λ (row : ℕ → ℕ → ℕ). Effect spec fields (own_of fields i) (record (own_of fields i) { mind = (goes_on Look (counted mind)).mind; level = row })) (sym (changed_here fields.level i (changed_pair (fields.level i) j (current_round mind) (fields.level i j (current_round mind) + 1)) i refl))
      (enters (is_turn Enter is at.open_at at) (counted_round spec.rounds (current_goal mind) (fields.step i j) at.own.counts) (outside spec.rounds (current_goal mind) (fields.step i j) (fields.level i j) at.own))
  effect_on Look is at =
      let mind = fields.mind i in
      looks (is_turn Look is at.open_at at) (inside_round spec.rounds (current_goal mind) (fields.step i mind.process) at.own.counts) (inside spec.rounds (current_goal mind) (fields.step i mind.process) (fields.level i mind.process) at.own)
  effect_on (Leave saw_two) is at =
      let mind = fields.mind i in
      let j = mind.process in
      subst (λ (row : ℕ → ℕ → ℕ). Effect spec fields (own_of fields i) (record (own_of fields i) { mind = (goes_on Ask (counted mind)).mind; level = row })) (sym (changed_here fields.level i (changed_pair (fields.level i) j (current_round mind) (left_level saw_two)) i refl))
      (leaves saw_two (is_turn (Leave saw_two) is at.open_at at) (inside_round spec.rounds (current_goal mind) (fields.step i j) at.own.counts) (inside spec.rounds (current_goal mind) (fields.step i j) (fields.level i j) at.own))
  effect_on Ask is at =
      let mind = fields.mind i in
      let turn = is_turn Ask is at.open_at at in
      asked_effect (counted mind) (chosen_at spec fields mind.process (current_round mind)) (record {
        goals = refl;
        decision = refl;
        inputs = refl;
        past = ap line_progress is;
        unread = ap is_reading is;
        fresh = let w = at.word in omega arith;
        left = turn.left;
        count = past_round spec.rounds (current_goal mind) (fields.step i mind.process) at.own.counts;
        process = turn.process;
        goal = turn.goal;
        last = turn.last;
        proposed = ap (is_unproposed (current_goal mind)) (here_stage_for mind mind.process refl ∙ ap stage_of is);
        aside = λ p other. aside_stage_for mind p other;
        long = turn.long;
      }) refl
  effect_on (GetInput chosen) is at =
      let mind = fields.mind i in
      gets_input chosen (is_turn (GetInput chosen) is at.open_at.0 at) (past_round spec.rounds (current_goal mind) (fields.step i mind.process) at.own.counts) at.open_at.1
  effect_on (GetView chosen) is at =
      let mind = fields.mind i in
      let into = with_loaded spec (fields.view chosen mind.process (current_round mind)) (counted mind) in
      let reading : MindOf StepMap = record into { word = 0; entries = padded (entry_of_steps spec into.snapshot) (processes spec) [] } in
      let count = past_round spec.rounds (current_goal mind) (fields.step i mind.process) at.own.counts in
      let turn = is_turn (GetView chosen) is at.open_at.0 at in
      either_is (λ (taken : TakenOf StepMap). Effect spec fields (own_of fields i) (own_after fields i taken.mind)) (ltb (mind.word + 1) (words_in spec)) (goes_on (GetView chosen) (record into { word = mind.word + 1 })) (gathered (entry_of_steps spec into.snapshot) spec [] (record into { word = 0 }))
      (λ next. loads_word chosen turn at.open_at.1 (ltb-true _ _ next))
      (λ stop.
      gathered_effect reading (ltb (length reading.entries) (processes spec)) (action_of spec reading)
      (reads_at (GetView chosen) reading is at refl refl refl refl at.open_at.0 count at.round (loads_view chosen turn at.open_at.1 (last_word mind.word (words_in spec) at.word stop) (λ a p less less'. word_below (sizes_in spec) a p at.is_mind.limits.shape less less'))) refl refl)
  effect_on Values is at =
      let mind = fields.mind i in
      let more = mind.entries ++ Some (min (shown_value spec fields mind.snapshot (length mind.entries)) greatest) ∷ [] in
      let reading : MindOf StepMap = record (counted mind) { entries = padded (entry_of_steps spec mind.snapshot) (processes spec) more } in
      let count = past_round spec.rounds (current_goal mind) (fields.step i mind.process) at.own.counts in
      gathered_effect reading (ltb (length reading.entries) (processes spec)) (action_of spec reading)
      (reads_at Values reading is at refl refl refl refl at.open_at.0 count at.round (loads_value (is_turn Values is at.open_at.0 at) at.open_at.1 (subst (λ (row : ℕ). 1 ≤ row) (same_row spec mind.snapshot (length mind.entries) at.is_mind.limits at.snapshot at.open_at.1) at.open_at.2))) refl refl
  effect_on (Out decision) is at =
      let mind = fields.mind i in
      let j = mind.process in
      subst (λ (row : ℕ → ℕ). Effect spec fields (own_of fields i) (record (own_of fields i) { mind = (decided decision (counted mind)).mind; out = row })) (sym (changed_here fields.out i (changed (fields.out i) j (decision + 1)) i refl))
      (decides decision (is_turn (Out decision) is at.open_at at) (past_round spec.rounds (current_goal mind) (fields.step i j) at.own.counts))

-- ---- what the simulators have after a line

-- the one that takes it
pub own_changes : (spec : RoomSpec) (fields : Fields) (i : ℕ) (line : Line) → (fields.mind i).line ≡ line → StandsAt line spec fields i (fields.mind i)
    → Effect spec fields (own_of fields i) (own_of (with_taken (stored_on line spec fields i (fields.mind i).process (current_round (fields.mind i)) (counted (fields.mind i))) i (taken_on line spec fields (fields.mind i).process (current_round (fields.mind i)) (counted (fields.mind i)))) i)
own_changes spec fields i line is at =
    let mind = fields.mind i in
    let stored = stored_on line spec fields i mind.process (current_round mind) (counted mind) in
    let new = (taken_on line spec fields mind.process (current_round mind) (counted mind)).mind in
    subst (λ (one : MindOf StepMap). Effect spec fields (own_of fields i) (own_after stored i one)) (sym (changed_here stored.mind i new i refl)) (effect_on spec fields i line is at)

-- the others
pub others_stay : (fields stored : Fields) (i : ℕ) (taken : TakenOf StepMap) → IsStoreOf i fields stored → (a : ℕ) → a ≢ i → own_of (with_taken stored i taken) a ≡ own_of fields a
others_stay fields stored i taken store a other =
    let mind : changed stored.mind i taken.mind a ≡ fields.mind a = changed_else stored.mind i taken.mind a other ∙ ap (λ (minds : ℕ → MindOf StepMap). minds a) store.mind in
    let step = store.step a other in
    let level = store.level a other in
    let view = store.view a other in
    let value = store.value a other in
    let out = store.out a other in
    λ t. record { mind = mind t; step = step t; level = level t; view = view t; value = value t; out = out t }

-- An event: a simulator's line has its effect, and the others have what they had; or nobody's has changed.
pub record IsLineOf (spec : RoomSpec) (fields after : Fields) (i : ℕ) : Type 0 where
  pub below : i < spec.simulators
  pub own : Effect spec fields (own_of fields i) (own_of after i)
  pub others : (a : ℕ) → a ≢ i → own_of after a ≡ own_of fields a

pub line_effect : (room : Configuration) (fields : Fields) (i : ℕ) → IsShaped room → StandsFor room fields → HasLine room i → IsLineOf room.spec fields (line room.spec fields i) i
line_effect room fields i shape for may =
    let mind = fields.mind i in
    let at = stands_at room fields i shape for may in
    let stored = stored_on mind.line room.spec fields i mind.process (current_round mind) (counted mind) in
    let taken = taken_on mind.line room.spec fields mind.process (current_round mind) (counted mind) in
    subst (λ (after : Fields). IsLineOf room.spec fields after i) (sym (line_is room fields i shape for may))
    (record {
      below = may.alive.below;
      own = own_changes room.spec fields i mind.line refl at;
      others = others_stay fields stored i taken (is_store mind.line room.spec fields i mind.process (current_round mind) (counted mind));
    })
