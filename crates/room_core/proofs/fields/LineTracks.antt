-- After a line its mind tells of its fields again, and their numbers are in range.
use Rattle.std.proofs.Common.{◌≡◌, ◌≢◌, ℕ, zero, suc, ◌+◌, ◌<◌, ◌≤◌, Bool, true, false, cond, ltb, List, [], ◌∷◌, ◌++◌, min, length, Option, Some, None, refl, sym, ap, subst, arith}
use mathlib.Core.Logic.{dite}
use native.Mathlib.Decide.{ℕ_discrete}
use Rattle.protocol_lang.specs.Numbers.{greatest}
use Rattle.protocol_lang.specs.Meaning.{first_value, next_action}
use Rattle.protocol_lang.specs.declared.meaning.Action.{Action}
use Rattle.protocol_lang.specs.declared.meaning.Action.TheVariants as actions
use Rattle.room_spec.specs.Rooms.{RoomSpec, processes}
use Rattle.room_spec.specs.Sizes.{sizes_in}
use Rattle.safe_agreement.specs.Levels.{has_level, left_level}
use Rattle.simulator.specs.declared.goal.Goal.{Goal}
use Rattle.simulator.specs.declared.goal.Goal.TheVariants as goals
use Rattle.simulator.specs.declared.line.Line.{Line}
use Rattle.simulator.specs.declared.line.Line.TheVariants.{Rest, Raise, Snap, Show, Enter, Look, Leave, Ask, GetInput, GetView, Values, Out}
use Rattle.simulator.specs.declared.turn.Turn.{Turn}
use Rattle.simulator.specs.declared.turn.Turn.TheVariants.{Useful, Quiet}
use Rattle.simulator.specs.Minds.{MindOf, goal_at, current_goal, current_input, current_round, first_write, is_unfinished, next_process}
use Rattle.simulator.specs.Turns.{TakenOf, counted, begun, goes_on, ended, stayed, asked, asks_in, gets_in, acted, after_write, padded, gathered, opened_at, with_decision, with_input}
use Rattle.simulator.specs.Ranges.{IsMind}
use Rattle.simulator.specs.Moves.{IsOperation, first_move_at, first_move}
use Rattle.room_core.specs.Fields.{StepMap, Fields, changed, changed_pair, changed_triple, levels_at, chosen_at, entry_of_steps, shown_value, is_same_collect, with_loaded}
use Rattle.room_core.proofs.fields.Wording.{got_view_by, showed_by, snapped_by}
use Rattle.room_core.specs.Reading.{worded}
use Rattle.room_core.specs.Tracks.{Stage, AtRest, Stored, Counted, Past, stage_of, Tells, ToldBy}
use Rattle.room_core.proofs.fields.Maps.{changed_here, changed_else}
use Rattle.room_core.proofs.fields.Tracks.{ToldBeside, told_by, told_at_rest, told_with_goal, tells_raised, tells_entered, tells_left, tells_asked, tells_written, tells_input, tells_decided, round_most}
use Rattle.room_core.proofs.fields.Lines.{stored_first_at, stored_first, stored_on, taken_first_at, taken_first, taken_on, operation_of, process_in, StandsAt}

-- ---- what a mind tells after a part of a turn

gets_past : (round chosen : ℕ) → stage_of (gets_in round chosen) ≡ Past
gets_past zero chosen = refl
gets_past (suc round) chosen = refl

module _ (spec : RoomSpec) (step : ℕ → ℕ) (level : ℕ → ℕ → ℕ) where
  goes_told : (line : Line) (mind : MindOf StepMap) → ToldBeside spec.rounds mind.process mind.goals step level → Tells spec.rounds (current_goal mind) (stage_of line) (step mind.process) (level mind.process) → ToldBy spec.rounds (goes_on line mind).mind step level
  goes_told line mind others own = told_by spec.rounds (goes_on line mind).mind step level others own

  goes_told_past : (line : Line) (mind : MindOf StepMap) → stage_of line ≡ Past → ToldBeside spec.rounds mind.process mind.goals step level → Tells spec.rounds (current_goal mind) Past (step mind.process) (level mind.process) → ToldBy spec.rounds (goes_on line mind).mind step level
  goes_told_past line mind past others own = goes_told line mind others (subst (λ (stage : Stage). Tells spec.rounds (current_goal mind) stage (step mind.process) (level mind.process)) (sym past) own)

  ended_told : (turn : Turn) (goal : Goal) (mind : MindOf StepMap) → mind.process < length mind.goals → ToldBeside spec.rounds mind.process mind.goals step level → Tells spec.rounds goal AtRest (step mind.process) (level mind.process) → ToldBy spec.rounds (ended turn goal mind).mind step level
  ended_told turn goal mind below others own = told_at_rest spec.rounds (ended turn goal mind).mind step level refl (told_with_goal spec.rounds mind.goals mind.process goal step level below others own)

  asked_told : (chosen : Option ℕ) (mind : MindOf StepMap) → mind.process < length mind.goals → ToldBeside spec.rounds mind.process mind.goals step level → Tells spec.rounds (current_goal mind) Past (step mind.process) (level mind.process) → ToldBy spec.rounds (asked chosen mind).mind step level
  asked_told None mind below others own = ended_told Quiet (asks_in (current_round mind)) mind below others (tells_asked spec.rounds (current_goal mind) (step mind.process) (level mind.process) own)
  asked_told (Some chosen) mind below others own = goes_told_past (gets_in (current_round mind) chosen) mind (gets_past (current_round mind) chosen) others own

  stayed_told : (turn : Turn) (goal : Goal) (mind : MindOf StepMap) → mind.process < length mind.goals → ToldBeside spec.rounds mind.process mind.goals step level → Tells spec.rounds goal AtRest (step mind.process) (level mind.process) → ToldBy spec.rounds (stayed turn goal mind).mind step level
  stayed_told turn goal mind below others own = told_at_rest spec.rounds (stayed turn goal mind).mind step level refl (told_with_goal spec.rounds mind.goals mind.process goal step level below others own)

  acted_told : (action : Action) (mind : MindOf StepMap) → mind.process < length mind.goals → current_round mind ≤ spec.rounds → ToldBeside spec.rounds mind.process mind.goals step level → Tells spec.rounds (current_goal mind) Past (step mind.process) (level mind.process) → ToldBy spec.rounds (acted spec action mind).mind step level
  acted_told (actions.Write value) mind below range others own = ended_told Useful (after_write spec.rounds (current_round mind) value) mind below others (tells_written spec.rounds (current_goal mind) value (step mind.process) (level mind.process) range own)
  acted_told (actions.Decide decision) mind below range others own = goes_told (Out decision) mind others own

  all_told : (b : Bool) (action : Action) (mind : MindOf StepMap) → mind.process < length mind.goals → current_round mind ≤ spec.rounds → ToldBeside spec.rounds mind.process mind.goals step level → Tells spec.rounds (current_goal mind) Past (step mind.process) (level mind.process) → ToldBy spec.rounds (cond b (goes_on Values mind) (acted spec action mind)).mind step level
  all_told true action mind below range others own = goes_told Values mind others own
  all_told false action mind below range others own = acted_told action mind below range others own

  gathered_told : (row : ℕ → ℕ) (entries : List (Option ℕ)) (mind : MindOf StepMap) → mind.process < length mind.goals → current_round mind ≤ spec.rounds → ToldBeside spec.rounds mind.process mind.goals step level → Tells spec.rounds (current_goal mind) Past (step mind.process) (level mind.process) → ToldBy spec.rounds (gathered row spec entries mind).mind step level
  gathered_told row entries mind below range others own =
      let all = padded row (processes spec) entries in
      all_told (ltb (length all) (processes spec)) (next_action spec.protocol (current_input spec mind) mind.process (current_round mind) all) (record mind { entries = all }) below range others own

tells_first_write : (rounds : ℕ) (goal : Goal) (k value step : ℕ) (level : ℕ → ℕ) → goal ≡ goals.Write k value → Tells rounds goal AtRest step level → Tells rounds goal Stored step level
tells_first_write rounds (goals.Write round value') k value step level is told = record { counts = told.counts; levels = told.levels }
tells_first_write rounds (goals.Ask round) k value step level is told = absurd cc
tells_first_write rounds (goals.Propose value') k value step level is told = absurd cc
tells_first_write rounds goals.AskInput k value step level is told = absurd cc
tells_first_write rounds goals.Done k value step level is told = absurd cc
tells_first_write rounds goals.Spent k value step level is told = absurd cc

tells_first_ask : (rounds : ℕ) (goal : Goal) (k step : ℕ) (level : ℕ → ℕ) → goal ≡ goals.Ask k → Tells rounds goal AtRest step level → Tells rounds goal Past step level
tells_first_ask rounds (goals.Write round value) k step level is told = absurd cc
tells_first_ask rounds (goals.Ask round) k step level is told = record { counts = told.counts; levels = told.levels }
tells_first_ask rounds (goals.Propose value) k step level is told = absurd cc
tells_first_ask rounds goals.AskInput k step level is told = absurd cc
tells_first_ask rounds goals.Done k step level is told = absurd cc
tells_first_ask rounds goals.Spent k step level is told = absurd cc

tells_first_proposal : (rounds : ℕ) (goal : Goal) (value step : ℕ) (level : ℕ → ℕ) → goal ≡ goals.Propose value → Tells rounds goal AtRest step level → Tells rounds goal Counted step level
tells_first_proposal rounds (goals.Write round value') value step level is told = absurd cc
tells_first_proposal rounds (goals.Ask round) value step level is told = absurd cc
tells_first_proposal rounds (goals.Propose value') value step level is told = record { counts = told.counts; levels = told.levels }
tells_first_proposal rounds goals.AskInput value step level is told = absurd cc
tells_first_proposal rounds goals.Done value step level is told = absurd cc
tells_first_proposal rounds goals.Spent value step level is told = absurd cc

tells_ask_input : (rounds : ℕ) (goal : Goal) (step : ℕ) (level : ℕ → ℕ) → goal ≡ goals.AskInput → Tells rounds goal AtRest step level → Tells rounds goal Past step level
tells_ask_input rounds (goals.Write round value) step level is told = absurd cc
tells_ask_input rounds (goals.Ask round) step level is told = absurd cc
tells_ask_input rounds (goals.Propose value) step level is told = absurd cc
tells_ask_input rounds goals.AskInput step level is told = record { counts = told.counts; levels = told.levels }
tells_ask_input rounds goals.Done step level is told = absurd cc
tells_ask_input rounds goals.Spent step level is told = absurd cc

module _ (spec : RoomSpec) (fields : Fields) (i : ℕ) (mind : MindOf StepMap) (each : (p : ℕ) → Tells spec.rounds (goal_at mind.goals p) AtRest (fields.step i p) (fields.level i p)) where
  first_told : (goal : Goal) (j number : ℕ) → goal_at mind.goals j ≡ goal → IsOperation (first_move_at goal spec number j) → ToldBy spec.rounds (taken_first_at goal spec fields j (counted mind)).mind ((stored_first_at goal fields i j).step i) ((stored_first_at goal fields i j).level i)
  first_told (goals.Write k value) j number is moves =
      subst (λ (taken : TakenOf StepMap). ToldBy spec.rounds taken.mind (fields.step i) (fields.level i)) (sym (ap (λ (g : Goal). opened_at g None (begun j (counted mind))) is))
      (goes_told spec (fields.step i) (fields.level i) Raise (begun j (counted mind)) (λ p _. each p) (tells_first_write spec.rounds (goal_at mind.goals j) k value (fields.step i j) (fields.level i j) is (each j)))
  first_told (goals.Ask k) j number is moves =
      subst (λ (taken : TakenOf StepMap). ToldBy spec.rounds taken.mind (fields.step i) (fields.level i)) (sym (ap (λ (g : Goal). opened_at g (chosen_at spec fields j k) (begun j (counted mind))) is))
      (asked_told spec (fields.step i) (fields.level i) (chosen_at spec fields j k) (begun j (counted mind)) (process_in mind.goals j (ap is_unfinished is)) (λ p _. each p) (tells_first_ask spec.rounds (goal_at mind.goals j) k (fields.step i j) (fields.level i j) is (each j)))
  first_told (goals.Propose value) j number is moves =
      subst (λ (taken : TakenOf StepMap). ToldBy spec.rounds taken.mind (fields.step i) (fields.level i)) (sym (ap (λ (g : Goal). opened_at g None (begun j (counted mind))) is))
      (goes_told spec (fields.step i) (fields.level i) Enter (begun j (counted mind)) (λ p _. each p) (tells_first_proposal spec.rounds (goal_at mind.goals j) value (fields.step i j) (fields.level i j) is (each j)))
  first_told goals.AskInput j number is moves =
      subst (λ (taken : TakenOf StepMap). ToldBy spec.rounds taken.mind (fields.step i) (fields.level i)) (sym (ap (λ (g : Goal). opened_at g (chosen_at spec fields j 0) (begun j (counted mind))) is))
      (asked_told spec (fields.step i) (fields.level i) (chosen_at spec fields j 0) (begun j (counted mind)) (process_in mind.goals j (ap is_unfinished is)) (λ p _. each p) (tells_ask_input spec.rounds (goal_at mind.goals j) (fields.step i j) (fields.level i j) is (each j)))
  first_told goals.Done j number is moves = absurd moves
  first_told goals.Spent j number is moves = absurd moves

  next_told : (next : Option ℕ) → IsOperation (first_move next spec (worded (sizes_in spec) mind)) → ToldBy spec.rounds (taken_first next spec fields (counted mind)).mind ((stored_first next fields i (counted mind)).step i) ((stored_first next fields i (counted mind)).level i)
  next_told None moves = absurd moves
  next_told (Some j) moves = first_told (goal_at mind.goals j) j mind.number refl (operation_of (ltb mind.turns spec.turns) (first_move_at (goal_at mind.goals j) spec mind.number j) moves)

-- ---- rows of which one entry has changed

beside_step : (rounds : ℕ) (j : ℕ) (list : List Goal) (step : ℕ → ℕ) (level : ℕ → ℕ → ℕ) (entry : ℕ) → ToldBeside rounds j list step level → ToldBeside rounds j list (changed step j entry) level
beside_step rounds j list step level entry others p other = subst (λ (s : ℕ). Tells rounds (goal_at list p) AtRest s (level p)) (sym (changed_else step j entry p other)) (others p other)

beside_level : (rounds : ℕ) (j : ℕ) (list : List Goal) (step : ℕ → ℕ) (level : ℕ → ℕ → ℕ) (entry : ℕ → ℕ) → ToldBeside rounds j list step level → ToldBeside rounds j list step (changed level j entry)
beside_level rounds j list step level entry others p other = subst (λ (l : ℕ → ℕ). Tells rounds (goal_at list p) AtRest (step p) l) (sym (changed_else level j entry p other)) (others p other)

raised_told : (rounds : ℕ) (line : Line) (mind : MindOf StepMap) (all : StepMap) (level : ℕ → ℕ → ℕ) (i entry : ℕ) → ToldBeside rounds mind.process mind.goals (all i) level → Tells rounds (current_goal mind) (stage_of line) entry (level mind.process) → ToldBy rounds (goes_on line mind).mind (changed_pair all i mind.process entry i) level
raised_told rounds line mind all level i entry others own =
    subst (λ (row : ℕ → ℕ). ToldBy rounds (goes_on line mind).mind row level) (sym (changed_here all i (changed (all i) mind.process entry) i refl))
    (told_by rounds (goes_on line mind).mind (changed (all i) mind.process entry) level (beside_step rounds mind.process mind.goals (all i) level entry others)
    (subst (λ (s : ℕ). Tells rounds (current_goal mind) (stage_of line) s (level mind.process)) (sym (changed_here (all i) mind.process entry mind.process refl)) own))

level_told : (rounds : ℕ) (line : Line) (mind : MindOf StepMap) (step : ℕ → ℕ) (all : ℕ → ℕ → ℕ → ℕ) (i k entry : ℕ) → ToldBeside rounds mind.process mind.goals step (all i) → Tells rounds (current_goal mind) (stage_of line) (step mind.process) (changed (all i mind.process) k entry) → ToldBy rounds (goes_on line mind).mind step (changed_triple all i mind.process k entry i)
level_told rounds line mind step all i k entry others own =
    let new = changed (all i mind.process) k entry in
    subst (λ (row : ℕ → ℕ → ℕ). ToldBy rounds (goes_on line mind).mind step row) (sym (changed_here all i (changed (all i) mind.process new) i refl))
    (told_by rounds (goes_on line mind).mind step (changed (all i) mind.process new) (beside_level rounds mind.process mind.goals step (all i) new others)
    (subst (λ (l : ℕ → ℕ). Tells rounds (current_goal mind) (stage_of line) (step mind.process) l) (sym (changed_here (all i) mind.process new mind.process refl)) own))

pub each_at_rest : (rounds : ℕ) (j : ℕ) (list : List Goal) (step : ℕ → ℕ) (level : ℕ → ℕ → ℕ) → ToldBeside rounds j list step level → Tells rounds (goal_at list j) AtRest (step j) (level j) → (p : ℕ) → Tells rounds (goal_at list p) AtRest (step p) (level p)
each_at_rest rounds j list step level others own p = dite (ℕ_discrete p j) (λ (e : p ≡ j). subst (λ (q : ℕ). Tells rounds (goal_at list q) AtRest (step q) (level q)) (sym e) own) (λ (n : p ≢ j). others p n)

-- ---- all lines

pub sweep_below : (spec : RoomSpec) (mind : MindOf StepMap) → IsMind spec (worded (sizes_in spec) mind) → mind.process < length mind.goals
sweep_below spec mind is = let long = is.goals in let less = is.process in omega arith

-- the goal of its turn is of one of the rounds
pub goal_range : (spec : RoomSpec) (mind : MindOf StepMap) → IsMind spec (worded (sizes_in spec) mind) → current_round mind ≤ spec.rounds
goal_range spec mind is = round_most (sizes_in spec) (current_goal mind) (is.rounds mind.process is.process)

-- a simulator leaves level 1
left_other : (saw_two : Bool) → left_level saw_two ≢ 1
left_other true left = omega arith
left_other false left = omega arith

pub told_line : (line : Line) (spec : RoomSpec) (fields : Fields) (i : ℕ) (mind : MindOf StepMap) → StandsAt line spec fields i mind
    → ToldBy spec.rounds (taken_on line spec fields mind.process (current_round mind) (counted mind)).mind ((stored_on line spec fields i mind.process (current_round mind) (counted mind)).step i) ((stored_on line spec fields i mind.process (current_round mind) (counted mind)).level i)
told_line Rest spec fields i mind at = next_told spec fields i mind (each_at_rest spec.rounds mind.process mind.goals (fields.step i) (fields.level i) at.others at.own) (next_process mind.goals mind.process) at.moves
told_line Raise spec fields i mind at =
    raised_told spec.rounds Snap (counted mind) fields.step (fields.level i) i (fields.step i mind.process + 1) at.others (tells_raised spec.rounds (current_goal mind) (fields.step i mind.process) (fields.level i mind.process) at.own)
told_line Snap spec fields i mind at =
    let into = with_loaded spec fields.step (counted mind) in
    let goes : (line : Line) (one : MindOf StepMap) → ToldBeside spec.rounds one.process one.goals (fields.step i) (fields.level i) → Tells spec.rounds (current_goal one) (stage_of line) (fields.step i one.process) (fields.level i one.process) → ToldBy spec.rounds (goes_on line one).mind (fields.step i) (fields.level i) = goes_told spec (fields.step i) (fields.level i) in
    snapped_by (λ (taken : TakenOf StepMap). ToldBy spec.rounds taken.mind (fields.step i) (fields.level i)) spec into (is_same_collect spec into)
    (goes Snap (record into { word = into.word + 1 }) at.others at.own) (goes Show (record into { word = 0 }) at.others at.own) (goes Show (record into { word = 0; collects = into.collects + 1 }) at.others at.own) (goes Snap (record into { word = 0; collects = into.collects + 1; before = into.snapshot }) at.others at.own)
told_line Show spec fields i mind at =
    showed_by (λ (taken : TakenOf StepMap). ToldBy spec.rounds taken.mind (fields.step i) (fields.level i)) spec (counted mind)
    (goes_told spec (fields.step i) (fields.level i) Show (record (counted mind) { word = mind.word + 1 }) at.others at.own) (goes_told spec (fields.step i) (fields.level i) Enter (record (counted mind) { word = 0 }) at.others at.own)
told_line Enter spec fields i mind at =
    level_told spec.rounds Look (counted mind) (fields.step i) fields.level i (current_round mind) (fields.level i mind.process (current_round mind) + 1) at.others (tells_entered spec.rounds (current_goal mind) (fields.step i mind.process) (fields.level i mind.process) at.own)
told_line Look spec fields i mind at = goes_told spec (fields.step i) (fields.level i) (Leave (has_level 2 (levels_at spec fields mind.process (current_round mind)))) (counted mind) at.others at.own
told_line (Leave saw_two) spec fields i mind at =
    level_told spec.rounds Ask (counted mind) (fields.step i) fields.level i (current_round mind) (left_level saw_two) at.others (tells_left spec.rounds (current_goal mind) (fields.step i mind.process) (fields.level i mind.process) (left_level saw_two) (left_other saw_two) at.own)
told_line Ask spec fields i mind at =
    asked_told spec (fields.step i) (fields.level i) (chosen_at spec fields mind.process (current_round mind)) (counted mind) (sweep_below spec mind at.is_mind) at.others at.own
told_line (GetInput chosen) spec fields i mind at =
    let input = min (fields.value chosen mind.process 0) greatest in
    let write = first_value spec.protocol input mind.process (processes spec) in
    stayed_told spec (fields.step i) (fields.level i) Useful (first_write spec input mind.process) (with_input input (counted mind)) (sweep_below spec mind at.is_mind) at.others
    (tells_input spec.rounds (current_goal mind) write (fields.step i mind.process) (fields.level i mind.process) at.round at.own)
told_line (GetView chosen) spec fields i mind at =
    let into = with_loaded spec (fields.view chosen mind.process (current_round mind)) (counted mind) in
    got_view_by (λ (taken : TakenOf StepMap). ToldBy spec.rounds taken.mind (fields.step i) (fields.level i)) spec into (entry_of_steps spec into.snapshot) chosen
    (goes_told spec (fields.step i) (fields.level i) (GetView chosen) (record into { word = into.word + 1 }) at.others at.own)
    (gathered_told spec (fields.step i) (fields.level i) (entry_of_steps spec into.snapshot) [] (record into { word = 0 }) (sweep_below spec mind at.is_mind) (goal_range spec mind at.is_mind) at.others at.own)
told_line Values spec fields i mind at =
    gathered_told spec (fields.step i) (fields.level i) (entry_of_steps spec mind.snapshot) (mind.entries ++ Some (min (shown_value spec fields mind.snapshot (length mind.entries)) greatest) ∷ []) (counted mind) (sweep_below spec mind at.is_mind) (goal_range spec mind at.is_mind) at.others at.own
told_line (Out decision) spec fields i mind at =
    ended_told spec (fields.step i) (fields.level i) Useful goals.Done (with_decision decision (counted mind)) (sweep_below spec mind at.is_mind) at.others (tells_decided spec.rounds (current_goal mind) (fields.step i mind.process) (fields.level i mind.process) at.own)
