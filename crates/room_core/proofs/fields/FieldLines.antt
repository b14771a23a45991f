-- A line keeps the numbers of the fields in range, and changes nothing of the other simulators.
use Rattle.std.proofs.Common.{◌≡◌, ◌≢◌, ℕ, ◌+◌, ◌≤◌, Bool, true, false, cond, ltb, List, [], ◌∷◌, ◌++◌, min, length, Option, Some, None, refl, arith}
use Rattle.protocol_lang.specs.Numbers.{greatest}
use Rattle.protocol_lang.specs.Meaning.{next_action}
use Rattle.protocol_lang.specs.declared.meaning.Action.{Action}
use Rattle.protocol_lang.specs.declared.meaning.Action.TheVariants as actions
use Rattle.room_spec.specs.Rooms.{RoomSpec, processes}
use Rattle.room_spec.specs.Sizes.{sizes_in}
use Rattle.safe_agreement.specs.Levels.{left_level}
use Rattle.sim_memory.specs.Steps.{AreWithin}
use Rattle.simulator.specs.declared.goal.Goal.{Goal}
use Rattle.simulator.specs.declared.goal.Goal.TheVariants as goals
use Rattle.simulator.specs.declared.line.Line.{Line}
use Rattle.simulator.specs.declared.line.Line.TheVariants.{Rest, Raise, Snap, Show, Enter, Look, Leave, Ask, GetInput, GetView, Values, Out}
use Rattle.simulator.specs.Minds.{MindOf, goal_at, current_goal, current_input, current_round, next_process}
use Rattle.simulator.specs.Turns.{counted, begun, TakenOf, goes_on, asked, acted, padded, gathered, opened_at}
use Rattle.room_core.specs.Fields.{StepMap, Fields, changed, changed_pair, changed_triple, chosen_at, entry_of_steps, shown_value, is_same_collect, with_loaded, with_shown}
use Rattle.room_core.specs.Tracks.{AreInRange}
use Rattle.room_core.proofs.fields.Maps.{changed_else, each_pair, each_triple}
use Rattle.room_core.proofs.fields.Tracks.{raised_below, outside, round_most}
use Rattle.room_core.proofs.fields.Snapshots.{part_within}
use Rattle.room_core.proofs.fields.Wording.{got_view_by, showed_by, snapped_by}
use Rattle.room_core.proofs.fields.Lines.{stored_first_at, stored_first, stored_on, taken_first_at, taken_first, taken_on, StandsAt}

-- ---- what a line of i leaves as it is

pub record IsStoreOf (i : ℕ) (fields after : Fields) : Type 0 where
  pub mind : after.mind ≡ fields.mind
  pub quiet : after.quiet ≡ fields.quiet
  pub crashed : after.crashed ≡ fields.crashed
  pub step : (a : ℕ) → a ≢ i → after.step a ≡ fields.step a
  pub level : (a : ℕ) → a ≢ i → after.level a ≡ fields.level a
  pub view : (a : ℕ) → a ≢ i → after.view a ≡ fields.view a
  pub value : (a : ℕ) → a ≢ i → after.value a ≡ fields.value a
  pub out : (a : ℕ) → a ≢ i → after.out a ≡ fields.out a

no_store : (fields : Fields) (i : ℕ) → IsStoreOf i fields fields
no_store fields i = record { mind = refl; quiet = refl; crashed = refl; step = λ a other. refl; level = λ a other. refl; view = λ a other. refl; value = λ a other. refl; out = λ a other. refl }

value_store : (fields : Fields) (i j k value : ℕ) → IsStoreOf i fields (record fields { value = changed_triple fields.value i j k value })
value_store fields i j k value = record { mind = refl; quiet = refl; crashed = refl; step = λ a other. refl; level = λ a other. refl; view = λ a other. refl; value = λ a other. changed_else fields.value i (changed_pair (fields.value i) j k value) a other; out = λ a other. refl }

first_store : (goal : Goal) (fields : Fields) (i j : ℕ) → IsStoreOf i fields (stored_first_at goal fields i j)
first_store (goals.Write k value) fields i j = value_store fields i j k value
first_store (goals.Ask k) fields i j = no_store fields i
first_store (goals.Propose value) fields i j = value_store fields i j 0 value
first_store goals.AskInput fields i j = no_store fields i
first_store goals.Done fields i j = no_store fields i
first_store goals.Spent fields i j = no_store fields i

next_store : (next : Option ℕ) (fields : Fields) (i : ℕ) (mind : MindOf StepMap) → IsStoreOf i fields (stored_first next fields i mind)
next_store None fields i mind = no_store fields i
next_store (Some j) fields i mind = first_store (goal_at mind.goals j) fields i j

level_store : (fields : Fields) (i j k level : ℕ) → IsStoreOf i fields (record fields { level = changed_triple fields.level i j k level })
level_store fields i j k level = record { mind = refl; quiet = refl; crashed = refl; step = λ a other. refl; level = λ a other. changed_else fields.level i (changed_pair (fields.level i) j k level) a other; view = λ a other. refl; value = λ a other. refl; out = λ a other. refl }

pub is_store : (line : Line) (spec : RoomSpec) (fields : Fields) (i j k : ℕ) (mind : MindOf StepMap) → IsStoreOf i fields (stored_on line spec fields i j k mind)
is_store Rest spec fields i j k mind = next_store (next_process mind.goals mind.process) fields i mind
is_store Raise spec fields i j k mind = record { mind = refl; quiet = refl; crashed = refl; step = λ a other. changed_else fields.step i (changed (fields.step i) j (fields.step i j + 1)) a other; level = λ a other. refl; view = λ a other. refl; value = λ a other. refl; out = λ a other. refl }
is_store Snap spec fields i j k mind = no_store fields i
is_store Show spec fields i j k mind = record { mind = refl; quiet = refl; crashed = refl; step = λ a other. refl; level = λ a other. refl; view = λ a other. changed_else fields.view i (changed_pair (fields.view i) j k (with_shown spec (fields.view i j k) mind)) a other; value = λ a other. refl; out = λ a other. refl }
is_store Enter spec fields i j k mind = level_store fields i j k (fields.level i j k + 1)
is_store Look spec fields i j k mind = no_store fields i
is_store (Leave saw_two) spec fields i j k mind = level_store fields i j k (left_level saw_two)
is_store Ask spec fields i j k mind = no_store fields i
is_store (GetInput chosen) spec fields i j k mind = no_store fields i
is_store (GetView chosen) spec fields i j k mind = no_store fields i
is_store Values spec fields i j k mind = no_store fields i
is_store (Out decision) spec fields i j k mind = record { mind = refl; quiet = refl; crashed = refl; step = λ a other. refl; level = λ a other. refl; view = λ a other. refl; value = λ a other. refl; out = λ a other. changed_else fields.out i (changed (fields.out i) j (decision + 1)) a other }

-- ---- the numbers of the fields

module _ (spec : RoomSpec) (fields : Fields) (range : AreInRange spec fields) where
  first_in_range : (goal : Goal) (i j : ℕ) → AreInRange spec (stored_first_at goal fields i j)
  first_in_range (goals.Write k value) i j = record { step = range.step; level = range.level; view = range.view }
  first_in_range (goals.Ask k) i j = range
  first_in_range (goals.Propose value) i j = record { step = range.step; level = range.level; view = range.view }
  first_in_range goals.AskInput i j = range
  first_in_range goals.Done i j = range
  first_in_range goals.Spent i j = range

  next_in_range : (next : Option ℕ) (i : ℕ) (mind : MindOf StepMap) → AreInRange spec (stored_first next fields i mind)
  next_in_range None i mind = range
  next_in_range (Some j) i mind = first_in_range (goal_at mind.goals j) i j

  level_in_range : (i j k level : ℕ) → level ≤ 2 → AreInRange spec (record fields { level = changed_triple fields.level i j k level })
  level_in_range i j k level low = record { step = range.step; level = each_triple (λ (x : ℕ). x ≤ 2) fields.level i j k level low range.level; view = range.view }

left_low : (saw_two : Bool) → left_level saw_two ≤ 2
left_low true = omega arith
left_low false = omega arith

pub in_range_line : (line : Line) (spec : RoomSpec) (fields : Fields) (i : ℕ) (mind : MindOf StepMap) → StandsAt line spec fields i mind → AreInRange spec (stored_on line spec fields i mind.process (current_round mind) (counted mind))
in_range_line Rest spec fields i mind at = next_in_range spec fields at.range (next_process mind.goals mind.process) i (counted mind)
in_range_line Raise spec fields i mind at =
    let room = raised_below (current_goal mind) spec.rounds (fields.step i mind.process) (fields.level i mind.process) (round_most (sizes_in spec) (current_goal mind) (at.is_mind.rounds mind.process at.is_mind.process)) at.own in
    record { step = each_pair (λ (x : ℕ). x ≤ spec.rounds) fields.step i mind.process (fields.step i mind.process + 1) (omega arith) at.range.step; level = at.range.level; view = at.range.view }
in_range_line Snap spec fields i mind at = at.range
in_range_line Show spec fields i mind at =
    record { step = at.range.step; level = at.range.level; view = each_triple (AreWithin (sizes_in spec)) fields.view i mind.process (current_round mind) (with_shown spec (fields.view i mind.process (current_round mind)) mind) (part_within (sizes_in spec) mind.word mind.snapshot (fields.view i mind.process (current_round mind)) at.snapshot (at.range.view i mind.process (current_round mind))) at.range.view }
in_range_line Enter spec fields i mind at =
    let none = outside spec.rounds (current_goal mind) (fields.step i mind.process) (fields.level i mind.process) at.own in
    level_in_range spec fields at.range i mind.process (current_round mind) (fields.level i mind.process (current_round mind) + 1) (omega arith)
in_range_line Look spec fields i mind at = at.range
in_range_line (Leave saw_two) spec fields i mind at =
    level_in_range spec fields at.range i mind.process (current_round mind) (left_level saw_two) (left_low saw_two)
in_range_line Ask spec fields i mind at = at.range
in_range_line (GetInput chosen) spec fields i mind at = at.range
in_range_line (GetView chosen) spec fields i mind at = at.range
in_range_line Values spec fields i mind at = at.range
in_range_line (Out decision) spec fields i mind at = record { step = at.range.step; level = at.range.level; view = at.range.view }

-- ---- the snapshot of the mind, and its collect before

abbrev pub AreBothWithin : RoomSpec → MindOf StepMap → Type 0
AreBothWithin spec mind = AreWithin (sizes_in spec) mind.before × AreWithin (sizes_in spec) mind.snapshot

module _ (spec : RoomSpec) (mind : MindOf StepMap) (within : AreBothWithin spec mind) where
  asked_within : (chosen : Option ℕ) → AreBothWithin spec (asked chosen mind).mind
  asked_within None = within
  asked_within (Some chosen) = within

  opened_at_within : (goal : Goal) (chosen : Option ℕ) → AreBothWithin spec (opened_at goal chosen mind).mind
  opened_at_within (goals.Write k value) chosen = within
  opened_at_within (goals.Ask k) chosen = asked_within chosen
  opened_at_within (goals.Propose value) chosen = within
  opened_at_within goals.AskInput chosen = asked_within chosen
  opened_at_within goals.Done chosen = within
  opened_at_within goals.Spent chosen = within

  acted_within : (action : Action) → AreBothWithin spec (acted spec action mind).mind
  acted_within (actions.Write value) = within
  acted_within (actions.Decide decision) = within

  all_within : (b : Bool) (action : Action) → AreBothWithin spec (cond b (goes_on Values mind) (acted spec action mind)).mind
  all_within true action = within
  all_within false action = acted_within action

gathered_within : (spec : RoomSpec) (row : ℕ → ℕ) (entries : List (Option ℕ)) (mind : MindOf StepMap) → AreBothWithin spec mind → AreBothWithin spec (gathered row spec entries mind).mind
gathered_within spec row entries mind within =
    let all = padded row (processes spec) entries in
    all_within spec (record mind { entries = all }) within (ltb (length all) (processes spec)) (next_action spec.protocol (current_input spec mind) mind.process (current_round mind) all)

first_within : (goal : Goal) (spec : RoomSpec) (fields : Fields) (j : ℕ) (mind : MindOf StepMap) → AreBothWithin spec mind → AreBothWithin spec (taken_first_at goal spec fields j mind).mind
first_within (goals.Write k value) spec fields j mind within = opened_at_within spec (begun j mind) within (goal_at mind.goals j) None
first_within (goals.Ask k) spec fields j mind within = opened_at_within spec (begun j mind) within (goal_at mind.goals j) (chosen_at spec fields j k)
first_within (goals.Propose value) spec fields j mind within = opened_at_within spec (begun j mind) within (goal_at mind.goals j) None
first_within goals.AskInput spec fields j mind within = opened_at_within spec (begun j mind) within (goal_at mind.goals j) (chosen_at spec fields j 0)
first_within goals.Done spec fields j mind within = within
first_within goals.Spent spec fields j mind within = within

next_within : (next : Option ℕ) (spec : RoomSpec) (fields : Fields) (mind : MindOf StepMap) → AreBothWithin spec mind → AreBothWithin spec (taken_first next spec fields mind).mind
next_within None spec fields mind within = within
next_within (Some j) spec fields mind within = first_within (goal_at mind.goals j) spec fields j mind within

pub snapshot_line : (line : Line) (spec : RoomSpec) (fields : Fields) (i : ℕ) (mind : MindOf StepMap) → StandsAt line spec fields i mind → AreBothWithin spec (taken_on line spec fields mind.process (current_round mind) (counted mind)).mind
snapshot_line Rest spec fields i mind at = next_within (next_process mind.goals mind.process) spec fields (counted mind) (at.before, at.snapshot)
snapshot_line Raise spec fields i mind at = (at.before, at.snapshot)
snapshot_line Snap spec fields i mind at =
    let into = with_loaded spec fields.step (counted mind) in
    let within = part_within (sizes_in spec) mind.word fields.step mind.snapshot (λ a p _ _. at.range.step a p) at.snapshot in
    snapped_by (λ (taken : TakenOf StepMap). AreBothWithin spec taken.mind) spec into (is_same_collect spec into) (at.before, within) (at.before, within) (at.before, within) (within, within)
snapshot_line Show spec fields i mind at = showed_by (λ (taken : TakenOf StepMap). AreBothWithin spec taken.mind) spec (counted mind) (at.before, at.snapshot) (at.before, at.snapshot)
snapshot_line Enter spec fields i mind at = (at.before, at.snapshot)
snapshot_line Look spec fields i mind at = (at.before, at.snapshot)
snapshot_line (Leave saw_two) spec fields i mind at = (at.before, at.snapshot)
snapshot_line Ask spec fields i mind at = asked_within spec (counted mind) (at.before, at.snapshot) (chosen_at spec fields mind.process (current_round mind))
snapshot_line (GetInput chosen) spec fields i mind at = (at.before, at.snapshot)
snapshot_line (GetView chosen) spec fields i mind at =
    let view = fields.view chosen mind.process (current_round mind) in
    let into = with_loaded spec view (counted mind) in
    let within = part_within (sizes_in spec) mind.word view mind.snapshot (at.range.view chosen mind.process (current_round mind)) at.snapshot in
    got_view_by (λ (taken : TakenOf StepMap). AreBothWithin spec taken.mind) spec into (entry_of_steps spec into.snapshot) chosen (at.before, within)
    (gathered_within spec (entry_of_steps spec into.snapshot) [] (record into { word = 0 }) (at.before, within))
snapshot_line Values spec fields i mind at =
    gathered_within spec (entry_of_steps spec mind.snapshot) (mind.entries ++ Some (min (shown_value spec fields mind.snapshot (length mind.entries)) greatest) ∷ []) (counted mind) (at.before, at.snapshot)
snapshot_line (Out decision) spec fields i mind at = (at.before, at.snapshot)
