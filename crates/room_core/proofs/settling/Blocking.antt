-- A simulator that runs alone: the agreements for which it has asked in vain stay unresolved.
use Rattle.std.proofs.Common.{◌≡◌, ◌≢◌, ℕ, ◌+◌, ◌<◌, ◌≤◌, min, Bool, true, false, cond, ltb, List, [], ◌∷◌, ◌++◌, length, map, Option, Some, None, refl, sym, ap, ◌∙◌, subst, arith}
use Rattle.std.specs.List.{range_with_len}
use Rattle.protocol_lang.specs.declared.meaning.Action.{Action}
use Rattle.protocol_lang.specs.declared.meaning.Action.TheVariants as actions
use Rattle.protocol_lang.specs.Meaning.{next_action}
use Rattle.protocol_lang.specs.Numbers.{greatest}
use Rattle.room_spec.specs.Rooms.{RoomSpec, processes}
use Rattle.safe_agreement.specs.Levels.{left_level, resolved_of}
use Rattle.simulator.specs.declared.goal.Goal.{Goal}
use Rattle.simulator.specs.declared.goal.Goal.TheVariants as goals
use Rattle.simulator.specs.declared.line.Line.{Line}
use Rattle.simulator.specs.declared.line.Line.TheVariants.{Rest, Raise, Snap, Show, Enter, Look, Leave, Ask, GetInput, GetView, Values, Out}
use Rattle.simulator.specs.Minds.{MindOf, goal_at, current_goal, current_input, current_round, is_unfinished, round_of, next_process}
use Rattle.simulator.specs.Sweeps.{quiet_after}
use Rattle.simulator.specs.Turns.{TakenOf, counted, begun, goes_on, acted, decided, got_input, padded, gathered_all, gathered, opened_at}
use Rattle.simulator.proofs.CallerLemmas.{next_is_left}
use Rattle.room_core.specs.Fields.{StepMap, Fields, changed_triple, chosen_at, entry_of_steps, shown_value}
use Rattle.room_core.specs.Tracks.{Counts, Counted, Inside}
use Rattle.room_core.specs.Fields.{is_same_collect, with_loaded}
use Rattle.room_core.proofs.fields.Wording.{got_view_by, showed_by, snapped_by}
use Rattle.room_core.proofs.fields.Lines.{stored_first_at, stored_first, stored_on, taken_first_at, taken_first, taken_on, StandsAt}
use Rattle.room_core.proofs.fields.Maps.{triple_else}
use Rattle.room_core.proofs.settling.Marks.{same_marks, IsBlockedCount, blocked_anew, blocked_begun, blocked_asked}
use Rattle.simulator.specs.Quiet.{AreAsksAtTheEnd, IsAsk, unfinished_from}

abbrev pub is_nothing : Option ℕ → Bool
is_nothing None = true
is_nothing (Some x) = false

-- nobody was chosen in the agreement on (j, k) so far
abbrev pub unresolved : RoomSpec → Fields → ℕ → ℕ → Bool
unresolved spec fields j k = is_nothing (chosen_at spec fields j k)

abbrev CountsOn : RoomSpec → Fields → TakenOf StepMap → ℕ → Type 0
CountsOn spec fields taken quiet = IsBlockedCount (unresolved spec fields) taken.mind (quiet_after taken.turn quiet)

module _ (spec : RoomSpec) (fields : Fields) (quiet : ℕ) where
  abbrev Counting : MindOf StepMap → Type 0
  Counting mind = IsBlockedCount (unresolved spec fields) mind quiet

  on_acted : (action : Action) (mind : MindOf StepMap) → Counting mind → CountsOn spec fields (acted spec action mind) quiet
  on_acted (actions.Write value) mind counts = blocked_anew (unresolved spec fields) (acted spec (actions.Write value) mind).mind
  on_acted (actions.Decide decision) mind counts = counts

  on_test : (b : Bool) (one other : TakenOf StepMap) → CountsOn spec fields one quiet → CountsOn spec fields other quiet → CountsOn spec fields (cond b one other) quiet
  on_test true one other is that = is
  on_test false one other is that = that

  on_gathered_all : (mind : MindOf StepMap) → Counting mind → CountsOn spec fields (gathered_all spec mind) quiet
  on_gathered_all mind counts =
      let action = next_action spec.protocol (current_input spec mind) mind.process (current_round mind) mind.entries in
      on_test (ltb (length mind.entries) (processes spec)) (goes_on Values mind) (acted spec action mind) counts (on_acted action mind counts)

  on_gathered : (row : ℕ → ℕ) (entries : List (Option ℕ)) (mind : MindOf StepMap) → Counting mind → CountsOn spec fields (gathered row spec entries mind) quiet
  on_gathered row entries mind counts = on_gathered_all (record mind { entries = padded row (processes spec) entries }) counts

  on_asked : (mind : MindOf StepMap) → mind.process < length mind.goals → is_unfinished (current_goal mind) ≡ true → Counting mind → CountsOn spec fields (taken_on Ask spec fields mind.process (current_round mind) mind) quiet
  on_asked mind place left counts = blocked_asked (unresolved spec fields) (chosen_at spec fields mind.process (current_round mind)) mind quiet (λ none. ap is_nothing none) place left counts

  -- the first line of a turn
  on_first_at : (goal : Goal) (j : ℕ) (mind : MindOf StepMap) → goal_at mind.goals j ≡ goal → next_process mind.goals mind.process ≡ Some j → j < length mind.goals → Counting mind → CountsOn spec fields (taken_first_at goal spec fields j mind) quiet
  on_first_at (goals.Write k value) j mind is found place counts =
      subst (λ (g : Goal). CountsOn spec fields (opened_at g None (begun j mind)) quiet) (sym is) (blocked_begun (unresolved spec fields) j mind quiet found counts)
  on_first_at (goals.Ask k) j mind is found place counts =
      subst (λ (g : Goal). CountsOn spec fields (opened_at g (chosen_at spec fields j k) (begun j mind)) quiet) (sym is)
      (subst (λ (r : ℕ). CountsOn spec fields (opened_at (goals.Ask k) (chosen_at spec fields j r) (begun j mind)) quiet) (ap round_of is)
      (on_asked (begun j mind) place (ap is_unfinished is) (blocked_begun (unresolved spec fields) j mind quiet found counts)))
  on_first_at (goals.Propose value) j mind is found place counts =
      subst (λ (g : Goal). CountsOn spec fields (opened_at g None (begun j mind)) quiet) (sym is) (blocked_begun (unresolved spec fields) j mind quiet found counts)
  on_first_at goals.AskInput j mind is found place counts =
      subst (λ (g : Goal). CountsOn spec fields (opened_at g (chosen_at spec fields j 0) (begun j mind)) quiet) (sym is)
      (subst (λ (r : ℕ). CountsOn spec fields (opened_at goals.AskInput (chosen_at spec fields j r) (begun j mind)) quiet) (ap round_of is)
      (on_asked (begun j mind) place (ap is_unfinished is) (blocked_begun (unresolved spec fields) j mind quiet found counts)))
  on_first_at goals.Done j mind is found place counts = counts
  on_first_at goals.Spent j mind is found place counts = counts

  on_first : (next : Option ℕ) (mind : MindOf StepMap) → next_process mind.goals mind.process ≡ next → mind.process ≤ length mind.goals → Counting mind → CountsOn spec fields (taken_first next spec fields mind) quiet
  on_first None mind found within counts = counts
  on_first (Some j) mind found within counts =
      let next = next_is_left mind.goals mind.process j within found in
      on_first_at (goal_at mind.goals j) j mind refl found next.below counts

  -- its store changes no level
  on_stored : (goal : Goal) (i j : ℕ) (taken : TakenOf StepMap) → CountsOn spec fields taken quiet → CountsOn spec (stored_first_at goal fields i j) taken quiet
  on_stored (goals.Write k value) i j taken counts = counts
  on_stored (goals.Ask k) i j taken counts = counts
  on_stored (goals.Propose value) i j taken counts = counts
  on_stored goals.AskInput i j taken counts = counts
  on_stored goals.Done i j taken counts = counts
  on_stored goals.Spent i j taken counts = counts

  on_rest : (next : Option ℕ) (i : ℕ) (mind : MindOf StepMap) → CountsOn spec fields (taken_first next spec fields mind) quiet → CountsOn spec (stored_first next fields i mind) (taken_first next spec fields mind) quiet
  on_rest None i mind counts = counts
  on_rest (Some j) i mind counts = on_stored (goal_at mind.goals j) i j (taken_first (Some j) spec fields mind) counts

-- ---- the levels that a line changes are of an agreement for which it doesn't ask

level_else : (spec : RoomSpec) (fields : Fields) (i j k entry s r : ℕ) → s ≢ j → unresolved spec fields s r ≡ unresolved spec (record fields { level = changed_triple fields.level i j k entry }) s r
level_else spec fields i j k entry s r other =
    let same : (a : ℕ) → fields.level a s r ≡ changed_triple fields.level i j k entry a s r = λ a. sym (triple_else fields.level i j k entry a s r (λ e h g. other h)) in
    λ t. is_nothing (resolved_of (map (λ a. same a t) (range_with_len 0 spec.simulators)))

no_ask : (rounds : ℕ) (goal : Goal) (step : ℕ) → Counts rounds goal Counted step → IsAsk goal → ⊥
no_ask rounds (goals.Write k value) step told is = is
no_ask rounds (goals.Ask k) step told is = told
no_ask rounds (goals.Propose value) step told is = is
no_ask rounds goals.AskInput step told is = told
no_ask rounds goals.Done step told is = is
no_ask rounds goals.Spent step told is = is

no_ask_inside : (rounds : ℕ) (goal : Goal) (step : ℕ) → Counts rounds goal Inside step → IsAsk goal → ⊥
no_ask_inside rounds (goals.Write k value) step told is = is
no_ask_inside rounds (goals.Ask k) step told is = told
no_ask_inside rounds (goals.Propose value) step told is = is
no_ask_inside rounds goals.AskInput step told is = told
no_ask_inside rounds goals.Done step told is = is
no_ask_inside rounds goals.Spent step told is = is

with_level : (spec : RoomSpec) (fields : Fields) (i k entry quiet : ℕ) (mind : MindOf StepMap) → (IsAsk (current_goal mind) → ⊥) → IsBlockedCount (unresolved spec fields) mind quiet
    → IsBlockedCount (unresolved spec (record fields { level = changed_triple fields.level i mind.process k entry })) mind quiet
with_level spec fields i k entry quiet mind other counts =
    let after = record fields { level = changed_triple fields.level i mind.process k entry } in
    subst (λ (l : List Goal). AreAsksAtTheEnd (unfinished_from l mind.process) quiet)
    (same_marks (unresolved spec fields) (unresolved spec after) 0 mind.goals (λ s is.
    level_else spec fields i mind.process k entry (0 + s) (round_of (goal_at mind.goals s)) (λ e. other (subst (λ (q : ℕ). IsAsk (goal_at mind.goals q)) (let zero_is : 0 + s ≡ s = omega arith in sym zero_is ∙ e) is)))) counts

module _ (spec : RoomSpec) (fields : Fields) (i : ℕ) where
  abbrev Counted_ : Line → Type 0
  Counted_ line =
      let mind = fields.mind i in
      CountsOn spec (stored_on line spec fields i mind.process (current_round mind) (counted mind)) (taken_on line spec fields mind.process (current_round mind) (counted mind)) (fields.quiet i)

  pub on_line : (line : Line) → StandsAt line spec fields i (fields.mind i) → IsBlockedCount (unresolved spec fields) (fields.mind i) (fields.quiet i) → Counted_ line
  on_line Rest at counts =
      let mind = counted (fields.mind i) in
      let within : mind.process ≤ length mind.goals = let s = at.is_mind.process in let n = at.is_mind.goals in omega arith in
      on_rest spec fields (fields.quiet i) (next_process mind.goals mind.process) i mind (on_first spec fields (fields.quiet i) (next_process mind.goals mind.process) mind refl within counts)
  on_line Raise at counts = counts
  on_line Snap at counts =
      let into = with_loaded spec fields.step (counted (fields.mind i)) in
      snapped_by (λ (taken : TakenOf StepMap). CountsOn spec fields taken (fields.quiet i)) spec into (is_same_collect spec into) counts counts counts counts
  on_line Show at counts = showed_by (λ (taken : TakenOf StepMap). CountsOn spec (stored_on Show spec fields i (fields.mind i).process (current_round (fields.mind i)) (counted (fields.mind i))) taken (fields.quiet i)) spec (counted (fields.mind i)) counts counts
  on_line Enter at counts =
      with_level spec fields i (current_round (fields.mind i)) (fields.level i (fields.mind i).process (current_round (fields.mind i)) + 1) (fields.quiet i) (fields.mind i) (no_ask spec.rounds (current_goal (fields.mind i)) (fields.step i (fields.mind i).process) at.own.counts) counts
  on_line Look at counts = counts
  on_line (Leave saw_two) at counts =
      with_level spec fields i (current_round (fields.mind i)) (left_level saw_two) (fields.quiet i) (fields.mind i) (no_ask_inside spec.rounds (current_goal (fields.mind i)) (fields.step i (fields.mind i).process) at.own.counts) counts
  on_line Ask at counts = on_asked spec fields (fields.quiet i) (counted (fields.mind i)) (let s = at.is_mind.process in let n = at.is_mind.goals in omega arith) at.open_at counts
  on_line (GetInput chosen) at counts = blocked_anew {S = StepMap} (unresolved spec fields) (got_input spec (fields.value chosen (fields.mind i).process 0) (counted (fields.mind i))).mind
  on_line (GetView chosen) at counts =
      let mind = fields.mind i in
      let into = with_loaded spec (fields.view chosen mind.process (current_round mind)) (counted mind) in
      got_view_by (λ (taken : TakenOf StepMap). CountsOn spec fields taken (fields.quiet i)) spec into (entry_of_steps spec into.snapshot) chosen counts (on_gathered spec fields (fields.quiet i) (entry_of_steps spec into.snapshot) [] (record into { word = 0 }) counts)
  on_line Values at counts =
      let mind = fields.mind i in
      on_gathered spec fields (fields.quiet i) (entry_of_steps spec mind.snapshot) (mind.entries ++ Some (min (shown_value spec fields mind.snapshot (length mind.entries)) greatest) ∷ []) (counted mind) counts
  on_line (Out decision) at counts = blocked_anew {S = StepMap} (unresolved spec fields) (decided decision (counted (fields.mind i))).mind
