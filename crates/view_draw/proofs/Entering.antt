-- A simulator that is inside an agreement has entered it by a step that is drawn, and has left none since.
use Rattle.std.proofs.Common.{◌≡◌, ◌≢◌, ◌∙◌, ◌⊎◌, inl, inr, ℕ, zero, suc, ◌+◌, ◌<◌, ◌==◌, ◌&&◌, ◌||◌, Bool, true, false, cond, Contains, List, [], ◌∷◌, ◌++◌, Option, Some, None, ap, ap₂, get_or, length, map, ne_eqb, refl, subst, sym, arith}
use Rattle.std.specs.Prelude.{min, nat_lt}
use Rattle.protocol_lang.specs.Numbers.{greatest}
use Rattle.std.specs.List.{list_any}
use Rattle.std.proofs.lemmas.List.{append_assoc, get_or-set_other, get_or-set_same}
use Rattle.std.proofs.lemmas.List.Elements.{Contains-append_left, Contains-push}
use Rattle.std.proofs.lemmas.List.Folds.{list_any-append}
use Rattle.std.proofs.lemmas.List.FromFn.{get_or-map-range_with_len}
use mathlib.Core.Logic.{dite}
use native.Mathlib.Decide.{ℕ_discrete}
use Rattle.protocol_lang.specs.Meaning.{next_action}
use Rattle.protocol_lang.specs.declared.meaning.Action.{Action}
use Rattle.protocol_lang.specs.declared.meaning.Action.TheVariants as actions
use Rattle.room_spec.specs.Rooms.{RoomSpec, processes}
use Rattle.room_spec.specs.Sizes.{memory_words, sizes_in}
use Rattle.simulator.specs.declared.goal.Goal.{Goal}
use Rattle.simulator.specs.declared.goal.Goal.TheVariants as goals
use Rattle.simulator.specs.declared.line.Line.{Line}
use Rattle.simulator.specs.declared.line.Line.TheVariants.{Rest, Raise, Snap, Show, Enter, Look, Leave, Ask, GetInput, GetView, Values, Out}
use Rattle.simulator.specs.declared.operation.Move.{Move}
use Rattle.simulator.specs.Minds.{MindState, current_input, current_round, goal_at, next_process, opening_mind}
use Rattle.simulator.specs.Moves.{answer_of, chosen_in, entry_in, is_again, loaded, move_of, taken, taken_at}
use Rattle.simulator.specs.Sweeps.{SweepState, is_resting, opening_sweep, works_on}
use Rattle.simulator.specs.Turns.{TakenOf, acted, asked, begun, collected, counted, gathered, gathered_all, gets_in, goes_on, got_view, on_word, opened, opened_at, padded, scanned, showed, snapped, words_in, most_collects}
use Rattle.room_core.specs.Agreements.{IsInside}
use Rattle.room_core.specs.Calls.{RoomState, configuration_of}
use Rattle.room_core.specs.Rooms.{Configuration, HasLine, IsShaped, crashed_at, crashed_by, mind_at, opening, stepped}
use Rattle.run_columns.specs.declared.mark.StepKind.TheVariants as kinds
use Rattle.run_columns.specs.declared.mark.Mark.{Mark}
use Rattle.run_columns.specs.declared.mark.Mark.TheVariants.{Step, Crash}
use Rattle.run_columns.specs.declared.mark.Step.{Step as StepMark}
use Rattle.run_columns.specs.Seen.{kind_of, step_mark}
use Rattle.simulator_lanes.specs.Unsafe.{is_passage, passes}
use Rattle.view_draw.specs.Seen.{IsMarkOf}

-- ---- lines

-- after this a simulator is outside
record IsOutside (taken : TakenOf (List ℕ)) : Type 0 where
  line : IsInside taken.mind.line → ⊥

either : (b : Bool) (one other : TakenOf (List ℕ)) → IsOutside one → IsOutside other → IsOutside (cond b one other)
either true one other left right = left
either false one other left right = right

next_word : (spec : RoomSpec) (line : Line) (mind : MindState) (last : TakenOf (List ℕ)) → (IsInside line → ⊥) → IsOutside last → IsOutside (on_word spec line mind last)
next_word spec line mind last here there = either (nat_lt (mind.word + 1) (words_in spec)) (goes_on line (record mind { word = mind.word + 1 })) last (record { line = here }) there

collected_outside : (spec : RoomSpec) (same : Bool) (mind : MindState) → IsOutside (collected spec same mind)
collected_outside spec same mind = either ((same && nat_lt 1 mind.collects) || (mind.collects == most_collects spec)) (goes_on Show mind) (goes_on Snap (record mind { before = mind.snapshot })) (record { line = λ inside. inside }) (record { line = λ inside. inside })

scanned_outside : (spec : RoomSpec) (same : Bool) (mind : MindState) → IsOutside (scanned spec same mind)
scanned_outside spec same mind = either (words_in spec == 1) (goes_on Show mind) (collected spec same (record mind { collects = mind.collects + 1 })) (record { line = λ inside. inside }) (collected_outside spec same (record mind { collects = mind.collects + 1 }))

snapped_outside : (spec : RoomSpec) (same : Bool) (mind : MindState) → IsOutside (snapped spec same mind)
snapped_outside spec same mind = next_word spec Snap mind (scanned spec same (record mind { word = 0 })) (λ inside. inside) (scanned_outside spec same (record mind { word = 0 }))

showed_outside : (spec : RoomSpec) (mind : MindState) → IsOutside (showed spec mind)
showed_outside spec mind = next_word spec Show mind (goes_on Enter (record mind { word = 0 })) (λ inside. inside) (record { line = λ inside. inside })

gets_outside : (round chosen : ℕ) (mind : MindState) → IsOutside (goes_on (gets_in round chosen) mind)
gets_outside zero chosen mind = record { line = λ inside. inside }
gets_outside (suc round) chosen mind = record { line = λ inside. inside }

asked_outside : (chosen : Option ℕ) (mind : MindState) → IsOutside (asked chosen mind)
asked_outside None mind = record { line = λ inside. inside }
asked_outside (Some i) mind = gets_outside (current_round mind) i mind

acted_outside : (spec : RoomSpec) (action : Action) (mind : MindState) → IsOutside (acted spec action mind)
acted_outside spec (actions.Write value) mind = record { line = λ inside. inside }
acted_outside spec (actions.Decide decision) mind = record { line = λ inside. inside }

gathered_outside : (spec : RoomSpec) (mind : MindState) → IsOutside (gathered_all spec mind)
gathered_outside spec mind =
    let action = next_action spec.protocol (current_input spec mind) mind.process (current_round mind) mind.entries in
    either (nat_lt (length mind.entries) (processes spec)) (goes_on Values mind) (acted spec action mind) (record { line = λ inside. inside }) (acted_outside spec action mind)

gathered_by : (row : ℕ → ℕ) (spec : RoomSpec) (entries : List (Option ℕ)) (mind : MindState) → IsOutside (gathered row spec entries mind)
gathered_by row spec entries mind = gathered_outside spec (record mind { entries = padded row (processes spec) entries })

viewed_outside : (row : ℕ → ℕ) (spec : RoomSpec) (chosen : ℕ) (mind : MindState) → IsOutside (got_view row spec chosen mind)
viewed_outside row spec chosen mind = next_word spec (GetView chosen) mind (gathered row spec [] (record mind { word = 0 })) (λ inside. inside) (gathered_by row spec [] (record mind { word = 0 }))

opened_goal : (goal : Goal) (chosen : Option ℕ) (mind : MindState) → IsOutside (opened_at goal chosen mind)
opened_goal (goals.Write round value) chosen mind = record { line = λ inside. inside }
opened_goal (goals.Ask round) chosen mind = asked_outside chosen mind
opened_goal (goals.Propose value) chosen mind = record { line = λ inside. inside }
opened_goal goals.AskInput chosen mind = asked_outside chosen mind
opened_goal goals.Done chosen mind = record { line = λ inside. inside }
opened_goal goals.Spent chosen mind = record { line = λ inside. inside }

opened_outside : (process chosen : Option ℕ) (mind : MindState) → IsOutside (opened process chosen mind)
opened_outside None chosen mind = record { line = λ inside. inside }
opened_outside (Some process) chosen mind = opened_goal (goal_at mind.goals process) chosen (begun process mind)

-- only entering an agreement and looking leave a simulator inside
leads_inside : (line : Line) (spec : RoomSpec) (mind : MindState) (answer : ℕ) → IsInside (taken_at line spec mind answer).mind.line → (line ≡ Enter) ⊎ (line ≡ Look)
leads_inside Rest spec mind answer inside = absurd ((opened_outside (next_process mind.goals mind.process) (chosen_in spec answer) mind).line inside)
leads_inside Raise spec mind answer inside = absurd inside
leads_inside Snap spec mind answer inside = absurd ((snapped_outside spec (is_again (loaded answer mind)) (loaded answer mind)).line inside)
leads_inside Show spec mind answer inside = absurd ((showed_outside spec mind).line inside)
leads_inside Enter spec mind answer inside = inl refl
leads_inside Look spec mind answer inside = inr refl
leads_inside (Leave saw_two) spec mind answer inside = absurd inside
leads_inside Ask spec mind answer inside = absurd ((asked_outside (chosen_in spec answer) mind).line inside)
leads_inside (GetInput chosen) spec mind answer inside = absurd inside
leads_inside (GetView chosen) spec mind answer inside = absurd ((viewed_outside (entry_in spec (loaded answer mind).snapshot) spec chosen (loaded answer mind)).line inside)
leads_inside Values spec mind answer inside = absurd ((gathered_by (entry_in spec mind.snapshot) spec (mind.entries ++ Some (min answer greatest) ∷ []) mind).line inside)
leads_inside (Out decision) spec mind answer inside = absurd inside

-- ---- the marks of one simulator

-- It has entered an agreement on this process by one of these steps, and has left none since; if it has crashed, it did so there.
pub record HasEntered (i process : ℕ) (crashed : Bool) (marks : List Mark) : Type 0 where
  pub before : List Mark
  pub entry : StepMark
  pub since : List Mark
  pub marks_are : marks ≡ before ++ Step entry ∷ since
  pub enters : entry.kind ≡ kinds.Enter
  pub by : entry.simulator ≡ i
  pub on : entry.process ≡ process
  pub stays : list_any (passes i) since ≡ false
  pub crashes : crashed ≡ true → Contains since (Crash i)

longer : (before : List Mark) (entry : StepMark) (since marks : List Mark) (mark : Mark) → marks ≡ before ++ Step entry ∷ since → marks ++ mark ∷ [] ≡ before ++ Step entry ∷ (since ++ mark ∷ [])
longer before entry since marks mark are = ap (λ (l : List Mark). l ++ mark ∷ []) are ∙ append_assoc before (Step entry ∷ since) (mark ∷ [])

none_more : (i : ℕ) (since : List Mark) (mark : Mark) → list_any (passes i) since ≡ false → passes i mark ≡ false → list_any (passes i) (since ++ mark ∷ []) ≡ false
none_more i since mark none aside = list_any-append (passes i) since (mark ∷ []) ∙ ap₂ (λ (one other : Bool). one || (other || false)) none aside

-- something else happens
goes_on_inside : (i process : ℕ) (crashed : Bool) (marks : List Mark) (mark : Mark) → passes i mark ≡ false → HasEntered i process crashed marks → HasEntered i process crashed (marks ++ mark ∷ [])
goes_on_inside i process crashed marks mark aside has = record {
  before = has.before;
  entry = has.entry;
  since = has.since ++ mark ∷ [];
  marks_are = longer has.before has.entry has.since marks mark has.marks_are;
  enters = has.enters;
  by = has.by;
  on = has.on;
  stays = none_more i has.since mark has.stays aside;
  crashes = λ is. Contains-append_left has.since (mark ∷ []) (Crash i) (has.crashes is);
}

-- it crashes
crashes_inside : (i process : ℕ) (crashed after : Bool) (marks : List Mark) → HasEntered i process crashed marks → HasEntered i process after (marks ++ Crash i ∷ [])
crashes_inside i process crashed after marks has = record {
  before = has.before;
  entry = has.entry;
  since = has.since ++ Crash i ∷ [];
  marks_are = longer has.before has.entry has.since marks (Crash i) has.marks_are;
  enters = has.enters;
  by = has.by;
  on = has.on;
  stays = none_more i has.since (Crash i) has.stays refl;
  crashes = λ is. Contains-push has.since (Crash i);
}

-- ---- a step that is drawn

mind_is : (sweeps : List SweepState) (i : ℕ) (first : SweepState) → get_or (map (λ (sweep : SweepState). sweep.mind) sweeps) i first.mind ≡ (get_or sweeps i first).mind
mind_is [] i first = refl
mind_is (sweep ∷ sweeps) zero first = refl
mind_is (sweep ∷ sweeps) (suc i) first = mind_is sweeps i first

record IsStepBy (mind : MindState) (i : ℕ) (mark : Mark) : Type 0 where
  step : StepMark
  is : mark ≡ Step step
  by : step.simulator ≡ i
  operation : Move
  kind : step.kind ≡ kind_of mind.line operation
  on : is_resting mind.line ≡ false → step.process ≡ mind.process

works_in_turn : (mind : MindState) (process : ℕ) → works_on mind ≡ Some process → is_resting mind.line ≡ false → process ≡ mind.process
works_in_turn mind process works resting =
    let some : Some mind.process ≡ Some process = sym (ap (λ (b : Bool). cond b (next_process mind.goals mind.process) (Some mind.process)) resting) ∙ works in
    cc

step_by : (room : RoomState) (i : ℕ) (mark : Mark) → i < 255 → (mind_at (configuration_of room) i).process < 255 → IsMarkOf room i mark → IsStepBy (mind_at (configuration_of room) i) i mark
step_by room i mark low small is =
    let next = is.is_step.next in
    let same = mind_is room.sweeps i (opening_sweep room.spec i) in
    record {
      step = step_mark (memory_words (sizes_in room.spec)) is.step;
      is = is.mark_is;
      by = omega (arith, next.simulator, low);
      operation = is.step.operation;
      kind = ap (λ (line : Line). kind_of line is.step.operation) (next.line ∙ ap (λ (mind : MindState). mind.line) (sym same));
      on = λ resting.
          let process = works_in_turn (mind_at (configuration_of room) i) is.step.process (subst (λ (mind : MindState). works_on mind ≡ Some is.step.process) (sym same) next.process) resting in
          omega (arith, process, small);
    }

-- a step of another simulator
another : (k i : ℕ) (mark : Mark) (step : StepMark) → mark ≡ Step step → step.simulator ≡ i → k ≢ i → passes k mark ≡ false
another k i mark step is by apart =
    ap (passes k) is ∙ ap (λ (b : Bool). b && is_passage step.kind) (ne_eqb step.simulator k (λ same. apart (sym same ∙ by)))

both_false : (one other : Bool) → other ≡ false → (one && other) ≡ false
both_false true other is = is
both_false false other is = refl

-- one that looks
looks : (k : ℕ) (mark : Mark) (step : StepMark) (operation : Move) (line : Line) → mark ≡ Step step → step.kind ≡ kind_of line operation → line ≡ Look → passes k mark ≡ false
looks k mark step operation line is kind look =
    ap (passes k) is ∙ both_false (step.simulator == k) (is_passage step.kind) (ap is_passage (kind ∙ ap (λ (l : Line). kind_of l operation) look))

process_kept : (line : Line) (spec : RoomSpec) (mind : MindState) (answer : ℕ) → (line ≡ Enter) ⊎ (line ≡ Look) → (taken_at line spec mind answer).mind.process ≡ mind.process
process_kept line spec mind answer (inl is) = subst (λ (l : Line). (taken_at l spec mind answer).mind.process ≡ mind.process) (sym is) refl
process_kept line spec mind answer (inr is) = subst (λ (l : Line). (taken_at l spec mind answer).mind.process ≡ mind.process) (sym is) refl

enters_now : (mind : MindState) (i process : ℕ) (crashed : Bool) (marks : List Mark) (mark : Mark) → IsStepBy mind i mark → mind.line ≡ Enter → process ≡ mind.process → crashed ≡ false → HasEntered i process crashed (marks ++ mark ∷ [])
enters_now mind i process crashed marks mark drawn line same alive = record {
  before = marks;
  entry = drawn.step;
  since = [];
  marks_are = ap (λ (m : Mark). marks ++ m ∷ []) drawn.is;
  enters = drawn.kind ∙ ap (λ (l : Line). kind_of l drawn.operation) line;
  by = drawn.by;
  on = drawn.on (ap is_resting line) ∙ sym same;
  stays = refl;
  crashes = λ is. absurd (let wrong : true ≡ false = sym is ∙ alive in cc);
}

-- ---- all simulators of a room

-- each that is inside an agreement has entered it
abbrev pub AreEntered : List Mark → Configuration → Type 0
AreEntered marks room = (k : ℕ) → k < room.spec.simulators → IsInside (mind_at room k).line → HasEntered k (mind_at room k).process (crashed_at room k) marks

pub none_entered : (spec : RoomSpec) → AreEntered [] (opening spec)
none_entered spec k below inside =
    let first = get_or-map-range_with_len (opening_mind spec) 0 spec.simulators k k (opening_mind spec k) below (omega arith) in
    absurd (subst (λ (mind : MindState). IsInside mind.line) first inside)

abbrev answer_to : Configuration → ℕ → ℕ
answer_to room i = answer_of (move_of room.spec (mind_at room i)) room.words

abbrev mind_after : Configuration → ℕ → MindState
mind_after room i = (taken room.spec (mind_at room i) (answer_to room i)).mind

-- the simulator that takes the step
own_entered : (marks : List Mark) (room : Configuration) (i : ℕ) (mark : Mark) → IsStepBy (mind_at room i) i mark → crashed_at room i ≡ false → (IsInside (mind_at room i).line → HasEntered i (mind_at room i).process (crashed_at room i) marks)
    → IsInside (mind_after room i).line → HasEntered i (mind_after room i).process (crashed_at room i) (marks ++ mark ∷ [])
own_entered marks room i mark drawn alive before inside = by (leads_inside (mind_at room i).line room.spec (counted (mind_at room i)) (answer_to room i) inside)
  where
    by : ((mind_at room i).line ≡ Enter) ⊎ ((mind_at room i).line ≡ Look) → HasEntered i (mind_after room i).process (crashed_at room i) (marks ++ mark ∷ [])
    by (inl enter) = enters_now (mind_at room i) i (mind_after room i).process (crashed_at room i) marks mark drawn enter (process_kept (mind_at room i).line room.spec (counted (mind_at room i)) (answer_to room i) (inl enter)) alive
    by (inr look) =
        subst (λ (process : ℕ). HasEntered i process (crashed_at room i) (marks ++ mark ∷ [])) (sym (process_kept (mind_at room i).line room.spec (counted (mind_at room i)) (answer_to room i) (inr look)))
        (goes_on_inside i (mind_at room i).process (crashed_at room i) marks mark (looks i mark drawn.step drawn.operation (mind_at room i).line drawn.is drawn.kind look)
        (before (subst IsInside (sym look) tt)))

pub step_entered : (marks : List Mark) (room : RoomState) (i : ℕ) (mark : Mark) → IsShaped (configuration_of room) → HasLine (configuration_of room) i → IsMarkOf room i mark
    → AreEntered marks (configuration_of room) → AreEntered (marks ++ mark ∷ []) (stepped (configuration_of room) i)
step_entered marks state i mark shape may is_mark each k below inside =
    let room = configuration_of state in
    let low : i < 255 = omega (arith, may.alive.below, shape.limits.shape.m_range.1) in
    let small : (mind_at room i).process < 255 = omega (arith, (shape.each i may.alive.below).process, shape.limits.shape.n_range.1) in
    let drawn = step_by state i mark low small is_mark in
    dite (ℕ_discrete k i)
    (λ (e : k ≡ i).
    let within : i < length room.minds = omega (arith, may.alive.below, shape.minds) in
    let now : mind_at (stepped room i) i ≡ mind_after room i = get_or-set_same room.minds i (mind_after room i) (opening_mind room.spec i) within in
    subst (λ (a : ℕ). HasEntered a (mind_at (stepped room i) a).process (crashed_at (stepped room i) a) (marks ++ mark ∷ [])) (sym e)
    (subst (λ (mind : MindState). HasEntered i mind.process (crashed_at room i) (marks ++ mark ∷ [])) (sym now)
    (own_entered marks room i mark drawn may.alive.alive (each i may.alive.below)
    (subst (λ (mind : MindState). IsInside mind.line) now (subst (λ (a : ℕ). IsInside (mind_at (stepped room i) a).line) e inside)))))
    (λ (apart : k ≢ i).
    let same : mind_at (stepped room i) k ≡ mind_at room k = get_or-set_other room.minds i k (mind_after room i) (opening_mind room.spec k) apart in
    subst (λ (mind : MindState). HasEntered k mind.process (crashed_at room k) (marks ++ mark ∷ [])) (sym same)
    (goes_on_inside k (mind_at room k).process (crashed_at room k) marks mark (another k i mark drawn.step drawn.is drawn.by apart)
    (each k below (subst (λ (mind : MindState). IsInside mind.line) same inside))))

pub crash_entered : (marks : List Mark) (room : Configuration) (i : ℕ) → AreEntered marks room → AreEntered (marks ++ Crash i ∷ []) (crashed_by room i)
crash_entered marks room i each k below inside = dite (ℕ_discrete k i)
    (λ (e : k ≡ i).
    subst (λ (a : ℕ). HasEntered k (mind_at room k).process (crashed_at (crashed_by room i) k) (marks ++ Crash a ∷ [])) e
    (crashes_inside k (mind_at room k).process (crashed_at room k) (crashed_at (crashed_by room i) k) marks (each k below inside)))
    (λ (apart : k ≢ i).
    let same : crashed_at (crashed_by room i) k ≡ crashed_at room k = get_or-set_other room.crashed i k true false apart in
    subst (λ (crashed : Bool). HasEntered k (mind_at room k).process crashed (marks ++ Crash i ∷ [])) (sym same)
    (goes_on_inside k (mind_at room k).process (crashed_at room k) marks (Crash i) refl (each k below inside)))
