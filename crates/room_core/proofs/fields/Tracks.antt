-- What a simulator's mind tells of its fields: how far it has counted each process, and where it stands in each agreement.
use Rattle.std.proofs.Common.{◌≡◌, ◌≢◌, ℕ, zero, suc, ◌+◌, ◌<◌, ◌≤◌, Bool, true, false, cond, eqb, ltb, List, length, get_or, set, refl, sym, ap, ◌∙◌, subst, arith}
use Rattle.std.proofs.lemmas.Bool.{eq-eqb, ne_eqb, ltb-false}
use Rattle.std.proofs.lemmas.List.{get_or-set_same, get_or-set_other}
use mathlib.Core.Logic.{dite}
use native.Mathlib.Decide.{ℕ_discrete}
use Rattle.room_spec.specs.Sizes.{Sizes}
use Rattle.simulator.specs.declared.goal.Goal.{Goal}
use Rattle.simulator.specs.declared.goal.Goal.TheVariants as goals
use Rattle.simulator.specs.declared.line.Line.{Line}
use Rattle.simulator.specs.declared.line.Line.TheVariants.{Rest}
use Rattle.simulator.specs.Minds.{MindOf, goal_at, current_goal, round_of}
use Rattle.simulator.specs.Turns.{after_write, asks_in}
use Rattle.simulator.specs.Ranges.{IsGoal}
use Rattle.room_core.specs.Fields.{StepMap, changed}
use Rattle.room_core.specs.Tracks.{Stage, AtRest, Stored, Counted, Inside, Past, stage_of, IsZeroFrom, NoOneBelow, Counts, Levels, Tells, stage_for, ToldBy}
use Rattle.room_core.proofs.fields.Maps.{changed_here, changed_else}

-- ---- levels, from line to line

zero_changed : (from round : ℕ) (level : ℕ → ℕ) (entry : ℕ) → round < from → IsZeroFrom from level → IsZeroFrom from (changed level round entry)
zero_changed from round level entry less none k after = changed_else level round entry k (λ e. omega arith) ∙ none k after

none_changed : (below round : ℕ) (level : ℕ → ℕ) (entry : ℕ) → below ≤ round → NoOneBelow below level → NoOneBelow below (changed level round entry)
none_changed below round level entry least none k before one = none k before (sym (changed_else level round entry k (λ e. omega arith)) ∙ one)

none_left : (round : ℕ) (level : ℕ → ℕ) (entry : ℕ) → entry ≢ 1 → NoOneBelow round level → NoOneBelow (round + 1) (changed level round entry)
none_left round level entry other none k before one = dite (ℕ_discrete k round)
    (λ (e : k ≡ round). other (sym (changed_here level round entry k e) ∙ one))
    (λ (n : k ≢ round). none k (omega arith) (sym (changed_else level round entry k n) ∙ one))

levels_entered : (step round : ℕ) (level : ℕ → ℕ) → step ≡ round → Levels Counted step level → Levels Inside step (changed level round (level round + 1))
levels_entered step round level same all =
    let none : level round ≡ 0 = all.0 round (omega arith) in (
      zero_changed (step + 1) round level (level round + 1) (omega arith) (λ k after. all.0 k (omega arith)),
      none_changed step round level (level round + 1) (omega arith) all.1,
      changed_here level round (level round + 1) step same ∙ ap (λ (x : ℕ). x + 1) none,
    )

levels_left : (step round : ℕ) (level : ℕ → ℕ) (entry : ℕ) → step ≡ round → entry ≢ 1 → Levels Inside step level → Levels Past step (changed level round entry)
levels_left step round level entry same other all = (
  zero_changed (step + 1) round level entry (omega arith) all.0,
  subst (λ (r : ℕ). NoOneBelow (step + 1) (changed level r entry)) same (none_left step level entry other all.1),
)

-- ---- step numbers, from line to line

counts_raised : (rounds : ℕ) (goal : Goal) (step : ℕ) → Counts rounds goal Stored step → Counts rounds goal Counted (step + 1)
counts_raised rounds (goals.Write k value) step told = told
counts_raised rounds (goals.Ask k) step told = absurd told
counts_raised rounds (goals.Propose value) step told = absurd told
counts_raised rounds goals.AskInput step told = absurd told
counts_raised rounds goals.Done step told = absurd told
counts_raised rounds goals.Spent step told = absurd told

counts_entered : (rounds : ℕ) (goal : Goal) (step : ℕ) → Counts rounds goal Counted step → Counts rounds goal Inside step
counts_entered rounds (goals.Write k value) step told = told
counts_entered rounds (goals.Ask k) step told = absurd told
counts_entered rounds (goals.Propose value) step told = told
counts_entered rounds goals.AskInput step told = absurd told
counts_entered rounds goals.Done step told = absurd told
counts_entered rounds goals.Spent step told = absurd told

counts_left : (rounds : ℕ) (goal : Goal) (step : ℕ) → Counts rounds goal Inside step → Counts rounds goal Past step
counts_left rounds (goals.Write k value) step told = told
counts_left rounds (goals.Ask k) step told = absurd told
counts_left rounds (goals.Propose value) step told = told
counts_left rounds goals.AskInput step told = absurd told
counts_left rounds goals.Done step told = absurd told
counts_left rounds goals.Spent step told = absurd told

-- the round of an open turn is one more than what is counted, and then the same
pub stored_round : (rounds : ℕ) (goal : Goal) (step : ℕ) → Counts rounds goal Stored step → step + 1 ≡ round_of goal
stored_round rounds (goals.Write k value) step told = told
stored_round rounds (goals.Ask k) step told = absurd told
stored_round rounds (goals.Propose value) step told = absurd told
stored_round rounds goals.AskInput step told = absurd told
stored_round rounds goals.Done step told = absurd told
stored_round rounds goals.Spent step told = absurd told

pub counted_round : (rounds : ℕ) (goal : Goal) (step : ℕ) → Counts rounds goal Counted step → step ≡ round_of goal
counted_round rounds (goals.Write k value) step told = told
counted_round rounds (goals.Ask k) step told = absurd told
counted_round rounds (goals.Propose value) step told = told
counted_round rounds goals.AskInput step told = absurd told
counted_round rounds goals.Done step told = absurd told
counted_round rounds goals.Spent step told = absurd told

pub inside_round : (rounds : ℕ) (goal : Goal) (step : ℕ) → Counts rounds goal Inside step → step ≡ round_of goal
inside_round rounds (goals.Write k value) step told = told
inside_round rounds (goals.Ask k) step told = absurd told
inside_round rounds (goals.Propose value) step told = told
inside_round rounds goals.AskInput step told = absurd told
inside_round rounds goals.Done step told = absurd told
inside_round rounds goals.Spent step told = absurd told

pub past_round : (rounds : ℕ) (goal : Goal) (step : ℕ) → Counts rounds goal Past step → step ≡ round_of goal
past_round rounds (goals.Write k value) step told = told
past_round rounds (goals.Ask k) step told = told
past_round rounds (goals.Propose value) step told = told
past_round rounds goals.AskInput step told = told
past_round rounds goals.Done step told = absurd told
past_round rounds goals.Spent step told = absurd told

-- a goal with a round of its own is of one of the rounds
pub round_most : (sizes : Sizes) (goal : Goal) → IsGoal sizes goal → round_of goal ≤ sizes.rounds
round_most sizes (goals.Write k value) range = range.1
round_most sizes (goals.Ask k) range = range.1
round_most sizes (goals.Propose value) range = omega arith
round_most sizes goals.AskInput range = omega arith
round_most sizes goals.Done range = omega arith
round_most sizes goals.Spent range = omega arith

tells_next : (b : Bool) (rounds k value step : ℕ) (level : ℕ → ℕ) → ltb k rounds ≡ b → k ≤ rounds → step ≡ k → Levels Past step level → Tells rounds (cond b (goals.Write (k + 1) value) goals.Spent) AtRest step level
tells_next true rounds k value step level test most same levels = record { counts = ap (λ (x : ℕ). x + 1) same; levels = levels }
tells_next false rounds k value step level test most same levels = record { counts = let last = ltb-false k rounds test in omega arith; levels = levels }

tells_asks_in : (rounds round step : ℕ) (level : ℕ → ℕ) → step ≡ round → Levels Past step level → Tells rounds (asks_in round) AtRest step level
tells_asks_in rounds zero step level same levels = record { counts = same; levels = levels }
tells_asks_in rounds (suc round) step level same levels = record { counts = same; levels = levels }

-- ---- both, from line to line

pub tells_raised : (rounds : ℕ) (goal : Goal) (step : ℕ) (level : ℕ → ℕ) → Tells rounds goal Stored step level → Tells rounds goal Counted (step + 1) level
tells_raised rounds goal step level told = record { counts = counts_raised rounds goal step told.counts; levels = told.levels }

pub raised_below : (goal : Goal) (rounds step : ℕ) (level : ℕ → ℕ) → round_of goal ≤ rounds → Tells rounds goal Stored step level → step < rounds
raised_below goal rounds step level range told = let e = stored_round rounds goal step told.counts in omega arith

pub outside : (rounds : ℕ) (goal : Goal) (step : ℕ) (level : ℕ → ℕ) → Tells rounds goal Counted step level → level (round_of goal) ≡ 0
outside rounds goal step level told = let e = counted_round rounds goal step told.counts in told.levels.0 (round_of goal) (omega arith)

pub tells_entered : (rounds : ℕ) (goal : Goal) (step : ℕ) (level : ℕ → ℕ) → Tells rounds goal Counted step level → Tells rounds goal Inside step (changed level (round_of goal) (level (round_of goal) + 1))
tells_entered rounds goal step level told = record {
  counts = counts_entered rounds goal step told.counts;
  levels = levels_entered step (round_of goal) level (counted_round rounds goal step told.counts) told.levels;
}

pub inside : (rounds : ℕ) (goal : Goal) (step : ℕ) (level : ℕ → ℕ) → Tells rounds goal Inside step level → level (round_of goal) ≡ 1
inside rounds goal step level told = ap level (sym (inside_round rounds goal step told.counts)) ∙ told.levels.2

pub tells_left : (rounds : ℕ) (goal : Goal) (step : ℕ) (level : ℕ → ℕ) (entry : ℕ) → entry ≢ 1 → Tells rounds goal Inside step level → Tells rounds goal Past step (changed level (round_of goal) entry)
tells_left rounds goal step level entry other told = record {
  counts = counts_left rounds goal step told.counts;
  levels = levels_left step (round_of goal) level entry (inside_round rounds goal step told.counts) other told.levels;
}

pub tells_asked : (rounds : ℕ) (goal : Goal) (step : ℕ) (level : ℕ → ℕ) → Tells rounds goal Past step level → Tells rounds (asks_in (round_of goal)) AtRest step level
tells_asked rounds goal step level told = tells_asks_in rounds (round_of goal) step level (past_round rounds goal step told.counts) told.levels

pub tells_written : (rounds : ℕ) (goal : Goal) (value step : ℕ) (level : ℕ → ℕ) → round_of goal ≤ rounds → Tells rounds goal Past step level → Tells rounds (after_write rounds (round_of goal) value) AtRest step level
tells_written rounds goal value step level range told =
    tells_next (ltb (round_of goal) rounds) rounds (round_of goal) value step level refl range (past_round rounds goal step told.counts) told.levels

-- a process that has its input is about to make its first write
pub tells_input : (rounds : ℕ) (goal : Goal) (value step : ℕ) (level : ℕ → ℕ) → round_of goal ≡ 0 → Tells rounds goal Past step level → Tells rounds (goals.Write 1 value) AtRest step level
tells_input rounds goal value step level none told = record { counts = let e = past_round rounds goal step told.counts in omega (arith, e, none); levels = told.levels }

pub tells_decided : (rounds : ℕ) (goal : Goal) (step : ℕ) (level : ℕ → ℕ) → Tells rounds goal Past step level → Tells rounds goals.Done AtRest step level
tells_decided rounds goal step level told = record { counts = tt; levels = told.levels }

-- ---- all processes of a mind

-- the goals of all processes but j tell it, at rest
abbrev pub ToldBeside : ℕ → ℕ → List Goal → (ℕ → ℕ) → (ℕ → ℕ → ℕ) → Type 0
ToldBeside rounds j list step level = (p : ℕ) → p ≢ j → Tells rounds (goal_at list p) AtRest (step p) (level p)

pub beside : (rounds : ℕ) (mind : MindOf StepMap) (step : ℕ → ℕ) (level : ℕ → ℕ → ℕ) → ToldBy rounds mind step level → ToldBeside rounds mind.process mind.goals step level
beside rounds mind step level told p other =
    let resting : stage_for mind p ≡ AtRest = ap (λ (b : Bool). cond b (stage_of mind.line) AtRest) (ne_eqb p mind.process other) in
    subst (λ (stage : Stage). Tells rounds (goal_at mind.goals p) stage (step p) (level p)) resting (told p)

pub at_sweep : (rounds : ℕ) (mind : MindOf StepMap) (step : ℕ → ℕ) (level : ℕ → ℕ → ℕ) → ToldBy rounds mind step level → Tells rounds (current_goal mind) (stage_of mind.line) (step mind.process) (level mind.process)
at_sweep rounds mind step level told =
    let here : stage_for mind mind.process ≡ stage_of mind.line = ap (λ (b : Bool). cond b (stage_of mind.line) AtRest) (eq-eqb mind.process mind.process refl) in
    subst (λ (stage : Stage). Tells rounds (current_goal mind) stage (step mind.process) (level mind.process)) here (told mind.process)

pub told_by : (rounds : ℕ) (mind : MindOf StepMap) (step : ℕ → ℕ) (level : ℕ → ℕ → ℕ) → ToldBeside rounds mind.process mind.goals step level → Tells rounds (current_goal mind) (stage_of mind.line) (step mind.process) (level mind.process) → ToldBy rounds mind step level
told_by rounds mind step level others own p = dite (ℕ_discrete p mind.process)
    (λ (e : p ≡ mind.process).
    let here : stage_for mind p ≡ stage_of mind.line = ap (λ (b : Bool). cond b (stage_of mind.line) AtRest) (eq-eqb p mind.process e) in
    subst (λ (stage : Stage). Tells rounds (goal_at mind.goals p) stage (step p) (level p)) (sym here)
    (subst (λ (q : ℕ). Tells rounds (goal_at mind.goals q) (stage_of mind.line) (step q) (level q)) (sym e) own))
    (λ (n : p ≢ mind.process).
    let resting : stage_for mind p ≡ AtRest = ap (λ (b : Bool). cond b (stage_of mind.line) AtRest) (ne_eqb p mind.process n) in
    subst (λ (stage : Stage). Tells rounds (goal_at mind.goals p) stage (step p) (level p)) (sym resting) (others p n))

same_branches : {A : Type 0} (b : Bool) (x : A) → cond b x x ≡ x
same_branches true x = refl
same_branches false x = refl

-- at which stage a mind is with a process
pub rest_stage_for : (mind : MindOf StepMap) (p : ℕ) → mind.line ≡ Rest → stage_for mind p ≡ AtRest
rest_stage_for mind p rest = ap (λ (line : Line). cond (eqb p mind.process) (stage_of line) AtRest) rest ∙ same_branches (eqb p mind.process) AtRest

pub aside_stage_for : (mind : MindOf StepMap) (p : ℕ) → p ≢ mind.process → stage_for mind p ≡ AtRest
aside_stage_for mind p other = ap (λ (b : Bool). cond b (stage_of mind.line) AtRest) (ne_eqb p mind.process other)

pub here_stage_for : (mind : MindOf StepMap) (p : ℕ) → p ≡ mind.process → stage_for mind p ≡ stage_of mind.line
here_stage_for mind p same = ap (λ (b : Bool). cond b (stage_of mind.line) AtRest) (eq-eqb p mind.process same)

-- between two turns
pub at_rest : (rounds : ℕ) (mind : MindOf StepMap) (step : ℕ → ℕ) (level : ℕ → ℕ → ℕ) → mind.line ≡ Rest → ToldBy rounds mind step level → (p : ℕ) → Tells rounds (goal_at mind.goals p) AtRest (step p) (level p)
at_rest rounds mind step level rest told p =
    let resting : stage_for mind p ≡ AtRest = ap (λ (line : Line). cond (eqb p mind.process) (stage_of line) AtRest) rest ∙ same_branches (eqb p mind.process) AtRest in
    subst (λ (stage : Stage). Tells rounds (goal_at mind.goals p) stage (step p) (level p)) resting (told p)

pub told_at_rest : (rounds : ℕ) (mind : MindOf StepMap) (step : ℕ → ℕ) (level : ℕ → ℕ → ℕ) → mind.line ≡ Rest → ((p : ℕ) → Tells rounds (goal_at mind.goals p) AtRest (step p) (level p)) → ToldBy rounds mind step level
told_at_rest rounds mind step level rest each p =
    let resting : stage_for mind p ≡ AtRest = ap (λ (line : Line). cond (eqb p mind.process) (stage_of line) AtRest) rest ∙ same_branches (eqb p mind.process) AtRest in
    subst (λ (stage : Stage). Tells rounds (goal_at mind.goals p) stage (step p) (level p)) (sym resting) (each p)

pub told_with_goal : (rounds : ℕ) (list : List Goal) (j : ℕ) (goal : Goal) (step : ℕ → ℕ) (level : ℕ → ℕ → ℕ) → j < length list → ToldBeside rounds j list step level → Tells rounds goal AtRest (step j) (level j) → (p : ℕ) → Tells rounds (goal_at (set list j goal) p) AtRest (step p) (level p)
told_with_goal rounds list j goal step level below others own p = dite (ℕ_discrete p j)
    (λ (e : p ≡ j).
    let here : goal_at (set list j goal) p ≡ goal = ap (λ (q : ℕ). get_or (set list j goal) q goals.Done) e ∙ get_or-set_same list j goal goals.Done below in
    subst (λ (g : Goal). Tells rounds g AtRest (step p) (level p)) (sym here) (subst (λ (q : ℕ). Tells rounds goal AtRest (step q) (level q)) (sym e) own))
    (λ (n : p ≢ j).
    let same : goal_at (set list j goal) p ≡ goal_at list p = get_or-set_other list j p goal goals.Done n in
    subst (λ (g : Goal). Tells rounds g AtRest (step p) (level p)) (sym same) (others p n))
