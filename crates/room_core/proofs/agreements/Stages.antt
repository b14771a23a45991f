-- How far a simulator has come in each agreement, as its step number and its line tell, and its phase there. The levels are
-- those of the phases.
use Rattle.std.proofs.Common.{◌≡◌, ◌≢◌, ◌⊎◌, ℕ, zero, suc, ◌+◌, ◌<◌, ◌≤◌, Bool, true, false, cond, eqb, ltb, map, inl, inr, refl, sym, ap, ◌∙◌, arith}
use Rattle.std.specs.List.{range_with_len}
use Rattle.std.proofs.lemmas.Bool.{lt-ltb, le-ltb, cases_order, cases_lt}
use mathlib.Core.Logic.{dite}
use native.Mathlib.Decide.{ℕ_discrete}
use Rattle.room_spec.specs.Rooms.{RoomSpec}
use Rattle.safe_agreement.specs.Phases.{Phase, Before, Entered, Looked, Left, phase_level, phase_levels}
use Rattle.simulator.specs.declared.goal.Goal.{Goal}
use Rattle.simulator.specs.declared.line.Line.{Line}
use Rattle.simulator.specs.declared.line.Line.TheVariants.{Rest, Raise, Snap, Show, Enter, Look, Leave, Ask, GetInput, GetView, Values, Out}
use Rattle.simulator.specs.declared.goal.Goal.TheVariants as goals
use Rattle.simulator.specs.Minds.{MindOf, current_goal, goal_at, round_of}
use Rattle.simulator.specs.Turns.{gets_in}
use Rattle.room_core.specs.Fields.{StepMap, Fields, levels_at}
use Rattle.room_core.specs.Agreements.{IsInside, IsInsideTurn}
use Rattle.room_core.specs.Tracks.{Stage, AtRest, Counted, stage_of, stage_for, rest_stage, levels_stage, IsZeroFrom, NoOneBelow, Levels, Tells, ToldBy, KeepsTrack}
use Rattle.room_core.proofs.fields.Tracks.{inside_round, at_sweep, beside}
use Rattle.room_core.specs.Tracks as stages

-- A round of a process that the simulator hasn't counted; then, in the open turn on it: counted, a snapshot loaded, proposed, entered,
-- looked; and left.
pub data Progress : Type 0 where
  Uncounted : Progress
  Fresh : Progress
  Scanned : Progress
  Shown : Progress
  Inside : Progress
  Seen : Bool → Progress
  Past : Progress

abbrev pub line_progress : Line → Progress
line_progress Rest = Past
line_progress Raise = Past
line_progress Snap = Fresh
line_progress Show = Scanned
line_progress Enter = Shown
line_progress Look = Inside
line_progress (Leave saw_two) = Seen saw_two
line_progress Ask = Past
line_progress (GetInput chosen) = Past
line_progress (GetView chosen) = Past
line_progress Values = Past
line_progress (Out decision) = Past

pub gets_past : (round chosen : ℕ) → line_progress (gets_in round chosen) ≡ Past
gets_past zero chosen = refl
gets_past (suc round) chosen = refl

-- a simulator has its own input to propose for a process, and hasn't begun to
abbrev pub is_proposal : Goal → Bool
is_proposal (goals.Propose value) = true
is_proposal goal = false

abbrev pub is_unproposed : Goal → Stage → Bool
is_unproposed goal AtRest = is_proposal goal
is_unproposed goal stage = false

-- in round k, by the step number, whether the turn is on the process, and the turn's line
abbrev pub progress_in : ℕ → ℕ → Bool → Progress → Progress
progress_in step k here line = cond (ltb step k) Uncounted (cond (ltb k step) Past (cond here line Past))

abbrev pub phase_of : Progress → ℕ → Phase
phase_of Uncounted level = Before
phase_of Fresh level = Before
phase_of Scanned level = Before
phase_of Shown level = Before
phase_of Inside level = Entered
phase_of (Seen saw) level = Looked saw
phase_of Past level = Left level

abbrev pub phase_by : ℕ → ℕ → Bool → Progress → ℕ → Phase
phase_by step k here line level = phase_of (progress_in step k here line) level

-- ---- where they are known

pub later : (step k : ℕ) (here : Bool) (line : Progress) → step < k → progress_in step k here line ≡ Uncounted
later step k here line less = rw (lt-ltb step k less) refl

pub earlier : (step k : ℕ) (here : Bool) (line : Progress) → k < step → progress_in step k here line ≡ Past
earlier step k here line less = rw (le-ltb step k (omega arith), lt-ltb k step less) refl

pub now : (step k : ℕ) (here : Bool) (line : Progress) → step ≡ k → progress_in step k here line ≡ cond here line Past
now step k here line same = rw (le-ltb step k (omega arith), le-ltb k step (omega arith)) refl

same_past : (here here' : Bool) → ◌≡◌ {A = Progress} (cond here Past Past) (cond here' Past Past)
same_past true true = refl
same_past true false = refl
same_past false true = refl
same_past false false = refl

-- between the open parts of turns it doesn't matter on which process the turn is
pub resting : (step k : ℕ) (here here' : Bool) (line line' : Progress) → line ≡ Past → line' ≡ Past → progress_in step k here line ≡ progress_in step k here' line'
resting step k here here' line line' is is' =
    ap (λ (l : Progress). progress_in step k here l) is ∙ ap (λ (p : Progress). cond (ltb step k) Uncounted (cond (ltb k step) Past p)) (same_past here here') ∙ ap (λ (l : Progress). progress_in step k here' l) (sym is')

by_test : {A : Type 0} (f : Progress → A) (b : Bool) (other line line' : Progress) → f line ≡ f line' → f (cond b other line) ≡ f (cond b other line')
by_test f true other line line' same = refl
by_test f false other line line' same = same

by_here : {A : Type 0} (f : Progress → A) (b : Bool) (other line line' : Progress) → f line ≡ f line' → f (cond b line other) ≡ f (cond b line' other)
by_here f true other line line' same = same
by_here f false other line line' same = refl

-- two lines of the same phase
pub same_line : (step k : ℕ) (here : Bool) (line line' : Progress) (level : ℕ) → phase_of line level ≡ phase_of line' level → phase_by step k here line level ≡ phase_by step k here line' level
same_line step k here line line' level same =
    let f : Progress → Phase = λ p. phase_of p level in
    by_test f (ltb step k) Uncounted (cond (ltb k step) Past (cond here line Past)) (cond (ltb k step) Past (cond here line' Past))
    (by_test f (ltb k step) Past (cond here line Past) (cond here line' Past) (by_here f here Past line line' same))

-- ---- levels are those of the phases

-- what is to show of one round, in the open turn on its process
level_in : (step k : ℕ) (here : Bool) (line : Progress) (level : ℕ) → (step < k → level ≡ 0) → (step ≡ k → level ≡ phase_level (phase_of (cond here line Past) level)) → level ≡ phase_level (phase_by step k here line level)
level_in step k here line level none same = by_order (cases_order step k)
  where
    by_order : (step ≡ k) ⊎ ((step < k) ⊎ (k < step)) → level ≡ phase_level (phase_by step k here line level)
    by_order (inl e) = same e ∙ ap (λ (p : Progress). phase_level (phase_of p level)) (sym (now step k here line e))
    by_order (inr (inl less)) = none less ∙ ap (λ (p : Progress). phase_level (phase_of p level)) (sym (later step k here line less))
    by_order (inr (inr less)) = ap (λ (p : Progress). phase_level (phase_of p level)) (sym (earlier step k here line less))

past_level : (here : Bool) (level : ℕ) → level ≡ phase_level (phase_of (cond here Past Past) level)
past_level true level = refl
past_level false level = refl

rest_level : (step k : ℕ) (here : Bool) (level : ℕ → ℕ) → IsZeroFrom (step + 1) level → level k ≡ phase_level (phase_by step k here Past (level k))
rest_level step k here level none = level_in step k here Past (level k) (λ less. none k (omega arith)) (λ same. past_level here (level k))

counted_level : (step k : ℕ) (line : Progress) (level : ℕ → ℕ) → Levels Counted step level → phase_level (phase_of line (level k)) ≡ 0 → level k ≡ phase_level (phase_by step k true line (level k))
counted_level step k line level all none = level_in step k true line (level k) (λ less. all.0 k (omega arith)) (λ same. all.0 k (omega arith) ∙ sym none)

pub line_level : (line : Line) (step k : ℕ) (level : ℕ → ℕ) → Levels (stage_of line) step level → level k ≡ phase_level (phase_by step k true (line_progress line) (level k))
line_level Rest step k level all = rest_level step k true level all.0
line_level Raise step k level all = rest_level step k true level all.0
line_level Snap step k level all = counted_level step k Fresh level all refl
line_level Show step k level all = counted_level step k Scanned level all refl
line_level Enter step k level all = counted_level step k Shown level all refl
line_level Look step k level all = level_in step k true Inside (level k) (λ less. all.0 k (omega arith)) (λ same. ap level (sym same) ∙ all.2)
line_level (Leave saw_two) step k level all = level_in step k true (Seen saw_two) (level k) (λ less. all.0 k (omega arith)) (λ same. ap level (sym same) ∙ all.2)
line_level Ask step k level all = rest_level step k true level all.0
line_level (GetInput chosen) step k level all = rest_level step k true level all.0
line_level (GetView chosen) step k level all = rest_level step k true level all.0
line_level Values step k level all = rest_level step k true level all.0
line_level (Out decision) step k level all = rest_level step k true level all.0

-- away from the turn's process the line doesn't count
away : (step k : ℕ) (line : Progress) (level : ℕ) → phase_by step k false line level ≡ phase_by step k false Past level
away step k line level = refl

-- the phase of a simulator in the agreement on (p, k), if it has begun to propose an input of p
abbrev pub phase_begun : MindOf StepMap → (ℕ → ℕ) → (ℕ → ℕ → ℕ) → ℕ → ℕ → Phase
phase_begun mind step level p k = phase_by (step p) k (eqb p mind.process) (line_progress mind.line) (level p k)

-- it has an input of p to propose, and hasn't begun to
abbrev pub has_to_propose : MindOf StepMap → ℕ → Bool
has_to_propose mind p = is_unproposed (goal_at mind.goals p) (stage_for mind p)

-- its phase there
abbrev pub phase_at : MindOf StepMap → (ℕ → ℕ) → (ℕ → ℕ → ℕ) → ℕ → ℕ → Phase
phase_at mind step level p k = cond (has_to_propose mind p) Before (phase_begun mind step level p k)

-- with a phase that it has begun, or none
pub held_back : (b : Bool) (phase : Phase) → phase_level phase ≡ 0 → phase_level (cond b Before phase) ≡ 0
held_back true phase none = refl
held_back false phase none = none

pub not_held_back : (b : Bool) (phase : Phase) → phase_level (cond b Before phase) ≡ 2 → phase_level phase ≡ 2
not_held_back true phase two = absurd (omega arith)
not_held_back false phase two = two

-- without a proposal to make
rest_begun : (rounds : ℕ) (goal : Goal) (here : Bool) (step k : ℕ) (level : ℕ → ℕ) → Tells rounds goal AtRest step level → level k ≡ phase_level (cond (is_proposal goal) Before (phase_by step k here Past (level k)))
rest_begun rounds (goals.Write round value) here step k level told = rest_level step k here level told.levels.0
rest_begun rounds (goals.Ask round) here step k level told = rest_level step k here level told.levels.0
rest_begun rounds (goals.Propose value) here step k level told = told.levels.0 k (let none = told.counts in omega arith)
rest_begun rounds goals.AskInput here step k level told = rest_level step k here level told.levels.0
rest_begun rounds goals.Done here step k level told = rest_level step k here level told.levels.0
rest_begun rounds goals.Spent here step k level told = rest_level step k here level told.levels.0

line_begun : (rounds : ℕ) (goal : Goal) (line : Line) (step k : ℕ) (level : ℕ → ℕ) → Tells rounds goal (stage_of line) step level → level k ≡ phase_level (cond (is_unproposed goal (stage_of line)) Before (phase_by step k true (line_progress line) (level k)))
line_begun rounds goal Rest step k level told = rest_begun rounds goal true step k level told
line_begun rounds goal Raise step k level told = line_level Raise step k level told.levels
line_begun rounds goal Snap step k level told = line_level Snap step k level told.levels
line_begun rounds goal Show step k level told = line_level Show step k level told.levels
line_begun rounds goal Enter step k level told = line_level Enter step k level told.levels
line_begun rounds goal Look step k level told = line_level Look step k level told.levels
line_begun rounds goal (Leave saw_two) step k level told = line_level (Leave saw_two) step k level told.levels
line_begun rounds goal Ask step k level told = line_level Ask step k level told.levels
line_begun rounds goal (GetInput chosen) step k level told = line_level (GetInput chosen) step k level told.levels
line_begun rounds goal (GetView chosen) step k level told = line_level (GetView chosen) step k level told.levels
line_begun rounds goal Values step k level told = line_level Values step k level told.levels
line_begun rounds goal (Out decision) step k level told = line_level (Out decision) step k level told.levels

by_sweep : (rounds : ℕ) (goal : Goal) (here : Bool) (line : Line) (step k : ℕ) (level : ℕ → ℕ) → Tells rounds goal (cond here (stage_of line) AtRest) step level
    → level k ≡ phase_level (cond (is_unproposed goal (cond here (stage_of line) AtRest)) Before (phase_by step k here (line_progress line) (level k)))
by_sweep rounds goal true line step k level told = line_begun rounds goal line step k level told
by_sweep rounds goal false line step k level told = rest_begun rounds goal false step k level told

pub level_is : (rounds : ℕ) (mind : MindOf StepMap) (step : ℕ → ℕ) (level : ℕ → ℕ → ℕ) → ToldBy rounds mind step level → (p k : ℕ) → level p k ≡ phase_level (phase_at mind step level p k)
level_is rounds mind step level told p k = by_sweep rounds (goal_at mind.goals p) (eqb p mind.process) mind.line (step p) k (level p) (told p)

-- the phases in the agreement on (p, k)
abbrev pub phases_in : Fields → ℕ → ℕ → ℕ → Phase
phases_in fields p k a = phase_at (fields.mind a) (fields.step a) (fields.level a) p k

-- The levels of each agreement are the levels of its phases.
pub levels_are_phases : (spec : RoomSpec) (fields : Fields) → KeepsTrack spec fields → (p k : ℕ) → levels_at spec fields p k ≡ phase_levels spec.simulators (phases_in fields p k)
levels_are_phases spec fields tracks p k =
    let each : (a : ℕ) → fields.level a p k ≡ phase_level (phases_in fields p k a) = λ a. level_is spec.rounds (fields.mind a) (fields.step a) (fields.level a) (tracks.told a) p k in
    λ t. map (λ a. each a t) (range_with_len 0 spec.simulators)

-- ---- who is at level 1

rest_no_one : (step k : ℕ) (level : ℕ → ℕ) → Levels AtRest step level → level k ≢ 1
rest_no_one step k level all = by_lt (cases_lt k (step + 1))
  where
    by_lt : (k < step + 1) ⊎ (step + 1 ≤ k) → level k ≢ 1
    by_lt (inl less) = all.1 k less
    by_lt (inr more) = λ one. let none = all.0 k more in omega arith

counted_no_one : (step k : ℕ) (level : ℕ → ℕ) → Levels Counted step level → level k ≢ 1
counted_no_one step k level all = by_lt (cases_lt k step)
  where
    by_lt : (k < step) ⊎ (step ≤ k) → level k ≢ 1
    by_lt (inl less) = all.1 k less
    by_lt (inr more) = λ one. let none = all.0 k more in omega arith

goal_no_one : (goal : Goal) (step k : ℕ) (level : ℕ → ℕ) → Levels (rest_stage goal) step level → level k ≢ 1
goal_no_one (goals.Write round value) step k level all = rest_no_one step k level all
goal_no_one (goals.Ask round) step k level all = rest_no_one step k level all
goal_no_one (goals.Propose value) step k level all = counted_no_one step k level all
goal_no_one goals.AskInput step k level all = rest_no_one step k level all
goal_no_one goals.Done step k level all = rest_no_one step k level all
goal_no_one goals.Spent step k level all = rest_no_one step k level all

inside_now : (step k : ℕ) (level : ℕ → ℕ) → Levels stages.Inside step level → level k ≡ 1 → step ≡ k
inside_now step k level all one = by_order (cases_order step k)
  where
    by_order : (step ≡ k) ⊎ ((step < k) ⊎ (k < step)) → step ≡ k
    by_order (inl e) = e
    by_order (inr (inl less)) = let none = all.0 k (omega arith) in absurd (omega arith)
    by_order (inr (inr less)) = absurd (all.1 k less one)

inside_line : (line : Line) (rounds : ℕ) (goal : Goal) (step k : ℕ) (level : ℕ → ℕ) → Tells rounds goal (stage_of line) step level → level k ≡ 1 → IsInside line × (round_of goal ≡ k)
inside_line Rest rounds goal step k level told one = absurd (goal_no_one goal step k level told.levels one)
inside_line Raise rounds goal step k level told one = absurd (rest_no_one step k level told.levels one)
inside_line Snap rounds goal step k level told one = absurd (counted_no_one step k level told.levels one)
inside_line Show rounds goal step k level told one = absurd (counted_no_one step k level told.levels one)
inside_line Enter rounds goal step k level told one = absurd (counted_no_one step k level told.levels one)
inside_line Look rounds goal step k level told one = (tt, sym (inside_round rounds goal step told.counts) ∙ inside_now step k level told.levels one)
inside_line (Leave saw_two) rounds goal step k level told one = (tt, sym (inside_round rounds goal step told.counts) ∙ inside_now step k level told.levels one)
inside_line Ask rounds goal step k level told one = absurd (rest_no_one step k level told.levels one)
inside_line (GetInput chosen) rounds goal step k level told one = absurd (rest_no_one step k level told.levels one)
inside_line (GetView chosen) rounds goal step k level told one = absurd (rest_no_one step k level told.levels one)
inside_line Values rounds goal step k level told one = absurd (rest_no_one step k level told.levels one)
inside_line (Out decision) rounds goal step k level told one = absurd (rest_no_one step k level told.levels one)

-- A simulator at level 1 is inside that agreement in its open turn.
pub one_inside : (spec : RoomSpec) (fields : Fields) → KeepsTrack spec fields → (i j k : ℕ) → fields.level i j k ≡ 1 → IsInsideTurn fields i j k
one_inside spec fields tracks i j k one = dite (ℕ_discrete j (fields.mind i).process)
    (λ (e : j ≡ (fields.mind i).process).
    let mind = fields.mind i in
    let own = at_sweep spec.rounds mind (fields.step i) (fields.level i) (tracks.told i) in
    let at = inside_line mind.line spec.rounds (current_goal mind) (fields.step i mind.process) k (fields.level i mind.process) own (ap (λ (p : ℕ). fields.level i p k) (sym e) ∙ one) in
    record { process = sym e; round = at.1; line = at.0 })
    (λ (n : j ≢ (fields.mind i).process). absurd (goal_no_one (goal_at (fields.mind i).goals j) (fields.step i j) k (fields.level i j) (beside spec.rounds (fields.mind i) (fields.step i) (fields.level i) (tracks.told i) j n).levels one))
