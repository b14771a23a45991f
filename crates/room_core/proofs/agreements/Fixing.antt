-- That an agreement is fixed, said of phases and said of fields; and what that gives for those that have been passed.
use Rattle.std.proofs.Common.{◌≡◌, ◌≢◌, ◌⊎◌, ℕ, ◌<◌, ◌≤◌, Bool, true, false, cond, eqb, length, get_or, Some, inl, inr, refl, sym, ap, ◌∙◌, subst, arith}
use Rattle.std.proofs.lemmas.Bool.{eq-eqb, eqb-true, cases_order}
use Rattle.room_spec.specs.Rooms.{RoomSpec, is_reduction, processes}
use Rattle.std.proofs.lemmas.List.FromFn.{length-map-range_with_len, get_or-map-range_with_len}
use Rattle.safe_agreement.specs.Levels.{IsResolved, least_two}
use Rattle.safe_agreement.proofs.CallerLemmas.{least_two_found, least_two_is, resolved_is_fixed, settles}
use Rattle.safe_agreement.specs.Phases.{Phase, Before, Looked, Left, IsFixed}
use Rattle.simulator.specs.declared.goal.Goal.{Goal}
use Rattle.simulator.specs.declared.goal.Goal.TheVariants as goals
use Rattle.simulator.specs.declared.line.Line.{Line}
use Rattle.simulator.specs.declared.line.Line.TheVariants.{Rest, Raise, Snap, Show, Enter, Look, Leave, Ask, GetInput, GetView, Values, Out}
use Rattle.simulator.specs.Minds.{MindOf, goal_at, current_goal, current_round}
use Rattle.room_core.specs.Fields.{StepMap, Fields, levels_at}
use Rattle.room_core.specs.Agreements.{HasLookedBlind, IsFixedAt}
use Rattle.room_core.specs.Tracks.{Stage, Tells, Counts, stage_of, stage_for, ToldBy, KeepsTrack}
use Rattle.room_core.specs.Tracks as stages
use Rattle.room_core.proofs.fields.Tracks.{at_sweep, inside_round, here_stage_for}
use Rattle.room_core.proofs.agreements.Stages.{Progress, Past, line_progress, phase_of, phase_by, phase_begun, has_to_propose, is_unproposed, phases_in, later, earlier, now, level_is, levels_are_phases}
use Rattle.room_core.proofs.fields.Effects.{is_reading}
use Rattle.room_core.proofs.agreements.Resolving.{resolved_by}
use Rattle.room_core.proofs.agreements.Sound.{IsSound}

-- ---- who has looked

seen_line : (line : Line) (level : ℕ) (saw : Bool) → phase_of (line_progress line) level ≡ Looked saw → line ≡ Leave saw
seen_line Rest level saw is = absurd cc
seen_line Raise level saw is = absurd cc
seen_line Snap level saw is = absurd cc
seen_line Show level saw is = absurd cc
seen_line Enter level saw is = absurd cc
seen_line Look level saw is = absurd cc
seen_line (Leave saw_two) level saw is = cc
seen_line Ask level saw is = absurd cc
seen_line (GetInput chosen) level saw is = absurd cc
seen_line (GetView chosen) level saw is = absurd cc
seen_line Values level saw is = absurd cc
seen_line (Out decision) level saw is = absurd cc

seen_here : (here : Bool) (line : Line) (level : ℕ) (saw : Bool) → phase_of (cond here (line_progress line) Past) level ≡ Looked saw → (here ≡ true) × (line ≡ Leave saw)
seen_here true line level saw is = (refl, seen_line line level saw is)
seen_here false line level saw is = absurd cc

seen_by : (step k : ℕ) (here : Bool) (line : Line) (level : ℕ) (saw : Bool) → phase_by step k here (line_progress line) level ≡ Looked saw → (step ≡ k) × (here ≡ true) × (line ≡ Leave saw)
seen_by step k here line level saw is = by_order (cases_order step k)
  where
    no_before : Before ≡ Looked saw → ⊥
    no_before e = cc

    no_left : Left level ≡ Looked saw → ⊥
    no_left e = cc

    by_order : (step ≡ k) ⊎ ((step < k) ⊎ (k < step)) → (step ≡ k) × (here ≡ true) × (line ≡ Leave saw)
    by_order (inl e) =
        let at = seen_here here line level saw (ap (λ (p : Progress). phase_of p level) (sym (now step k here (line_progress line) e)) ∙ is) in
        (e, at.0, at.1)
    by_order (inr (inl less)) = absurd (no_before (ap (λ (p : Progress). phase_of p level) (sym (later step k here (line_progress line) less)) ∙ is))
    by_order (inr (inr less)) = absurd (no_left (ap (λ (p : Progress). phase_of p level) (sym (earlier step k here (line_progress line) less)) ∙ is))

-- the round of a turn that stands at Leave is counted
left_round : (rounds : ℕ) (mind : MindOf StepMap) (step : ℕ → ℕ) (level : ℕ → ℕ → ℕ) (saw : Bool) → ToldBy rounds mind step level → mind.line ≡ Leave saw → step mind.process ≡ current_round mind
left_round rounds mind step level saw told is =
    inside_round rounds (current_goal mind) (step mind.process)
    (subst (λ (line : Line). Tells rounds (current_goal mind) (stage_of line) (step mind.process) (level mind.process)) is (at_sweep rounds mind step level told)).counts

-- it has nothing to propose then
leaving_begun : (mind : MindOf StepMap) (j : ℕ) (saw : Bool) → mind.process ≡ j → mind.line ≡ Leave saw → has_to_propose mind j ≡ false
leaving_begun mind j saw at is = ap (is_unproposed (goal_at mind.goals j)) (here_stage_for mind j (sym at) ∙ ap stage_of is)

looked_begun : (b saw : Bool) (phase : Phase) → cond b Before phase ≡ Looked saw → phase ≡ Looked saw
looked_begun true saw phase is = absurd (no_before is)
  where
    no_before : Before ≡ Looked saw → ⊥
    no_before e = cc
looked_begun false saw phase is = is

-- ---- fixed, by phases and by fields

module _ (spec : RoomSpec) (fields : Fields) (tracks : KeepsTrack spec fields) (j k : ℕ) where
  blind_phase : (i : ℕ) → HasLookedBlind fields i j k → phases_in fields j k i ≡ Looked false
  blind_phase i blind =
      let mind = fields.mind i in
      let count : fields.step i j ≡ k = ap (fields.step i) (sym blind.process) ∙ left_round spec.rounds mind (fields.step i) (fields.level i) false (tracks.told i) blind.line ∙ blind.round in
      ap (λ (b : Bool). cond b Before (phase_begun mind (fields.step i) (fields.level i) j k)) (leaving_begun mind j false blind.process blind.line)
      ∙ ap (λ (b : Bool). phase_by (fields.step i j) k b (line_progress mind.line) (fields.level i j k)) (eq-eqb j mind.process (sym blind.process))
      ∙ ap (λ (p : Progress). phase_of p (fields.level i j k)) (now (fields.step i j) k true (line_progress mind.line) count)
      ∙ ap (λ (line : Line). phase_of (line_progress line) (fields.level i j k)) blind.line

  pub fixed_at : IsFixed spec.simulators (phases_in fields j k) → IsFixedAt spec fields j k
  fixed_at fixed = record {
    simulator = fixed.two.0;
    below = fixed.two.1;
    two = level_is spec.rounds (fields.mind fixed.two.0) (fields.step fixed.two.0) (fields.level fixed.two.0) (tracks.told fixed.two.0) j k ∙ fixed.two.2;
    seen = λ i below blind. let no = fixed.seen i false below (blind_phase i blind) in absurd cc;
  }

  blind_from : (i : ℕ) → phases_in fields j k i ≡ Looked false → HasLookedBlind fields i j k
  blind_from i is =
      let mind = fields.mind i in
      let at = seen_by (fields.step i j) k (eqb j mind.process) mind.line (fields.level i j k) false (looked_begun (has_to_propose mind j) false (phase_begun mind (fields.step i) (fields.level i) j k) is) in
      let here : j ≡ mind.process = eqb-true j mind.process at.1 in
      record {
        process = sym here;
        round = sym (left_round spec.rounds mind (fields.step i) (fields.level i) false (tracks.told i) at.2) ∙ ap (fields.step i) (sym here) ∙ at.0;
        line = at.2;
      }

  seen_from : (at : IsFixedAt spec fields j k) (i : ℕ) (saw : Bool) → i < spec.simulators → phases_in fields j k i ≡ Looked saw → saw ≡ true
  seen_from at i true below is = refl
  seen_from at i false below is = absurd (at.seen i below (blind_from i is))

  pub fixed_from : IsFixedAt spec fields j k → IsFixed spec.simulators (phases_in fields j k)
  fixed_from at = record {
    two = (at.simulator, at.below, sym (level_is spec.rounds (fields.mind at.simulator) (fields.step at.simulator) (fields.level at.simulator) (tracks.told at.simulator) j k) ∙ at.two);
    seen = λ i saw below is. seen_from at i saw below is;
  }

-- ---- passed agreements

-- a process of which a later round is counted has been found resolved in this one
pub counted_resolved : (rounds : ℕ) (goal : Goal) (stage : Stage) (reading : Bool) (step k : ℕ) → Counts rounds goal stage step → k < step → k ≤ resolved_by goal reading step
counted_resolved rounds (goals.Write round value) stages.AtRest true step k counts less = omega arith
counted_resolved rounds (goals.Write round value) stages.AtRest false step k counts less = omega arith
counted_resolved rounds (goals.Write round value) stages.Stored true step k counts less = omega arith
counted_resolved rounds (goals.Write round value) stages.Stored false step k counts less = omega arith
counted_resolved rounds (goals.Write round value) stages.Counted true step k counts less = omega arith
counted_resolved rounds (goals.Write round value) stages.Counted false step k counts less = omega arith
counted_resolved rounds (goals.Write round value) stages.Inside true step k counts less = omega arith
counted_resolved rounds (goals.Write round value) stages.Inside false step k counts less = omega arith
counted_resolved rounds (goals.Write round value) stages.Past true step k counts less = omega arith
counted_resolved rounds (goals.Write round value) stages.Past false step k counts less = omega arith
counted_resolved rounds (goals.Ask round) stages.AtRest true step k counts less = omega arith
counted_resolved rounds (goals.Ask round) stages.AtRest false step k counts less = omega arith
counted_resolved rounds (goals.Ask round) stages.Stored reading step k counts less = absurd counts
counted_resolved rounds (goals.Ask round) stages.Counted reading step k counts less = absurd counts
counted_resolved rounds (goals.Ask round) stages.Inside reading step k counts less = absurd counts
counted_resolved rounds (goals.Ask round) stages.Past true step k counts less = omega arith
counted_resolved rounds (goals.Ask round) stages.Past false step k counts less = omega arith
counted_resolved rounds (goals.Propose value) stages.AtRest reading step k counts less = absurd (omega arith)
counted_resolved rounds (goals.Propose value) stages.Counted reading step k counts less = absurd (omega arith)
counted_resolved rounds (goals.Propose value) stages.Inside reading step k counts less = absurd (omega arith)
counted_resolved rounds (goals.Propose value) stages.Past reading step k counts less = absurd (omega arith)
counted_resolved rounds (goals.Propose value) stages.Stored reading step k counts less = absurd counts
counted_resolved rounds goals.AskInput stages.AtRest reading step k counts less = absurd (omega arith)
counted_resolved rounds goals.AskInput stages.Past reading step k counts less = absurd (omega arith)
counted_resolved rounds goals.AskInput stages.Stored reading step k counts less = absurd counts
counted_resolved rounds goals.AskInput stages.Counted reading step k counts less = absurd counts
counted_resolved rounds goals.AskInput stages.Inside reading step k counts less = absurd counts
counted_resolved rounds goals.Done stage reading step k counts less = omega arith
counted_resolved rounds goals.Spent stage reading step k counts less = omega arith

-- where some simulator has counted a later round, the agreement on this one is fixed
pub counted_is_fixed : (spec : RoomSpec) (fields : Fields) (i j k : ℕ) → KeepsTrack spec fields → IsSound spec fields → i < spec.simulators → 1 ≤ k → k < fields.step i j → IsFixed spec.simulators (phases_in fields j k)
counted_is_fixed spec fields i j k tracks sound below first less =
    let mind = fields.mind i in
    sound.resolved i j k below first
    (counted_resolved spec.rounds (goal_at mind.goals j) (stage_for mind j) (cond (is_reading mind.line) (eqb j mind.process) false) (fields.step i j) k ((tracks.told i) j).counts less)

-- It is resolved; or some simulator has gone on from it: it has counted a later write of the process, or has stored a decision, after this
-- round or a later one.
pub data IsPassed (spec : RoomSpec) (fields : Fields) (j k : ℕ) : Type 0 where
  resolved : IsResolved (levels_at spec fields j k) → IsPassed spec fields j k
  written : (i : ℕ) → i < spec.simulators → k < fields.step i j → IsPassed spec fields j k
  decided : (i : ℕ) → i < spec.simulators → fields.out i j ≢ 0 → k ≤ fields.step i j → IsPassed spec fields j k

pub passed_is_fixed : (spec : RoomSpec) (fields : Fields) (j k : ℕ) → KeepsTrack spec fields → IsSound spec fields → 1 ≤ k → IsPassed spec fields j k → IsFixed spec.simulators (phases_in fields j k)
passed_is_fixed spec fields j k tracks sound first (resolved is) = resolved_is_fixed spec.simulators (phases_in fields j k) (subst IsResolved (levels_are_phases spec fields tracks j k) is)
passed_is_fixed spec fields j k tracks sound first (written i below less) = counted_is_fixed spec fields i j k tracks sound below first less
passed_is_fixed spec fields j k tracks sound first (decided i below out most) =
    let mind = fields.mind i in
    sound.resolved i j k below first (subst (λ (goal : Goal). k ≤ resolved_by goal (cond (is_reading mind.line) (eqb j mind.process) false) (fields.step i j)) (sym (sound.outs i j out)) most)

-- ---- the least simulator at level 2 of a fixed agreement

pub fixed_has_least : (spec : RoomSpec) (fields : Fields) (j k : ℕ) → IsFixedAt spec fields j k → (h : ℕ) × (h < spec.simulators) × (least_two (levels_at spec fields j k) ≡ Some h) × (fields.level h j k ≡ 2)
fixed_has_least spec fields j k at =
    let levels = levels_at spec fields j k in
    let long : length levels ≡ spec.simulators = length-map-range_with_len (λ i. fields.level i j k) 0 spec.simulators in
    let read : (i : ℕ) → i < spec.simulators → get_or levels i 0 ≡ fields.level i j k = λ i below. get_or-map-range_with_len (λ a. fields.level a j k) 0 spec.simulators i i 0 below (omega arith) in
    let below = at.below in
    let found = least_two_found levels at.simulator (omega arith) (read at.simulator at.below ∙ at.two) in
    let is = least_two_is levels found.0 found.1 in
    let within : found.0 < spec.simulators = let b = is.below in omega arith in
    (found.0, within, found.1, sym (read found.0 within) ∙ is.two)

-- An agreement of a round before one that was counted, in which nobody is at level 1, is resolved: only a simulator that stopped inside
-- can hold it.
begun_stage : (rounds : ℕ) (goal : Goal) (stage : Stage) (step : ℕ) → Counts rounds goal stage step → 0 < step → is_unproposed goal stage ≡ false
begun_stage rounds (goals.Write round value) stages.AtRest step counts less = refl
begun_stage rounds (goals.Ask round) stages.AtRest step counts less = refl
begun_stage rounds (goals.Propose value) stages.AtRest step counts less = absurd (omega arith)
begun_stage rounds goals.AskInput stages.AtRest step counts less = refl
begun_stage rounds goals.Done stages.AtRest step counts less = refl
begun_stage rounds goals.Spent stages.AtRest step counts less = refl
begun_stage rounds goal stages.Stored step counts less = refl
begun_stage rounds goal stages.Counted step counts less = refl
begun_stage rounds goal stages.Inside step counts less = refl
begun_stage rounds goal stages.Past step counts less = refl

left_phase : (spec : RoomSpec) (fields : Fields) (i j k : ℕ) → KeepsTrack spec fields → k < fields.step i j → phases_in fields j k i ≡ Left (fields.level i j k)
left_phase spec fields i j k tracks less =
    let mind = fields.mind i in
    ap (λ (b : Bool). cond b Before (phase_begun mind (fields.step i) (fields.level i) j k)) (begun_stage spec.rounds (goal_at mind.goals j) (stage_for mind j) (fields.step i j) (tracks.told i j).counts (omega (arith, less)))
    ∙ ap (λ (p : Progress). phase_of p (fields.level i j k)) (earlier (fields.step i j) k (eqb j mind.process) (line_progress mind.line) less)

pub left_is_resolved : (spec : RoomSpec) (fields : Fields) (i j k : ℕ) → KeepsTrack spec fields → IsSound spec fields → i < spec.simulators → 1 ≤ k → k < fields.step i j → ((a : ℕ) → a < spec.simulators → fields.level a j k ≢ 1) → IsResolved (levels_at spec fields j k)
left_is_resolved spec fields i j k tracks sound below first less none =
    subst IsResolved (sym (levels_are_phases spec fields tracks j k))
    (settles spec.simulators (phases_in fields j k) i (fields.level i j k) (sound.beside j k (inl first)) below (left_phase spec fields i j k tracks less)
    (λ a within one. none a within (level_is spec.rounds (fields.mind a) (fields.step a) (fields.level a) (tracks.told a) j k ∙ one)))

-- ---- agreements on inputs

-- a simulator that asks for an input has left the agreement on it
asking_line : (rounds : ℕ) (line : Line) (step : ℕ) → Counts rounds goals.AskInput (stage_of line) step → (line_progress line ≡ Past) × (step ≡ 0) × (is_unproposed goals.AskInput (stage_of line) ≡ false)
asking_line rounds Rest step counts = (refl, counts, refl)
asking_line rounds Raise step counts = absurd counts
asking_line rounds Snap step counts = absurd counts
asking_line rounds Show step counts = absurd counts
asking_line rounds Enter step counts = absurd counts
asking_line rounds Look step counts = absurd counts
asking_line rounds (Leave saw_two) step counts = absurd counts
asking_line rounds Ask step counts = (refl, counts, refl)
asking_line rounds (GetInput chosen) step counts = (refl, counts, refl)
asking_line rounds (GetView chosen) step counts = (refl, counts, refl)
asking_line rounds Values step counts = (refl, counts, refl)
asking_line rounds (Out decision) step counts = (refl, counts, refl)

asking_by : (rounds : ℕ) (here : Bool) (line : Line) (step level : ℕ) → Counts rounds goals.AskInput (cond here (stage_of line) stages.AtRest) step → cond (is_unproposed goals.AskInput (cond here (stage_of line) stages.AtRest)) Before (phase_by step 0 here (line_progress line) level) ≡ Left level
asking_by rounds true line step level counts =
    let at = asking_line rounds line step counts in
    ap (λ (b : Bool). cond b Before (phase_by step 0 true (line_progress line) level)) at.2 ∙ ap (λ (p : Progress). phase_of p level) (now step 0 true (line_progress line) at.1 ∙ at.0)
asking_by rounds false line step level counts = ap (λ (p : Progress). phase_of p level) (now step 0 false (line_progress line) counts)

asking_phase : (spec : RoomSpec) (fields : Fields) (i j : ℕ) → KeepsTrack spec fields → goal_at (fields.mind i).goals j ≡ goals.AskInput → phases_in fields j 0 i ≡ Left (fields.level i j 0)
asking_phase spec fields i j tracks is =
    let mind = fields.mind i in
    let counts = subst (λ (goal : Goal). Counts spec.rounds goal (stage_for mind j) (fields.step i j)) is (tracks.told i j).counts in
    ap (λ (goal : Goal). cond (is_unproposed goal (stage_for mind j)) Before (phase_begun mind (fields.step i) (fields.level i) j 0)) is ∙ asking_by spec.rounds (eqb j mind.process) mind.line (fields.step i j) (fields.level i j 0) counts

-- an agreement that is fixed, and in which none is at level 1, is resolved
pub fixed_is_resolved : (spec : RoomSpec) (fields : Fields) (j k : ℕ) → IsFixedAt spec fields j k → ((a : ℕ) → a < spec.simulators → fields.level a j k ≢ 1) → IsResolved (levels_at spec fields j k)
fixed_is_resolved spec fields j k at none =
    let levels = levels_at spec fields j k in
    let long : length levels ≡ spec.simulators = length-map-range_with_len (λ i. fields.level i j k) 0 spec.simulators in
    let read : (i : ℕ) → i < spec.simulators → get_or levels i 0 ≡ fields.level i j k = λ i below. get_or-map-range_with_len (λ a. fields.level a j k) 0 spec.simulators i i 0 below (omega arith) in
    record {
      simulator = at.simulator;
      below = let b = at.below in omega arith;
      two = read at.simulator at.below ∙ at.two;
      no_one = λ i below one. let within : i < spec.simulators = omega (arith, long, below) in none i within (sym (read i within) ∙ one);
    }

pub asked_is_resolved : (spec : RoomSpec) (fields : Fields) (i j : ℕ) → KeepsTrack spec fields → IsSound spec fields → i < spec.simulators → j < processes spec → is_reduction spec ≡ true → goal_at (fields.mind i).goals j ≡ goals.AskInput
    → ((a : ℕ) → a < spec.simulators → fields.level a j 0 ≢ 1) → IsResolved (levels_at spec fields j 0)
asked_is_resolved spec fields i j tracks sound below within kind is none =
    subst IsResolved (sym (levels_are_phases spec fields tracks j 0))
    (settles spec.simulators (phases_in fields j 0) i (fields.level i j 0) (sound.beside j 0 (inr (kind, within))) below (asking_phase spec fields i j tracks is)
    (λ a low one. none a low (level_is spec.rounds (fields.mind a) (fields.step a) (fields.level a) (tracks.told a) j 0 ∙ one)))
