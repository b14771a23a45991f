-- Where a simulator is idle and nobody else is in an open turn, each process is settled in its mind.
use Rattle.std.proofs.Common.{◌≡◌, ◌≢◌, ◌⊎◌, inl, inr, ℕ, zero, suc, ◌<◌, ◌≤◌, Bool, true, false, cond, eqb, leb, ltb, Option, Some, None, refl, sym, ap, ◌∙◌, subst, arith}
use Rattle.std.proofs.lemmas.Bool.{leb-true, cases_Bool}
use mathlib.Core.Logic.{dite}
use native.Mathlib.Decide.{ℕ_discrete}
use Rattle.room_spec.specs.Rooms.{IsWithinLimits, processes}
use Rattle.room_spec.specs.Sizes.{sizes_in}
use Rattle.safe_agreement.specs.Levels.{IsResolved}
use Rattle.safe_agreement.specs.Phases.{Before, Left}
use Rattle.safe_agreement.proofs.CallerLemmas.{resolves, settles}
use Rattle.simulator.specs.declared.goal.Goal.{Goal}
use Rattle.simulator.specs.declared.goal.Goal.TheVariants as goals
use Rattle.simulator.specs.declared.line.Line.{Line}
use Rattle.simulator.specs.declared.sweep.Ready.TheVariants as ready
use Rattle.simulator.specs.Minds.{goal_at, current_goal, unfinished_in}
use Rattle.simulator.specs.Quiet.{HasNoWrite}
use Rattle.simulator.specs.Ranges.{IsGoal, IsMind}
use Rattle.simulator.specs.Sweeps.{is_resting}
use Rattle.simulator.proofs.CallerLemmas.{rest_line}
use Rattle.room_core.specs.Calls.{RoomState, configuration_of}
use Rattle.room_core.specs.Fields.{StepMap, Fields, levels_at, chosen_at, ready_in}
use Rattle.room_core.specs.Reading.{AreFieldsOf, worded}
use Rattle.room_core.specs.Agreements.{IsInside}
use Rattle.room_core.specs.Settled.{IsSettledInMind, mind_decided, mind_spent, mind_waits, mind_waits_for_input}
use Rattle.room_core.specs.Tracks.{AtRest, Tells, stage_of}
use Rattle.room_core.proofs.fields.Replays.{shapes}
use Rattle.room_core.proofs.fields.FieldReplays.{mind_is}
use Rattle.room_core.proofs.fields.FieldCalls.{fields_stand}
use Rattle.room_core.proofs.fields.Tracks.{beside, at_sweep, rest_stage_for}
use Rattle.room_core.proofs.fields.LineTracks.{each_at_rest}
use Rattle.room_core.proofs.agreements.Stages.{Progress, Past, is_proposal, is_unproposed, line_progress, phase_begun, phase_of, now, phases_in, level_is, levels_are_phases, one_inside}
use Rattle.room_core.proofs.agreements.Sound.{IsAgreed, fields_sound}
use Rattle.room_core.proofs.settling.Marks.{mark, IsBlockedCount, all_blocked}
use Rattle.room_core.proofs.settling.Blocking.{is_nothing, unresolved}

-- between two turns, unless it has crashed
abbrev pub Rests : Fields → ℕ → Type 0
Rests fields a = fields.crashed a ≡ false → is_resting (fields.mind a).line ≡ true

-- somebody is at level 1, or nobody is
pub one_or_none : (m : ℕ) (level : ℕ → ℕ) → ((a : ℕ) × (a < m) × (level a ≡ 1)) ⊎ ((a : ℕ) → a < m → level a ≢ 1)
one_or_none zero level = inr (λ a below. absurd (omega arith))
one_or_none (suc m) level = dite (ℕ_discrete (level m) 1)
    (λ (e : level m ≡ 1). inl (m, omega arith, e))
    (λ (n : level m ≢ 1). elim (one_or_none m level) [
      | inl some ↦ inl (some.0, omega (arith, some.1), some.2)
      | inr none ↦ inr (λ a below. dite (ℕ_discrete a m) (λ (e : a ≡ m). subst (λ (b : ℕ). level b ≢ 1) (sym e) n) (λ (o : a ≢ m). none a (omega (arith, o))))
    ])

pub both_past : (here : Bool) → cond here Past Past ≡ Past
both_past true = refl
both_past false = refl

enough_by : (rests enough has_turns : Bool) → cond rests (cond enough ready.Idle (cond has_turns ready.Step ready.OutOfTurns)) ready.Step ≡ ready.Idle → (rests ≡ true) × (enough ≡ true)
enough_by true true has_turns is = (refl, refl)
enough_by true false true is = absurd cc
enough_by true false false is = absurd cc
enough_by false enough has_turns is = absurd cc

blocked_by : (b : Bool) (round : ℕ) → HasNoWrite (cond b (goals.Ask round) (goals.Write round 0)) → b ≡ true
blocked_by true round is = refl
blocked_by false round is = absurd is

input_blocked : (b : Bool) → HasNoWrite (cond b goals.AskInput (goals.Propose 0)) → b ≡ true
input_blocked true is = refl
input_blocked false is = absurd is

nothing_is : (chosen : Option ℕ) → is_nothing chosen ≡ true → chosen ≡ None
nothing_is None is = refl
nothing_is (Some x) is = absurd cc

module _ (room : RoomState) (fields : Fields) (limits : IsWithinLimits room.spec) (are : AreFieldsOf room fields) where
  -- who is at level 1 has crashed, where all others rest
  pub crashed_inside : (a j k : ℕ) → Rests fields a → fields.level a j k ≡ 1 → fields.crashed a ≡ true
  crashed_inside a j k rests one = elim (cases_Bool (fields.crashed a)) [
    | inl crashed ↦ crashed
    | inr alive ↦
        let turn = one_inside room.spec fields (fields_stand room fields limits are).tracks a j k one in
        absurd (subst IsInside (rest_line (fields.mind a).line (rests alive)) turn.line)
  ]

  module _ (i : ℕ) (below : i < room.spec.simulators) (rest : is_resting (fields.mind i).line ≡ true) where
    is_mind : IsMind room.spec (worded (sizes_in room.spec) (fields.mind i))
    is_mind = subst (IsMind room.spec) (mind_is (configuration_of room) fields i (fields_stand room fields limits are) below) ((shapes (configuration_of room) limits are.run).each i below)

    tells : (p : ℕ) → Tells room.spec.rounds (goal_at (fields.mind i).goals p) AtRest (fields.step i p) (fields.level i p)
    tells p =
        let mind = fields.mind i in
        let told = (fields_stand room fields limits are).tracks.told i in
        let own = subst (λ (line : Line). Tells room.spec.rounds (current_goal mind) (stage_of line) (fields.step i mind.process) (fields.level i mind.process)) (rest_line mind.line rest) (at_sweep room.spec.rounds mind (fields.step i) (fields.level i) told) in
        each_at_rest room.spec.rounds mind.process mind.goals (fields.step i) (fields.level i) (beside room.spec.rounds mind (fields.step i) (fields.level i) told) own p

    left_here : (j k : ℕ) → is_proposal (goal_at (fields.mind i).goals j) ≡ false → fields.step i j ≡ k → phases_in fields j k i ≡ Left (fields.level i j k)
    left_here j k begun same =
        let mind = fields.mind i in
        let here = eqb j mind.process in
        ap (λ (b : Bool). cond b Before (phase_begun mind (fields.step i) (fields.level i) j k)) (ap (is_unproposed (goal_at mind.goals j)) (rest_stage_for mind j (rest_line mind.line rest)) ∙ begun)
        ∙ ap (λ (p : Progress). phase_of p (fields.level i j k))
        (now (fields.step i j) k here (line_progress mind.line) same ∙ ap (λ (l : Line). cond here (line_progress l) Past) (rest_line mind.line rest) ∙ both_past here)

    -- an agreement that it has left, and that isn't resolved, has somebody at level 1
    blocked_one : (j k : ℕ) → IsAgreed room.spec j k → is_proposal (goal_at (fields.mind i).goals j) ≡ false → fields.step i j ≡ k → chosen_at room.spec fields j k ≡ None → (a : ℕ) × (a < room.spec.simulators) × (fields.level a j k ≡ 1)
    blocked_one j k low begun same none = elim (one_or_none room.spec.simulators (λ a. fields.level a j k)) [
      | inl some ↦ some
      | inr nobody ↦
          let spec = room.spec in
          let tracks = (fields_stand room fields limits are).tracks in
          let sound = fields_sound room fields limits are in
          let resolved : IsResolved (levels_at spec fields j k) = subst IsResolved (sym (levels_are_phases spec fields tracks j k))
          (settles spec.simulators (phases_in fields j k) i (fields.level i j k) (sound.beside j k low) below (left_here j k begun same)
          (λ a within one. nobody a within (level_is spec.rounds (fields.mind a) (fields.step a) (fields.level a) (tracks.told a) j k ∙ one))) in
          let to = resolves (levels_at spec fields j k) resolved in
          absurd (let wrong : None ≡ Some to.0 = sym none ∙ to.1 in cc)
    ]

    settled_at : (goal : Goal) (j : ℕ) → goal_at (fields.mind i).goals j ≡ goal → j < processes room.spec → ((a : ℕ) → a < room.spec.simulators → Rests fields a) → HasNoWrite (mark (unresolved room.spec fields) j goal) → IsSettledInMind room.spec fields i j
    settled_at (goals.Write k value) j is low rests waits = absurd waits
    settled_at (goals.Ask k) j is low rests waits =
        let spec = room.spec in
        let count : fields.step i j ≡ k = (subst (λ (g : Goal). Tells spec.rounds g AtRest (fields.step i j) (fields.level i j)) is (tells j)).counts in
        let range : IsGoal (sizes_in spec) (goals.Ask k) = subst (IsGoal (sizes_in spec)) is (is_mind.rounds j low) in
        let none = nothing_is (chosen_at spec fields j k) (blocked_by (unresolved spec fields j k) k waits) in
        let one = blocked_one j k (inl range.0) (ap is_proposal is) count none in
        mind_waits one.0 k is one.1 (crashed_inside one.0 j k (rests one.0 one.1) one.2) range.0 range.1 one.2
    settled_at (goals.Propose value) j is low rests waits = absurd waits
    settled_at goals.AskInput j is low rests waits =
        let spec = room.spec in
        let count : fields.step i j ≡ 0 = (subst (λ (g : Goal). Tells spec.rounds g AtRest (fields.step i j) (fields.level i j)) is (tells j)).counts in
        let kind : IsGoal (sizes_in spec) goals.AskInput = subst (IsGoal (sizes_in spec)) is (is_mind.rounds j low) in
        let none = nothing_is (chosen_at spec fields j 0) (input_blocked (unresolved spec fields j 0) waits) in
        let one = blocked_one j 0 (inr (kind, low)) (ap is_proposal is) count none in
        mind_waits_for_input one.0 is one.1 (crashed_inside one.0 j 0 (rests one.0 one.1) one.2) one.2
    settled_at goals.Done j is low rests waits = mind_decided is
    settled_at goals.Spent j is low rests waits = mind_spent is

    idle_settled : (j : ℕ) → j < processes room.spec → ((a : ℕ) → a < room.spec.simulators → Rests fields a) → unfinished_in (fields.mind i).goals ≤ fields.quiet i → IsBlockedCount (unresolved room.spec fields) (fields.mind i) (fields.quiet i) → IsSettledInMind room.spec fields i j
    idle_settled j low rests enough counts =
        settled_at (goal_at (fields.mind i).goals j) j refl low rests (all_blocked {S = StepMap} (unresolved room.spec fields) (fields.mind i) (fields.quiet i) j enough counts)

  pub idle_all : (i : ℕ) → i < room.spec.simulators → ready_in room.spec fields i ≡ ready.Idle → ((a : ℕ) → a < room.spec.simulators → a ≢ i → Rests fields a) → IsBlockedCount (unresolved room.spec fields) (fields.mind i) (fields.quiet i)
      → (is_resting (fields.mind i).line ≡ true) × ((j : ℕ) → j < processes room.spec → IsSettledInMind room.spec fields i j)
  idle_all i below is others counts =
      let parts = enough_by (is_resting (fields.mind i).line) (leb (unfinished_in (fields.mind i).goals) (fields.quiet i)) (ltb (fields.mind i).turns room.spec.turns) is in
      let rests : (a : ℕ) → a < room.spec.simulators → Rests fields a = λ a within. dite (ℕ_discrete a i)
      (λ (e : a ≡ i). λ alive. ap (λ (b : ℕ). is_resting (fields.mind b).line) e ∙ parts.0)
      (λ (n : a ≢ i). others a within n) in
      (parts.0, λ j low. idle_settled i below parts.0 j low rests (leb-true _ _ parts.1) counts)
