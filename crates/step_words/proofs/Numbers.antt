-- The steps of a schedule are those that its simulators have counted.
use Rattle.std.proofs.Common.{◌≡◌, ◌≢◌, ℕ, zero, suc, ◌+◌, ◌<◌, ◌≤◌, Bool, true, false, cond, eqb, List, [], ◌∷◌, refl, sym, ap, ap₂, ◌∙◌, subst, arith}
use Rattle.std.proofs.Math.ListN.{get_or-map}
use Rattle.std.proofs.lemmas.Bool.{eq-eqb, eqb-true, ne_eqb}
use Rattle.room_spec.specs.Rooms.{RoomSpec}
use Rattle.simulator.specs.Minds.{MindState}
use Rattle.simulator.specs.Ranges.{IsMind}
use Rattle.simulator.specs.Sweeps.{SweepState, opening_sweep}
use Rattle.room_core.specs.Calls.{RoomState, configuration_of, sweep_at}
use Rattle.room_core.specs.Counting.{total}
use Rattle.room_core.specs.Rooms.{Configuration, IsLegal, IsOneInterleaving, ScheduleEvent, after_event, crashes, mind_at, opening, steps, times}
use Rattle.room_core.proofs.CallerLemmas.{steps_within}
use Rattle.step_words.specs.Reported.{steps_in}

pub mind_is : (room : RoomState) (i : ℕ) → mind_at (configuration_of room) i ≡ (sweep_at room i).mind
mind_is room i = get_or-map (λ (sweep : SweepState). sweep.mind) room.sweeps i (opening_sweep room.spec i)

-- a simulator takes few steps
pub steps_low : (spec : RoomSpec) (mind : MindState) → IsMind spec mind → mind.steps ≤ 4294967294
steps_low spec mind is = let most = steps_within spec mind is in let turns = is.limits.turns.1 in omega (arith, most, turns)

same_totals : (one other : ℕ → ℕ) (count : ℕ) → ((i : ℕ) → i < count → one i ≡ other i) → total one count ≡ total other count
same_totals one other zero same = refl
same_totals one other (suc count) same = ap₂ (λ (a b : ℕ). a + b) (same_totals one other count (λ i below. same i (omega (arith, below)))) (same count (omega arith))

-- the times that a simulator is counted, with a step of simulator j
stepping : ℕ → List ScheduleEvent → ℕ → ℕ
stepping j schedule i = times i (steps j ∷ schedule)

other_times : (j i : ℕ) (schedule : List ScheduleEvent) → j ≢ i → times i (steps j ∷ schedule) ≡ times i schedule
other_times j i schedule other = ap (λ (b : Bool). cond b (suc (times i schedule)) (times i schedule)) (ne_eqb j i other)

own_times : (j : ℕ) (schedule : List ScheduleEvent) → times j (steps j ∷ schedule) ≡ suc (times j schedule)
own_times j schedule = grind arith

-- a step is one of its simulator
one_step : (j : ℕ) (schedule : List ScheduleEvent) (count : ℕ) → j < count → total (λ i. times i (steps j ∷ schedule)) count ≡ suc (total (λ i. times i schedule) count)
one_step j schedule zero below = absurd (omega (arith, below))
one_step j schedule (suc count) below = by (eqb j count) refl (one_step j schedule count)
  where
    by : (b : Bool) → eqb j count ≡ b → (j < count → total (λ i. times i (steps j ∷ schedule)) count ≡ suc (total (λ i. times i schedule) count)) → total (λ i. times i (steps j ∷ schedule)) (suc count) ≡ suc (total (λ i. times i schedule) (suc count))
    by true is earlier =
        let same : j ≡ count = eqb-true j count is in
        let before = same_totals (λ i. times i (steps j ∷ schedule)) (λ i. times i schedule) count (λ i low. other_times j i schedule (λ wrong. absurd (omega (arith, same, low, wrong)))) in
        let here = subst (λ (k : ℕ). times k (steps j ∷ schedule) ≡ suc (times k schedule)) same (own_times j schedule) in
        omega (arith, before, here)
    by false is earlier =
        let apart : j ≢ count = λ same. absurd (let wrong : true ≡ false = sym (eq-eqb j count same) ∙ is in cc) in
        let before = earlier (omega (arith, below, apart)) in
        let here = other_times j count schedule apart in
        omega (arith, before, here)

no_steps : (count : ℕ) → total (λ i. times i []) count ≡ 0
no_steps zero = refl
no_steps (suc count) = let before = no_steps count in omega (arith, before)

all_steps : (room : Configuration) (schedule : List ScheduleEvent) → IsLegal room schedule → total (λ i. times i schedule) room.spec.simulators ≡ steps_in schedule
all_steps room [] legal = no_steps room.spec.simulators
all_steps room (steps j ∷ schedule) legal =
    one_step j schedule room.spec.simulators legal.0.alive.below ∙ ap suc (all_steps (after_event room (steps j)) schedule legal.1)
all_steps room (crashes j ∷ schedule) legal = all_steps (after_event room (crashes j)) schedule legal.1

pub steps_counted : (room : Configuration) (one : IsOneInterleaving room) → ((i : ℕ) → i < room.spec.simulators → (mind_at room i).steps ≡ times i one.schedule)
    → total (λ i. (mind_at room i).steps) room.spec.simulators ≡ steps_in one.schedule
steps_counted room one counts =
    same_totals (λ i. (mind_at room i).steps) (λ i. times i one.schedule) room.spec.simulators counts ∙ all_steps (opening room.spec) one.schedule one.legal
