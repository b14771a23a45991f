-- A schedule has as many events as its simulators have taken steps and crashed.
use Rattle.std.proofs.Common.{◌≡◌, ◌≢◌, ℕ, zero, suc, ◌+◌, ◌<◌, Bool, true, false, cond, eqb, eq-eqb, ne_eqb, List, [], ◌∷◌, length, refl, sym, ap, ◌∙◌, arith}
use Rattle.std.proofs.lemmas.List.{get_or-set_same, get_or-set_other}
use Rattle.std.proofs.Math.ListN.{get_or-replicate}
use mathlib.Core.Logic.{dite}
use native.Mathlib.Decide.{ℕ_discrete}
use Rattle.room_spec.specs.Rooms.{RoomSpec, IsWithinLimits}
use Rattle.room_core.specs.Counting.{events_of, events_so_far, total}
use Rattle.room_core.specs.Rooms.{Configuration, ScheduleEvent, steps, crashes, opening, mind_at, crashed_at, MayHappen, after_event, replay, IsLegal, IsOneInterleaving, IsShaped}
use Rattle.room_core.proofs.fields.Replays.{counted_at, opening_at, opening_shape, shape_after}

-- ---- sums

total_same : (f g : ℕ → ℕ) (m : ℕ) → ((i : ℕ) → i < m → f i ≡ g i) → total f m ≡ total g m
total_same f g zero same = refl
total_same f g (suc m) same =
    let rest = total_same f g m (λ i below. same i (omega (arith, below))) in
    let here = same m (omega arith) in
    omega (arith, rest, here)

-- one more at one number
total_more : (f g : ℕ → ℕ) (m j : ℕ) → j < m → g j ≡ f j + 1 → ((i : ℕ) → i < m → i ≢ j → g i ≡ f i) → total g m ≡ total f m + 1
total_more f g zero j below one others = absurd (omega (arith, below))
total_more f g (suc m) j below one others = dite (ℕ_discrete m j)
    (λ (e : m ≡ j).
    let rest = total_same g f m (λ i less. others i (omega (arith, less)) (λ same. omega (arith, less, same, e))) in
    let here : g m ≡ f m + 1 = ap g e ∙ one ∙ ap (λ (k : ℕ). f k + 1) (sym e) in
    omega (arith, rest, here))
    (λ (n : m ≢ j).
    let rest = total_more f g m j (omega (arith, below, n)) one (λ i less apart. others i (omega (arith, less)) apart) in
    let here = others m (omega arith) n in
    omega (arith, rest, here))

total_zero : (f : ℕ → ℕ) (m : ℕ) → ((i : ℕ) → i < m → f i ≡ 0) → total f m ≡ 0
total_zero f zero none = refl
total_zero f (suc m) none =
    let rest = total_zero f m (λ i less. none i (omega (arith, less))) in
    let here = none m (omega arith) in
    omega (arith, rest, here)

-- ---- one event

crash_here : (room : Configuration) (i : ℕ) → IsShaped room → i < room.spec.simulators → crashed_at (after_event room (crashes i)) i ≡ true
crash_here room i shape below = get_or-set_same room.crashed i true false (let count = shape.crashed in omega (arith, count, below))

event_more : (room : Configuration) (event : ScheduleEvent) → MayHappen room event → IsShaped room → events_so_far (after_event room event) ≡ events_so_far room + 1
event_more room (steps j) may shape =
    total_more (events_of room) (events_of (after_event room (steps j))) room.spec.simulators j may.alive.below
    (let here = counted_at room (steps j) j may shape in let one : ◌≡◌ {A = ℕ} (cond (eqb j j) 1 0) 1 = ap (λ (b : Bool). cond {A = ℕ} b 1 0) (eq-eqb j j refl) in omega (arith, here, one))
    (λ i below apart. let here = counted_at room (steps j) i may shape in let none : ◌≡◌ {A = ℕ} (cond (eqb j i) 1 0) 0 = ap (λ (b : Bool). cond {A = ℕ} b 1 0) (ne_eqb j i (λ e. apart (sym e))) in omega (arith, here, none))
event_more room (crashes j) may shape =
    total_more (events_of room) (events_of (after_event room (crashes j))) room.spec.simulators j may.below
    (let now : ◌≡◌ {A = ℕ} (cond (crashed_at (after_event room (crashes j)) j) 1 0) 1 = ap (λ (b : Bool). cond {A = ℕ} b 1 0) (crash_here room j shape may.below) in let before : ◌≡◌ {A = ℕ} (cond (crashed_at room j) 1 0) 0 = ap (λ (b : Bool). cond {A = ℕ} b 1 0) may.alive in omega (arith, now, before))
    (λ i below apart. ap (λ (b : Bool). (mind_at room i).steps + cond b 1 0) (get_or-set_other room.crashed j i true false apart))

-- ---- a schedule

events_replay : (room : Configuration) (schedule : List ScheduleEvent) → IsLegal room schedule → IsShaped room → events_so_far (replay room schedule) ≡ events_so_far room + length schedule
events_replay room [] legal shape = omega arith
events_replay room (event ∷ schedule) legal shape =
    let rest = events_replay (after_event room event) schedule legal.1 (shape_after room event legal.0 shape) in
    let here = event_more room event legal.0 shape in
    let long : length (event ∷ schedule) ≡ length schedule + 1 = omega arith in
    omega (arith, rest, here, long)

none_at_first : (spec : RoomSpec) (i : ℕ) → i < spec.simulators → events_of (opening spec) i ≡ 0
none_at_first spec i below =
    let idle : (mind_at (opening spec) i).steps ≡ 0 = ap (λ (mind : Rattle.simulator.specs.Minds.MindState). mind.steps) (opening_at spec i below) in
    let up : ◌≡◌ {A = ℕ} (cond (crashed_at (opening spec) i) 1 0) 0 = ap (λ (b : Bool). cond {A = ℕ} b 1 0) (get_or-replicate spec.simulators i false false below) in
    omega (arith, idle, up)

pub events_are : (room : Configuration) → IsWithinLimits room.spec → (one : IsOneInterleaving room) → length one.schedule ≡ events_so_far room
events_are room limits one =
    let all = events_replay (opening room.spec) one.schedule one.legal (opening_shape room.spec limits) in
    let none = total_zero (events_of (opening room.spec)) room.spec.simulators (none_at_first room.spec) in
    let end = ap events_so_far one.leads in
    omega (arith, all, none, end)
