-- In the order of the points what is before in real time comes first.
use Rattle.std.proofs.Common.{◌≡◌, ℕ, zero, suc, ◌+◌, ◌-◌, ◌<◌, ◌≤◌, true, false, List, length, inl, inr, refl, sym, ap, ◌∙◌, subst, arith}
use Rattle.std.proofs.lemmas.Bool.{cases_Bool, cases_eq, cases_lt}
use Rattle.room_spec.specs.Rooms.{IsWithinLimits, processes}
use Rattle.sim_memory.proofs.CallerLemmas.{merged_reached}
use Rattle.room_core.specs.Calls.{RoomState}
use Rattle.room_core.specs.Fields.{Fields}
use Rattle.room_core.specs.Reading.{AreFieldsOf}
use Rattle.room_core.specs.Agreements.{greatest_step, has_out}
use Rattle.room_core.specs.Moments.{fields_at}
use Rattle.room_core.specs.Points.{Point, Writes, Snaps, Decides, HasFixed, TakesEffect, read_time, write_counted, snapshot_read, decision_stored, points_at}
use Rattle.room_core.specs.Timelines.{Timeline, IsTimeline, Moves, nothing, writes, snaps, decides, timeline_of}
use Rattle.room_core.specs.RealTime.{HasBegun, HasEnded, IsOperation, Precedes}
use Rattle.room_core.proofs.agreements.FixedTests.{fixed_of}
use Rattle.room_core.proofs.points.RoomPoints.{fixed_lasts, read_counted, read_first, timelines}

-- ---- decisions stay

module _ (n rounds : ℕ) (line : Timeline) (at : ℕ → List Point) (is : IsTimeline n rounds line at) where
  stays_at : (time p : ℕ) (points : List Point) → Moves n rounds line time points → p < n → line.has_decided time p ≡ true → line.has_decided (time + 1) p ≡ true
  stays_at time p points (nothing counted decided unread) low has = decided p low ∙ has
  stays_at time p points (writes q r low' before after others decided unread) low has = decided p low ∙ has
  stays_at time p points (snaps q r passed read alone counted decided) low has = decided p low ∙ has
  stays_at time p points (decides q decision low' live done others counted unread is' last passed read) low has = elim (cases_eq p q) [
    | inl same ↦ ap (line.has_decided (time + 1)) same ∙ done
    | inr apart ↦ others p low apart ∙ has
  ]

  stays_for : (count time p : ℕ) → time + count ≤ line.length → p < n → line.has_decided time p ≡ true → line.has_decided (time + count) p ≡ true
  stays_for zero time p within low has = subst (λ (t : ℕ). line.has_decided t p ≡ true) (omega arith) has
  stays_for (suc count) time p within low has =
      let before = stays_for count time p (omega arith) low has in
      let next : (time + count) + 1 ≡ time + suc count = omega arith in
      subst (λ (t : ℕ). line.has_decided t p ≡ true) next (stays_at (time + count) p (at (time + count)) (is.moves (time + count) (omega arith)) low before)

  pub decision_stays : (s t p : ℕ) → s ≤ t → t ≤ line.length → p < n → line.has_decided s p ≡ true → line.has_decided t p ≡ true
  decision_stays s t p before within low has =
      let same : s + (t - s) ≡ t = omega arith in
      subst (λ (u : ℕ). line.has_decided u p ≡ true) same (stays_for (t - s) s p (omega (arith, before, within)) low has)

-- ---- what has come about came about at some step

module _ (n rounds : ℕ) (line : Timeline) (at : ℕ → List Point) (is : IsTimeline n rounds line at) where
  at_most_one : (time p : ℕ) (points : List Point) → Moves n rounds line time points → p < n → line.counted (time + 1) p ≤ line.counted time p + 1
  at_most_one time p points (nothing counted decided unread) low = let e = counted p low in omega (arith, e)
  at_most_one time p points (writes q r low' before after others decided unread) low = elim (cases_eq p q) [
    | inl same ↦ subst (λ (o : ℕ). line.counted (time + 1) o ≤ line.counted time o + 1) (sym same) (omega (arith, before, after))
    | inr apart ↦ let e = others p low apart in omega (arith, e)
  ]
  at_most_one time p points (snaps q r passed read alone counted decided) low = let e = counted p low in omega (arith, e)
  at_most_one time p points (decides q decision low' live done others counted unread is' last passed read) low = let e = counted p low in omega (arith, e)

  pub counted_once : (moment p r : ℕ) → moment ≤ line.length → p < n → 1 ≤ r → r ≤ line.counted moment p → (time : ℕ) × (time < moment) × (line.counted time p < r) × (line.counted (time + 1) p ≡ r)
  counted_once zero p r within low first most = absurd (let e = is.none p in omega (arith, e, first, most))
  counted_once (suc moment) p r within low first most = elim (cases_lt (line.counted moment p) r) [
    | inl less ↦
        let next : moment + 1 ≡ suc moment = omega arith in
        let one = at_most_one moment p (at moment) (is.moves moment (omega arith)) low in
        let most' : r ≤ line.counted (moment + 1) p = subst (λ (t : ℕ). r ≤ line.counted t p) (sym next) most in
        (moment, omega arith, less, omega (arith, one, less, most'))
    | inr enough ↦ let before = counted_once moment p r (omega arith) low first enough in (before.0, let e = before.1 in omega (arith, e), before.2, before.3)
  ]

  pub decided_once : (moment p : ℕ) → line.has_decided moment p ≡ true → (time : ℕ) × (time < moment) × (line.has_decided time p ≡ false) × (line.has_decided (time + 1) p ≡ true)
  decided_once zero p has = absurd (let wrong : true ≡ false = sym has ∙ is.undecided p in cc)
  decided_once (suc moment) p has = elim (cases_Bool (line.has_decided moment p)) [
    | inl before ↦ let it = decided_once moment p before in (it.0, let e = it.1 in omega (arith, e), it.2, it.3)
    | inr none ↦
        let next : suc moment ≡ moment + 1 = omega arith in
        (moment, omega arith, none, subst (λ (t : ℕ). line.has_decided t p ≡ true) next has)
  ]

-- ---- before and after a moment

module _ (room : RoomState) (fields : Fields) (limits : IsWithinLimits room.spec) (are : AreFieldsOf room fields) (moment : ℕ) (within : moment ≤ length are.run.schedule) where
  abbrev Then : Fields
  Then = fields_at room.spec are.run.schedule moment

  abbrev TakesAt : ℕ → Point → Type 0
  TakesAt time point = TakesEffect room.spec are.run.schedule fields time point

  line_is : IsTimeline (processes room.spec) room.spec.rounds (timeline_of room.spec are.run.schedule fields) (points_at room.spec are.run.schedule fields)
  line_is = timelines room fields limits are

  counted_stays : (s t p : ℕ) → s ≤ t → t ≤ length are.run.schedule → p < processes room.spec → greatest_step room.spec (fields_at room.spec are.run.schedule s) p ≤ greatest_step room.spec (fields_at room.spec are.run.schedule t) p
  counted_stays s t p before late low = line_is.grows s t p before late low

  out_stays : (s t p : ℕ) → s ≤ t → t ≤ length are.run.schedule → p < processes room.spec → has_out room.spec (fields_at room.spec are.run.schedule s) p ≡ true → has_out room.spec (fields_at room.spec are.run.schedule t) p ≡ true
  out_stays s t p before late low has = decision_stays (processes room.spec) room.spec.rounds (timeline_of room.spec are.run.schedule fields) (points_at room.spec are.run.schedule fields) line_is s t p before late low has

  -- what has ended took effect before
  pub ended_before : (time : ℕ) (point : Point) → time < length are.run.schedule → TakesAt time point → HasEnded room.spec Then point → time < moment
  ended_before time point early (write_counted p r low less now) ended = elim (cases_lt time moment) [
    | inl before ↦ before
    | inr late ↦ absurd (let more = counted_stays moment time p late (omega (arith, early)) low in omega (arith, more, less, ended))
  ]
  ended_before time point early (snapshot_read p r passed read) ended =
      let before = read_first room fields limits are p r moment passed within ended in
      omega (arith, before, read)
  ended_before time point early (decision_stored p decision low none now is) ended = elim (cases_lt time moment) [
    | inl before ↦ before
    | inr late ↦ absurd (let has = out_stays moment time p late (omega (arith, early)) low ended in let wrong : true ≡ false = sym has ∙ none in cc)
  ]

  -- and whatever has ended took effect
  pub complete_by : (point : Point) → IsOperation room.spec fields point → HasEnded room.spec Then point → (time : ℕ) × (time < moment) × TakesAt time point
  complete_by (Writes p r) operation ended =
      let at = counted_once (processes room.spec) room.spec.rounds (timeline_of room.spec are.run.schedule fields) (points_at room.spec are.run.schedule fields) line_is moment p r within operation.0 operation.1 ended in
      (at.0, at.1, write_counted p r operation.0 at.2 at.3)
  complete_by (Snaps p r) operation ended =
      let passed : HasFixed room.spec fields p r = record { process = operation.0; first = operation.1; last = operation.2; is = fixed_of room.spec fields p r (fixed_lasts room fields limits are p r moment within ended) } in
      (read_time room.spec are.run.schedule fields p r, read_first room fields limits are p r moment passed within ended, snapshot_read p r passed refl)
  complete_by (Decides p decision) operation ended =
      let at = decided_once (processes room.spec) room.spec.rounds (timeline_of room.spec are.run.schedule fields) (points_at room.spec are.run.schedule fields) line_is moment p ended in
      (at.0, at.1, decision_stored p decision operation.0 at.2 at.3 operation.1)

  -- what has taken effect had begun
  pub begun_by : (time : ℕ) (point : Point) → TakesAt time point → time < moment → HasBegun room.spec Then point
  begun_by time point (write_counted p r low less now) before =
      let more = counted_stays (time + 1) moment p (omega (arith, before)) within low in
      let some = limits.shape.m_range.0 in
      let who = merged_reached room.spec.simulators (fields_at room.spec are.run.schedule moment).step p (omega (arith, some)) in
      (who.0, who.1, inl (let e = who.2 in omega (arith, e, more, now)))
  begun_by time point (snapshot_read p r passed read) before =
      let counted = read_counted room fields limits are p r passed in
      let at : greatest_step room.spec (fields_at room.spec are.run.schedule time) p ≡ r = subst (λ (t : ℕ). greatest_step room.spec (fields_at room.spec are.run.schedule t) p ≡ r) read counted in
      let more = counted_stays time moment p (omega (arith, before)) within passed.process in
      omega (arith, at, more)
  begun_by time point (decision_stored p decision low none now is) before = out_stays (time + 1) moment p (omega (arith, before)) within low now

-- ---- real time

pub in_real_time : (room : RoomState) (fields : Fields) → IsWithinLimits room.spec → (are : AreFieldsOf room fields) → (one other : Point) → (s t : ℕ) → s < length are.run.schedule → TakesEffect room.spec are.run.schedule fields s one
    → TakesEffect room.spec are.run.schedule fields t other → Precedes room.spec are.run.schedule one other → s < t
in_real_time room fields limits are one other s t early first second precedes = elim (cases_lt t precedes.moment) [
  | inl before ↦ absurd (precedes.waiting (begun_by room fields limits are precedes.moment precedes.early t other second before))
  | inr late ↦ let ended = ended_before room fields limits are precedes.moment precedes.early s one early first precedes.ended in omega (arith, ended, late)
]
