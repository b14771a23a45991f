-- At each time at most one write, snapshot or decision takes effect.
use Rattle.std.proofs.Common.{refl, ◌≡◌, ◌≢◌, ℕ, ◌+◌, ◌<◌, true, false, List, Some, sym, ap, ◌∙◌, arith, inl, inr}
use Rattle.std.proofs.lemmas.Bool.{cases_eq}
use Rattle.room_spec.specs.Rooms.{RoomSpec, processes}
use Rattle.room_core.specs.Rooms.{ScheduleEvent}
use Rattle.room_core.specs.Fields.{Fields}
use Rattle.room_core.specs.Points.{Point, Writes, Snaps, Decides, IsFixedIn, TakesEffect, write_counted, snapshot_read, decision_stored, AreEffects, no_effect, one_effect}
use Rattle.room_core.proofs.agreements.FixedTests.{in_line, of_line}
use Rattle.room_core.specs.Timelines.{Timeline, timeline_of, IsUnread, AreCounted, AreDecided, Moves, nothing, writes, snaps, decides}

some_is : (x y : ℕ) → Some x ≡ Some y → x ≡ y
some_is x y is = cc

module _ (spec : RoomSpec) (schedule : List ScheduleEvent) (final : Fields) (time : ℕ) where
  abbrev n : ℕ
  n = processes spec

  abbrev rounds : ℕ
  rounds = spec.rounds

  abbrev line : Timeline
  line = timeline_of spec schedule final

  abbrev Takes : Point → Type 0
  Takes = TakesEffect spec schedule final time

  -- no count changes, so no write takes effect
  not_counted : (p r : ℕ) → line.counted (time + 1) p ≡ line.counted time p → line.counted time p < r → line.counted (time + 1) p ≡ r → ⊥
  not_counted p r same less now = omega (arith, same, less, now)

  not_stored : (p : ℕ) → line.has_decided (time + 1) p ≡ line.has_decided time p → line.has_decided time p ≡ false → line.has_decided (time + 1) p ≡ true → ⊥
  not_stored p same none now = let wrong : true ≡ false = sym now ∙ same ∙ none in cc

  none_takes : AreCounted n line time → AreDecided n line time → IsUnread n rounds line time → (point : Point) → Takes point → ⊥
  none_takes counted decided unread point (write_counted p r low less now) = not_counted p r (counted p low) less now
  none_takes counted decided unread point (snapshot_read p r passed then_read) = unread p r (in_line spec final p r passed) then_read
  none_takes counted decided unread point (decision_stored p decision low none now is) = not_stored p (decided p low) none now

  write_takes : (p r : ℕ) → line.counted (time + 1) p ≡ r → ((q : ℕ) → q < n → q ≢ p → line.counted (time + 1) q ≡ line.counted time q) → AreDecided n line time → IsUnread n rounds line time → (point : Point) → Takes point → point ≡ Writes p r
  write_takes p r after others decided unread point (write_counted q s low less now) = elim (cases_eq q p) [
    | inl same ↦ let s_is : s ≡ r = sym now ∙ ap (λ (o : ℕ). line.counted (time + 1) o) same ∙ after in ap (λ (o : ℕ). Writes o s) same ∙ ap (λ (k : ℕ). Writes p k) s_is
    | inr apart ↦ absurd (not_counted q s (others q low apart) less now)
  ]
  write_takes p r after others decided unread point (snapshot_read q s passed then_read) = absurd (unread q s (in_line spec final q s passed) then_read)
  write_takes p r after others decided unread point (decision_stored q decision low none now is) = absurd (not_stored q (decided q low) none now)

  snap_takes : (p r : ℕ) → ((q s : ℕ) → IsFixedIn n rounds line.fixed q s → line.read q s ≡ time → (q ≡ p) × (s ≡ r)) → AreCounted n line time → AreDecided n line time → (point : Point) → Takes point → point ≡ Snaps p r
  snap_takes p r alone counted decided point (write_counted q s low less now) = absurd (not_counted q s (counted q low) less now)
  snap_takes p r alone counted decided point (snapshot_read q s passed then_read) = let at = alone q s (in_line spec final q s passed) then_read in ap (λ (o : ℕ). Snaps o s) at.0 ∙ ap (λ (k : ℕ). Snaps p k) at.1
  snap_takes p r alone counted decided point (decision_stored q decision low none now is) = absurd (not_stored q (decided q low) none now)

  decide_takes : (p decision : ℕ) → ((q : ℕ) → q < n → q ≢ p → line.has_decided (time + 1) q ≡ line.has_decided time q) → AreCounted n line time → IsUnread n rounds line time → line.decided p ≡ Some decision → (point : Point) → Takes point → point ≡ Decides p decision
  decide_takes p decision others counted unread is point (write_counted q s low less now) = absurd (not_counted q s (counted q low) less now)
  decide_takes p decision others counted unread is point (snapshot_read q s passed then_read) = absurd (unread q s (in_line spec final q s passed) then_read)
  decide_takes p decision others counted unread is point (decision_stored q other low none now is') = elim (cases_eq q p) [
    | inl same ↦ let v_is : other ≡ decision = some_is other decision (sym is' ∙ ap line.decided same ∙ is) in ap (λ (o : ℕ). Decides o other) same ∙ ap (λ (k : ℕ). Decides p k) v_is
    | inr apart ↦ absurd (not_stored q (others q low apart) none now)
  ]

  pub effects : (points : List Point) → Moves n rounds line time points → AreEffects spec schedule final time points
  effects points (nothing counted decided unread) = no_effect (none_takes counted decided unread)
  effects points (writes p r low before after others decided unread) = one_effect (Writes p r) (write_counted p r low (omega (arith, before)) after) (write_takes p r after others decided unread)
  effects points (snaps p r passed read alone counted decided) = one_effect (Snaps p r) (snapshot_read p r (of_line spec final p r passed) read) (snap_takes p r alone counted decided)
  effects points (decides p decision low live done others counted unread is last passed read) = one_effect (Decides p decision) (decision_stored p decision low live done is) (decide_takes p decision others counted unread is)

-- when a snapshot was read nothing was counted
pub still_read : (n rounds : ℕ) (line : Timeline) (p r : ℕ) (points : List Point) → Moves n rounds line (line.read p r) points → IsFixedIn n rounds line.fixed p r → AreCounted n line (line.read p r)
still_read n rounds line p r points (nothing counted decided unread) passed = counted
still_read n rounds line p r points (writes q s low before after others decided unread) passed = absurd (unread p r passed refl)
still_read n rounds line p r points (snaps q s passed' read alone counted decided) passed = counted
still_read n rounds line p r points (decides q decision low live done others counted unread is last passed' read) passed = counted
