-- What a simulator has proposed to an agreement, and the snapshot that it is about to propose, as its lines go on.
use Rattle.std.proofs.Common.{◌≡◌, ◌≢◌, ◌⊎◌, ℕ, ◌+◌, ◌<◌, ◌≤◌, Bool, true, false, cond, eqb, ltb, inl, inr, refl, sym, ap, ◌∙◌, subst, arith}
use Rattle.std.specs.Prelude.{⊤}
use Rattle.std.proofs.lemmas.Bool.{eq-eqb, eqb-true, ne_eqb, cases_order, cases_lt}
use mathlib.Core.Logic.{dite}
use native.Mathlib.Decide.{ℕ_discrete}
use Rattle.room_spec.specs.Rooms.{RoomSpec, processes}
use Rattle.simulator.specs.declared.line.Line.TheVariants.{Snap, Show}
use Rattle.simulator.specs.Minds.{MindOf, current_round}
use Rattle.room_core.specs.Fields.{StepMap, Fields, changed, changed_pair, with_shown}
use Rattle.room_core.proofs.fields.Maps.{changed_here, changed_else, pair_here, pair_else}
use Rattle.room_core.proofs.agreements.Stages.{gets_past, Progress, Uncounted, Fresh, Scanned, Shown, Inside, Seen, Past, line_progress, progress_in, later, earlier, now, resting}
use Rattle.room_core.proofs.fields.Effects.{Own, process_on, round_on, IsTurn, IsLastWord, ScanEnds, step_loaded, Effect, stores, proposes, raises, collects_word, collects_again, scans, shows_word, shows, loads_word, enters, looks, leaves, asks_in_vain, finds, gets_input, gathers, goes_to, will_decide, decides}
use Rattle.room_core.proofs.agreements.PhaseSteps.{progress_else}

-- it has proposed
abbrev pub HasShown : Progress → Type 0
HasShown Uncounted = ⊥
HasShown Fresh = ⊥
HasShown Scanned = ⊥
HasShown Shown = ⊤
HasShown Inside = ⊤
HasShown (Seen saw) = ⊤
HasShown Past = ⊤

abbrev pub progress_at : MindOf StepMap → (ℕ → ℕ) → ℕ → ℕ → Progress
progress_at mind step p r = progress_in (step p) r (eqb p mind.process) (line_progress mind.line)

abbrev pub progress_own : Own → ℕ → ℕ → Progress
progress_own own p r = progress_at own.mind own.step p r

-- ---- plain facts

past_shown : (here : Bool) → HasShown (cond here Past Past)
past_shown true = tt
past_shown false = tt

-- what was shown at one line was at another, if it was in the turn's round
shown_tests : (before after here : Bool) (line line' : Progress) → (HasShown line' → HasShown line) → HasShown (cond before Uncounted (cond after Past (cond here line' Past))) → HasShown (cond before Uncounted (cond after Past (cond here line Past)))
shown_tests true after here line line' back shown = shown
shown_tests false true here line line' back shown = tt
shown_tests false false true line line' back shown = back shown
shown_tests false false false line line' back shown = tt

shown_line : (step r : ℕ) (here : Bool) (line line' : Progress) → (HasShown line' → HasShown line) → HasShown (progress_in step r here line') → HasShown (progress_in step r here line)
shown_line step r here line line' back shown = shown_tests (ltb step r) (ltb r step) here line line' back shown

shown_raised : (step r : ℕ) → HasShown (progress_in (step + 1) r true Fresh) → HasShown (progress_in step r true Past)
shown_raised step r shown = by_order (cases_order (step + 1) r)
  where
    by_least : (r ≡ step) ⊎ (r < step) → HasShown (progress_in step r true Past)
    by_least (inl e) = subst HasShown (sym (now step r true Past (sym e))) tt
    by_least (inr less) = subst HasShown (sym (earlier step r true Past less)) tt

    by_order : (step + 1 ≡ r) ⊎ ((step + 1 < r) ⊎ (r < step + 1)) → HasShown (progress_in step r true Past)
    by_order (inl e) = absurd (subst HasShown (now (step + 1) r true Fresh e) shown)
    by_order (inr (inl less)) = absurd (subst HasShown (later (step + 1) r true Fresh less) shown)
    by_order (inr (inr less)) = by_least (elim (cases_lt r step) [ inl before ↦ inr before | inr after ↦ inl (omega arith) ])

-- only a turn that stands at Show has a snapshot and hasn't proposed it
scanned_tests : (before after here : Bool) (line : Progress) → cond before Uncounted (cond after Past (cond here line Past)) ≡ Scanned → line ≡ Scanned
scanned_tests true after here line is = absurd cc
scanned_tests false true here line is = absurd cc
scanned_tests false false true line is = is
scanned_tests false false false line is = absurd cc

scanned_line : (step r : ℕ) (here : Bool) (line : Progress) → progress_in step r here line ≡ Scanned → line ≡ Scanned
scanned_line step r here line is = scanned_tests (ltb step r) (ltb r step) here line is

pub scanned_by : (step r : ℕ) (here : Bool) (line : Progress) → progress_in step r here line ≡ Scanned → (step ≡ r) × (here ≡ true)
scanned_by step r here line is = by_order (cases_order step r)
  where
    by_here : (b : Bool) → ◌≡◌ {A = Progress} (cond b line Past) Scanned → b ≡ true
    by_here true e = refl
    by_here false e = absurd cc

    no_uncounted : ◌≡◌ {A = Progress} Uncounted Scanned → ⊥
    no_uncounted e = cc

    no_past : ◌≡◌ {A = Progress} Past Scanned → ⊥
    no_past e = cc

    by_order : (step ≡ r) ⊎ ((step < r) ⊎ (r < step)) → (step ≡ r) × (here ≡ true)
    by_order (inl e) = (e, by_here here (sym (now step r here line e) ∙ is))
    by_order (inr (inl less)) = absurd (no_uncounted (sym (later step r here line less) ∙ is))
    by_order (inr (inr less)) = absurd (no_past (sym (earlier step r here line less) ∙ is))

-- ---- each effect

module _ (spec : RoomSpec) (fields : Fields) (own : Own) (p r : ℕ) where
  abbrev Kept : (ℕ → ℕ → StepMap) → Type 0
  Kept view = (HasShown (progress_own own p r) × (view p r ≡ own.view p r)) ⊎ ((progress_own own p r ≡ Scanned) × (view p r ≡ with_shown spec (own.view p r) own.mind) × IsLastWord spec own × (p ≡ own.mind.process) × (r ≡ round_on own) × (own.mind.line ≡ Show) × (p < processes spec))

  quiet_shown : (mind : MindOf StepMap) → line_progress own.mind.line ≡ Past → line_progress mind.line ≡ Past → HasShown (progress_at mind own.step p r) → Kept own.view
  quiet_shown mind is is' shown =
      inl (subst HasShown (resting (own.step p) r (eqb p mind.process) (eqb p own.mind.process) (line_progress mind.line) (line_progress own.mind.line) is' is) shown, refl)

  next_shown : (line line' : Progress) → line_progress own.mind.line ≡ line → (HasShown line' → HasShown line) → HasShown (progress_in (own.step p) r (eqb p own.mind.process) line') → Kept own.view
  next_shown line line' is back shown =
      inl (subst (λ (l : Progress). HasShown (progress_in (own.step p) r (eqb p own.mind.process) l)) (sym is) (shown_line (own.step p) r (eqb p own.mind.process) line line' back shown), refl)

  raise_shown : line_progress own.mind.line ≡ Past → HasShown (progress_in (changed own.step (process_on own) (own.step (process_on own) + 1) p) r (eqb p own.mind.process) Fresh) → HasShown (progress_in (own.step p) r (eqb p own.mind.process) Past)
  raise_shown is shown = dite (ℕ_discrete p own.mind.process)
      (λ (e : p ≡ own.mind.process).
      let here = eq-eqb p own.mind.process e in
      let step : changed own.step (process_on own) (own.step (process_on own) + 1) p ≡ own.step p + 1 = changed_here own.step (process_on own) (own.step (process_on own) + 1) p e ∙ ap (λ (q : ℕ). own.step q + 1) (sym e) in
      subst (λ (b : Bool). HasShown (progress_in (own.step p) r b Past)) (sym here)
      (shown_raised (own.step p) r
      (subst (λ (s : ℕ). HasShown (progress_in s r true Fresh)) step (subst (λ (b : Bool). HasShown (progress_in (changed own.step (process_on own) (own.step (process_on own) + 1) p) r b Fresh)) here shown))))
      (λ (n : p ≢ own.mind.process).
      let here = ne_eqb p own.mind.process n in
      subst (λ (b : Bool). HasShown (progress_in (own.step p) r b Past)) (sym here)
      (subst (λ (s : ℕ). HasShown (progress_in s r false Fresh)) (changed_else own.step (process_on own) (own.step (process_on own) + 1) p n)
      (subst (λ (b : Bool). HasShown (progress_in (changed own.step (process_on own) (own.step (process_on own) + 1) p) r b Fresh)) here shown)))

  abbrev shown_new : ℕ → ℕ → StepMap
  shown_new = changed_pair own.view (process_on own) (round_on own) (with_shown spec (own.view (process_on own) (round_on own)) own.mind)

  shown_elsewhere : (line : Progress) → own.step (process_on own) ≡ round_on own → (p ≡ process_on own → r ≡ round_on own → ⊥) → HasShown (progress_in (own.step p) r (eqb p own.mind.process) line) → Kept shown_new
  shown_elsewhere line count other shown = inl (
    subst HasShown (progress_else own.step (process_on own) (round_on own) p r (line_progress own.mind.line) line count other) shown,
    pair_else own.view (process_on own) (round_on own) (with_shown spec (own.view (process_on own) (round_on own)) own.mind) p r other,
  )

  at_turn : (line : Progress) → own.step (process_on own) ≡ round_on own → p ≡ process_on own → r ≡ round_on own → progress_in (own.step p) r (eqb p own.mind.process) line ≡ line
  at_turn line count e e' = ap (λ (b : Bool). progress_in (own.step p) r b line) (eq-eqb p own.mind.process e) ∙ now (own.step p) r true line (ap own.step e ∙ count ∙ sym e')

  -- the turn proposes the last word of its snapshot
  show_shown : IsTurn spec own Show → own.step (process_on own) ≡ round_on own → IsLastWord spec own → HasShown (progress_in (own.step p) r (eqb p own.mind.process) Shown) → Kept shown_new
  show_shown turn count last shown = dite (ℕ_discrete p (process_on own))
      (λ (e : p ≡ process_on own). dite (ℕ_discrete r (round_on own))
      (λ (e' : r ≡ round_on own).
      inr (
        at_turn (line_progress own.mind.line) count e e' ∙ ap line_progress turn.stands,
        ap (λ (q : ℕ). shown_new q r) e ∙ ap (λ (k : ℕ). shown_new (process_on own) k) e' ∙ pair_here own.view (process_on own) (round_on own) (with_shown spec (own.view (process_on own) (round_on own)) own.mind)
            ∙ ap (λ (q : ℕ). with_shown spec (own.view q (round_on own)) own.mind) (sym e) ∙ ap (λ (k : ℕ). with_shown spec (own.view p k) own.mind) (sym e'),
        last,
        e,
        e',
        turn.stands,
        let below = turn.process in omega (arith, e, below),
      ))
      (λ (n : r ≢ round_on own). shown_elsewhere Shown count (λ _ e'. n e') shown))
      (λ (n : p ≢ process_on own). shown_elsewhere Shown count (λ e _. n e) shown)

  -- or another one
  show_word_shown : line_progress own.mind.line ≡ Scanned → own.step (process_on own) ≡ round_on own → HasShown (progress_in (own.step p) r (eqb p own.mind.process) Scanned) → Kept shown_new
  show_word_shown is count shown = dite (ℕ_discrete p (process_on own))
      (λ (e : p ≡ process_on own). dite (ℕ_discrete r (round_on own))
      (λ (e' : r ≡ round_on own). absurd (subst HasShown (at_turn Scanned count e e') shown))
      (λ (n : r ≢ round_on own). shown_elsewhere Scanned count (λ _ e'. n e') shown))
      (λ (n : p ≢ process_on own). shown_elsewhere Scanned count (λ e _. n e) shown)

  -- what was proposed stays, and what is proposed is the snapshot at hand
  pub own_shown : (after : Own) → Effect spec fields own after → HasShown (progress_own after p r)
      → (HasShown (progress_own own p r) × (after.view p r ≡ own.view p r)) ⊎ ((progress_own own p r ≡ Scanned) × (after.view p r ≡ with_shown spec (own.view p r) own.mind) × IsLastWord spec own × (p ≡ own.mind.process) × (r ≡ round_on own) × (own.mind.line ≡ Show) × (p < processes spec))
  own_shown after (stores j k value rest goal count process first last) shown = quiet_shown after.mind (ap line_progress rest) refl shown
  own_shown after (proposes j value rest goal none unentered within kind) shown =
      inl (subst HasShown (resting (own.step p) r (eqb p j) (eqb p own.mind.process) Past (line_progress own.mind.line) refl (ap line_progress rest)) (shown_line (own.step p) r (eqb p j) Past Shown (λ s. tt) shown), refl)
  own_shown after (raises turn whole begun count) shown =
      inl (subst (λ (l : Progress). HasShown (progress_in (own.step p) r (eqb p own.mind.process) l)) (sym (ap line_progress turn.stands)) (raise_shown (ap line_progress turn.stands) shown), refl)
  own_shown after (collects_word turn count none more) shown = next_shown Fresh Fresh (ap line_progress turn.stands) (λ s. s) shown
  own_shown after (collects_again turn count none last several goes) shown = next_shown Fresh Fresh (ap line_progress turn.stands) (λ s. s) shown
  own_shown after (scans collects turn count none last ends) shown = next_shown Fresh Scanned (ap line_progress turn.stands) (λ s. s) shown
  own_shown after (gets_input chosen turn count less) shown = quiet_shown after.mind (ap line_progress turn.stands) refl shown
  own_shown after (loads_word found turn less more) shown = quiet_shown after.mind (ap line_progress turn.stands) refl shown
  own_shown after (shows_word turn count none more) shown = show_word_shown (ap line_progress turn.stands) count shown
  own_shown after (shows turn count none last) shown = show_shown turn count last shown
  own_shown after (enters turn count none) shown = next_shown Shown Inside (ap line_progress turn.stands) (λ s. s) shown
  own_shown after (looks turn count one) shown = next_shown Inside (line_progress after.mind.line) (ap line_progress turn.stands) (λ s. tt) shown
  own_shown after (leaves saw_two turn count one) shown = next_shown (Seen saw_two) Past (ap line_progress turn.stands) (λ s. s) shown
  own_shown after (asks_in_vain asking asks is) shown = quiet_shown after.mind asks.past refl shown
  own_shown after (finds asking chosen asks is) shown = quiet_shown after.mind asks.past (gets_past (current_round asking) chosen) shown
  own_shown after (gathers reading reads more) shown = quiet_shown after.mind reads.past refl shown
  own_shown after (goes_to reading value reads all is) shown = quiet_shown after.mind reads.past refl shown
  own_shown after (will_decide reading decision reads all is) shown = quiet_shown after.mind reads.past refl shown
  own_shown after (decides decision turn count) shown = quiet_shown after.mind (ap line_progress turn.stands) refl shown

  not_scanned : (mind : MindOf StepMap) (step : ℕ → ℕ) (line : Progress) → line_progress mind.line ≡ line → line ≢ Scanned → progress_at mind step p r ≡ Scanned → ⊥
  not_scanned mind step line is other scanned = other (sym is ∙ scanned_line (step p) r (eqb p mind.process) (line_progress mind.line) scanned)

  past_not : ◌≢◌ {A = Progress} Past Scanned
  past_not e = cc

  progress_scanned : line_progress own.mind.line ≡ Scanned → progress_in (own.step p) r (eqb p own.mind.process) Scanned ≡ Scanned → progress_own own p r ≡ Scanned
  progress_scanned is scanned = ap (λ (l : Progress). progress_in (own.step p) r (eqb p own.mind.process) l) is ∙ scanned

  -- a whole snapshot was there before; or the last word of it has just been loaded, and the simulator had counted the round
  pub own_scanned : (after : Own) → Effect spec fields own after → progress_own after p r ≡ Scanned
      → ((progress_own own p r ≡ Scanned) × (after.mind.snapshot ≡ own.mind.snapshot)) ⊎ ((after.mind.snapshot ≡ (step_loaded spec fields own).snapshot) × (own.step p ≡ r) × (p ≡ own.mind.process) × (own.mind.line ≡ Snap) × IsLastWord spec own × (p < processes spec) × (own.step (process_on own) ≡ round_on own) × ScanEnds spec fields own after.mind.collects)
  own_scanned after (stores j k value rest goal count process first last) is = absurd (not_scanned after.mind after.step Past refl past_not is)
  own_scanned after (proposes j value rest goal none unentered within kind) is = absurd (not_scanned after.mind after.step Shown refl (λ e. cc) is)
  own_scanned after (raises turn whole begun count) is = absurd (not_scanned after.mind after.step Fresh refl (λ e. cc) is)
  own_scanned after (collects_word turn count none more) is = absurd (not_scanned after.mind after.step Fresh refl (λ e. cc) is)
  own_scanned after (collects_again turn count none last several goes) is = absurd (not_scanned after.mind after.step Fresh refl (λ e. cc) is)
  own_scanned after (scans collects turn count none last ends) is =
      let at = scanned_by (own.step p) r (eqb p own.mind.process) Scanned is in
      let same : p ≡ own.mind.process = eqb-true p own.mind.process at.1 in
      inr (refl, at.0, same, turn.stands, last, let below = turn.process in omega (arith, same, below), count, ends)
  own_scanned after (gets_input chosen turn count less) is = absurd (not_scanned after.mind after.step Past refl past_not is)
  own_scanned after (loads_word found turn less more) is = absurd (not_scanned after.mind after.step Past refl past_not is)
  own_scanned after (shows_word turn count none more) is = inl (progress_scanned (ap line_progress turn.stands) is, refl)
  own_scanned after (shows turn count none last) is = absurd (not_scanned after.mind after.step Shown refl (λ e. cc) is)
  own_scanned after (enters turn count none) is = absurd (not_scanned after.mind after.step Inside refl (λ e. cc) is)
  own_scanned after (looks turn count one) is = absurd (not_scanned after.mind after.step (line_progress after.mind.line) refl (λ e. cc) is)
  own_scanned after (leaves saw_two turn count one) is = absurd (not_scanned after.mind after.step Past refl past_not is)
  own_scanned after (asks_in_vain asking asks is') is = absurd (not_scanned after.mind after.step Past refl past_not is)
  own_scanned after (finds asking chosen asks is') is = absurd (not_scanned after.mind after.step Past (gets_past (current_round asking) chosen) past_not is)
  own_scanned after (gathers reading reads more) is = absurd (not_scanned after.mind after.step Past refl past_not is)
  own_scanned after (goes_to reading value reads all is') is = absurd (not_scanned after.mind after.step Past refl past_not is)
  own_scanned after (will_decide reading decision reads all is') is = absurd (not_scanned after.mind after.step Past refl past_not is)
  own_scanned after (decides decision turn count) is = absurd (not_scanned after.mind after.step Past refl past_not is)

-- ---- step numbers

raised_most : (step : ℕ → ℕ) (j p : ℕ) → step p ≤ changed step j (step j + 1) p
raised_most step j p = dite (ℕ_discrete p j)
    (λ (e : p ≡ j). let is : changed step j (step j + 1) p ≡ step p + 1 = changed_here step j (step j + 1) p e ∙ ap (λ (q : ℕ). step q + 1) (sym e) in omega (arith, is))
    (λ (n : p ≢ j). let is : changed step j (step j + 1) p ≡ step p = changed_else step j (step j + 1) p n in omega (arith, is))

pub own_grows : (spec : RoomSpec) (fields : Fields) (own after : Own) (p : ℕ) → Effect spec fields own after → own.step p ≤ after.step p
own_grows spec fields own after p (stores j k value rest goal count process first last) = omega arith
own_grows spec fields own after p (proposes j value rest goal none unentered within kind) = omega arith
own_grows spec fields own after p (raises turn whole begun count) = raised_most own.step own.mind.process p
own_grows spec fields own after p (collects_word turn count none more) = omega arith
own_grows spec fields own after p (collects_again turn count none last several goes) = omega arith
own_grows spec fields own after p (scans collects turn count none last ends) = omega arith
own_grows spec fields own after p (gets_input chosen turn count less) = omega arith
own_grows spec fields own after p (loads_word found turn less more) = omega arith
own_grows spec fields own after p (shows_word turn count none more) = omega arith
own_grows spec fields own after p (shows turn count none last) = omega arith
own_grows spec fields own after p (enters turn count none) = omega arith
own_grows spec fields own after p (looks turn count one) = omega arith
own_grows spec fields own after p (leaves saw_two turn count one) = omega arith
own_grows spec fields own after p (asks_in_vain asking asks is) = omega arith
own_grows spec fields own after p (finds asking chosen asks is) = omega arith
own_grows spec fields own after p (gathers reading reads more) = omega arith
own_grows spec fields own after p (goes_to reading value reads all is) = omega arith
own_grows spec fields own after p (will_decide reading decision reads all is) = omega arith
own_grows spec fields own after p (decides decision turn count) = omega arith
