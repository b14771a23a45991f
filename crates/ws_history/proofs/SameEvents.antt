-- In the order of time each process has the events of the history, in the same order.
use Rattle.std.proofs.Common.{◌≡◌, ◌≢◌, ℕ, zero, suc, ◌-◌, ◌<◌, ◌≤◌, Bool, true, false, cond, ltb, List, [], map, Contains, Option, Some, None, refl, sym, ap, ◌∙◌, subst, arith, inl, inr}
use Rattle.std.specs.Prelude.{◌&&◌}
use Rattle.std.proofs.lemmas.Bool.{cases_lt, cases_Bool}
use Rattle.room_spec.specs.Rooms.{RoomSpec, processes}
use Rattle.room_core.specs.Points.{Point, IsFixedIn}
use Rattle.room_core.specs.Timelines.{Timeline, IsTimeline}
use Rattle.ws_history.specs.Histories.{Snapshot, Source, entry_of, decided, history_from}
use Rattle.ws_history.specs.Orders.{all_passed, IsPassed}
use Rattle.ws_history.specs.Passed.{IsOfPassed}
use Rattle.ws_history.specs.Linearizations.{event_of, events_before, events_of, IsSourceOf}
use Rattle.ws_history.proofs.Order.{last_round, round_least, round_most}
use Rattle.ws_history.proofs.Sorting.{from_order, to_order, from_passed, to_passed}
use Rattle.ws_history.proofs.PassedSources.{is_source}
use Rattle.ws_history.proofs.OwnEvents.{deciding, decision_behind, told_same, history_told}
use Rattle.ws_history.proofs.Linearizing.{taken, taken_by, taken_when, taken_not, last_of, stands}

module _ (spec : RoomSpec) (src : Source) (line : Timeline) (at : ℕ → List Point) (known : IsOfPassed spec src line.fixed) (is : IsTimeline (processes spec) spec.rounds line at) (of : IsSourceOf (processes spec) src line) where
  from : (s : Snapshot) → Contains src.order s → IsPassed line.fixed (processes spec) spec.rounds s
  from s has = from_passed line.fixed (processes spec) spec.rounds s (from_order src.row (all_passed line.fixed (processes spec) spec.rounds) s (subst (λ (xs : List Snapshot). Contains xs s) known.order has))

  to : (s : Snapshot) → IsPassed line.fixed (processes spec) spec.rounds s → Contains src.order s
  to s passed = subst (λ (xs : List Snapshot). Contains xs s) (sym known.order) (to_order src.row (all_passed line.fixed (processes spec) spec.rounds) s (to_passed line.fixed (processes spec) spec.rounds s passed))

  abbrev total : ℕ → ℕ
  total q = line.counted line.length q

  -- no snapshot is of a round beyond the writes
  within : (q : ℕ) → q < processes spec → (t : Snapshot) → Contains src.order t → t.process ≡ q → t.round ≤ total q
  within q low t has same =
      let passed = from t has in
      let it = known.known t passed in
      let own : entry_of src t q ≡ t.round = ap (entry_of src t) (sym same) ∙ it.own in
      let shows = it.shows q low in
      let all = of.greatest q low in
      omega (arith, own, shows, all)

  same_rounds : (q : ℕ) → q < processes spec → taken spec src line at known is of line.length q ≡ last_round src.order q
  same_rounds q low = elim (cases_lt 0 (total q)) [
    | inr none ↦
        taken_none (line.fixed q (total q)) (line.read q (total q)) line.length (total q) (omega (arith, none))
        ∙ (let most = round_least src.order q 0 (λ t has same. let w = within q low t has same in omega (arith, w, none)) in omega (arith, most))
    | inl some ↦ elim (cases_Bool (line.fixed q (total q))) [
      | inl yes_it ↦
          let passed : IsFixedIn (processes spec) spec.rounds line.fixed q (total q) = record { process = low; first = omega (arith, some); last = few q low; is = yes_it } in
          let most = round_least src.order q (total q) (λ t has same. within q low t has same) in
          let least = round_most src.order (record { process = q; round = total q }) (to (record { process = q; round = total q }) (record { process = low; positive = omega (arith, some); within = few q low; is = yes_it })) in
          taken_when (line.fixed q (total q)) (line.read q (total q)) line.length (total q) yes_it (is.early q (total q) passed) ∙ omega (arith, most, least)
      | inr no_it ↦
          let most = round_least src.order q (total q - 1) (λ t has same.
          let w = within q low t has same in
          let apart : t.round ≢ total q = λ e. let it = (from t has).is in let wrong : true ≡ false = sym it ∙ ap (λ (p : ℕ). line.fixed p t.round) same ∙ ap (line.fixed q) e ∙ no_it in cc in
          omega (arith, w, apart)) in
          taken_not (line.fixed q (total q)) (line.read q (total q)) line.length (total q) (λ yes_it less. let wrong : true ≡ false = sym yes_it ∙ no_it in cc)
          ∙ (let least = before q low in omega (arith, most, least))
    ]
  ]
    where
      taken_none : (passed : Bool) (read time count : ℕ) → count ≡ 0 → taken_by passed read time count ≡ 0
      taken_none passed read time count none = elim (cases_Bool (passed && ltb read time)) [ inl both ↦ rw both none | inr not_both ↦ rw not_both (omega (arith, none)) ]

      few : (q : ℕ) → q < processes spec → line.counted line.length q ≤ spec.rounds
      few q low = let most = known.rounds q low in let all = of.greatest q low in omega (arith, most, all)

      before : (q : ℕ) → q < processes spec → line.counted line.length q - 1 ≤ last_round src.order q
      before q low = elim (cases_lt (line.counted line.length q) 2) [
        | inl small ↦ omega (arith, small)
        | inr large ↦
            let r : ℕ = line.counted line.length q - 1 in
            let all = of.greatest q low in
            let many = few q low in
            round_most src.order (record { process = q; round = r }) (to (record { process = q; round = r }) (record { process = low; positive = omega (arith, large); within = omega (arith, many); is = known.behind q r low (omega (arith, large)) (omega (arith, large, all)) }))
      ]

  -- the decision that comes last
  same_last : (q : ℕ) → q < processes spec → (o : Option ℕ) → line.decided q ≡ o → last_of spec src line at known is of line.length q ≡ decided q (decision_behind src q (last_round src.order q))
  same_last q low None none =
      both_none (line.has_decided line.length q) ∙ sym (ap (decided q) (none_behind (last_round src.order q)))
    where
      both_none : (b : Bool) → cond b (deciding q (line.decided q)) [] ≡ []
      both_none true = ap (deciding q) none
      both_none false = refl

      none_behind : (c : ℕ) → decision_behind src q c ≡ None
      none_behind zero = refl
      none_behind (suc c) = of.undecided q (suc c) none
  same_last q low (Some v) some =
      ap (λ (b : Bool). cond b (deciding q (line.decided q)) []) (has (line.has_decided line.length q) refl)
      ∙ ap (deciding q) some
      ∙ ap (decided q) (sym (behind (last_round src.order q) round_is))
    where
      has : (b : Bool) → line.has_decided line.length q ≡ b → b ≡ true
      has true is' = refl
      has false is' = absurd (let none = is.over q is' in let wrong : None ≡ Some v = sym none ∙ some in cc)

      passed : IsFixedIn (processes spec) spec.rounds line.fixed q (total q)
      passed = subst (IsFixedIn (processes spec) spec.rounds line.fixed q) (sym (is.ends q)) (is.last q v low some)

      round_is : last_round src.order q ≡ total q
      round_is = sym (same_rounds q low) ∙ taken_when (line.fixed q (total q)) (line.read q (total q)) line.length (total q) passed.is (is.early q (total q) passed)

      behind : (c : ℕ) → c ≡ total q → decision_behind src q c ≡ Some v
      behind zero none = absurd (let first = passed.first in omega (arith, none, first))
      behind (suc c) same = ap (src.decision q) same ∙ of.decision q v low some

  pub same_events : (q : ℕ) → q < processes spec → events_of q (events_before (λ t. map (event_of src) (at t)) line.length) ≡ events_of q (history_from spec src)
  same_events q low =
      (stands spec src line at known is of line.length (omega arith)).mine q low
      ∙ told_same src q (line.counted line.length q) (taken spec src line at known is of line.length q) (src.greatest q) (last_round src.order q) (last_of spec src line at known is of line.length q) (decided q (decision_behind src q (last_round src.order q)))
      (sym (of.greatest q low)) (same_rounds q low) (same_last q low (line.decided q) refl)
      ∙ sym (history_told spec src (is_source spec src line.fixed known) of.decides_last q low)
