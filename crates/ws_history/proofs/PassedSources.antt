-- The agreements that are passed, in order, make a source.
use Rattle.std.proofs.Common.{◌≡◌, ◌⊎◌, ℕ, ◌<◌, ◌≤◌, Bool, true, List, Contains, sym, ap₂, subst, arith, inl, inr}
use Rattle.room_spec.specs.Rooms.{RoomSpec, processes}
use Rattle.transcript.specs.Runs.{IsRun}
use Rattle.sim_memory.specs.Steps.{IsRowAtMost}
use Rattle.ws_history.specs.Histories.{Snapshot, Source, row_of, entry_of, IsSource, IsRising, history_from}
use Rattle.ws_history.specs.Orders.{all_passed, IsPassed}
use Rattle.ws_history.specs.Passed.{IsOfPassed}
use Rattle.ws_history.proofs.Order.{by_sums, snapshot_at}
use Rattle.ws_history.proofs.Sorting.{AreApart, different_passed, rising_in_order, from_order, to_order, from_passed, to_passed}
use Rattle.ws_history.proofs.Alternation.{history_is_run}

turned_about : (a b : List ℕ) → IsRowAtMost a b ⊎ IsRowAtMost b a → IsRowAtMost b a ⊎ IsRowAtMost a b
turned_about a b (inl most) = inr most
turned_about a b (inr least) = inl least

-- two of a process whose rows have the same sum are one
pub apart : (spec : RoomSpec) (src : Source) (passed : ℕ → ℕ → Bool) → IsOfPassed spec src passed → AreApart src (all_passed passed (processes spec) spec.rounds)
apart spec src passed is s t has_s has_t sums same =
    let first = from_passed passed (processes spec) spec.rounds s has_s in
    let second = from_passed passed (processes spec) spec.rounds t has_t in
    let compared = is.compare s t first second in
    let low : entry_of src s s.process ≤ entry_of src t s.process = by_sums (row_of src s) (row_of src t) compared (omega arith) s.process in
    let high : entry_of src t s.process ≤ entry_of src s s.process = by_sums (row_of src t) (row_of src s) (turned_about (row_of src s) (row_of src t) compared) (omega arith) s.process in
    let own = (is.known s first).own in
    let other : entry_of src t s.process ≡ t.round = subst (λ (q : ℕ). entry_of src t q ≡ t.round) (sym same) (is.known t second).own in
    ap₂ snapshot_at same (omega arith)

pub is_source : (spec : RoomSpec) (src : Source) (passed : ℕ → ℕ → Bool) → IsOfPassed spec src passed → IsSource spec src
is_source spec src passed is =
    let n = processes spec in
    let all : List Snapshot = all_passed passed n spec.rounds in
    let from : (s : Snapshot) → Contains src.order s → IsPassed passed n spec.rounds s =
    λ s has. from_passed passed n spec.rounds s (from_order src.row all s (subst (λ (xs : List Snapshot). Contains xs s) is.order has)) in
    let to : (p r : ℕ) → p < n → 1 ≤ r → r ≤ spec.rounds → passed p r ≡ true → Contains src.order (snapshot_at p r) =
    λ p r low pos within yes_it. subst (λ (xs : List Snapshot). Contains xs (snapshot_at p r)) (sym is.order)
    (to_order src.row all (snapshot_at p r) (to_passed passed n spec.rounds (snapshot_at p r) (record { process = low; positive = pos; within = within; is = yes_it }))) in
    record {
      agreed = λ s has.
          let passed_s = from s has in
          let known = is.known s passed_s in
          record {
            process = passed_s.process;
            round = passed_s.positive;
            width = known.width;
            own = known.own;
            before = λ p r low pos less. to p r low pos (let shows = known.shows p low in let few = is.rounds p low in omega arith) (known.before p r low pos less);
            shows = known.shows;
            goes_on = known.goes_on;
            decides = known.decides;
          };
      rising = subst (IsRising src) (sym is.order) (rising_in_order src all (apart spec src passed is) (different_passed passed n spec.rounds));
      compare = λ s t has_s has_t. is.compare s t (from s has_s) (from t has_t);
      rounds = is.rounds;
      passed = λ p r low pos less. to p r low pos (let few = is.rounds p low in omega arith) (is.behind p r low pos less);
      begins = is.begins;
    }

pub passed_is_run : (spec : RoomSpec) (src : Source) (passed : ℕ → ℕ → Bool) → IsOfPassed spec src passed → IsRun spec (history_from spec src)
passed_is_run spec src passed is = history_is_run spec src (is_source spec src passed is)
