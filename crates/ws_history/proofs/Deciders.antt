-- A process has decided exactly what its history says.
use Rattle.std.proofs.Common.{◌≡◌, ◌≢◌, ◌↔◌, ℕ, ◌+◌, ◌-◌, ◌<◌, ◌≤◌, Bool, true, false, cond, not, eqb, List, Contains, Option, Some, None, refl, sym, ap, ◌∙◌, subst, arith}
use Rattle.std.proofs.lemmas.Bool.{and_from, or_right, eq-eqb, ne_eqb}
use Rattle.std.proofs.lemmas.List.Folds.{list_any_at}
use Rattle.std.proofs.lemmas.List.FromFn.{length-map-range_with_len, get_or-map-range_with_len}
use Rattle.room_spec.specs.Rooms.{RoomSpec, IsWithinLimits, processes}
use Rattle.transcript.specs.declared.event.Event.TheVariants.{Decide}
use Rattle.room_core.specs.Calls.{RoomState}
use Rattle.room_core.specs.Fields.{Fields, decision_in}
use Rattle.room_core.specs.Reading.{AreFieldsOf}
use Rattle.room_core.specs.Agreements.{outs_at, is_out, has_out, greatest_step, decided_in, is_passed}
use Rattle.room_core.proofs.CallerLemmas.{fields_known, process_decided, rooms_agree}
use Rattle.ws_history.specs.declared.states.ProcessState.TheVariants as states
use Rattle.ws_history.specs.Histories.{Snapshot}
use Rattle.ws_history.specs.Orders.{all_passed}
use Rattle.ws_history.specs.Passed.{IsDecided}
use Rattle.ws_history.specs.Reports.{is_spent, held_by, held_or_going, state_by, state_of}
use Rattle.ws_history.specs.Sources.{source_of, history_of}
use Rattle.ws_history.proofs.Order.{snapshot_at}
use Rattle.ws_history.proofs.Sorting.{to_order, to_passed}
use Rattle.ws_history.proofs.Decisions.{decisions_are}
use Rattle.ws_history.proofs.SourceIs.{found_in, one_of}

no_decision : (spent : Bool) (holder : Option ℕ) (v : ℕ) → cond spent states.Spent (held_or_going holder) ≡ states.Decided v → ⊥
no_decision true holder v is = cc
no_decision false (Some i) v is = cc
no_decision false None v is = cc

decided_by : (out : Option ℕ) (spent : Bool) (holder : Option ℕ) (v : ℕ) → state_by out spent holder ≡ states.Decided v → out ≡ Some v
decided_by (Some w) spent holder v is = let same : w ≡ v = cc in ap Some same
decided_by None spent holder v is = absurd (no_decision spent holder v is)

pub out_found : (spec : RoomSpec) (fields : Fields) (i j : ℕ) → i < spec.simulators → fields.out i j ≢ 0 → has_out spec fields j ≡ true
out_found spec fields i j below some =
    let outs = outs_at spec fields j in
    let long = length-map-range_with_len (λ (a : ℕ). fields.out a j) 0 spec.simulators in
    let read = get_or-map-range_with_len (λ (a : ℕ). fields.out a j) 0 spec.simulators i i 0 below (omega arith) in
    list_any_at is_out outs i 0 (omega (arith, long, below)) (ap is_out read ∙ ap not (ne_eqb (fields.out i j) 0 some))

less_one : (out : ℕ) → out ≢ 0 → out ≡ (out - 1) + 1
less_one out some = omega (arith, some)

module _ (room : RoomState) (fields : Fields) (limits : IsWithinLimits room.spec) (are : AreFieldsOf room fields) (j v : ℕ) (low : j < processes room.spec) where
  to_decided : decided_in room.spec fields j ≡ Some v → IsDecided (source_of room.spec fields) j v
  to_decided is =
      let spec = room.spec in
      let has = rooms_agree room fields limits are in
      let src = source_of spec fields in
      let found = found_in (outs_at spec fields j) v is in
      let one = one_of (λ (i : ℕ). fields.out i j) spec.simulators found.0 found.1 in
      let i = one.0 in
      let some : fields.out i j ≢ 0 = λ none. found.2 (sym one.2 ∙ none) in
      let k = greatest_step spec fields j in
      let last = (has.decisions_agree i j one.1 low some).0 in
      let counted = ((fields_known room fields limits are).outs i j (fields.out i j - 1) one.1 low (less_one (fields.out i j) some)).first in
      let first : 1 ≤ k = omega (arith, last, counted) in
      let here : eqb k k ≡ true = eq-eqb k k refl in
      let passes : is_passed spec fields j k ≡ true = or_right _ _ (and_from _ _ (out_found spec fields i j one.1 some) here) in
      let all : List Snapshot = all_passed (is_passed spec fields) (processes spec) spec.rounds in
      let within = to_passed (is_passed spec fields) (processes spec) spec.rounds (snapshot_at j k) (record { process = low; positive = first; within = has.steps_are_within j low; is = passes }) in (
        snapshot_at j k,
        to_order src.row all (snapshot_at j k) within,
        refl,
        ap (λ (b : Bool). cond b (decided_in spec fields j) None) here ∙ is,
      )

  by_last : (b : Bool) (out : Option ℕ) → cond b out None ≡ Some v → out ≡ Some v
  by_last true out is = is
  by_last false out is = absurd cc

  from_decided : IsDecided (source_of room.spec fields) j v → decided_in room.spec fields j ≡ Some v
  from_decided at =
      subst (λ (p : ℕ). decided_in room.spec fields p ≡ Some v) at.2
      (by_last (eqb (greatest_step room.spec fields at.0.process) at.0.round) (decided_in room.spec fields at.0.process) at.3)

  pub decided_there : (state_of room.spec fields j ≡ states.Decided v) ↔ Contains (history_of room.spec fields) (Decide j v)
  decided_there =
      let both = decisions_are room.spec (source_of room.spec fields) j v in (
        λ is. both.1 (to_decided (decided_by (decided_in room.spec fields j) (is_spent room.spec fields j) (held_by room.spec fields j) v is)),
        λ has. ap (λ (out : Option ℕ). state_by out (is_spent room.spec fields j) (held_by room.spec fields j)) (from_decided (both.0 has)),
      )

module _ (room : RoomState) (fields : Fields) (limits : IsWithinLimits room.spec) (are : AreFieldsOf room fields) where
  -- what a simulator has decided the history says of some process
  pub decided_by_process : (i v : ℕ) → i < room.spec.simulators → decision_in fields i ≡ Some v → (j : ℕ) × (j < processes room.spec) × Contains (history_of room.spec fields) (Decide j v)
  decided_by_process i v below is =
      let at = process_decided room fields limits are i v below is in
      (at.0, at.1, (decided_there room fields limits are at.0 v at.1).0 (ap (λ (out : Option ℕ). state_by out (is_spent room.spec fields at.0) (held_by room.spec fields at.0)) at.2))
