-- A simulator crashes inside at most one agreement, so no more processes are blocked than simulators have crashed.
use Rattle.std.proofs.Common.{◌≡◌, ◌&&◌, ◌+◌, ◌<◌, ◌≤◌, ℕ, true, eqb, length, get_or, sym, ◌∙◌, subst, arith}
use Rattle.std.specs.List.{range_with_len}
use Rattle.std.proofs.lemmas.Bool.{and_parts, eqb-true}
use Rattle.std.proofs.lemmas.List.{get_or_read}
use Rattle.std.proofs.lemmas.List.FromFn.{length-range_with_len, get_or-range_with_len}
use Rattle.std.proofs.lemmas.List.Folds.{Any-from_list_any}
use Rattle.room_spec.specs.Rooms.{IsWithinLimits, processes}
use Rattle.room_core.specs.Calls.{RoomState}
use Rattle.room_core.specs.Fields.{Fields}
use Rattle.room_core.specs.Reading.{AreFieldsOf}
use Rattle.room_core.specs.Settled.{blocked_in, crashed_in, is_blocked, is_inside_any}
use Rattle.room_core.proofs.agreements.Stages.{one_inside}
use Rattle.room_core.proofs.fields.FieldCalls.{fields_stand}
use Rattle.room_core.proofs.settling.Counted.{no_more_pass}

module _ (room : RoomState) (fields : Fields) (limits : IsWithinLimits room.spec) (are : AreFieldsOf room fields) where
  -- by a simulator that works on it
  blocker : (j : ℕ) → is_blocked room.spec fields j ≡ true → (i : ℕ) × (i < room.spec.simulators) × (fields.crashed i ≡ true) × ((fields.mind i).process ≡ j)
  blocker j is =
      let m = room.spec.simulators in
      let who = Any-from_list_any (λ i. fields.crashed i && is_inside_any room.spec fields i j) (range_with_len 0 m) is in
      let below : who.0 < m = subst (λ (n : ℕ). who.0 < n) (length-range_with_len 0 m) who.2 in
      let index : get_or (range_with_len 0 m) who.0 0 ≡ who.0 = let e = get_or-range_with_len 0 m who.0 0 below in omega (arith, e) in
      let same : who.1 ≡ who.0 = get_or_read (range_with_len 0 m) who.0 who.1 who.2 (sym who.3) 0 ∙ index in
      let passes = subst (λ (i : ℕ). (fields.crashed i && is_inside_any room.spec fields i j) ≡ true) same who.4 in
      let parts = and_parts (fields.crashed who.0) (is_inside_any room.spec fields who.0 j) passes in
      let round = Any-from_list_any (λ k. eqb (fields.level who.0 j k) 1) (range_with_len 0 (room.spec.rounds + 1)) parts.1 in
      let one : fields.level who.0 j round.1 ≡ 1 = eqb-true _ _ round.4 in
      (who.0, below, parts.0, (one_inside room.spec fields (fields_stand room fields limits are).tracks who.0 j round.1 one).process)

  pub few_blocked : length (blocked_in room.spec fields) ≤ length (crashed_in room.spec fields)
  few_blocked = no_more_pass (is_blocked room.spec fields) fields.crashed (λ i. (fields.mind i).process) (processes room.spec) room.spec.simulators (λ j low is. blocker j is)
