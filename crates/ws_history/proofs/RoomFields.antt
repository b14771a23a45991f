-- What a room reads as is what any fields say that it stands for.
use Rattle.std.proofs.Common.{◌≡◌, ℕ, ◌+◌, ◌<◌, ◌≤◌, true, List, get_or, min, sum, Contains, ap, sym, subst, ◌∙◌, arith}
use Rattle.std.proofs.lemmas.Bool.{or_left}
use Rattle.protocol_lang.specs.Numbers.{greatest}
use Rattle.room_spec.specs.Rooms.{IsWithinLimits, RoomSpec, is_reduction, processes}
use Rattle.room_spec.specs.Sizes.{sizes_in}
use Rattle.view_table.specs.declared.place.Place.TheVariants as places
use Rattle.sim_memory.specs.Steps.{step_in}
use Rattle.sim_memory.proofs.CallerLemmas.{merged_below, step_below}
use Rattle.room_core.specs.Agreements.{HasAgreed, agreed_input, greatest_step, is_resolved, is_input_known, is_passed, row_at, run_spec, shown_of}
use Rattle.room_core.specs.Calls.{RoomState}
use Rattle.room_core.specs.Fields.{Fields}
use Rattle.room_core.specs.Reading.{AgreeIn, AreFieldsOf, words_from}
use Rattle.room_core.proofs.CallerLemmas.{agrees, fields_low, out_low, rooms_agree, written_known}
use Rattle.ws_history.specs.Histories.{Snapshot}
use Rattle.ws_history.specs.Orders.{all_passed}
use Rattle.ws_history.specs.Readings.{read_of}
use Rattle.ws_history.specs.Sources.{history_of, source_of}
use Rattle.ws_history.specs.Unreadable.{unreadable_of}
use Rattle.ws_history.proofs.Agreeing.{same_agreed, same_resolved, same_known, same_passed, same_row, same_run}
use Rattle.ws_history.proofs.PassedSources.{apart}
use Rattle.ws_history.proofs.Ranges.{row_low}
use Rattle.ws_history.proofs.RunSpecs.{processes_run, rounds_run}
use Rattle.room_core.specs.Settled.{crashed_in}
use Rattle.ws_history.specs.Reports.{states_of}
use Rattle.ws_history.proofs.SameHistories.{same_all_passed, same_history}
use Rattle.ws_history.proofs.Sorting.{AreApart, from_passed}
use Rattle.ws_history.proofs.SourceIs.{is_of_passed}
use Rattle.ws_history.proofs.Unreadables.{same_unreadable}
use Rattle.ws_history.proofs.SameReports.{same_crashed, same_states}

-- what is apart in the ordinary room of the run
apart_of : (spec : RoomSpec) (fields : Fields) → HasAgreed spec fields → AreApart (source_of spec fields) (all_passed (is_passed spec fields) (processes spec) spec.rounds)
apart_of spec fields has =
    subst (λ (n : ℕ). AreApart (source_of spec fields) (all_passed (is_passed spec fields) n spec.rounds)) (processes_run spec fields)
    (subst (λ (r : ℕ). AreApart (source_of spec fields) (all_passed (is_passed spec fields) (processes (run_spec spec fields)) r)) (rounds_run spec fields)
    (apart (run_spec spec fields) (source_of spec fields) (is_passed spec fields) (is_of_passed spec fields has)))

smaller : (x most : ℕ) → x ≤ most → min x most ≡ x
smaller x most low = omega arith

module _ (room : RoomState) where
  pub low_rows : (j k p : ℕ) → get_or (row_at room.spec (read_of room) j k) p 0 ≤ room.spec.rounds
  unfolding read_of
  low_rows j k p = row_low (sizes_in room.spec) (words_from (sizes_in room.spec) room.words (places.View (shown_of room.spec (read_of room) j k) j k)) p

  pub low_greatest : (p : ℕ) → greatest_step room.spec (read_of room) p ≤ room.spec.rounds
  unfolding read_of
  low_greatest p = merged_below room.spec.simulators (step_in (sizes_in room.spec) (words_from (sizes_in room.spec) room.words places.Memory)) p room.spec.rounds (λ i below. step_below (sizes_in room.spec) (words_from (sizes_in room.spec) room.words places.Memory) i p)

  pub read_agrees : (fields : Fields) → IsWithinLimits room.spec → AreFieldsOf room fields → AgreeIn (sizes_in room.spec) (read_of room) fields
  unfolding read_of
  read_agrees fields limits are =
      let a = agrees room fields limits are in
      record {
        step = a.step;
        level = a.level;
        view = a.view;
        value = λ i j k simulator process round. ap (λ (x : ℕ). min x greatest) (a.value i j k simulator process round) ∙ smaller (fields.value i j k) greatest (fields_low room fields limits are i j k);
        out = λ i j simulator process. ap (λ (x : ℕ). min x (greatest + 1)) (a.out i j simulator process) ∙ smaller (fields.out i j) (greatest + 1) (out_low room fields limits are i j simulator process);
        mind = a.mind;
        quiet = a.quiet;
        crashed = a.crashed;
      }

  -- two passed snapshots of a process whose rows have the same sum are one
  pub apart_in : (fields : Fields) → IsWithinLimits room.spec → AreFieldsOf room fields → AreApart (source_of room.spec (read_of room)) (all_passed (is_passed room.spec (read_of room)) (processes room.spec) room.spec.rounds)
  apart_in fields limits are s t has_s has_t sums same =
      let read = read_of room in
      let agree = read_agrees fields limits are in
      let least = limits.shape.m_range.0 in
      let some : 0 < room.spec.simulators = omega arith in
      let n = processes room.spec in
      let rounds = room.spec.rounds in
      let lists = same_all_passed (is_passed room.spec read) (is_passed room.spec fields) n rounds (λ p k. same_passed room.spec read fields some agree p k) in
      let sum_in : (u : Snapshot) → Contains (all_passed (is_passed room.spec read) n rounds) u → sum (row_at room.spec read u.process u.round) ≡ sum (row_at room.spec fields u.process u.round) =
      λ u has. let is = from_passed (is_passed room.spec read) n rounds u has in ap sum (same_row room.spec read fields some agree u.process u.round is.process is.positive is.within) in
      apart_of room.spec fields (rooms_agree room fields limits are) s t
      (subst (λ (l : List Snapshot). Contains l s) lists has_s) (subst (λ (l : List Snapshot). Contains l t) lists has_t)
      (sym (sum_in s has_s) ∙ sums ∙ sum_in t has_t) same

  pub history_in : (fields : Fields) → IsWithinLimits room.spec → AreFieldsOf room fields → history_of room.spec (read_of room) ≡ history_of room.spec fields
  history_in fields limits are =
      let some = limits.shape.m_range.0 in
      same_history room.spec (read_of room) fields (omega arith) (read_agrees fields limits are) low_rows low_greatest

  pub agreed_in : (fields : Fields) → IsWithinLimits room.spec → AreFieldsOf room fields → (j : ℕ) → j < processes room.spec → agreed_input room.spec (read_of room) j ≡ agreed_input room.spec fields j
  agreed_in fields limits are j low =
      let some = limits.shape.m_range.0 in
      same_agreed room.spec (read_of room) fields (omega arith) (read_agrees fields limits are) j low

  pub run_in : (fields : Fields) → IsWithinLimits room.spec → AreFieldsOf room fields → run_spec room.spec (read_of room) ≡ run_spec room.spec fields
  run_in fields limits are =
      let some = limits.shape.m_range.0 in
      same_run room.spec (read_of room) fields (omega arith) (read_agrees fields limits are)

  -- once the agreement on its last snapshot can be read its input is known
  pub resolved_knows : (fields : Fields) → IsWithinLimits room.spec → AreFieldsOf room fields → (j : ℕ) → j < processes room.spec → is_reduction room.spec ≡ true → is_resolved room.spec (read_of room) j room.spec.rounds ≡ true → is_input_known room.spec (read_of room) j ≡ true
  resolved_knows fields limits are j low kind resolved =
      let first = limits.shape.rounds_range.0 in
      let some = limits.shape.m_range.0 in
      let agree = read_agrees fields limits are in
      let has = rooms_agree room fields limits are in
      let last : room.spec.rounds ≤ room.spec.rounds = omega arith in
      let there : is_resolved room.spec fields j room.spec.rounds ≡ true = sym (same_resolved room.spec (read_of room) fields (omega arith) agree j room.spec.rounds low first last) ∙ resolved in
      let fixed = has.passed_is_fixed j room.spec.rounds low first (or_left _ _ (or_left _ _ there)) in
      let own = has.own_entry_is_exact j room.spec.rounds low first last fixed in
      let counted = has.row_is_within j room.spec.rounds j low first last fixed low in
      same_known room.spec (read_of room) fields (omega arith) agree j ∙ written_known room fields limits are j kind (omega (arith, first, own, counted))

  pub states_in : (fields : Fields) → IsWithinLimits room.spec → AreFieldsOf room fields → states_of room.spec (read_of room) ≡ states_of room.spec fields
  states_in fields limits are =
      let some = limits.shape.m_range.0 in
      let rounds = limits.shape.rounds_range.0 in
      same_states room.spec (read_of room) fields (omega arith) rounds (read_agrees fields limits are) low_rows

  pub crashed_are : (fields : Fields) → IsWithinLimits room.spec → AreFieldsOf room fields → crashed_in room.spec (read_of room) ≡ crashed_in room.spec fields
  crashed_are fields limits are =
      let some = limits.shape.m_range.0 in
      let rounds = limits.shape.rounds_range.0 in
      same_crashed room.spec (read_of room) fields (omega arith) rounds (read_agrees fields limits are) low_rows

  pub unreadable_in : (fields : Fields) → IsWithinLimits room.spec → AreFieldsOf room fields → (j k : ℕ) → unreadable_of room.spec (read_of room) j k ≡ unreadable_of room.spec fields j k
  unreadable_in fields limits are j k =
      let some = limits.shape.m_range.0 in
      same_unreadable room.spec (read_of room) fields (omega arith) (read_agrees fields limits are) j k
