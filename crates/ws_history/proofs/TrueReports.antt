-- The report of a room's fields is a true one.
use Rattle.std.proofs.Common.{◌≡◌, ◌<◌, ◌∙◌, ℕ, get_or, sym, subst, arith}
use Rattle.std.proofs.lemmas.List.FromFn.{get_or-map-range_with_len}
use Rattle.room_spec.specs.Rooms.{IsWithinLimits, processes}
use Rattle.room_core.specs.Calls.{RoomState}
use Rattle.room_core.specs.Fields.{Fields}
use Rattle.room_core.specs.Reading.{AreFieldsOf}
use Rattle.room_core.proofs.CallerLemmas.{rooms_agree}
use Rattle.ws_history.specs.declared.states.ProcessState.TheVariants.{Going}
use Rattle.ws_history.specs.Readings.{read_of}
use Rattle.ws_history.specs.Reports.{IsReportIn, IsTrueReport, report_of, state_of, states_of}
use Rattle.ws_history.proofs.Deciders.{decided_by_process, decided_there}
use Rattle.ws_history.proofs.Held.{held_at_most, inside_at_most}
use Rattle.ws_history.proofs.RoomFields.{crashed_are, history_in, states_in}
use Rattle.ws_history.proofs.SourceIs.{fields_run, ordinary_fields_run, reduction_fields_run}

pub true_report : (room : RoomState) (fields : Fields) → IsWithinLimits room.spec → AreFieldsOf room fields → IsTrueReport room.spec fields (report_of room.spec fields)
true_report room fields limits are =
    let there : (j : ℕ) → j < processes room.spec → get_or (states_of room.spec fields) j Going ≡ state_of room.spec fields j =
    λ j low. get_or-map-range_with_len (state_of room.spec fields) 0 (processes room.spec) j j Going low (omega arith) in
    record {
      run = fields_run room.spec fields (rooms_agree room fields limits are);
      ordinary = λ is. ordinary_fields_run room.spec fields is (rooms_agree room fields limits are);
      from_own = λ is. reduction_fields_run room.spec fields is (rooms_agree room fields limits are);
      decided = λ j v low.
          let both = decided_there room fields limits are j v low in
          (λ is. both.0 (sym (there j low) ∙ is), λ has. there j low ∙ both.1 has);
      simulators = λ i v below is. decided_by_process room fields limits are i v below is;
      held = held_at_most room fields limits are;
      inside = inside_at_most room fields limits are;
    }

-- what a room reads as has the report of any fields that it stands for
pub read_report : (room : RoomState) → IsWithinLimits room.spec → IsReportIn room (report_of room.spec (read_of room))
read_report room limits = λ fields are.
    let states = states_in room fields limits are in
    let crashed = crashed_are room fields limits are in
    let history = history_in room fields limits are in
    let same : report_of room.spec (read_of room) ≡ report_of room.spec fields = λ p. record { states = record { items = states p }; crashed = record { items = crashed p }; history = history p } in
    (same, subst (λ report. IsTrueReport room.spec fields report) (sym same) (true_report room fields limits are))
