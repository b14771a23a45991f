-- How the processes of a room end is said by its words.
use Rattle.std.proofs.Common.{◌≡◌, ℕ, zero, suc, ◌+◌, ◌<◌, ◌≤◌, Bool, true, false, List, ◌∷◌, map, Option, Some, None, inl, inr, refl, sym, ap, ◌∙◌, subst, arith}
use Rattle.std.specs.List.{range_with_len}
use Rattle.room_spec.specs.Rooms.{RoomSpec, IsWithinLimits, is_reduction, processes}
use Rattle.std.specs.Prelude.{slice_index, unwrap_or, ◌&&◌}
use Rattle.std.proofs.lemmas.Bool.{cases_Bool}
use Rattle.protocol_lang.specs.Meaning.{next_action}
use Rattle.protocol_lang.specs.declared.meaning.Action.{Action}
use Rattle.room_core.specs.Settled.{is_write}
use Rattle.room_core.specs.Agreements.{asks, decided_in, input_at, is_resolved, row_at, shown_by, shown_of}
use Rattle.room_core.specs.Calls.{RoomState}
use Rattle.room_core.specs.Fields.{Fields}
use Rattle.room_core.specs.Reading.{AreFieldsOf}
use Rattle.ws_history.specs.Readings.{read_of}
use Rattle.ws_history.specs.Reports.{held_by, held_or_going, is_spent, state_by, state_of, states_of}
use Rattle.ws_history.specs.declared.states.ProcessState.{ProcessState}
use Rattle.ws_history.proofs.CallerLemmas.{agreed_is, resolved_knows, ordinary_input, states_in}
use Rattle.run_search.specs.declared.ended.Ended.{Ended}
use Rattle.room_outcomes.specs.Ends.{end_of, ends_of}
use Rattle.room_search.specs.Ends.{end_by, ends_by, fields_by}
use Rattle.room_search.proofs.Inputs.{input_by_words}

pub stopped_same : (one other : Option ℕ) → end_of (held_or_going one) ≡ end_of (held_or_going other)
stopped_same None None = refl
stopped_same None (Some i) = refl
stopped_same (Some i) None = refl
stopped_same (Some i) (Some j) = refl

-- who holds it makes no difference to how it ends
end_same : (decided : Option ℕ) (spent : Bool) (one other : Option ℕ) → end_of (state_by decided spent one) ≡ end_of (state_by decided spent other)
end_same (Some v) spent one other = refl
end_same None true one other = refl
end_same None false one other = stopped_same one other

decided_read : (room : RoomState) (j : ℕ) → decided_in room.spec (read_of room) j ≡ decided_in room.spec (fields_by room.spec room.words) j
unfolding read_of
decided_read room j = refl

resolved_read : (room : RoomState) (j k : ℕ) → is_resolved room.spec (read_of room) j k ≡ is_resolved room.spec (fields_by room.spec room.words) j k
unfolding read_of
resolved_read room j k = refl

shown_read : (room : RoomState) (j k : ℕ) → shown_by room.spec (read_of room) (row_at room.spec (read_of room) j k) ≡ shown_by room.spec (fields_by room.spec room.words) (row_at room.spec (fields_by room.spec room.words) j k)
unfolding read_of
shown_read room j k = refl

chosen_read : (room : RoomState) (j : ℕ) → (read_of room).value (shown_of room.spec (read_of room) j 0) j 0 ≡ (fields_by room.spec room.words).value (shown_of room.spec (fields_by room.spec room.words) j 0) j 0
unfolding read_of
chosen_read room j = refl

module _ (room : RoomState) (fields : Fields) (limits : IsWithinLimits room.spec) (are : AreFieldsOf room fields) (j : ℕ) (low : j < processes room.spec) where
  -- the input is known once the last snapshot can be read
  input_read : is_resolved room.spec (read_of room) j room.spec.rounds ≡ true → input_at room.spec (read_of room) j ≡ input_at room.spec (fields_by room.spec room.words) j
  input_read resolved = elim (cases_Bool (is_reduction room.spec)) [
    | inl kind ↦
        ap (λ (o : Option ℕ). unwrap_or o (slice_index room.spec.inputs j)) (agreed_is room.spec (read_of room) j (resolved_knows room fields limits are j low kind resolved))
        ∙ chosen_read room j ∙ sym (input_by_words room.spec room.words j limits.shape.m_range.0 kind)
    | inr kind ↦ ordinary_input room.spec (read_of room) kind j ∙ sym (ordinary_input room.spec (fields_by room.spec room.words) kind j)
  ]

  asks_read : is_resolved room.spec (read_of room) j room.spec.rounds ≡ true → asks room.spec (read_of room) j room.spec.rounds ≡ asks room.spec (fields_by room.spec room.words) j room.spec.rounds
  asks_read resolved =
      ap (λ (x : ℕ). next_action room.spec.protocol x j room.spec.rounds (shown_by room.spec (read_of room) (row_at room.spec (read_of room) j room.spec.rounds))) (input_read resolved)
      ∙ ap (λ (l : List (Option ℕ)). next_action room.spec.protocol (input_at room.spec (fields_by room.spec room.words) j) j room.spec.rounds l) (shown_read room j room.spec.rounds)

  spent_read : is_spent room.spec (read_of room) j ≡ is_spent room.spec (fields_by room.spec room.words) j
  spent_read =
      elim (cases_Bool (is_resolved room.spec (read_of room) j room.spec.rounds)) [
        | inl resolved ↦ ap (λ (a : Action). is_resolved room.spec (read_of room) j room.spec.rounds && is_write a) (asks_read resolved)
        | inr open_yet ↦
            ap (λ (b : Bool). b && is_write (asks room.spec (read_of room) j room.spec.rounds)) open_yet
            ∙ sym (ap (λ (b : Bool). b && is_write (asks room.spec (fields_by room.spec room.words) j room.spec.rounds)) open_yet)
      ]
      ∙ ap (λ (b : Bool). b && is_write (asks room.spec (fields_by room.spec room.words) j room.spec.rounds)) (resolved_read room j room.spec.rounds)

end_read : (room : RoomState) (fields : Fields) → IsWithinLimits room.spec → AreFieldsOf room fields → (j : ℕ) → j < processes room.spec → end_of (state_of room.spec (read_of room) j) ≡ end_by room.spec room.words j
end_read room fields limits are j low =
    ap (λ (o : Option ℕ). end_of (state_by o (is_spent room.spec (read_of room) j) (held_by room.spec (read_of room) j))) (decided_read room j)
    ∙ ap (λ (s : Bool). end_of (state_by (decided_in room.spec (fields_by room.spec room.words) j) s (held_by room.spec (read_of room) j))) (spent_read room fields limits are j low)
    ∙ end_same (decided_in room.spec (fields_by room.spec room.words) j) (is_spent room.spec (fields_by room.spec room.words) j) (held_by room.spec (read_of room) j) None

all_read : (f : ℕ → ProcessState) (g : ℕ → Ended) (a n : ℕ) → ((j : ℕ) → a ≤ j → j < a + n → end_of (f j) ≡ g j) → ends_of (map f (range_with_len a n)) ≡ map g (range_with_len a n)
all_read f g a zero same = refl
all_read f g a (suc n) same =
    let one = same a (omega arith) (omega arith) in
    let more = all_read f g (a + 1) n (λ j low high. same j (omega (arith, low)) (omega (arith, high))) in
    λ i. one i ∷ more i

-- the outcome of a room, by its words
pub room_ends : (spec : RoomSpec) (room : RoomState) (fields : Fields) → IsWithinLimits spec → room.spec ≡ spec → AreFieldsOf room fields → ends_of (states_of spec fields) ≡ ends_by spec room.words
room_ends spec room fields limits is are =
    ap (λ (s : RoomSpec). ends_of (states_of s fields)) (sym is)
    ∙ ap ends_of (sym (states_in room fields (subst IsWithinLimits (sym is) limits) are))
    ∙ all_read (state_of room.spec (read_of room)) (end_by room.spec room.words) 0 (processes room.spec) (λ j from to. end_read room fields (subst IsWithinLimits (sym is) limits) are j (omega (arith, to)))
    ∙ ap (λ (s : RoomSpec). ends_by s room.words) is
