-- No value that a simulator has stored is above the greatest, and no decision.
use Rattle.std.proofs.Common.{◌≡◌, ◌≢◌, ℕ, zero, suc, ◌+◌, ◌<◌, ◌≤◌, Bool, true, false, cond, eqb, List, [], ◌∷◌, ◌++◌, length, map, get_or, Option, Some, None, refl, sym, ap, ◌∙◌, subst, arith}
use Rattle.std.specs.List.{range_with_len}
use Rattle.std.proofs.lemmas.List.FromFn.{length-map-range_with_len}
use mathlib.Core.Logic.{dite}
use native.Mathlib.Decide.{ℕ_discrete}
use Rattle.protocol_lang.specs.Numbers.{greatest}
use Rattle.protocol_lang.specs.Limits.{action_value}
use Rattle.room_spec.specs.Rooms.{RoomSpec, IsWithinLimits, processes}
use Rattle.room_spec.proofs.CallerLemmas.{next_of_input}
use Rattle.simulator.specs.declared.goal.Goal.TheVariants as goals
use Rattle.simulator.specs.Minds.{goal_at}
use Rattle.room_core.specs.Rooms.{Configuration, ScheduleEvent, steps, crashes, MayHappen, IsShaped}
use Rattle.room_core.specs.Calls.{RoomState, configuration_of}
use Rattle.room_core.specs.Fields.{Fields, changed_pair, line, fields_after}
use Rattle.room_core.specs.Reading.{AreFieldsOf}
use Rattle.room_core.specs.Agreements.{input_at, row_at, shown, shown_by, asks, written}
use Rattle.room_core.proofs.values.Entries.{IsSmallEntry, AreSmall, HasSmallValues}
use Rattle.room_core.specs.Tracks.{StandsFor}
use Rattle.room_core.proofs.fields.FieldCalls.{fields_stand, leads_of}
use Rattle.room_core.proofs.fields.Effects.{Own, own_of, Effect, stores, proposes, raises, collects_word, collects_again, scans, shows_word, shows, loads_word, enters, looks, leaves, asks_in_vain, finds, gets_input, gathers, goes_to, will_decide, decides, line_effect}
use Rattle.room_core.proofs.fields.Prefixes.{over_run}
use Rattle.room_core.proofs.moments.Moments.{opening_history}
use Rattle.room_core.proofs.agreements.Sound.{fields_sound, opening_sound}
use Rattle.room_core.proofs.values.SmallValues.{small_values}
use Rattle.room_core.proofs.values.Known.{IsKnown}
use Rattle.room_core.proofs.values.Knowing.{KnownAfter, known_kept, opening_known, fields_inputs, fields_known}
use Rattle.room_core.proofs.agreements.Inputs.{input_low, opening_inputs_known}

-- ---- one entry changed

low_entry : (b : Bool) (x y bound : ℕ) → x ≤ bound → y ≤ bound → cond b x y ≤ bound
low_entry true x y bound one two = one
low_entry false x y bound one two = two

low_row : (b : Bool) (f g : ℕ → ℕ) (r bound : ℕ) → f r ≤ bound → g r ≤ bound → (cond b f g) r ≤ bound
low_row true f g r bound one two = one
low_row false f g r bound one two = two

low_pair : (rows : ℕ → ℕ → ℕ) (i j entry p r bound : ℕ) → entry ≤ bound → ((a b : ℕ) → rows a b ≤ bound) → changed_pair rows i j entry p r ≤ bound
low_pair rows i j entry p r bound low all = low_row (eqb p i) (λ other. cond (eqb other j) entry (rows i other)) (rows p) r bound (low_entry (eqb r j) entry (rows i r) bound low (all i r)) (all p r)

-- ---- each line

module _ (spec : RoomSpec) (fields : Fields) (own : Own) (low : (p k value : ℕ) → p < processes spec → goal_at own.mind.goals p ≡ goals.Write k value → value ≤ greatest) (low_own : (p value : ℕ) → goal_at own.mind.goals p ≡ goals.Propose value → value ≤ greatest) (all : (p r : ℕ) → own.value p r ≤ greatest) (p r : ℕ) where
  own_low : (after : Own) → Effect spec fields own after → after.value p r ≤ greatest
  own_low after (stores j k value rest goal count process first last) = low_pair own.value j k value p r greatest (low j k value process goal) all
  own_low after (proposes j value rest goal none unentered within kind) = low_pair own.value j 0 value p r greatest (low_own j value goal) all
  own_low after (raises turn whole begun count) = all p r
  own_low after (collects_word turn count none more) = all p r
  own_low after (collects_again turn count none last several goes) = all p r
  own_low after (scans collects turn count none last ends) = all p r
  own_low after (gets_input chosen turn count less) = all p r
  own_low after (loads_word found turn less more) = all p r
  own_low after (shows_word turn count none more) = all p r
  own_low after (shows turn count none last) = all p r
  own_low after (enters turn count none) = all p r
  own_low after (looks turn count one) = all p r
  own_low after (leaves saw_two turn count one) = all p r
  own_low after (asks_in_vain asking asks none) = all p r
  own_low after (finds asking chosen asks some) = all p r
  own_low after (gathers reading reads more) = all p r
  own_low after (goes_to reading given reads all' action) = all p r
  own_low after (will_decide reading decision reads all' action) = all p r
  own_low after (decides decision turn count) = all p r

abbrev pub AllLow : Fields → Type 0
AllLow fields = (i p r : ℕ) → fields.value i p r ≤ greatest

abbrev pub LowAfter : RoomSpec → List ScheduleEvent → Fields → Type 0
LowAfter spec schedule fields = KnownAfter spec schedule fields × (HasSmallValues spec → AllLow fields)

low_kept : (room : Configuration) (fields : Fields) (done : List ScheduleEvent) (event : ScheduleEvent) → IsShaped room → MayHappen room event → StandsFor room fields → LowAfter room.spec done fields → LowAfter room.spec (done ++ event ∷ []) (fields_after room.spec fields event)
low_kept room fields done (steps i) shape may for both = (
  known_kept room fields done (steps i) shape may for both.0,
  λ small a p r.
      let effect = line_effect room fields i shape for may in
      let known : IsKnown room.spec fields = both.0.3 small in
      let after = line room.spec fields i in
      dite (ℕ_discrete a i)
      (λ (e : a ≡ i).
      subst (λ (b : ℕ). after.value b p r ≤ greatest) (sym e)
      (own_low room.spec fields (own_of fields i) (λ q k value within is. known.low_writes i q k value effect.below within is) (λ q value is. let same = both.0.2.goals i q value effect.below is in let most = small.own i in omega (arith, same, most)) (λ q s. both.1 small i q s) p r (own_of after i) effect.own))
      (λ (n : a ≢ i). subst (λ (own : Own). own.value p r ≤ greatest) (sym (effect.others a n)) (both.1 small a p r)),
)
low_kept room fields done (crashes i) shape may for both = (known_kept room fields done (crashes i) shape may for both.0, both.1)

pub fields_low : (room : RoomState) (fields : Fields) → IsWithinLimits room.spec → AreFieldsOf room fields → AllLow fields
fields_low room fields limits are =
    subst AllLow (sym (leads_of room fields are))
    ((over_run LowAfter low_kept (configuration_of room) limits are.run
    ((opening_history room.spec, opening_sound room.spec, opening_inputs_known room.spec, λ small. opening_known room.spec small), λ small i p r. omega arith)).1 (small_values room.spec limits))

-- ---- decisions

map_small : (entry : ℕ → Option ℕ) (first n : ℕ) → ((p : ℕ) → IsSmallEntry (entry p)) → AreSmall (map entry (range_with_len first n))
map_small entry first zero low = tt
map_small entry first (suc n) low = (low first, map_small entry (first + 1) n low)

small_entry : (b : Bool) (value : ℕ) → value ≤ greatest → IsSmallEntry (cond b None (Some value))
small_entry true value low = tt
small_entry false value low = low

out_by : (room : RoomState) (fields : Fields) → IsWithinLimits room.spec → AreFieldsOf room fields → (i j out : ℕ) → i < room.spec.simulators → j < processes room.spec → fields.out i j ≡ out → out ≤ greatest + 1
out_by room fields limits are i j zero below within is = omega arith
out_by room fields limits are i j (suc decision) below within is =
    let spec = room.spec in
    let all = fields_low room fields limits are in
    let at = (fields_known room fields limits are).outs i j decision below within (is ∙ omega arith) in
    let k = fields.step i j in
    let row = row_at spec fields j k in
    let entries : AreSmall (shown_by spec fields row) = map_small (λ p. shown spec fields p (get_or row p 0)) 0 (processes spec)
    (λ p. small_entry (eqb (get_or row p 0) 0) (written spec fields p (get_or row p 0)) (all _ p (get_or row p 0))) in
    let width : length (shown_by spec fields row) ≡ processes spec = length-map-range_with_len (λ p. shown spec fields p (get_or row p 0)) 0 (processes spec) in
    let early : k ≤ spec.rounds = (fields_stand room fields limits are).tracks.range.step i j in
    let input : input_at spec fields j ≤ greatest = input_low spec fields j limits (fields_stand room fields limits are).tracks (fields_sound room fields limits are) (fields_inputs room fields limits are) within in
    let low : action_value (asks spec fields j k) ≤ greatest = next_of_input spec (input_at spec fields j) j k (shown_by spec fields row) limits input within early width entries in
    let same : action_value (asks spec fields j k) ≡ decision = ap action_value at.action in
    omega (arith, low, same)

pub out_low : (room : RoomState) (fields : Fields) → IsWithinLimits room.spec → AreFieldsOf room fields → (i j : ℕ) → i < room.spec.simulators → j < processes room.spec → fields.out i j ≤ greatest + 1
out_low room fields limits are i j below within = out_by room fields limits are i j (fields.out i j) below within refl
