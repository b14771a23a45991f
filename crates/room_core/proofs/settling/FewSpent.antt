-- In a room of a protocol by which a process waits for all but f, more than f processes are within their rounds: of the last rows of those
-- that are out of rounds the greatest shows each of them, and it shows fewer than all but f.
use Rattle.std.proofs.Common.{◌≡◌, ◌≢◌, ◌⊎◌, ℕ, zero, suc, ◌+◌, ◌-◌, ◌<◌, ◌≤◌, Bool, true, false, cond, leb, List, length, Some, None, inl, inr, refl, sym, ap, ◌∙◌, subst, arith}
use Rattle.std.specs.Prelude.{slice_index}
use Rattle.std.proofs.lemmas.Bool.{and_parts, and_from, cases_Bool, leb-true, leb-false, ne_eqb}
use Rattle.std.proofs.lemmas.List.FromFn.{length-map-range_with_len}
use mathlib.Core.Logic.{dite}
use native.Mathlib.Decide.{ℕ_discrete}
use Rattle.protocol_lang.specs.Meaning.{next_action, present}
use Rattle.protocol_lang.specs.Trees.{Tree}
use Rattle.protocol_lang.specs.declared.meaning.Action.{Action}
use Rattle.protocol_lang.specs.declared.meaning.Action.TheVariants as actions
use Rattle.protocol_lang.proofs.CallerLemmas.{decides_with}
use Rattle.room_spec.specs.Rooms.{IsCertified, RoomSpec, IsWithinLimits, processes}
use Rattle.sim_memory.specs.Steps.{IsRowAtMost, merged_of}
use Rattle.simulator.specs.declared.goal.Goal.{Goal}
use Rattle.simulator.specs.declared.goal.Goal.TheVariants as goals
use Rattle.simulator.specs.Minds.{goal_at}
use Rattle.room_core.specs.Agreements.{IsFixedAt, asks, input_at, is_fixed, row_at, shown, shown_by, view_at, written}
use Rattle.room_core.specs.Calls.{RoomState}
use Rattle.room_core.specs.Contents.{IsDue, first_write, next_write}
use Rattle.room_core.specs.Fields.{Fields}
use Rattle.room_core.specs.Reading.{AreFieldsOf}
use Rattle.room_core.specs.Settled.{is_out_of_rounds, is_write, out_of_rounds_in}
use Rattle.room_core.specs.Tracks.{AtRest, Counted, Counts, Inside, Past, Stage, Stored, Tells, stage_for}
use Rattle.room_core.proofs.agreements.FixedTests.{fixed_of, test_of}
use Rattle.room_core.proofs.agreements.Promises.{rooms_agree}
use Rattle.room_core.proofs.fields.FieldCalls.{fields_stand}
use Rattle.room_core.proofs.values.Knowing.{fields_known}
use Rattle.room_core.proofs.settling.Counted.{entries_of_all, none_passes}

write_there : (action : Action) → is_write action ≡ true → (v : ℕ) × (action ≡ actions.Write v)
write_there (actions.Write v) is = (v, refl)
write_there (actions.Decide v) is = absurd cc

pub shown_there : (spec : RoomSpec) (fields : Fields) (p r : ℕ) → 1 ≤ r → (v : ℕ) × (shown spec fields p r ≡ Some v)
shown_there spec fields p r some = (written spec fields p r, ap (λ (b : Bool). cond b None (Some (written spec fields p r))) (ne_eqb r 0 (λ e. absurd (omega (arith, e, some)))))

all_counted : (rounds : ℕ) (stage : Stage) (step : ℕ) → Counts rounds goals.Spent stage step → step ≡ rounds
all_counted rounds AtRest step told = told
all_counted rounds Stored step told = absurd told
all_counted rounds Counted step told = absurd told
all_counted rounds Inside step told = absurd told
all_counted rounds Past step told = absurd told

-- ---- a process that is spent in a mind

module _ (room : RoomState) (fields : Fields) (limits : IsWithinLimits room.spec) (are : AreFieldsOf room fields) where
  last_asks : (j c value : ℕ) → c ≡ room.spec.rounds → IsDue room.spec fields j (c + 1) value → (v : ℕ) × IsFixedAt room.spec fields j room.spec.rounds × (asks room.spec fields j room.spec.rounds ≡ actions.Write v)
  last_asks j c value all (first_write one is) = absurd (let some = limits.shape.rounds_range.0 in omega (arith, all, one, some))
  last_asks j c value all (next_write k low next fixed action) =
      let same : k ≡ room.spec.rounds = omega (arith, all, next) in
      (value, subst (λ (r : ℕ). IsFixedAt room.spec fields j r) same fixed, ap (λ (r : ℕ). asks room.spec fields j r) (sym same) ∙ action)

  pub spent_asks : (i j : ℕ) → i < room.spec.simulators → j < processes room.spec → goal_at (fields.mind i).goals j ≡ goals.Spent → (v : ℕ) × IsFixedAt room.spec fields j room.spec.rounds × (asks room.spec fields j room.spec.rounds ≡ actions.Write v)
  spent_asks i j below low is =
      let told = (fields_stand room fields limits are).tracks.told i j in
      let stage = stage_for (fields.mind i) j in
      let all = all_counted room.spec.rounds stage (fields.step i j) (subst (λ (g : Goal). Tells room.spec.rounds g stage (fields.step i j) (fields.level i j)) is told).counts in
      let due = (fields_known room fields limits are).spent i j below low is in
      last_asks j (fields.step i j) due.0 all due.1

  pub spent_is_out : (i j : ℕ) → i < room.spec.simulators → j < processes room.spec → goal_at (fields.mind i).goals j ≡ goals.Spent → is_out_of_rounds room.spec fields j ≡ true
  spent_is_out i j below low is =
      let last = spent_asks i j below low is in
      and_from (is_fixed room.spec fields j room.spec.rounds) (is_write (asks room.spec fields j room.spec.rounds)) (test_of room.spec fields j room.spec.rounds last.1) (ap is_write last.2)

-- ---- those that are out of rounds

module _ (room : RoomState) (fields : Fields) (limits : IsWithinLimits room.spec) (are : AreFieldsOf room fields) where
  abbrev is_out : ℕ → Bool
  is_out j = is_out_of_rounds room.spec fields j

  abbrev last_row : ℕ → List ℕ
  last_row j = row_at room.spec fields j room.spec.rounds

  abbrev IsAtMost : ℕ → ℕ → Type 0
  IsAtMost i j = (q : ℕ) → q < processes room.spec → slice_index (last_row i) q ≤ slice_index (last_row j) q

  fixed_out : (j : ℕ) → is_out j ≡ true → IsFixedAt room.spec fields j room.spec.rounds
  fixed_out j is = fixed_of room.spec fields j room.spec.rounds (and_parts (is_fixed room.spec fields j room.spec.rounds) (is_write (asks room.spec fields j room.spec.rounds)) is).0

  row_long : (j : ℕ) → length (last_row j) ≡ processes room.spec
  row_long j = length-map-range_with_len (λ p. merged_of room.spec.simulators (view_at room.spec fields j room.spec.rounds) p) 0 (processes room.spec)

  by_entries : (i j : ℕ) → IsRowAtMost (last_row i) (last_row j) → IsAtMost i j
  by_entries i j most q low = most.each q (omega (arith, low, row_long i))

  compared : (i j : ℕ) → i < processes room.spec → j < processes room.spec → is_out i ≡ true → is_out j ≡ true → IsAtMost i j ⊎ IsAtMost j i
  compared i j low low' out out' =
      let some = limits.shape.rounds_range.0 in
      elim ((rooms_agree room fields limits are).snapshots_compare i room.spec.rounds j room.spec.rounds low some (omega arith) (fixed_out i out) low' some (omega arith) (fixed_out j out')) [
        | inl most ↦ inl (by_entries i j most)
        | inr most ↦ inr (by_entries j i most)
      ]

  -- of those below a number none is out of rounds, or one has the greatest row
  record HasGreatest (count : ℕ) : Type 0 where
    process : ℕ
    low : process < processes room.spec
    out : is_out process ≡ true
    most : (i : ℕ) → i < count → is_out i ≡ true → IsAtMost i process

  abbrev NoneOrGreatest : ℕ → Type 0
  NoneOrGreatest count = ((i : ℕ) → i < count → is_out i ≡ false) ⊎ HasGreatest count

  as_others : (count : ℕ) → is_out count ≡ false → NoneOrGreatest count → NoneOrGreatest (suc count)
  as_others count fails (inl none) = inl (λ i less. dite (ℕ_discrete i count)
      (λ (e : i ≡ count). ap is_out e ∙ fails)
      (λ (n : i ≢ count). none i (omega (arith, n, less))))
  as_others count fails (inr best) = inr (record {
    process = best.process;
    low = best.low;
    out = best.out;
    most = λ i less out. dite (ℕ_discrete i count)
        (λ (e : i ≡ count). absurd (let wrong : true ≡ false = sym out ∙ ap is_out e ∙ fails in cc))
        (λ (n : i ≢ count). best.most i (omega (arith, n, less)) out);
  })

  with_greater : (count : ℕ) → count < processes room.spec → is_out count ≡ true → (best : HasGreatest count) → IsAtMost count best.process ⊎ IsAtMost best.process count → HasGreatest (suc count)
  with_greater count low out best (inl less) = record {
    process = best.process;
    low = best.low;
    out = best.out;
    most = λ i below is. dite (ℕ_discrete i count)
        (λ (e : i ≡ count). subst (λ (x : ℕ). IsAtMost x best.process) (sym e) less)
        (λ (n : i ≢ count). best.most i (omega (arith, n, below)) is);
  }
  with_greater count low out best (inr more) = record {
    process = count;
    low = low;
    out = out;
    most = λ i below is. dite (ℕ_discrete i count)
        (λ (e : i ≡ count). subst (λ (x : ℕ). IsAtMost x count) (sym e) (λ q within. omega arith))
        (λ (n : i ≢ count). λ q within. let first = best.most i (omega (arith, n, below)) is q within in let second = more q within in omega (arith, first, second));
  }

  with_one : (count : ℕ) → count < processes room.spec → is_out count ≡ true → NoneOrGreatest count → NoneOrGreatest (suc count)
  with_one count low out (inl none) = inr (record {
    process = count;
    low = low;
    out = out;
    most = λ i below is. dite (ℕ_discrete i count)
        (λ (e : i ≡ count). subst (λ (x : ℕ). IsAtMost x count) (sym e) (λ q within. omega arith))
        (λ (n : i ≢ count). absurd (let wrong : true ≡ false = sym is ∙ none i (omega (arith, n, below)) in cc));
  })
  with_one count low out (inr best) = inr (with_greater count low out best (compared count best.process low best.low out best.out))

  greatest_of : (count : ℕ) → count ≤ processes room.spec → NoneOrGreatest count
  greatest_of zero few = inl (λ i less. absurd (omega arith))
  greatest_of (suc count) few = elim (cases_Bool (is_out count)) [
    | inl out ↦ with_one count (omega arith) out (greatest_of count (omega arith))
    | inr fails ↦ as_others count fails (greatest_of count (omega arith))
  ]

  module _ (f : ℕ) (certified : IsCertified room.spec f) where
    -- whoever asks for a write sees fewer than all but f
    pub few_present : (j k v : ℕ) → asks room.spec fields j k ≡ actions.Write v → length (present (shown_by room.spec fields (row_at room.spec fields j k))) + f < processes room.spec
    few_present j k v is =
        let row = row_at room.spec fields j k in
        let n = processes room.spec in
        let view = shown_by room.spec fields row in
        let long : length view ≡ n = length-map-range_with_len (λ p. shown room.spec fields p (slice_index row p)) 0 n in
        elim (cases_Bool (leb (length view - f) (length (present view)))) [
          | inl enough ↦ absurd (decides_with f (input_at room.spec fields j) j k view (leb-true _ _ enough) v (subst (λ (tree : Tree). next_action tree (input_at room.spec fields j) j k view ≡ actions.Write v) certified.protocol is))
          | inr fewer ↦ let less = leb-false _ _ fewer in omega (arith, less, long, certified.fewer)
        ]

    pub few_out : length (out_of_rounds_in room.spec fields) + f < processes room.spec
    few_out = elim (greatest_of (processes room.spec) (omega arith)) [
      | inl none ↦ let nobody = none_passes is_out 0 (processes room.spec) (λ j low high. none j (omega (arith, high))) in omega (arith, nobody, certified.fewer)
      | inr best ↦
          let row = last_row best.process in
          let some = limits.shape.rounds_range.0 in
          let write = write_there (asks room.spec fields best.process room.spec.rounds) (and_parts (is_fixed room.spec fields best.process room.spec.rounds) (is_write (asks room.spec fields best.process room.spec.rounds)) best.out).1 in
          let few = few_present best.process room.spec.rounds write.0 write.1 in
          let all = entries_of_all (λ p. shown room.spec fields p (slice_index row p)) is_out 0 (processes room.spec)
          (λ j low high out.
          let own = (rooms_agree room fields limits are).own_entry_is_exact j room.spec.rounds (omega (arith, high)) some (omega arith) (fixed_out j out) in
          let most = best.most j (omega (arith, high)) out j (omega (arith, high)) in
          shown_there room.spec fields j (slice_index row j) (omega (arith, own, most, some))) in
          omega (arith, few, all)
    ]
