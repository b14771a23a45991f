-- As a schedule goes on, what took effect still does, at the same step.
use Rattle.std.proofs.Common.{◌≡◌, ◌≢◌, ℕ, zero, suc, ◌+◌, ◌<◌, ◌≤◌, Bool, true, cond, List, ◌++◌, length, Option, Some, inl, inr, sym, ap, ◌∙◌, subst, arith}
use Rattle.std.specs.Prelude.{◌&&◌, slice_get, unwrap_or}
use Rattle.std.proofs.lemmas.Bool.{cases_Bool, cases_eq}
use Rattle.std.proofs.lemmas.List.{take-append-le, length-append}
use Rattle.room_spec.specs.Rooms.{RoomSpec, IsWithinLimits, processes}
use Rattle.room_core.specs.Rooms.{ScheduleEvent}
use Rattle.room_core.specs.Calls.{RoomState}
use Rattle.room_core.specs.Fields.{Fields, opening_fields, replay_fields}
use Rattle.room_core.specs.Reading.{AreFieldsOf}
use Rattle.room_core.specs.Moments.{fields_at}
use Rattle.room_core.specs.Agreements.{AgreementsStay, IsFixedAt, agreed_input, asks, decided_in, greatest_step, is_fixed, is_passed, shown_of, view_at}
use Rattle.room_core.specs.Points.{Point, HasFixed, TakesEffect, write_counted, snapshot_read, decision_stored, is_step_of, last_when, read_time, reads_at, reads_in}
use Rattle.room_core.proofs.agreements.FixedTests.{fixed_back, fixed_of, test_of}
use Rattle.room_core.proofs.agreements.Lasting.{decided_out, out_decided}
use Rattle.room_core.proofs.fields.FieldCalls.{leads_of, with_quiet}
use Rattle.room_core.proofs.moments.Moments.{at_end}
use Rattle.room_core.proofs.points.LastReads.{last_same, slice_get-append}
use Rattle.room_core.proofs.points.Passing.{Lasts}
use Rattle.room_core.proofs.points.RoomPoints.{fixed_lasts, lasts_base, read_first, timelines}
use Rattle.room_core.proofs.values.Known.{IsKnown}
use Rattle.room_core.proofs.values.Knowing.{fields_known}

-- where it was found early, it is found as well when looked for from earlier on
last_shorter : (test : ℕ → Bool) (n m : ℕ) → m ≤ n → last_when test n < m → last_when test n ≡ last_when test m
last_shorter test zero m within less = let none : 0 ≡ m = omega arith in ap (last_when test) none
last_shorter test (suc n) m within less = elim (cases_eq m (suc n)) [
  | inl same ↦ ap (last_when test) (sym same)
  | inr apart ↦ elim (cases_Bool (test n)) [
    | inl here ↦ absurd (let at : cond true n (last_when test n) < m = rw here at less in omega (arith, at, within, apart))
    | inr none ↦
        let skip : last_when test (suc n) ≡ last_when test n = ap (λ (b : Bool). cond b n (last_when test n)) none in
        skip ∙ last_shorter test n m (omega (arith, within, apart)) (omega (arith, skip, less))
  ]
]

module _ (spec : RoomSpec) (schedule short more : List ScheduleEvent) (is : schedule ≡ short ++ more) where
  pub at_short : (time : ℕ) → time ≤ length short → fields_at spec schedule time ≡ fields_at spec short time
  at_short time early =
      ap (λ (s : List ScheduleEvent). fields_at spec s time) is
      ∙ ap (λ (prefix : List ScheduleEvent). replay_fields spec (opening_fields spec) prefix) (take-append-le time short more early)

  pub short_within : length short ≤ length schedule
  short_within = let e = ap (λ (s : List ScheduleEvent). length s) is in let l = length-append short more in omega (arith, e, l)

  event_same : (time : ℕ) → time < length short → slice_get schedule time ≡ slice_get short time
  event_same time early = ap (λ (s : List ScheduleEvent). slice_get s time) is ∙ slice_get-append short more time early

  reads_same : (time i j k : ℕ) → time < length short → reads_at spec schedule time i j k ≡ reads_at spec short time i j k
  reads_same time i j k early =
      ap (λ (e : Option ScheduleEvent). is_step_of i e && reads_in spec (fields_at spec schedule time) (fields_at spec schedule (time + 1)) i j k) (event_same time early)
      ∙ ap (λ (f : Fields). is_step_of i (slice_get short time) && reads_in spec f (fields_at spec schedule (time + 1)) i j k) (at_short time (omega (arith, early)))
      ∙ ap (λ (f : Fields). is_step_of i (slice_get short time) && reads_in spec (fields_at spec short time) f i j k) (at_short (time + 1) (omega (arith, early)))

-- ---- a room, and a beginning of its schedule

module _ (room : RoomState) (fields : Fields) (limits : IsWithinLimits room.spec) (are : AreFieldsOf room fields) (short more : List ScheduleEvent) (is : are.run.schedule ≡ short ++ more) where
  abbrev Then : Fields
  Then = fields_at room.spec are.run.schedule (length short)

  abbrev base : Fields
  base = replay_fields room.spec (opening_fields room.spec) are.run.schedule

  same : fields ≡ with_quiet (replay_fields room.spec (opening_fields room.spec) are.run.schedule) fields.quiet
  same = leads_of room fields are

  within : length short ≤ length are.run.schedule
  within = short_within room.spec are.run.schedule short more is

  lasting : Lasts room.spec (fields_at room.spec are.run.schedule (length short)) (replay_fields room.spec (opening_fields room.spec) are.run.schedule)
  lasting = lasts_base room fields limits are (length short) within

  known : IsKnown room.spec fields
  known = fields_known room fields limits are

  pub fixed_grows : (j k : ℕ) → is_fixed room.spec Then j k ≡ true → is_fixed room.spec fields j k ≡ true
  fixed_grows j k at = fixed_lasts room fields limits are j k (length short) within (fixed_of room.spec Then j k at)

  shown_same : (j k : ℕ) → is_fixed room.spec Then j k ≡ true → shown_of room.spec fields j k ≡ shown_of room.spec Then j k
  shown_same j k at =
      subst (λ (f : Fields). shown_of room.spec f j k ≡ shown_of room.spec Then j k) (sym same)
      (sym (ap (λ (o : Option ℕ). unwrap_or o 0) (lasting.levels.least j k (fixed_of room.spec Then j k at))))

  pub view_same : (j k : ℕ) → 1 ≤ k → is_fixed room.spec Then j k ≡ true → view_at room.spec fields j k ≡ view_at room.spec Then j k
  view_same j k first at = subst (λ (f : Fields). view_at room.spec f j k ≡ view_at room.spec Then j k) (sym same) (lasting.agreed.view j k first (fixed_of room.spec Then j k at))

  pub asks_same : (j k : ℕ) → 1 ≤ k → is_fixed room.spec Then j k ≡ true → asks room.spec fields j k ≡ asks room.spec Then j k
  asks_same j k first at = subst (λ (f : Fields). asks room.spec f j k ≡ asks room.spec Then j k) (sym same) (lasting.agreed.asks j k first (fixed_of room.spec Then j k at))

  pub inputs_same : (j input : ℕ) → j < processes room.spec → agreed_input room.spec Then j ≡ Some input → agreed_input room.spec fields j ≡ Some input
  inputs_same j input low at = subst (λ (f : Fields). agreed_input room.spec f j ≡ Some input) (sym same) (lasting.agreed.input j input low at)

  pub decided_stays : (j decision : ℕ) → j < processes room.spec → decided_in room.spec Then j ≡ Some decision → decided_in room.spec fields j ≡ Some decision
  decided_stays j decision low at =
      let out = decided_out room.spec Then j decision at in
      let some : Then.out out.0 j ≢ 0 = λ none. let o = out.2 in omega (arith, none, o) in
      let stored : fields.out out.0 j ≡ decision + 1 = subst (λ (f : Fields). f.out out.0 j ≡ decision + 1) (sym same) (lasting.agreed.out out.0 j some ∙ out.2) in
      out_decided room.spec fields out.0 j decision known out.1 low stored

  pub counted_grows : (p : ℕ) → p < processes room.spec → greatest_step room.spec Then p ≤ greatest_step room.spec fields p
  counted_grows p low =
      let line = timelines room fields limits are in
      let g = line.grows (length short) (length are.run.schedule) p within (omega arith) low in
      let e = line.ends p in
      omega (arith, g, e)

  -- a snapshot that was fixed in the beginning was read then, at the same step
  pub read_same : (p r : ℕ) → HasFixed room.spec Then p r → read_time room.spec are.run.schedule fields p r ≡ read_time room.spec short Then p r
  read_same p r passed =
      let schedule = are.run.schedule in
      let passed' : HasFixed room.spec fields p r = record { process = passed.process; first = passed.first; last = passed.last; is = fixed_of room.spec fields p r (fixed_grows p r (test_of room.spec Then p r passed.is)) } in
      let early = read_first room fields limits are p r (length short) passed' within passed.is in
      last_shorter (λ t. reads_at room.spec schedule t (shown_of room.spec fields p r) p r) (length schedule) (length short) within early
      ∙ last_same (λ t. reads_at room.spec schedule t (shown_of room.spec fields p r) p r) (λ t. reads_at room.spec short t (shown_of room.spec fields p r) p r) (length short) (λ t soon. reads_same room.spec schedule short more is t (shown_of room.spec fields p r) p r soon)
      ∙ ap (λ (i : ℕ). last_when (λ t. reads_at room.spec short t i p r) (length short)) (shown_same p r (test_of room.spec Then p r passed.is))

  pub takes_still : (quiet : ℕ → ℕ) (time : ℕ) (point : Point) → time < length short → TakesEffect room.spec short (with_quiet Then quiet) time point → TakesEffect room.spec are.run.schedule fields time point
  takes_still quiet time point early (write_counted p r low less now) =
      write_counted p r low
      (subst (λ (f : Fields). greatest_step room.spec f p < r) (sym (at_short room.spec are.run.schedule short more is time (omega (arith, early)))) less)
      (ap (λ (f : Fields). greatest_step room.spec f p) (at_short room.spec are.run.schedule short more is (time + 1) (omega (arith, early))) ∙ now)
  takes_still quiet time point early (snapshot_read p r passed read) =
      let then : HasFixed room.spec Then p r = fixed_back room.spec Then quiet p r passed in
      snapshot_read p r (record { process = passed.process; first = passed.first; last = passed.last; is = fixed_of room.spec fields p r (fixed_grows p r (test_of room.spec Then p r then.is)) }) (read_same p r then ∙ read)
  takes_still quiet time point early (decision_stored p decision low none now at) =
      decision_stored p decision low
      (ap (λ (f : Fields). Rattle.room_core.specs.Agreements.has_out room.spec f p) (at_short room.spec are.run.schedule short more is time (omega (arith, early))) ∙ none)
      (ap (λ (f : Fields). Rattle.room_core.specs.Agreements.has_out room.spec f p) (at_short room.spec are.run.schedule short more is (time + 1) (omega (arith, early))) ∙ now)
      (decided_stays p decision low at)

-- ---- two rooms

-- the fields of the first are those of the second's schedule at the length of the first
pub led_to : (room : RoomState) (fields : Fields) (are : AreFieldsOf room fields) (spec : RoomSpec) (schedule more : List ScheduleEvent) → room.spec ≡ spec → schedule ≡ are.run.schedule ++ more → fields ≡ with_quiet (fields_at spec schedule (length are.run.schedule)) fields.quiet
led_to room fields are spec schedule more same is =
    leads_of room fields are
    ∙ ap (λ (f : Fields). with_quiet f fields.quiet) (sym (at_end room.spec are.run.schedule (length are.run.schedule) (omega arith)) ∙ sym (at_short room.spec schedule are.run.schedule more is (length are.run.schedule) (omega arith))
    ∙ ap (λ (s : RoomSpec). fields_at s schedule (length are.run.schedule)) same)

pub effects_stay : (room later : RoomState) (fields final : Fields) → IsWithinLimits room.spec → (are : AreFieldsOf room fields) → (ares : AreFieldsOf later final) → room.spec ≡ later.spec → (more : List ScheduleEvent) → ares.run.schedule ≡ are.run.schedule ++ more
    → (time : ℕ) (point : Point) → time < length are.run.schedule → TakesEffect room.spec are.run.schedule fields time point → TakesEffect later.spec ares.run.schedule final time point
effects_stay room later fields final limits are ares same more is time point early takes =
    takes_still later final (subst IsWithinLimits same limits) ares are.run.schedule more is fields.quiet time point early
    (subst (λ (f : Fields). TakesEffect later.spec are.run.schedule f time point) (led_to room fields are later.spec ares.run.schedule more same is)
    (subst (λ (s : RoomSpec). TakesEffect s are.run.schedule fields time point) same takes))

-- of two rooms the one of which has gone on
pub record GoesOn (spec : RoomSpec) (before after : Fields) : Type 0 where
  pub counted : (p : ℕ) → p < processes spec → greatest_step spec before p ≤ greatest_step spec after p
  pub fixed : (p r : ℕ) → is_fixed spec before p r ≡ true → is_fixed spec after p r ≡ true
  pub view : (p r : ℕ) → 1 ≤ r → is_fixed spec before p r ≡ true → view_at spec after p r ≡ view_at spec before p r
  pub asks : (p r : ℕ) → 1 ≤ r → is_fixed spec before p r ≡ true → asks spec after p r ≡ asks spec before p r
  pub decided : (p decision : ℕ) → p < processes spec → decided_in spec before p ≡ Some decision → decided_in spec after p ≡ Some decision
  pub inputs : (p input : ℕ) → p < processes spec → agreed_input spec before p ≡ Some input → agreed_input spec after p ≡ Some input

pub goes_on : (room later : RoomState) (fields final : Fields) → IsWithinLimits room.spec → (are : AreFieldsOf room fields) → (ares : AreFieldsOf later final) → room.spec ≡ later.spec → (more : List ScheduleEvent) → ares.run.schedule ≡ are.run.schedule ++ more → GoesOn later.spec fields final
goes_on room later fields final limits are ares same more is =
    let limits' = subst IsWithinLimits same limits in
    let short = are.run.schedule in
    subst (λ (f : Fields). GoesOn later.spec f final) (sym (led_to room fields are later.spec ares.run.schedule more same is))
    (record {
      counted = λ p low. counted_grows later final limits' ares short more is p low;
      fixed = λ p r at. fixed_grows later final limits' ares short more is p r at;
      view = λ p r first at. view_same later final limits' ares short more is p r first at;
      asks = λ p r first at. asks_same later final limits' ares short more is p r first at;
      decided = λ p decision low at. decided_stays later final limits' ares short more is p decision low at;
      inputs = λ p input low at. inputs_same later final limits' ares short more is p input low at;
    })
