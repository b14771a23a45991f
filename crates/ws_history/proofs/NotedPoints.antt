-- What takes effect at the steps of a schedule is what its notes say.
use Rattle.std.proofs.Common.{◌≡◌, ℕ, zero, suc, ◌+◌, ◌<◌, ◌≤◌, Bool, true, false, not, cond, eqb, leb, ltb, List, [], ◌∷◌, ◌++◌, length, Option, Some, None, Contains, inl, inr, refl, sym, ap, ◌∙◌, subst, arith}
use Rattle.std.specs.Prelude.{◌&&◌}
use Rattle.std.proofs.lemmas.Bool.{and_parts, cases_Bool, cases_eq, cases_lt, eq-eqb, eqb-true, lt-ltb, ltb-true, leb-true, le-leb, not-true}
use Rattle.std.proofs.lemmas.List.Elements.{Contains-append_left, Contains-append_right, Contains-append_cases}
use Rattle.room_spec.specs.Rooms.{RoomSpec, processes}
use Rattle.room_core.specs.Agreements.{decided_in, greatest_step, has_out, is_fixed, shown_of}
use Rattle.room_core.specs.Fields.{Fields}
use Rattle.room_core.specs.Moments.{fields_at}
use Rattle.room_core.specs.Points.{Point, Writes, Snaps, Decides, HasFixed, TakesEffect, last_when, write_counted, snapshot_read, decision_stored, points_at, read_time}
use Rattle.room_core.specs.Rooms.{Configuration, ScheduleEvent}
use Rattle.room_core.specs.Timelines.{IsTimeline, Moves, nothing, writes, snaps, decides, timeline_of}
use Rattle.room_core.proofs.CallerLemmas.{decision_stays, fixed_of, in_line, test_of}
use Rattle.ws_history.specs.Linearizations.{Timed}
use Rattle.ws_history.specs.Notes.{AreNotesOf, Notes, counted_at, counts_in, read_at, stored_at, stores_in}
use Rattle.ws_history.specs.Ordered.{all_points, decision_at, decision_points, points_of, read_points, round_points, write_points}
use Rattle.ws_history.proofs.Agreeing.{shown_low}
use Rattle.ws_history.proofs.Order.{not_empty, cons_cases, cons_first}

-- ---- the last time at which a test holds

last_found : (test : ℕ → Bool) (n t : ℕ) → t < n → test t ≡ true → (last_when test n < n) × (test (last_when test n) ≡ true)
last_found test zero t below is = absurd (omega (arith, below))
last_found test (suc n) t below is = elim (cases_Bool (test n)) [
  | inl here ↦ subst (λ (u : ℕ). (u < suc n) × (test u ≡ true)) (sym (ap (λ (b : Bool). cond b n (last_when test n)) here)) (omega arith, here)
  | inr none ↦
      let before : t < n = elim (cases_eq t n) [
        | inl same ↦ absurd (let wrong : true ≡ false = sym is ∙ ap test same ∙ none in cc)
        | inr other ↦ omega (arith, below, other)
      ] in
      let found = last_found test n t before is in
      subst (λ (u : ℕ). (u < suc n) × (test u ≡ true)) (sym (ap (λ (b : Bool). cond b n (last_when test n)) none)) (let less = found.0 in omega (arith, less), found.1)
]

-- ---- lists

if_there : (b : Bool) (x z : Timed) → Contains (cond b (x ∷ []) []) z → (b ≡ true) × (x ≡ z)
if_there true x z has = elim (cons_cases x [] z has) [ inl is ↦ (refl, is) | inr none ↦ absurd (not_empty z none) ]
if_there false x z has = absurd (not_empty z has)

there_if : (b : Bool) (x : Timed) → b ≡ true → Contains (cond b (x ∷ []) []) x
there_if true x is = cons_first x []
there_if false x is = absurd cc

decision_there : (time p : ℕ) (decided : Option ℕ) (z : Timed) → Contains (decision_at time p decided) z → (decision : ℕ) × (decided ≡ Some decision) × (record { time = time; point = Decides p decision } ≡ z)
decision_there time p None z has = absurd (not_empty z has)
decision_there time p (Some decision) z has = elim (cons_cases (record { time = time; point = Decides p decision }) [] z has) [ inl is ↦ (decision, refl, is) | inr none ↦ absurd (not_empty z none) ]

there_decision : (time p decision : ℕ) (decided : Option ℕ) → decided ≡ Some decision → Contains (decision_at time p decided) (record { time = time; point = Decides p decision })
there_decision time p decision decided is = subst (λ (d : Option ℕ). Contains (decision_at time p d) (record { time = time; point = Decides p decision })) (sym is) (cons_first (record { time = time; point = Decides p decision }) [])

-- ---- notes of a schedule

module _ (room : Configuration) (schedule : List ScheduleEvent) (notes : Notes) (are : AreNotesOf room schedule notes) (final : Fields) (some : 0 < room.spec.simulators)
    (is : IsTimeline (processes room.spec) room.spec.rounds (timeline_of room.spec schedule final) (points_at room.spec schedule final))
    (leads : fields_at room.spec schedule (length schedule) ≡ final) (most : (p : ℕ) → p < processes room.spec → greatest_step room.spec final p ≤ room.spec.rounds) where
  abbrev spec : RoomSpec
  spec = room.spec

  abbrev count_at : ℕ → ℕ → ℕ
  count_at time p = greatest_step room.spec (fields_at room.spec schedule time) p

  abbrev out_at : ℕ → ℕ → Bool
  out_at time p = has_out room.spec (fields_at room.spec schedule time) p

  -- it takes effect at a step of the schedule
  abbrev pub Effective : Timed → Type 0
  Effective z = (z.time < length schedule) × TakesEffect room.spec schedule final z.time z.point

  -- ---- each write that was counted was first counted by a step

  step_counts : (time p r : ℕ) (points : List Point) → Moves (processes spec) spec.rounds (timeline_of room.spec schedule final) time points → p < processes spec → count_at time p < r → r ≤ count_at (time + 1) p → count_at (time + 1) p ≡ r
  step_counts time p r points (nothing counted decided unread) low less more = absurd (let e = counted p low in omega (arith, e, less, more))
  step_counts time p r points (writes q s low' before after others decided unread) low less more = elim (cases_eq p q) [
    | inl same ↦
        let one : count_at time p + 1 ≡ s = ap (λ (o : ℕ). count_at time o + 1) same ∙ before in
        let now : count_at (time + 1) p ≡ s = ap (count_at (time + 1)) same ∙ after in
        omega (arith, one, now, less, more)
    | inr apart ↦ absurd (let e = others p low apart in omega (arith, e, less, more))
  ]
  step_counts time p r points (snaps q s passed read alone counted decided) low less more = absurd (let e = counted p low in omega (arith, e, less, more))
  step_counts time p r points (decides q decision low' live done others counted unread is' last passed read) low less more = absurd (let e = counted p low in omega (arith, e, less, more))

  counts_once : (time p r : ℕ) → time ≤ length schedule → p < processes spec → 1 ≤ r → r ≤ count_at time p → (t : ℕ) × (t < time) × (count_at t p < r) × (count_at (t + 1) p ≡ r)
  counts_once zero p r early low first more = absurd (let none = is.none p in omega (arith, none, first, more))
  counts_once (suc time) p r early low first more = elim (cases_lt (count_at time p) r) [
    | inl less ↦
        let next : suc time ≡ time + 1 = omega arith in
        let more' : r ≤ count_at (time + 1) p = subst (λ (t : ℕ). r ≤ count_at t p) next more in
        (time, omega arith, less, step_counts time p r (points_at room.spec schedule final time) (is.moves time (omega (arith, early))) low less more')
    | inr before ↦
        let found = counts_once time p r (omega (arith, early)) low first before in
        (found.0, let less = found.1 in omega (arith, less), found.2, found.3)
  ]

  count_final : (p : ℕ) → count_at (length schedule) p ≡ greatest_step room.spec final p
  count_final p = ap (λ (f : Fields). greatest_step room.spec f p) leads

  write_effective : (p r : ℕ) → p < processes spec → 1 ≤ r → r ≤ room.spec.rounds → r ≤ greatest_step room.spec final p → Effective (record { time = counted_at room.spec notes p r; point = Writes p r })
  write_effective p r low first last more =
      let test : ℕ → Bool = λ time. counts_in room.spec p r (fields_at room.spec schedule time) (fields_at room.spec schedule (time + 1)) in
      let once = counts_once (length schedule) p r (omega arith) low first (let e = count_final p in omega (arith, e, more)) in
      let found = last_found test (length schedule) once.0 once.1 (holds once.0 p r once.2 once.3) in
      let parts = and_parts (ltb (count_at (last_when test (length schedule)) p) r) (eqb (count_at (last_when test (length schedule) + 1) p) r) found.1 in
      subst (λ (t : ℕ). Effective (record { time = t; point = Writes p r })) (sym (are.counted p r low last))
      (found.0, write_counted p r low (ltb-true (count_at (last_when test (length schedule)) p) r parts.0) (eqb-true (count_at (last_when test (length schedule) + 1) p) r parts.1))
    where
      holds : (t p r : ℕ) → count_at t p < r → count_at (t + 1) p ≡ r → counts_in room.spec p r (fields_at room.spec schedule t) (fields_at room.spec schedule (t + 1)) ≡ true
      holds t p r less now = ap (λ (b : Bool). b && eqb (count_at (t + 1) p) r) (lt-ltb (count_at t p) r less) ∙ eq-eqb (count_at (t + 1) p) r now

  -- ---- each decision was first stored by a step

  stores_once : (time p : ℕ) → out_at time p ≡ true → (t : ℕ) × (t < time) × (out_at t p ≡ false) × (out_at (t + 1) p ≡ true)
  stores_once zero p has = absurd (let none = is.undecided p in let wrong : true ≡ false = sym has ∙ none in cc)
  stores_once (suc time) p has = elim (cases_Bool (out_at time p)) [
    | inl before ↦ let found = stores_once time p before in (found.0, let less = found.1 in omega (arith, less), found.2, found.3)
    | inr none ↦ let next : suc time ≡ time + 1 = omega arith in (time, omega arith, none, subst (λ (t : ℕ). out_at t p ≡ true) next has)
  ]

  decision_effective : (p decision : ℕ) → p < processes spec → decided_in room.spec final p ≡ Some decision → Effective (record { time = stored_at notes p; point = Decides p decision })
  decision_effective p decision low decided =
      let test : ℕ → Bool = λ time. stores_in room.spec p (fields_at room.spec schedule time) (fields_at room.spec schedule (time + 1)) in
      let has : out_at (length schedule) p ≡ true = elim (cases_Bool (out_at (length schedule) p)) [
        | inl yes_it ↦ yes_it
        | inr none ↦ absurd (let wrong : Some decision ≡ None = sym decided ∙ is.over p none in cc)
      ] in
      let once = stores_once (length schedule) p has in
      let holds : test once.0 ≡ true = ap (λ (b : Bool). not b && out_at (once.0 + 1) p) once.2 ∙ once.3 in
      let found = last_found test (length schedule) once.0 once.1 holds in
      let parts = and_parts (not (out_at (last_when test (length schedule)) p)) (out_at (last_when test (length schedule) + 1) p) found.1 in
      subst (λ (t : ℕ). Effective (record { time = t; point = Decides p decision })) (sym (are.stored p low))
      (found.0, decision_stored p decision low (not-true (out_at (last_when test (length schedule)) p) parts.0) parts.1 decided)

  -- ---- each snapshot that is agreed on was read by a step

  read_is_time : (p r : ℕ) → p < processes spec → r ≤ room.spec.rounds → read_at room.spec notes (shown_of room.spec final p r) p r ≡ read_time room.spec schedule final p r
  read_is_time p r low last = are.read (shown_of room.spec final p r) p r (shown_low room.spec final some p r) low last

  snapshot_effective : (p r : ℕ) → HasFixed room.spec final p r → Effective (record { time = read_at room.spec notes (shown_of room.spec final p r) p r; point = Snaps p r })
  snapshot_effective p r passed =
      let time = read_is_time p r passed.process passed.last in
      subst (λ (t : ℕ). Effective (record { time = t; point = Snaps p r })) (sym time) (is.early p r (in_line room.spec final p r passed), snapshot_read p r passed refl)

  -- ---- what the notes say takes effect

  from_write : (p r : ℕ) (z : Timed) → p < processes spec → 1 ≤ r → r ≤ room.spec.rounds → Contains (write_points room.spec final notes p r) z → Effective z
  from_write p r z low first last has =
      let there = if_there (leb r (greatest_step room.spec final p)) (record { time = counted_at room.spec notes p r; point = Writes p r }) z has in
      subst Effective there.1 (write_effective p r low first last (leb-true r (greatest_step room.spec final p) there.0))

  from_read : (p r : ℕ) (z : Timed) → p < processes spec → 1 ≤ r → r ≤ room.spec.rounds → Contains (read_points room.spec final notes p r) z → Effective z
  from_read p r z low first last has =
      let there = if_there (is_fixed room.spec final p r) (record { time = read_at room.spec notes (shown_of room.spec final p r) p r; point = Snaps p r }) z has in
      subst Effective there.1 (snapshot_effective p r (record { process = low; first = first; last = last; is = fixed_of room.spec final p r there.0 }))

  from_rounds : (p r : ℕ) (z : Timed) → p < processes spec → r ≤ room.spec.rounds → Contains (round_points room.spec final notes p r) z → Effective z
  from_rounds p zero z low last has = absurd (not_empty z has)
  from_rounds p (suc r) z low last has = elim (Contains-append_cases (round_points room.spec final notes p r) (write_points room.spec final notes p (r + 1) ++ read_points room.spec final notes p (r + 1)) z has) [
    | inl old ↦ from_rounds p r z low (omega (arith, last)) old
    | inr new ↦ elim (Contains-append_cases (write_points room.spec final notes p (r + 1)) (read_points room.spec final notes p (r + 1)) z new) [
      | inl write ↦ from_write p (r + 1) z low (omega arith) (omega (arith, last)) write
      | inr read ↦ from_read p (r + 1) z low (omega arith) (omega (arith, last)) read
    ]
  ]

  from_process : (p : ℕ) (z : Timed) → p < processes spec → Contains (points_of room.spec final notes p) z → Effective z
  from_process p z low has = elim (Contains-append_cases (round_points room.spec final notes p room.spec.rounds) (decision_points room.spec final notes p) z has) [
    | inl rounds ↦ from_rounds p room.spec.rounds z low (omega arith) rounds
    | inr decision ↦
        let there = decision_there (stored_at notes p) p (decided_in room.spec final p) z decision in
        subst Effective there.2 (decision_effective p there.0 low there.1)
  ]

  pub from_all : (n : ℕ) (z : Timed) → n ≤ processes spec → Contains (all_points room.spec final notes n) z → Effective z
  from_all zero z few has = absurd (not_empty z has)
  from_all (suc n) z few has = elim (Contains-append_cases (all_points room.spec final notes n) (points_of room.spec final notes n) z has) [
    | inl old ↦ from_all n z (omega (arith, few)) old
    | inr new ↦ from_process n z (omega (arith, few)) new
  ]

  -- ---- what takes effect the notes say

  to_rounds : (p r upto : ℕ) (z : Timed) → 1 ≤ r → r ≤ upto → Contains (write_points room.spec final notes p r ++ read_points room.spec final notes p r) z → Contains (round_points room.spec final notes p upto) z
  to_rounds p r zero z first last has = absurd (omega (arith, first, last))
  to_rounds p r (suc upto) z first last has = elim (cases_eq r (upto + 1)) [
    | inl same ↦ Contains-append_right (round_points room.spec final notes p upto) (write_points room.spec final notes p (upto + 1) ++ read_points room.spec final notes p (upto + 1)) z (subst (λ (k : ℕ). Contains (write_points room.spec final notes p k ++ read_points room.spec final notes p k) z) same has)
    | inr apart ↦ Contains-append_left (round_points room.spec final notes p upto) (write_points room.spec final notes p (upto + 1) ++ read_points room.spec final notes p (upto + 1)) z (to_rounds p r upto z first (omega (arith, last, apart)) has)
  ]

  to_all : (n p : ℕ) (z : Timed) → p < n → Contains (points_of room.spec final notes p) z → Contains (all_points room.spec final notes n) z
  to_all zero p z low has = absurd (omega (arith, low))
  to_all (suc n) p z low has = elim (cases_eq p n) [
    | inl same ↦ Contains-append_right (all_points room.spec final notes n) (points_of room.spec final notes n) z (subst (λ (q : ℕ). Contains (points_of room.spec final notes q) z) same has)
    | inr apart ↦ Contains-append_left (all_points room.spec final notes n) (points_of room.spec final notes n) z (to_all n p z (omega (arith, low, apart)) has)
  ]

  in_round : (p r : ℕ) (z : Timed) → p < processes spec → 1 ≤ r → r ≤ room.spec.rounds → Contains (write_points room.spec final notes p r ++ read_points room.spec final notes p r) z → Contains (all_points room.spec final notes (processes spec)) z
  in_round p r z low first last has =
      to_all (processes spec) p z low (Contains-append_left (round_points room.spec final notes p room.spec.rounds) (decision_points room.spec final notes p) z (to_rounds p r room.spec.rounds z first last has))

  -- a write is first counted once
  one_count : (s t p r : ℕ) → p < processes spec → s < length schedule → t < length schedule → count_at s p < r → count_at (s + 1) p ≡ r → count_at t p < r → count_at (t + 1) p ≡ r → s ≡ t
  one_count s t p r low early early' less now less' now' = elim (cases_lt s t) [
    | inl before ↦ absurd (let more = is.grows (s + 1) t p (omega (arith, before)) (omega (arith, early')) low in omega (arith, more, now, less'))
    | inr late ↦ elim (cases_lt t s) [
      | inl after ↦ absurd (let more = is.grows (t + 1) s p (omega (arith, after)) (omega (arith, early)) low in omega (arith, more, now', less))
      | inr same ↦ omega (arith, late, same)
    ]
  ]

  one_store : (s t p : ℕ) → p < processes spec → s < length schedule → t < length schedule → out_at s p ≡ false → out_at (s + 1) p ≡ true → out_at t p ≡ false → out_at (t + 1) p ≡ true → s ≡ t
  one_store s t p low early early' none now none' now' = elim (cases_lt s t) [
    | inl before ↦ absurd (let has = decision_stays (processes room.spec) room.spec.rounds (timeline_of room.spec schedule final) (points_at room.spec schedule final) is (s + 1) t p (omega (arith, before)) (omega (arith, early')) low now in let wrong : true ≡ false = sym has ∙ none' in cc)
    | inr late ↦ elim (cases_lt t s) [
      | inl after ↦ absurd (let has = decision_stays (processes room.spec) room.spec.rounds (timeline_of room.spec schedule final) (points_at room.spec schedule final) is (t + 1) s p (omega (arith, after)) (omega (arith, early)) low now' in let wrong : true ≡ false = sym has ∙ none in cc)
      | inr same ↦ omega (arith, late, same)
    ]
  ]

  write_time : (time p r : ℕ) (point : Point) → point ≡ Writes p r → TakesEffect room.spec schedule final time point → (count_at time p < r) × (count_at (time + 1) p ≡ r)
  write_time time p r point same (write_counted q s low less now) =
      let who : q ≡ p = cc in
      let round : s ≡ r = cc in
      (subst (λ (o : ℕ). count_at time o < r) who (subst (λ (k : ℕ). count_at time q < k) round less), subst (λ (o : ℕ). count_at (time + 1) o ≡ r) who (now ∙ round))
  write_time time p r point same (snapshot_read q s passed read) = absurd cc
  write_time time p r point same (decision_stored q decision low none now is) = absurd cc

  store_time : (time p d : ℕ) (point : Point) → point ≡ Decides p d → TakesEffect room.spec schedule final time point → (out_at time p ≡ false) × (out_at (time + 1) p ≡ true)
  store_time time p d point same (write_counted q s low less now) = absurd cc
  store_time time p d point same (snapshot_read q s passed read) = absurd cc
  store_time time p d point same (decision_stored q decision low none now is) =
      let who : q ≡ p = cc in
      (subst (λ (o : ℕ). out_at time o ≡ false) who none, subst (λ (o : ℕ). out_at (time + 1) o ≡ true) who now)

  to_effect : (time : ℕ) (point : Point) → time < length schedule → TakesEffect room.spec schedule final time point → Contains (all_points room.spec final notes (processes spec)) (record { time = time; point = point })
  to_effect time point early (write_counted p r low less now) =
      let more : r ≤ greatest_step room.spec final p = let grown = is.grows (time + 1) (length schedule) p (omega (arith, early)) (omega arith) low in let e = count_final p in omega (arith, grown, e, now) in
      let first : 1 ≤ r = omega (arith, less) in
      let last : r ≤ room.spec.rounds = let m = most p low in omega (arith, m, more) in
      let noted = write_effective p r low first last more in
      let then = write_time (counted_at room.spec notes p r) p r (Writes p r) refl noted.1 in
      let same : counted_at room.spec notes p r ≡ time = one_count (counted_at room.spec notes p r) time p r low noted.0 early then.0 then.1 less now in
      subst (λ (t : ℕ). Contains (all_points room.spec final notes (processes spec)) (record { time = t; point = Writes p r })) same
      (in_round p r (record { time = counted_at room.spec notes p r; point = Writes p r }) low first last
      (Contains-append_left (write_points room.spec final notes p r) (read_points room.spec final notes p r) (record { time = counted_at room.spec notes p r; point = Writes p r })
      (there_if (leb r (greatest_step room.spec final p)) (record { time = counted_at room.spec notes p r; point = Writes p r }) (le-leb r (greatest_step room.spec final p) more))))
  to_effect time point early (snapshot_read p r passed read) =
      let at = read_at room.spec notes (shown_of room.spec final p r) p r in
      let same : read_at room.spec notes (shown_of room.spec final p r) p r ≡ time = read_is_time p r passed.process passed.last ∙ read in
      subst (λ (t : ℕ). Contains (all_points room.spec final notes (processes spec)) (record { time = t; point = Snaps p r })) same
      (in_round p r (record { time = at; point = Snaps p r }) passed.process passed.first passed.last
      (Contains-append_right (write_points room.spec final notes p r) (read_points room.spec final notes p r) (record { time = at; point = Snaps p r })
      (there_if (is_fixed room.spec final p r) (record { time = at; point = Snaps p r }) (test_of room.spec final p r passed.is))))
  to_effect time point early (decision_stored p decision low none now decided) =
      let noted = decision_effective p decision low decided in
      let then = store_time (stored_at notes p) p decision (Decides p decision) refl noted.1 in
      let same : stored_at notes p ≡ time = one_store (stored_at notes p) time p low noted.0 early then.0 then.1 none now in
      subst (λ (t : ℕ). Contains (all_points room.spec final notes (processes spec)) (record { time = t; point = Decides p decision })) same
      (to_all (processes spec) p (record { time = stored_at notes p; point = Decides p decision }) low
      (Contains-append_right (round_points room.spec final notes p room.spec.rounds) (decision_points room.spec final notes p) (record { time = stored_at notes p; point = Decides p decision })
      (there_decision (stored_at notes p) p decision (decided_in room.spec final p) decided)))

  pub into_all : (z : Timed) → Effective z → Contains (all_points room.spec final notes (processes spec)) z
  into_all z both = to_effect z.time z.point both.0 both.1
