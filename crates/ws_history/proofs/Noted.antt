-- Notes stay notes: of the opening room, by a step, and by a crash.
use Rattle.std.proofs.Common.{◌≡◌, ◌≢◌, ◌⊎◌, ℕ, suc, ◌+◌, ◌*◌, ◌<◌, ◌≤◌, Bool, true, false, not, cond, eqb, ltb, List, [], ◌∷◌, ◌++◌, length, get_or, set, Option, Some, None, inl, inr, refl, sym, ap, ◌∙◌, subst, arith, mul_comm}
use Rattle.std.specs.Prelude.{◌&&◌, ◌||◌, slice_index, slice_set, replicate}
use Rattle.std.proofs.lemmas.Bool.{and_parts, cases_eq, eq-eqb, eqb-true, lt-leb, lt-ltb, ltb-true, not-true}
use Rattle.std.proofs.lemmas.List.{append-nil, append_assoc, get_or-set_same, get_or-set_other, length-replicate, length-set}
use Rattle.std.proofs.Math.ListN.{get_or-replicate}
use Rattle.std.proofs.lemmas.Nat.{mul-add-lt, same_from_place}
use Rattle.room_spec.specs.Rooms.{RoomSpec, IsWithinLimits, processes}
use Rattle.simulator.specs.declared.line.Line.{Line}
use Rattle.simulator.specs.declared.line.Line.TheVariants.{Rest, Raise, Snap, Show, Enter, Look, Leave, Ask, GetInput, GetView, Values, Out}
use Rattle.simulator.specs.Minds.{current_round}
use Rattle.simulator.specs.Ranges.{IsMind}
use Rattle.simulator.specs.Turns.{words_in}
use Rattle.room_core.specs.Agreements.{greatest_step, has_out}
use Rattle.room_core.specs.Calls.{RoomState, configuration_of, moved, room_after_step, step_reply, sweep_at}
use Rattle.room_core.specs.Observing.{AreSeen, Follow, TakenStep}
use Rattle.room_core.specs.declared.reply.StepReply.TheVariants.{Stepped}
use Rattle.room_core.specs.Counting.{events_so_far}
use Rattle.room_core.specs.Fields.{Fields, opening_fields, replay_fields}
use Rattle.room_core.specs.Moments.{fields_at}
use Rattle.room_core.specs.Points.{is_snap, is_step_of, last_read, last_when, reads_at, reads_in}
use Rattle.room_core.specs.Rooms.{Configuration, HasLine, IsAlive, IsLegal, IsOneInterleaving, IsShaped, ScheduleEvent, crashed_by, crashes, opening, replay, stepped, steps}
use Rattle.room_core.proofs.CallerLemmas.{at_before, at_end, events_are, last_now, last_same, left_uncounted, left_unstored, length-snoc, moved_data, replay_fields-snoc, shapes, slice_get-push, taken_line, taken_moves, under_crash_at_end, under_line_at_end}
use Rattle.ws_history.specs.declared.points.Before.{Before}
use Rattle.ws_history.specs.Notes.{AreNotesOf, IsNoted, Notes, counted_at, counts_in, events_taken, last_by, place, read_at, stored_at, stores_in}
use Rattle.ws_history.specs.Noting.{before_step, looked, may_take_effect, noted, noted_if, noted_step}
use Rattle.ws_history.specs.Readings.{read_of}
use Rattle.ws_history.proofs.Looking.{mind_is, round_low}
use Rattle.ws_history.proofs.RoomFields.{low_greatest}
use Rattle.ws_history.proofs.Said.{IsSaid, said_count, said_mind, said_out}

-- ---- tables

put_read : (b hit : Bool) (table : List ℕ) (at k time : ℕ) → at < length table → (hit ≡ true → (b ≡ true) × (k ≡ at)) → (hit ≡ false → b ≡ true → k ≡ at → ⊥)
    → slice_index (cond b (slice_set table k time) table) at ≡ cond hit time (slice_index table at)
put_read true true table at k time below found missed = ap (λ (j : ℕ). get_or (set table j time) at 0) (found refl).1 ∙ get_or-set_same table at time 0 below
put_read true false table at k time below found missed = get_or-set_other table k at time 0 (λ same. missed refl refl (sym same))
put_read false true table at k time below found missed = absurd (let wrong : false ≡ true = (found refl).0 in cc)
put_read false false table at k time below found missed = refl

put_long : (b : Bool) (table : List ℕ) (k time : ℕ) → length (cond b (slice_set table k time) table) ≡ length table
put_long true table k time = length-set table k time
put_long false table k time = refl

-- ---- one event more

pub last_by_more : (spec : RoomSpec) (schedule : List ScheduleEvent) (event : ScheduleEvent) (test : Fields → Fields → Bool)
    → last_by spec (schedule ++ event ∷ []) test ≡ cond (test (replay_fields spec (opening_fields spec) schedule) (replay_fields spec (opening_fields spec) (schedule ++ event ∷ []))) (length schedule) (last_by spec schedule test)
last_by_more spec schedule event test =
    let longer = schedule ++ event ∷ [] in
    let at : ℕ → Bool = λ time. test (fields_at spec (schedule ++ event ∷ []) time) (fields_at spec (schedule ++ event ∷ []) (time + 1)) in
    let was : ℕ → Bool = λ time. test (fields_at spec schedule time) (fields_at spec schedule (time + 1)) in
    let long : length (schedule ++ event ∷ []) ≡ suc (length schedule) = length-snoc schedule event ∙ omega arith in
    let same = last_same at was (length schedule) (λ time early. ap (λ (f : Fields). test f (fields_at spec (schedule ++ event ∷ []) (time + 1))) (at_before spec schedule event time (omega (arith, early))) ∙ ap (λ (f : Fields). test (fields_at spec schedule time) f) (at_before spec schedule event (time + 1) (omega (arith, early)))) in
    let before = at_before spec schedule event (length schedule) (omega arith) ∙ at_end spec schedule (length schedule) (omega arith) in
    let after = at_end spec (schedule ++ event ∷ []) (length schedule + 1) (let l = length-snoc schedule event in omega (arith, l)) in
    ap (last_when at) long
    ∙ ap (λ (time : ℕ). cond (at (length schedule)) (length schedule) time) same
    ∙ ap (λ (f : Fields). cond (test f (fields_at spec (schedule ++ event ∷ []) (length schedule + 1))) (length schedule) (last_by spec schedule test)) before
    ∙ ap (λ (f : Fields). cond (test (replay_fields spec (opening_fields spec) schedule) f) (length schedule) (last_by spec schedule test)) after

pub reads_by : (spec : RoomSpec) (schedule : List ScheduleEvent) (event : ScheduleEvent) (i p r : ℕ)
    → reads_at spec (schedule ++ event ∷ []) (length schedule) i p r ≡ is_step_of i (Some event) && reads_in spec (replay_fields spec (opening_fields spec) schedule) (replay_fields spec (opening_fields spec) (schedule ++ event ∷ [])) i p r
reads_by spec schedule event i p r =
    let before = at_before spec schedule event (length schedule) (omega arith) ∙ at_end spec schedule (length schedule) (omega arith) in
    let after = at_end spec (schedule ++ event ∷ []) (length schedule + 1) (let l = length-snoc schedule event in omega (arith, l)) in
    ap (λ (e : Option ScheduleEvent). is_step_of i e && reads_in spec (fields_at spec (schedule ++ event ∷ []) (length schedule)) (fields_at spec (schedule ++ event ∷ []) (length schedule + 1)) i p r) (slice_get-push schedule event)
    ∙ ap (λ (f : Fields). is_step_of i (Some event) && reads_in spec f (fields_at spec (schedule ++ event ∷ []) (length schedule + 1)) i p r) before
    ∙ ap (λ (f : Fields). is_step_of i (Some event) && reads_in spec (replay_fields spec (opening_fields spec) schedule) f i p r) after

-- ---- plain facts

pub not_true_of : (b : Bool) → (b ≡ true → ⊥) → b ≡ false
not_true_of true never = absurd (never refl)
not_true_of false never = refl

pub both_true : (b c : Bool) → b ≡ true → c ≡ true → b && c ≡ true
both_true true c is is' = is'
both_true false c is is' = absurd cc

pub no_snap : (line : Line) → may_take_effect line ≡ false → is_snap line ≡ false
no_snap Rest is = refl
no_snap Raise is = absurd cc
no_snap Snap is = absurd cc
no_snap Show is = refl
no_snap Enter is = refl
no_snap Look is = refl
no_snap (Leave saw_two) is = refl
no_snap Ask is = refl
no_snap (GetInput chosen) is = refl
no_snap (GetView chosen) is = refl
no_snap Values is = refl
no_snap (Out decision) is = absurd cc

pub no_raise : (line : Line) → may_take_effect line ≡ false → line ≢ Raise
no_raise line is raises = let wrong : true ≡ false = sym (ap may_take_effect raises) ∙ is in cc

pub no_out : (line : Line) → may_take_effect line ≡ false → (decision : ℕ) → line ≢ Out decision
no_out line is decision stores = let wrong : true ≡ false = sym (ap may_take_effect stores) ∙ is in cc

-- ---- the tests, as facts

pub read_parts : (spec : RoomSpec) (before after : Fields) (i p r : ℕ) → reads_in spec before after i p r ≡ true
    → (is_snap (before.mind i).line ≡ true) × ((before.mind i).process ≡ p) × (current_round (before.mind i) ≡ r) × ((before.mind i).word + 1 ≡ words_in spec) × (eqb (words_in spec) 1 || is_snap (after.mind i).line ≡ true)
read_parts spec before after i p r is =
    let both = and_parts ((is_snap (before.mind i).line && eqb (before.mind i).process p) && (eqb (current_round (before.mind i)) r && eqb ((before.mind i).word + 1) (words_in spec))) (eqb (words_in spec) 1 || is_snap (after.mind i).line) is in
    let four = and_parts (is_snap (before.mind i).line && eqb (before.mind i).process p) (eqb (current_round (before.mind i)) r && eqb ((before.mind i).word + 1) (words_in spec)) both.0 in
    let one = and_parts (is_snap (before.mind i).line) (eqb (before.mind i).process p) four.0 in
    let two = and_parts (eqb (current_round (before.mind i)) r) (eqb ((before.mind i).word + 1) (words_in spec)) four.1 in
    (one.0, eqb-true (before.mind i).process p one.1, eqb-true (current_round (before.mind i)) r two.0, eqb-true ((before.mind i).word + 1) (words_in spec) two.1, both.1)

pub read_whole : (spec : RoomSpec) (before after : Fields) (i p r : ℕ) → is_snap (before.mind i).line ≡ true → (before.mind i).process ≡ p → current_round (before.mind i) ≡ r → (before.mind i).word + 1 ≡ words_in spec → eqb (words_in spec) 1 || is_snap (after.mind i).line ≡ true
    → reads_in spec before after i p r ≡ true
read_whole spec before after i p r line process round word goes =
    both_true ((is_snap (before.mind i).line && eqb (before.mind i).process p) && (eqb (current_round (before.mind i)) r && eqb ((before.mind i).word + 1) (words_in spec))) (eqb (words_in spec) 1 || is_snap (after.mind i).line)
    (both_true (is_snap (before.mind i).line && eqb (before.mind i).process p) (eqb (current_round (before.mind i)) r && eqb ((before.mind i).word + 1) (words_in spec))
    (both_true (is_snap (before.mind i).line) (eqb (before.mind i).process p) line (eq-eqb (before.mind i).process p process))
    (both_true (eqb (current_round (before.mind i)) r) (eqb ((before.mind i).word + 1) (words_in spec)) (eq-eqb (current_round (before.mind i)) r round) (eq-eqb ((before.mind i).word + 1) (words_in spec) word)))
    goes

module _ (spec : RoomSpec) (before after : Fields) where
  -- nothing of this process is counted or stored
  no_count : (p r : ℕ) → greatest_step spec after p ≡ greatest_step spec before p → counts_in spec p r before after ≡ false
  no_count p r same = not_true_of (counts_in spec p r before after) (λ is.
      let parts = and_parts (ltb (greatest_step spec before p) r) (eqb (greatest_step spec after p) r) is in
      let less = ltb-true (greatest_step spec before p) r parts.0 in
      let now = eqb-true (greatest_step spec after p) r parts.1 in
      omega (arith, same, less, now))

  no_store : (p : ℕ) → has_out spec after p ≡ has_out spec before p → stores_in spec p before after ≡ false
  no_store p same = not_true_of (stores_in spec p before after) (λ is.
      let parts = and_parts (not (has_out spec before p)) (has_out spec after p) is in
      let none = not-true (has_out spec before p) parts.0 in
      let wrong : true ≡ false = sym parts.1 ∙ same ∙ none in cc)

  pub no_read : (i p r : ℕ) → is_snap (before.mind i).line ≡ false → reads_in spec before after i p r ≡ false
  no_read i p r other = not_true_of (reads_in spec before after i p r) (λ is.
      let wrong : true ≡ false = sym (read_parts spec before after i p r is).0 ∙ other in cc)

-- ---- a step

module _ (room : RoomState) (i : ℕ) (limits : IsWithinLimits room.spec) (schedule : List ScheduleEvent) (old : Notes) (are : AreNotesOf (configuration_of room) schedule old) (may : HasLine (configuration_of room) i) where
  abbrev one : IsOneInterleaving (configuration_of room)
  one = record { schedule = schedule; legal = are.legal; leads = are.leads }

  abbrev next : List ScheduleEvent
  next = schedule ++ steps i ∷ []

  abbrev F : Fields
  F = replay_fields room.spec (opening_fields room.spec) schedule

  abbrev F' : Fields
  F' = replay_fields room.spec (opening_fields room.spec) (schedule ++ steps i ∷ [])

  abbrev j : ℕ
  j = (sweep_at room i).mind.process

  abbrev wide : ℕ
  wide = room.spec.rounds + 1

  longer : (run : IsOneInterleaving (stepped (configuration_of room) i)) × (run.schedule ≡ schedule ++ steps i ∷ [])
  longer = under_line_at_end (configuration_of room) i one may

  legal' : IsLegal (opening room.spec) (schedule ++ steps i ∷ [])
  legal' = subst (λ (s : List ScheduleEvent). IsLegal (opening room.spec) s) longer.1 (longer.0).legal

  leads' : replay (opening room.spec) (schedule ++ steps i ∷ []) ≡ configuration_of (moved room i)
  leads' = subst (λ (s : List ScheduleEvent). replay (opening room.spec) s ≡ stepped (configuration_of room) i) longer.1 (longer.0).leads ∙ sym (moved_data room i)

  abbrev after_one : IsOneInterleaving (configuration_of (moved room i))
  after_one = record { schedule = schedule ++ steps i ∷ []; legal = legal'; leads = leads' }

  below : i < room.spec.simulators
  below = may.alive.below

  said : IsSaid (sweep_at room i).mind (F.mind i)
  said = said_mind room limits one i below

  said' : IsSaid (sweep_at (moved room i) i).mind (F'.mind i)
  said' = said_mind (moved room i) limits after_one i below

  time_is : events_so_far (configuration_of room) ≡ length schedule
  time_is = sym (events_are (configuration_of room) limits one)

  apart_count : (p : ℕ) → ((F.mind i).line ≢ Raise) ⊎ (p ≢ (F.mind i).process) → greatest_step room.spec F' p ≡ greatest_step room.spec F p
  apart_count p why = left_uncounted (configuration_of room) limits one i may p why

  apart_out : (p : ℕ) → ((decision : ℕ) → (F.mind i).line ≢ Out decision) ⊎ (p ≢ (F.mind i).process) → has_out room.spec F' p ≡ has_out room.spec F p
  apart_out p why = left_unstored (configuration_of room) limits one i may p why

  -- what the notes have to be after it
  abbrev Counted : Notes → Type 0
  Counted notes = (p r : ℕ) → p < processes room.spec → r ≤ room.spec.rounds → counted_at room.spec notes p r ≡ cond (counts_in room.spec p r F F') (length schedule) (last_by room.spec schedule (counts_in room.spec p r))

  abbrev Read : Notes → Type 0
  Read notes = (a p r : ℕ) → a < room.spec.simulators → p < processes room.spec → r ≤ room.spec.rounds → read_at room.spec notes a p r ≡ cond (eqb i a && reads_in room.spec F F' a p r) (length schedule) (last_read room.spec schedule a p r (length schedule))

  abbrev Stored : Notes → Type 0
  Stored notes = (p : ℕ) → p < processes room.spec → stored_at notes p ≡ cond (stores_in room.spec p F F') (length schedule) (last_by room.spec schedule (stores_in room.spec p))

  notes_by : (notes : Notes) → length notes.counted ≡ length old.counted → length notes.read ≡ length old.read → length notes.stored ≡ length old.stored → Counted notes → Read notes → Stored notes → AreNotesOf (configuration_of (moved room i)) (schedule ++ steps i ∷ []) notes
  notes_by notes long wide each counted read stored = record {
    legal = legal';
    leads = leads';
    count_places = long ∙ are.count_places;
    read_places = wide ∙ are.read_places;
    store_places = each ∙ are.store_places;
    counted = λ p r low few. counted p r low few ∙ sym (last_by_more room.spec schedule (steps i) (counts_in room.spec p r));
    read = λ a p r less low few. read a p r less low few ∙ sym (last_now room.spec schedule (steps i) a p r (eqb i a && reads_in room.spec F F' a p r) (reads_by room.spec schedule (steps i) a p r));
    stored = λ p low. stored p low ∙ sym (last_by_more room.spec schedule (steps i) (stores_in room.spec p));
  }

  -- at a line by whose step nothing takes effect
  elsewhere : may_take_effect (sweep_at room i).mind.line ≡ false → AreNotesOf (configuration_of (moved room i)) (schedule ++ steps i ∷ []) old
  elsewhere is =
      let none : may_take_effect (F.mind i).line ≡ false = sym (ap may_take_effect said.line) ∙ is in
      notes_by old refl refl refl
      (λ p r low few. are.counted p r low few ∙ sym (ap (λ (b : Bool). cond b (length schedule) (last_by room.spec schedule (counts_in room.spec p r))) (no_count room.spec F F' p r (apart_count p (inl (no_raise (F.mind i).line none))))))
      (λ a p r less low few. are.read a p r less low few ∙ sym (ap (λ (b : Bool). cond b (length schedule) (last_read room.spec schedule a p r (length schedule))) (not_read a p r none)))
      (λ p low. are.stored p low ∙ sym (ap (λ (b : Bool). cond b (length schedule) (last_by room.spec schedule (stores_in room.spec p))) (no_store room.spec F F' p (apart_out p (inl (no_out (F.mind i).line none))))))
    where
      not_read : (a p r : ℕ) → may_take_effect (F.mind i).line ≡ false → eqb i a && reads_in room.spec F F' a p r ≡ false
      not_read a p r none = not_true_of (eqb i a && reads_in room.spec F F' a p r) (λ is.
          let parts = and_parts (eqb i a) (reads_in room.spec F F' a p r) is in
          let who : i ≡ a = eqb-true i a parts.0 in
          let snap = (read_parts room.spec F F' a p r parts.1).0 in
          let wrong : true ≡ false = sym snap ∙ ap (λ (b : ℕ). is_snap (F.mind b).line) (sym who) ∙ no_snap (F.mind i).line none in cc)

  -- inside a turn
  module _ (process : j < processes room.spec) (round : current_round (sweep_at room i).mind ≤ room.spec.rounds) where
    abbrev seen : Before
    seen = before_step room i

    abbrev new : Notes
    new = noted (moved room i) i (before_step room i) old

    c0 : seen.count ≡ greatest_step room.spec F j
    c0 = said_count room limits one j process

    c1 : greatest_step room.spec (read_of (moved room i)) j ≡ greatest_step room.spec F' j
    c1 = said_count (moved room i) limits after_one j process

    few' : greatest_step room.spec (read_of (moved room i)) j < room.spec.rounds + 1
    few' = let low = low_greatest (moved room i) j in omega (arith, low)

    own : j ≡ (F.mind i).process
    own = said.process

    new_counted : Counted new
    new_counted p r low few =
        let hit = counts_in room.spec p r F F' in
        let b = ltb (greatest_step room.spec (read_of room) j) (greatest_step room.spec (read_of (moved room i)) j) in
        let k = place room.spec j (greatest_step room.spec (read_of (moved room i)) j) in
        let at = place room.spec p r in
        let within : place room.spec p r < length old.counted = let size = are.count_places in let less = mul-add-lt p (room.spec.rounds + 1) r (processes room.spec) low (omega (arith, few)) in let turned = mul_comm (room.spec.rounds + 1) (processes room.spec) in omega (arith, size, less, turned) in
        put_read b hit old.counted at k seen.time within
        (λ is.
        let parts = and_parts (ltb (greatest_step room.spec F p) r) (eqb (greatest_step room.spec F' p) r) is in
        let less = ltb-true (greatest_step room.spec F p) r parts.0 in
        let now = eqb-true (greatest_step room.spec F' p) r parts.1 in
        let here : p ≡ j = elim (cases_eq p (F.mind i).process) [
          | inl e ↦ e ∙ sym own
          | inr apart ↦ absurd (let same = apart_count p (inr apart) in omega (arith, same, less, now))
        ] in
        let before : greatest_step room.spec (read_of room) j ≡ greatest_step room.spec F p = c0 ∙ ap (greatest_step room.spec F) (sym here) in
        let after : greatest_step room.spec (read_of (moved room i)) j ≡ r = c1 ∙ ap (greatest_step room.spec F') (sym here) ∙ now in
        (lt-ltb (greatest_step room.spec (read_of room) j) (greatest_step room.spec (read_of (moved room i)) j) (omega (arith, before, after, less)), ap (λ (q : ℕ). place room.spec q (greatest_step room.spec (read_of (moved room i)) j)) (sym here) ∙ ap (place room.spec p) after))
        (λ no is same.
        let more = ltb-true (greatest_step room.spec (read_of room) j) (greatest_step room.spec (read_of (moved room i)) j) is in
        let place_is = same_from_place j (greatest_step room.spec (read_of (moved room i)) j) p r (room.spec.rounds + 1) few' (omega (arith, few)) same in
        let here : j ≡ p = place_is.0 in
        let before : greatest_step room.spec F p ≡ greatest_step room.spec (read_of room) j = ap (greatest_step room.spec F) (sym here) ∙ sym c0 in
        let after : greatest_step room.spec F' p ≡ r = ap (greatest_step room.spec F') (sym here) ∙ sym c1 ∙ place_is.1 in
        let yes_it : counts_in room.spec p r F F' ≡ true = both_true (ltb (greatest_step room.spec F p) r) (eqb (greatest_step room.spec F' p) r) (lt-ltb (greatest_step room.spec F p) r (let e = place_is.1 in omega (arith, before, more, e))) (eq-eqb (greatest_step room.spec F' p) r after) in
        let wrong : true ≡ false = sym yes_it ∙ no in cc)
        ∙ ap (λ (t : ℕ). cond hit t (slice_index old.counted at)) time_is
        ∙ ap (λ (t : ℕ). cond hit (length schedule) t) (are.counted p r low few)

    new_stored : Stored new
    new_stored p low =
        let hit = stores_in room.spec p F F' in
        let b = not (has_out room.spec (read_of room) j) && has_out room.spec (read_of (moved room i)) j in
        let within : p < length old.stored = let size = are.store_places in omega (arith, size, low) in
        let tests : (q : ℕ) → q ≡ j → stores_in room.spec q F F' ≡ not (has_out room.spec (read_of room) j) && has_out room.spec (read_of (moved room i)) j = λ q here.
        ap (λ (o : ℕ). stores_in room.spec o F F') here
        ∙ ap (λ (x : Bool). not x && has_out room.spec F' j) (sym (said_out room limits one j process))
        ∙ ap (λ (x : Bool). not (has_out room.spec (read_of room) j) && x) (sym (said_out (moved room i) limits after_one j process)) in
        put_read b hit old.stored p j seen.time within
        (λ is.
        let here : p ≡ j = elim (cases_eq p (F.mind i).process) [
          | inl e ↦ e ∙ sym own
          | inr apart ↦ absurd (let wrong : true ≡ false = sym is ∙ no_store room.spec F F' p (apart_out p (inr apart)) in cc)
        ] in
        (sym (tests p here) ∙ is, sym here))
        (λ no is same. let wrong : true ≡ false = sym is ∙ sym (tests p (sym same)) ∙ no in cc)
        ∙ ap (λ (t : ℕ). cond hit t (slice_index old.stored p)) time_is
        ∙ ap (λ (t : ℕ). cond hit (length schedule) t) (are.stored p low)

    new_read : Read new
    new_read a p r less low few =
        let n = processes room.spec in
        let hit = eqb i a && reads_in room.spec F F' a p r in
        let b = (is_snap (sweep_at room i).mind.line && eqb ((sweep_at room i).mind.word + 1) (words_in room.spec)) && (eqb (words_in room.spec) 1 || is_snap (sweep_at (moved room i) i).mind.line) in
        let k = place room.spec (i * processes room.spec + j) (current_round (sweep_at room i).mind) in
        let at = place room.spec (a * processes room.spec + p) r in
        let within : place room.spec (a * processes room.spec + p) r < length old.read =
        let size = are.read_places in
        let row = mul-add-lt a (processes room.spec) p room.spec.simulators less low in
        let here = mul-add-lt (a * processes room.spec + p) (room.spec.rounds + 1) r (processes room.spec * room.spec.simulators) row (omega (arith, few)) in
        let turned : (room.spec.rounds + 1) * (processes room.spec * room.spec.simulators) ≡ room.spec.simulators * processes room.spec * (room.spec.rounds + 1) = mul_comm (room.spec.rounds + 1) (processes room.spec * room.spec.simulators) ∙ ap (λ (x : ℕ). x * (room.spec.rounds + 1)) (mul_comm (processes room.spec) room.spec.simulators) in
        omega (arith, size, here, turned) in
        put_read b hit old.read at k seen.time within
        (λ is.
        let parts = and_parts (eqb i a) (reads_in room.spec F F' a p r) is in
        let who : i ≡ a = eqb-true i a parts.0 in
        let at_i = read_parts room.spec F F' i p r (subst (λ (c : ℕ). reads_in room.spec F F' c p r ≡ true) (sym who) parts.1) in
        let there : (i * n + j ≡ a * n + p) = ap (λ (c : ℕ). c * n + j) who ∙ ap (λ (q : ℕ). a * n + q) (own ∙ at_i.1) in (
          both_true (is_snap (sweep_at room i).mind.line && eqb ((sweep_at room i).mind.word + 1) (words_in room.spec)) (eqb (words_in room.spec) 1 || is_snap (sweep_at (moved room i) i).mind.line)
              (both_true (is_snap (sweep_at room i).mind.line) (eqb ((sweep_at room i).mind.word + 1) (words_in room.spec)) (ap is_snap said.line ∙ at_i.0) (eq-eqb ((sweep_at room i).mind.word + 1) (words_in room.spec) (ap (λ (w : ℕ). w + 1) said.word ∙ at_i.3)))
              (ap (λ (l : Line). eqb (words_in room.spec) 1 || is_snap l) said'.line ∙ at_i.4),
          ap (λ (row : ℕ). place room.spec row (current_round (sweep_at room i).mind)) there ∙ ap (place room.spec (a * n + p)) (said.round ∙ at_i.2),
        ))
        (λ no is same.
        let both = and_parts (is_snap (sweep_at room i).mind.line && eqb ((sweep_at room i).mind.word + 1) (words_in room.spec)) (eqb (words_in room.spec) 1 || is_snap (sweep_at (moved room i) i).mind.line) is in
        let ends = and_parts (is_snap (sweep_at room i).mind.line) (eqb ((sweep_at room i).mind.word + 1) (words_in room.spec)) both.0 in
        let rows = same_from_place (i * n + j) (current_round (sweep_at room i).mind) (a * n + p) r (room.spec.rounds + 1) (omega (arith, round)) (omega (arith, few)) same in
        let cells = same_from_place i j a p n process low rows.0 in
        let whole : reads_in room.spec F F' i p r ≡ true =
        read_whole room.spec F F' i p r (ap is_snap (sym said.line) ∙ ends.0) (sym own ∙ cells.1) (sym said.round ∙ rows.1) (ap (λ (w : ℕ). w + 1) (sym said.word) ∙ eqb-true ((sweep_at room i).mind.word + 1) (words_in room.spec) ends.1) (ap (λ (l : Line). eqb (words_in room.spec) 1 || is_snap l) (sym said'.line) ∙ both.1) in
        let yes_it : eqb i a && reads_in room.spec F F' a p r ≡ true = both_true (eqb i a) (reads_in room.spec F F' a p r) (eq-eqb i a cells.0) (subst (λ (c : ℕ). reads_in room.spec F F' c p r ≡ true) cells.0 whole) in
        let wrong : true ≡ false = sym yes_it ∙ no in cc)
        ∙ ap (λ (t : ℕ). cond hit t (slice_index old.read at)) time_is
        ∙ ap (λ (t : ℕ). cond hit (length schedule) t) (are.read a p r less low few)

    turning : AreNotesOf (configuration_of (moved room i)) (schedule ++ steps i ∷ []) (noted (moved room i) i (before_step room i) old)
    turning = notes_by new (put_long _ old.counted _ seen.time) (put_long _ old.read _ seen.time) (put_long _ old.stored _ seen.time) new_counted new_read new_stored

-- ---- the opening room, and crashes

zeros : (places at : ℕ) → at < places → slice_index (replicate {A = ℕ} places 0) at ≡ 0
zeros places at below = get_or-replicate places at 0 0 below

pub opening_noted : (spec : RoomSpec) (notes : Notes) → notes.counted ≡ replicate (processes spec * (spec.rounds + 1)) 0 → notes.read ≡ replicate (spec.simulators * processes spec * (spec.rounds + 1)) 0 → notes.stored ≡ replicate (processes spec) 0 → AreNotesOf (opening spec) [] notes
opening_noted spec notes counted read stored = record {
  legal = tt;
  leads = refl;
  count_places = ap length counted ∙ length-replicate {A = ℕ} (processes spec * (spec.rounds + 1)) 0;
  read_places = ap length read ∙ length-replicate {A = ℕ} (spec.simulators * processes spec * (spec.rounds + 1)) 0;
  store_places = ap length stored ∙ length-replicate {A = ℕ} (processes spec) 0;
  counted = λ p r low few.
      ap (λ (l : List ℕ). slice_index l (place spec p r)) counted
      ∙ zeros (processes spec * (spec.rounds + 1)) (place spec p r) (let less = mul-add-lt p (spec.rounds + 1) r (processes spec) low (omega (arith, few)) in let turned = mul_comm (spec.rounds + 1) (processes spec) in omega (arith, less, turned));
  read = λ a p r less low few.
      ap (λ (l : List ℕ). slice_index l (place spec (a * processes spec + p) r)) read
      ∙ zeros (spec.simulators * processes spec * (spec.rounds + 1)) (place spec (a * processes spec + p) r)
      (let row = mul-add-lt a (processes spec) p spec.simulators less low in
      let here = mul-add-lt (a * processes spec + p) (spec.rounds + 1) r (processes spec * spec.simulators) row (omega (arith, few)) in
      let turned : (spec.rounds + 1) * (processes spec * spec.simulators) ≡ spec.simulators * processes spec * (spec.rounds + 1) = mul_comm (spec.rounds + 1) (processes spec * spec.simulators) ∙ ap (λ (x : ℕ). x * (spec.rounds + 1)) (mul_comm (processes spec) spec.simulators) in
      omega (arith, here, turned));
  stored = λ p low. ap (λ (l : List ℕ). slice_index l p) stored ∙ zeros (processes spec) p low;
}

pub crash_noted : (room : Configuration) (i : ℕ) (schedule : List ScheduleEvent) (notes : Notes) → IsAlive room i → AreNotesOf room schedule notes → AreNotesOf (crashed_by room i) (schedule ++ crashes i ∷ []) notes
crash_noted room i schedule notes alive are =
    let one : IsOneInterleaving room = record { schedule = schedule; legal = are.legal; leads = are.leads } in
    let longer = under_crash_at_end room i (record { schedule = schedule; legal = are.legal; leads = are.leads }) alive in
    let fields = replay_fields room.spec (opening_fields room.spec) schedule in
    let after = replay_fields-snoc room.spec (opening_fields room.spec) schedule (crashes i) in
    record {
      legal = subst (λ (s : List ScheduleEvent). IsLegal (opening room.spec) s) longer.1 (longer.0).legal;
      leads = subst (λ (s : List ScheduleEvent). replay (opening room.spec) s ≡ crashed_by room i) longer.1 (longer.0).leads;
      count_places = are.count_places;
      read_places = are.read_places;
      store_places = are.store_places;
      counted = λ p r low few.
          are.counted p r low few
          ∙ sym (ap (λ (b : Bool). cond b (length schedule) (last_by room.spec schedule (counts_in room.spec p r))) (no_count room.spec fields (replay_fields room.spec (opening_fields room.spec) (schedule ++ crashes i ∷ [])) p r (ap (λ (f : Fields). greatest_step room.spec f p) after)))
          ∙ sym (last_by_more room.spec schedule (crashes i) (counts_in room.spec p r));
      read = λ a p r less low few.
          are.read a p r less low few
          ∙ sym (last_now room.spec schedule (crashes i) a p r false (reads_by room.spec schedule (crashes i) a p r));
      stored = λ p low.
          are.stored p low
          ∙ sym (ap (λ (b : Bool). cond b (length schedule) (last_by room.spec schedule (stores_in room.spec p))) (no_store room.spec fields (replay_fields room.spec (opening_fields room.spec) (schedule ++ crashes i ∷ [])) p (ap (λ (f : Fields). has_out room.spec f p) after)))
          ∙ sym (last_by_more room.spec schedule (crashes i) (stores_in room.spec p));
    }

-- ---- a step that was taken

pub mind_low : (room : RoomState) (i : ℕ) → IsShaped (configuration_of room) → i < room.spec.simulators → ((sweep_at room i).mind.process < processes room.spec) × (current_round (sweep_at room i).mind ≤ room.spec.rounds)
mind_low room i shape below =
    let is : IsMind room.spec (sweep_at room i).mind = subst (IsMind room.spec) (mind_is room i) (shape.each i below) in
    (is.process, round_low room.spec (sweep_at room i).mind is)

pub step_noted : (room : RoomState) (i : ℕ) (old : Notes) → IsWithinLimits room.spec → step_reply room i ≡ Stepped → IsNoted old room i (noted_step room i old)
step_noted room i old limits stepped = λ schedule are.
    let conf = configuration_of room in
    let shape = shapes (configuration_of room) limits (record { schedule = schedule; legal = are.legal; leads = are.leads }) in
    let may = taken_line room i shape stepped in
    let low = mind_low room i shape may.alive.below in
    subst (λ (after : RoomState). AreNotesOf (configuration_of after) (schedule ++ steps i ∷ []) (noted_if after i (looked room i) old)) (sym (taken_moves room i stepped))
    (subst (λ (b : Bool). AreNotesOf (configuration_of (moved room i)) (schedule ++ steps i ∷ []) (noted_if (moved room i) i (cond (b || not (may_take_effect (sweep_at room i).mind.line)) None (Some (before_step room i))) old)) (sym (lt-leb room.spec.simulators i may.alive.below))
    (by_line schedule are may low (may_take_effect (sweep_at room i).mind.line) refl))
  where
    by_line : (schedule : List ScheduleEvent) (are : AreNotesOf (configuration_of room) schedule old) → HasLine (configuration_of room) i → ((sweep_at room i).mind.process < processes room.spec) × (current_round (sweep_at room i).mind ≤ room.spec.rounds) → (b : Bool) → may_take_effect (sweep_at room i).mind.line ≡ b
        → AreNotesOf (configuration_of (moved room i)) (schedule ++ steps i ∷ []) (noted_if (moved room i) i (cond (not b) None (Some (before_step room i))) old)
    by_line schedule are may low true may_be = turning room i limits schedule old are may low.0 low.1
    by_line schedule are may low false none = elsewhere room i limits schedule old are may none

-- as the code does it
pub seen_step : (room : RoomState) (i : ℕ) (old new : Notes) (before : Before) → IsWithinLimits room.spec → step_reply room i ≡ Stepped → looked room i ≡ Some before → new ≡ noted (room_after_step room i) i before old → IsNoted old room i new
seen_step room i old new before limits stepped seen is =
    subst (IsNoted old room i) (ap (λ (found : Option Before). noted_if (room_after_step room i) i found old) seen ∙ sym is) (step_noted room i old limits stepped)

pub unseen_step : (room : RoomState) (i : ℕ) (old : Notes) → IsWithinLimits room.spec → step_reply room i ≡ Stepped → looked room i ≡ None → IsNoted old room i old
unseen_step room i old limits stepped seen =
    subst (IsNoted old room i) (ap (λ (found : Option Before). noted_if (room_after_step room i) i found old) seen) (step_noted room i old limits stepped)

-- ---- the steps of a command

pub seen_noted : (room after : Configuration) (taken : List TakenStep) (schedule : List ScheduleEvent) (old new : Notes) → Follow room taken after → AreSeen IsNoted old taken new → AreNotesOf room schedule old → AreNotesOf after (schedule ++ events_taken taken) new
seen_noted room after [] schedule old new same seen are =
    subst (λ (s : List ScheduleEvent). AreNotesOf after s new) (sym (append-nil schedule)) (subst (AreNotesOf after schedule) seen (subst (λ (r : Configuration). AreNotesOf r schedule old) same are))
seen_noted room after (step ∷ taken) schedule old new follow seen are =
    let first = seen.1 schedule (subst (λ (r : Configuration). AreNotesOf r schedule old) (sym follow.0) are) in
    subst (λ (s : List ScheduleEvent). AreNotesOf after s new) (append_assoc schedule (steps step.simulator ∷ []) (events_taken taken))
    (seen_noted (configuration_of (room_after_step step.room step.simulator)) after taken (schedule ++ steps step.simulator ∷ []) seen.0 new follow.2 seen.2 first)
