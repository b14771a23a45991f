-- What the words say before and after a step is what takes effect at it.
use Rattle.std.proofs.Common.{◌≡◌, ◌≢◌, ◌⊎◌, ℕ, ◌+◌, ◌-◌, ◌<◌, ◌≤◌, Bool, true, false, not, cond, eqb, leb, ltb, List, [], ◌∷◌, ◌++◌, length, Option, Some, None, inl, inr, refl, sym, ap, ◌∙◌, subst, arith}
use Rattle.std.specs.Prelude.{◌&&◌, ◌||◌}
use Rattle.std.specs.List.{find, list_any}
use Rattle.std.specs.Option.{option_map}
use Rattle.std.proofs.lemmas.Bool.{and_parts, cases_Bool, cases_eq, eq-eqb, eqb-true, lt-leb, ltb-false, ltb-true}
use Rattle.room_spec.specs.Rooms.{RoomSpec, IsWithinLimits, processes}
use Rattle.simulator.specs.declared.line.Line.{Line}
use Rattle.simulator.specs.declared.line.Line.TheVariants.{Raise, Out}
use Rattle.simulator.specs.Minds.{current_round}
use Rattle.simulator.specs.Turns.{words_in}
use Rattle.room_core.specs.Agreements.{decided_in, greatest_step, has_out, is_out, outs_at, written}
use Rattle.room_core.specs.Calls.{RoomState, configuration_of, moved, room_after_step, step_reply, sweep_at}
use Rattle.room_core.specs.Fields.{Fields, opening_fields, replay_fields}
use Rattle.room_core.specs.Moments.{fields_at}
use Rattle.room_core.specs.Points.{Point, Writes, Decides, write_counted, snapshot_read, decision_stored, is_snap, reads_in}
use Rattle.room_core.specs.Rooms.{HasLine, IsLegal, IsOneInterleaving, ScheduleEvent, opening, replay, stepped, steps}
use Rattle.room_core.specs.declared.reply.StepReply.TheVariants.{Stepped}
use Rattle.room_core.proofs.CallerLemmas.{at_before, at_end, left_uncounted, left_unstored, length-snoc, moved_data, shapes, taken_line, taken_moves, under_line_at_end}
use Rattle.ws_history.specs.declared.effects.Effect.{Effect}
use Rattle.ws_history.specs.declared.effects.Effect.TheVariants.{Write, Snapshot}
use Rattle.ws_history.specs.declared.points.Before.{Before}
use Rattle.ws_history.specs.Effects.{HasNoEffect, IsEffectOf, ReadsNext, TakesEffectNext, decision_by, effect_in, effect_inside, has_read}
use Rattle.ws_history.specs.Noting.{before_step, looked, may_take_effect}
use Rattle.ws_history.specs.Readings.{read_of}
use Rattle.ws_history.proofs.Agreeing.{same_written}
use Rattle.ws_history.proofs.Noted.{both_true, mind_low, no_out, no_raise, no_read, no_snap, not_true_of, read_parts, read_whole, reads_by}
use Rattle.ws_history.proofs.RoomFields.{low_greatest}
use Rattle.ws_history.proofs.Said.{IsSaid, agree, said_count, said_decided, said_mind, said_out}

-- where no decision is found none is stored
none_stored : (outs : List ℕ) → find is_out outs ≡ None → list_any is_out outs ≡ false
none_stored [] none = refl
none_stored (out ∷ outs) none = elim (cases_Bool (is_out out)) [
  | inl is ↦ absurd (let wrong : Some out ≡ None = ap (λ (b : Bool). cond b (Some out) (find is_out outs)) (sym is) ∙ none in cc)
  | inr is ↦ rw is (none_stored outs (ap (λ (b : Bool). cond b (Some out) (find is_out outs)) (sym is) ∙ none))
]

mapped_none : (found : Option ℕ) → option_map (λ (out : ℕ). out - 1) found ≡ None → found ≡ None
mapped_none None none = refl
mapped_none (Some out) none = absurd cc

undecided : (spec : RoomSpec) (fields : Fields) (p : ℕ) → decided_in spec fields p ≡ None → has_out spec fields p ≡ false
undecided spec fields p none = none_stored (outs_at spec fields p) (mapped_none (find is_out (outs_at spec fields p)) none)

stored_some : (spec : RoomSpec) (fields : Fields) (p d : ℕ) → decided_in spec fields p ≡ Some d → has_out spec fields p ≡ true
stored_some spec fields p d is = by_list (outs_at spec fields p) is
  where
    by_list : (outs : List ℕ) → option_map (λ (out : ℕ). out - 1) (find is_out outs) ≡ Some d → list_any is_out outs ≡ true
    by_list [] found = absurd cc
    by_list (out ∷ outs) found = elim (cases_Bool (is_out out)) [
      | inl here ↦ rw here refl
      | inr none ↦ rw none (by_list outs (ap (λ (b : Bool). option_map (λ (o : ℕ). o - 1) (cond b (Some out) (find is_out outs))) (sym none) ∙ found))
    ]

-- ---- what takes effect, as facts of the fields before and after

module _ (spec : RoomSpec) (schedule : List ScheduleEvent) (i : ℕ) where
  abbrev next : List ScheduleEvent
  next = schedule ++ steps i ∷ []

  abbrev F : Fields
  F = replay_fields spec (opening_fields spec) schedule

  abbrev F' : Fields
  F' = replay_fields spec (opening_fields spec) (schedule ++ steps i ∷ [])

  before_is : fields_at spec (schedule ++ steps i ∷ []) (length schedule) ≡ F
  before_is = at_before spec schedule (steps i) (length schedule) (omega arith) ∙ at_end spec schedule (length schedule) (omega arith)

  after_is : fields_at spec (schedule ++ steps i ∷ []) (length schedule + 1) ≡ F'
  after_is = at_end spec (schedule ++ steps i ∷ []) (length schedule + 1) (let l = length-snoc schedule (steps i) in omega (arith, l))

  final_is : fields_at spec (schedule ++ steps i ∷ []) (length (schedule ++ steps i ∷ [])) ≡ F'
  final_is = at_end spec (schedule ++ steps i ∷ []) (length (schedule ++ steps i ∷ [])) (omega arith)

  pub write_next : (p r : ℕ) → p < processes spec → greatest_step spec F p < r → greatest_step spec F' p ≡ r → TakesEffectNext spec schedule i (Writes p r)
  write_next p r low less now = write_counted p r low (subst (λ (f : Fields). greatest_step spec f p < r) (sym before_is) less) (subst (λ (f : Fields). greatest_step spec f p ≡ r) (sym after_is) now)

  pub decision_next : (p d : ℕ) → p < processes spec → has_out spec F p ≡ false → decided_in spec F' p ≡ Some d → TakesEffectNext spec schedule i (Decides p d)
  decision_next p d low none now =
      decision_stored p d low (subst (λ (f : Fields). has_out spec f p ≡ false) (sym before_is) none) (subst (λ (f : Fields). has_out spec f p ≡ true) (sym after_is) (stored_some spec F' p d now))
      (subst (λ (f : Fields). decided_in spec f p ≡ Some d) (sym final_is) now)

  -- and back
  write_by : (p r : ℕ) (point : Point) → point ≡ Writes p r → TakesEffectNext spec schedule i point → (p < processes spec) × (greatest_step spec F p < r) × (greatest_step spec F' p ≡ r)
  write_by p r point same (write_counted q s low less now) =
      let who : q ≡ p = cc in
      let round : s ≡ r = cc in (
        subst (λ (o : ℕ). o < processes spec) who low,
        subst (λ (f : Fields). greatest_step spec f p < r) before_is (subst (λ (o : ℕ). greatest_step spec (fields_at spec (schedule ++ steps i ∷ []) (length schedule)) o < r) who (subst (λ (k : ℕ). greatest_step spec (fields_at spec (schedule ++ steps i ∷ []) (length schedule)) q < k) round less)),
        subst (λ (f : Fields). greatest_step spec f p ≡ r) after_is (subst (λ (o : ℕ). greatest_step spec (fields_at spec (schedule ++ steps i ∷ []) (length schedule + 1)) o ≡ r) who (now ∙ round)),
      )
  write_by p r point same (snapshot_read q s passed read) = absurd cc
  write_by p r point same (decision_stored q d low none now is) = absurd cc

  store_by : (p d : ℕ) (point : Point) → point ≡ Decides p d → TakesEffectNext spec schedule i point → (p < processes spec) × (has_out spec F p ≡ false) × (has_out spec F' p ≡ true)
  store_by p d point same (write_counted q s low less now) = absurd cc
  store_by p d point same (snapshot_read q s passed read) = absurd cc
  store_by p d point same (decision_stored q e low none now is) =
      let who : q ≡ p = cc in (
        subst (λ (o : ℕ). o < processes spec) who low,
        subst (λ (f : Fields). has_out spec f p ≡ false) before_is (subst (λ (o : ℕ). has_out spec (fields_at spec (schedule ++ steps i ∷ []) (length schedule)) o ≡ false) who none),
        subst (λ (f : Fields). has_out spec f p ≡ true) after_is (subst (λ (o : ℕ). has_out spec (fields_at spec (schedule ++ steps i ∷ []) (length schedule + 1)) o ≡ true) who now),
      )

  pub no_effect : ((p : ℕ) → p < processes spec → greatest_step spec F' p ≤ greatest_step spec F p) → ((p r : ℕ) → reads_in spec F F' i p r ≡ false) → ((p : ℕ) → p < processes spec → has_out spec F p ≡ false → has_out spec F' p ≡ false) → HasNoEffect spec schedule i
  no_effect counts reads stores = record {
    writes = λ p r takes. let at = write_by p r (Writes p r) refl takes in let same = counts p at.0 in absurd (let less = at.1 in let now = at.2 in omega (arith, less, now, same));
    reads = λ p r is. let parts = and_parts (eqb i i) (reads_in spec F F' i p r) (sym (reads_by spec schedule (steps i) i p r) ∙ is) in absurd (let wrong : true ≡ false = sym parts.1 ∙ reads p r in cc);
    decides = λ p d takes. let at = store_by p d (Decides p d) refl takes in absurd (let wrong : true ≡ false = sym at.2 ∙ stores p at.0 at.1 in cc);
  }

  pub read_next : (p r : ℕ) → reads_in spec F F' i p r ≡ true → ReadsNext spec schedule i p r
  read_next p r is = reads_by spec schedule (steps i) i p r ∙ both_true (eqb i i) (reads_in spec F F' i p r) (eq-eqb i i refl) is

-- ---- a step

module _ (room : RoomState) (i : ℕ) (limits : IsWithinLimits room.spec) (one : IsOneInterleaving (configuration_of room)) (may : HasLine (configuration_of room) i) where
  abbrev E : Fields
  E = replay_fields room.spec (opening_fields room.spec) one.schedule

  abbrev E' : Fields
  E' = replay_fields room.spec (opening_fields room.spec) (one.schedule ++ steps i ∷ [])

  abbrev j : ℕ
  j = (sweep_at room i).mind.process

  longer : (run : IsOneInterleaving (stepped (configuration_of room) i)) × (run.schedule ≡ one.schedule ++ steps i ∷ [])
  longer = under_line_at_end (configuration_of room) i one may

  abbrev after_one : IsOneInterleaving (configuration_of (moved room i))
  after_one = record {
    schedule = one.schedule ++ steps i ∷ [];
    legal = subst (λ (s : List ScheduleEvent). IsLegal (opening room.spec) s) longer.1 (longer.0).legal;
    leads = subst (λ (s : List ScheduleEvent). replay (opening room.spec) s ≡ stepped (configuration_of room) i) longer.1 (longer.0).leads ∙ sym (moved_data room i);
  }

  said : IsSaid (sweep_at room i).mind (E.mind i)
  said = said_mind room limits one i may.alive.below

  said' : IsSaid (sweep_at (moved room i) i).mind (E'.mind i)
  said' = said_mind (moved room i) limits after_one i may.alive.below

  left_count : (p : ℕ) → ((E.mind i).line ≢ Raise) ⊎ (p ≢ (E.mind i).process) → greatest_step room.spec E' p ≡ greatest_step room.spec E p
  left_count p why = left_uncounted (configuration_of room) limits one i may p why

  left_out : (p : ℕ) → ((decision : ℕ) → (E.mind i).line ≢ Out decision) ⊎ (p ≢ (E.mind i).process) → has_out room.spec E' p ≡ has_out room.spec E p
  left_out p why = left_unstored (configuration_of room) limits one i may p why

  elsewhere : may_take_effect (sweep_at room i).mind.line ≡ false → IsEffectOf room.spec one.schedule i None
  elsewhere is =
      let none : may_take_effect (E.mind i).line ≡ false = sym (ap may_take_effect said.line) ∙ is in
      no_effect room.spec one.schedule i (λ p low. let same = left_count p (inl (no_raise (E.mind i).line none)) in omega (arith, same)) (λ p r. no_read room.spec E E' i p r (no_snap (E.mind i).line none)) (λ p low live. left_out p (inl (no_out (E.mind i).line none)) ∙ live)

  module _ (low : j < processes room.spec) (last : current_round (sweep_at room i).mind ≤ room.spec.rounds) where
    c0 : greatest_step room.spec (read_of room) j ≡ greatest_step room.spec E j
    c0 = said_count room limits one j low

    c1 : greatest_step room.spec (read_of (moved room i)) j ≡ greatest_step room.spec E' j
    c1 = said_count (moved room i) limits after_one j low

    own : j ≡ (E.mind i).process
    own = said.process

    some : 0 < room.spec.simulators
    some = let least = limits.shape.m_range.0 in omega (arith, least)

    abbrev new_count : ℕ
    new_count = greatest_step room.spec (read_of (moved room i)) j

    writing : greatest_step room.spec (read_of room) j < new_count → IsEffectOf room.spec one.schedule i (Some (Write j (written room.spec (read_of (moved room i)) j new_count)))
    writing less =
        let first : 1 ≤ new_count = omega (arith, less) in
        let values : written room.spec (read_of (moved room i)) j new_count ≡ written room.spec E' j new_count =
        same_written room.spec (read_of (moved room i)) (record (replay_fields room.spec (opening_fields room.spec) (one.schedule ++ steps i ∷ [])) { quiet = λ a. (sweep_at (moved room i) a).quiet }) some (agree (moved room i) limits after_one) j new_count low first (low_greatest (moved room i) j) in (
          new_count,
          write_next room.spec one.schedule i j new_count low (omega (arith, less, c0)) (sym c1),
          values ∙ ap (λ (f : Fields). written room.spec f j new_count) (sym (final_is room.spec one.schedule i)),
        )

    read_is : has_read (moved room i) i (before_step room i) ≡ true → reads_in room.spec E E' i j (current_round (sweep_at room i).mind) ≡ true
    read_is is =
        let both = and_parts (is_snap (sweep_at room i).mind.line && eqb ((sweep_at room i).mind.word + 1) (words_in room.spec)) (eqb (words_in room.spec) 1 || is_snap (sweep_at (moved room i) i).mind.line) is in
        let ends = and_parts (is_snap (sweep_at room i).mind.line) (eqb ((sweep_at room i).mind.word + 1) (words_in room.spec)) both.0 in
        read_whole room.spec E E' i j (current_round (sweep_at room i).mind) (ap is_snap (sym said.line) ∙ ends.0) (sym own) (sym said.round) (ap (λ (w : ℕ). w + 1) (sym said.word) ∙ eqb-true ((sweep_at room i).mind.word + 1) (words_in room.spec) ends.1)
        (ap (λ (l : Line). eqb (words_in room.spec) 1 || is_snap l) (sym said'.line) ∙ both.1)

    reading : has_read (moved room i) i (before_step room i) ≡ true → IsEffectOf room.spec one.schedule i (Some (Snapshot j))
    reading is = (current_round (sweep_at room i).mind, read_next room.spec one.schedule i j (current_round (sweep_at room i).mind) (read_is is))

    unread : has_read (moved room i) i (before_step room i) ≡ false → (p r : ℕ) → reads_in room.spec E E' i p r ≡ false
    unread none p r = not_true_of (reads_in room.spec E E' i p r) (λ is.
        let at = read_parts room.spec E E' i p r is in
        let yes_it : has_read (moved room i) i (before_step room i) ≡ true =
        both_true (is_snap (sweep_at room i).mind.line && eqb ((sweep_at room i).mind.word + 1) (words_in room.spec)) (eqb (words_in room.spec) 1 || is_snap (sweep_at (moved room i) i).mind.line)
        (both_true (is_snap (sweep_at room i).mind.line) (eqb ((sweep_at room i).mind.word + 1) (words_in room.spec)) (ap is_snap said.line ∙ at.0) (eq-eqb ((sweep_at room i).mind.word + 1) (words_in room.spec) (ap (λ (w : ℕ). w + 1) said.word ∙ at.3)))
        (ap (λ (l : Line). eqb (words_in room.spec) 1 || is_snap l) said'.line ∙ at.4) in
        let wrong : true ≡ false = sym yes_it ∙ none in cc)

    uncounted : new_count ≤ greatest_step room.spec (read_of room) j → (p : ℕ) → p < processes room.spec → greatest_step room.spec E' p ≤ greatest_step room.spec E p
    uncounted most p less = elim (cases_eq p (E.mind i).process) [
      | inl same ↦
          let here : p ≡ j = same ∙ sym own in
          let before : greatest_step room.spec E p ≡ greatest_step room.spec E j = ap (greatest_step room.spec E) here in
          let after : greatest_step room.spec E' p ≡ greatest_step room.spec E' j = ap (greatest_step room.spec E') here in
          omega (arith, most, c0, c1, before, after)
      | inr apart ↦ let same = left_count p (inr apart) in omega (arith, same)
    ]

    unstored : (has_out room.spec (read_of room) j ≡ true) ⊎ (has_out room.spec (read_of (moved room i)) j ≡ false) → (p : ℕ) → p < processes room.spec → has_out room.spec E p ≡ false → has_out room.spec E' p ≡ false
    unstored why p less none = elim (cases_eq p (E.mind i).process) [
      | inl same ↦
          let here : p ≡ j = same ∙ sym own in
          elim why [
            | inl had ↦ absurd (let wrong : true ≡ false = sym had ∙ said_out room limits one j low ∙ ap (has_out room.spec E) (sym here) ∙ none in cc)
            | inr still ↦ ap (has_out room.spec E') here ∙ sym (said_out (moved room i) limits after_one j low) ∙ still
          ]
      | inr apart ↦ left_out p (inr apart) ∙ none
    ]

    abbrev Of : Option Effect → Type 0
    Of effect = IsEffectOf room.spec one.schedule i effect

    storing : new_count ≤ greatest_step room.spec (read_of room) j → has_read (moved room i) i (before_step room i) ≡ false → has_out room.spec (read_of room) j ≡ false → (decided : Option ℕ) → decided_in room.spec (read_of (moved room i)) j ≡ decided
        → Of (decision_by j decided)
    storing most none live None is =
        no_effect room.spec one.schedule i (uncounted most) (unread none) (unstored (inr (undecided room.spec (read_of (moved room i)) j is)))
    storing most none live (Some value) is =
        decision_next room.spec one.schedule i j value low (sym (said_out room limits one j low) ∙ live) (sym (said_decided (moved room i) limits after_one j low) ∙ is)

    deciding : new_count ≤ greatest_step room.spec (read_of room) j → has_read (moved room i) i (before_step room i) ≡ false → (b : Bool) → has_out room.spec (read_of room) j ≡ b
        → Of (cond b None (decision_by j (decided_in room.spec (read_of (moved room i)) j)))
    deciding most none true had = no_effect room.spec one.schedule i (uncounted most) (unread none) (unstored (inl had))
    deciding most none false live = storing most none live (decided_in room.spec (read_of (moved room i)) j) refl

    scanning : new_count ≤ greatest_step room.spec (read_of room) j → (b : Bool) → has_read (moved room i) i (before_step room i) ≡ b
        → Of (cond b (Some (Snapshot j)) (cond (has_out room.spec (read_of room) j) None (decision_by j (decided_in room.spec (read_of (moved room i)) j))))
    scanning most true is = reading is
    scanning most false none = deciding most none (has_out room.spec (read_of room) j) refl

    counting : (b : Bool) → ltb (greatest_step room.spec (read_of room) j) new_count ≡ b
        → Of (cond b (Some (Write j (written room.spec (read_of (moved room i)) j new_count))) (cond (has_read (moved room i) i (before_step room i)) (Some (Snapshot j)) (cond (has_out room.spec (read_of room) j) None (decision_by j (decided_in room.spec (read_of (moved room i)) j)))))
    counting true less = writing (ltb-true (greatest_step room.spec (read_of room) j) new_count less)
    counting false most = scanning (ltb-false (greatest_step room.spec (read_of room) j) new_count most) (has_read (moved room i) i (before_step room i)) refl

    turning : Of (effect_inside (moved room i) i (before_step room i))
    turning = counting (ltb (greatest_step room.spec (read_of room) j) new_count) refl

-- ---- as the code does it

pub effect_is : (room : RoomState) (i : ℕ) → IsWithinLimits room.spec → (one : IsOneInterleaving (configuration_of room)) → step_reply room i ≡ Stepped → IsEffectOf room.spec one.schedule i (effect_in (room_after_step room i) i (looked room i))
effect_is room i limits one stepped =
    let shape = shapes (configuration_of room) limits one in
    let may = taken_line room i shape stepped in
    let low = mind_low room i shape may.alive.below in
    subst (λ (after : RoomState). IsEffectOf room.spec one.schedule i (effect_in after i (looked room i))) (sym (taken_moves room i stepped))
    (subst (λ (b : Bool). IsEffectOf room.spec one.schedule i (effect_in (moved room i) i (cond (b || not (may_take_effect (sweep_at room i).mind.line)) None (Some (before_step room i))))) (sym (lt-leb room.spec.simulators i may.alive.below))
    (by_line may low (may_take_effect (sweep_at room i).mind.line) refl))
  where
    by_line : HasLine (configuration_of room) i → ((sweep_at room i).mind.process < processes room.spec) × (current_round (sweep_at room i).mind ≤ room.spec.rounds) → (b : Bool) → may_take_effect (sweep_at room i).mind.line ≡ b
        → IsEffectOf room.spec one.schedule i (effect_in (moved room i) i (cond (not b) None (Some (before_step room i))))
    by_line may low false none = elsewhere room i limits one may none
    by_line may low true may_be =
        subst (λ (b : Bool). IsEffectOf room.spec one.schedule i (cond (b || leb (processes room.spec) (sweep_at room i).mind.process) None (effect_inside (moved room i) i (before_step room i)))) (sym (lt-leb room.spec.simulators i may.alive.below))
        (subst (λ (b : Bool). IsEffectOf room.spec one.schedule i (cond b None (effect_inside (moved room i) i (before_step room i)))) (sym (lt-leb (processes room.spec) (sweep_at room i).mind.process low.0))
        (turning room i limits one may low.0 low.1))

-- of a room before the step, by the room after it
pub effect_of_step : (old room : RoomState) (i : ℕ) (before : Option Before) (effect : Option Effect) → IsWithinLimits room.spec → effect ≡ effect_in room i before → (one : IsOneInterleaving (configuration_of old)) → before ≡ looked old i → step_reply old i ≡ Stepped → room ≡ room_after_step old i
    → IsEffectOf old.spec one.schedule i effect
effect_of_step old room i before effect limits is one seen stepped after =
    let spec_is : room.spec ≡ old.spec = ap (λ (r : RoomState). r.spec) (after ∙ taken_moves old i stepped) in
    let limits' : IsWithinLimits old.spec = subst IsWithinLimits spec_is limits in
    subst (IsEffectOf old.spec one.schedule i) (sym (is ∙ ap (λ (r : RoomState). effect_in r i before) after ∙ ap (effect_in (room_after_step old i) i) seen)) (effect_is old i limits' one stepped)
