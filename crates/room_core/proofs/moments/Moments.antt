-- What is proposed, and each snapshot that is about to be, is the step numbers as they stood at some moment.
use Rattle.std.proofs.Common.{◌≡◌, ◌≢◌, ◌⊎◌, ℕ, ◌+◌, ◌<◌, ◌≤◌, List, [], ◌∷◌, ◌++◌, length, inl, inr, refl, sym, ap, ◌∙◌, subst, arith}
use Rattle.std.proofs.lemmas.Bool.{cases_lt}
use Rattle.std.proofs.lemmas.List.{take-append-le, take_all, length-append}
use mathlib.Core.Logic.{dite}
use native.Mathlib.Decide.{ℕ_discrete}
use Rattle.room_spec.specs.Rooms.{RoomSpec, IsWithinLimits, processes}
use Rattle.sim_memory.specs.Steps.{AreAtMost, AreSameSteps}
use Rattle.room_core.specs.Rooms.{Configuration, ScheduleEvent, steps, crashes, MayHappen, IsShaped, IsOneInterleaving}
use Rattle.room_core.specs.Fields.{StepMap, Fields, opening_fields, line, with_crash, fields_after, replay_fields}
use Rattle.room_core.specs.Moments.{fields_at, steps_at, HasCounted, EndsCollect, IsMoment, IsScan}
use Rattle.room_core.specs.Tracks.{StandsFor}
use Rattle.room_core.proofs.agreements.Stages.{Progress, Uncounted, Scanned, Past, later}
use Rattle.room_core.proofs.fields.Effects.{gets_not, Own, own_of, process_on, round_on, is_end, IsLastWord, IsLineOf, ScanEnds, line_effect, step_loaded, Effect, stores, proposes, raises, collects_word, collects_again, scans, shows_word, shows, loads_word, enters, looks, leaves, asks_in_vain, finds, gets_input, gathers, goes_to, will_decide, decides}
use Rattle.std.proofs.Common.{Bool, true, false, eqb, ltb}
use Rattle.std.specs.Prelude.{◌&&◌, ◌||◌}
use Rattle.std.proofs.lemmas.Bool.{eqb-true, lt-ltb}
use Rattle.room_spec.specs.Sizes.{sizes_in}
use Rattle.sim_memory.specs.Steps.{AreWithin, word_of, with_part}
use Rattle.sim_memory.proofs.CallerLemmas.{word_below}
use Rattle.simulator.specs.declared.line.Line.{Line}
use Rattle.simulator.specs.declared.line.Line.TheVariants.{Rest, Snap, Show}
use Rattle.simulator.specs.Minds.{current_round}
use Rattle.simulator.specs.Turns.{most_collects, words_in}
use Rattle.room_core.specs.Fields.{is_same_collect, with_shown}
use Rattle.room_core.specs.Tracks.{KeepsTrack}
use Rattle.room_core.proofs.moments.Collects.{IsCollecting, IsContent, is_last_collect}
use Rattle.room_core.proofs.moments.Collecting as collecting
use Rattle.room_core.proofs.fields.Maps.{pair_here}
use Rattle.room_core.proofs.fields.Prefixes.{over_run, replay_fields-snoc}
use Rattle.room_core.proofs.moments.Shown.{HasShown, progress_own, own_shown, own_scanned, own_grows}

-- ---- prefixes

pub at_before : (spec : RoomSpec) (schedule : List ScheduleEvent) (event : ScheduleEvent) (time : ℕ) → time ≤ length schedule → fields_at spec (schedule ++ event ∷ []) time ≡ fields_at spec schedule time
at_before spec schedule event time early = ap (λ (prefix : List ScheduleEvent). replay_fields spec (opening_fields spec) prefix) (take-append-le time schedule (event ∷ []) early)

pub at_end : (spec : RoomSpec) (schedule : List ScheduleEvent) (time : ℕ) → length schedule ≤ time → fields_at spec schedule time ≡ replay_fields spec (opening_fields spec) schedule
at_end spec schedule time late = ap (λ (prefix : List ScheduleEvent). replay_fields spec (opening_fields spec) prefix) (take_all time schedule late)

pub length-snoc : (schedule : List ScheduleEvent) (event : ScheduleEvent) → length (schedule ++ event ∷ []) ≡ length schedule + 1
length-snoc schedule event = length-append schedule (event ∷ [])

moment_more : (spec : RoomSpec) (schedule : List ScheduleEvent) (event : ScheduleEvent) (i j k : ℕ) (map : StepMap) → IsMoment spec schedule i j k map → IsMoment spec (schedule ++ event ∷ []) i j k map
moment_more spec schedule event i j k map moment = record {
  time = moment.time;
  early = let long = length-snoc schedule event in let e = moment.early in omega arith;
  same = λ a p below below'. moment.same a p below below' ∙ ap (λ (fields : Fields). fields.step a p) (sym (at_before spec schedule event moment.time moment.early));
  own = moment.own;
}

-- the step numbers at hand, before one more event
moment_now : (spec : RoomSpec) (schedule : List ScheduleEvent) (event : ScheduleEvent) (fields : Fields) (i j k : ℕ) → replay_fields spec (opening_fields spec) schedule ≡ fields → fields.step i j ≡ k → IsMoment spec (schedule ++ event ∷ []) i j k fields.step
moment_now spec schedule event fields i j k leads own = record {
  time = length schedule;
  early = let long = length-snoc schedule event in omega arith;
  same = λ a p below below'. ap (λ (f : Fields). f.step a p) (sym (at_before spec schedule event (length schedule) (omega arith) ∙ at_end spec schedule (length schedule) (omega arith) ∙ leads));
  own = own;
}

-- ---- step numbers never fall

abbrev pub Grow : RoomSpec → List ScheduleEvent → Type 0
Grow spec schedule = (s t : ℕ) → s ≤ t → t ≤ length schedule → AreAtMost spec.simulators (processes spec) (fields_at spec schedule s).step (fields_at spec schedule t).step

grow_more : (spec : RoomSpec) (schedule : List ScheduleEvent) (event : ScheduleEvent) (fields after : Fields) → replay_fields spec (opening_fields spec) schedule ≡ fields → replay_fields spec (opening_fields spec) (schedule ++ event ∷ []) ≡ after
    → AreAtMost spec.simulators (processes spec) fields.step after.step → Grow spec schedule → Grow spec (schedule ++ event ∷ [])
grow_more spec schedule event fields after leads leads' one grows s t before within a p below below' = by_last (cases_lt (length schedule) t)
  where
    all : List ScheduleEvent
    all = schedule ++ event ∷ []

    long : length (schedule ++ event ∷ []) ≡ length schedule + 1
    long = length-snoc schedule event

    by_first : length schedule < t → (length schedule < s) ⊎ (s ≤ length schedule) → (fields_at spec (schedule ++ event ∷ []) s).step a p ≤ (fields_at spec (schedule ++ event ∷ []) t).step a p
    by_first late (inl late') =
        let same : s ≡ t = let l = long in omega arith in
        let e : (fields_at spec (schedule ++ event ∷ []) s).step a p ≡ (fields_at spec (schedule ++ event ∷ []) t).step a p = ap (λ (time : ℕ). (fields_at spec (schedule ++ event ∷ []) time).step a p) same in
        omega arith
    by_first late (inr early) =
        let is : (fields_at spec (schedule ++ event ∷ []) s).step a p ≡ (fields_at spec schedule s).step a p = ap (λ (f : Fields). f.step a p) (at_before spec schedule event s early) in
        let rest : (fields_at spec schedule s).step a p ≤ (fields_at spec schedule (length schedule)).step a p = grows s (length schedule) early (omega arith) a p below below' in
        let mid : (fields_at spec schedule (length schedule)).step a p ≡ fields.step a p = ap (λ (f : Fields). f.step a p) (at_end spec schedule (length schedule) (omega arith) ∙ leads) in
        let last : fields.step a p ≤ after.step a p = one a p below below' in
        let end : (fields_at spec (schedule ++ event ∷ []) t).step a p ≡ after.step a p = ap (λ (f : Fields). f.step a p) (at_end spec (schedule ++ event ∷ []) t (let l = long in omega arith) ∙ leads') in
        omega (arith, is, rest, mid, last, end)

    by_last : (length schedule < t) ⊎ (t ≤ length schedule) → (fields_at spec (schedule ++ event ∷ []) s).step a p ≤ (fields_at spec (schedule ++ event ∷ []) t).step a p
    by_last (inl late) = by_first late (cases_lt (length schedule) s)
    by_last (inr early) =
        let is : (fields_at spec (schedule ++ event ∷ []) s).step a p ≡ (fields_at spec schedule s).step a p = ap (λ (f : Fields). f.step a p) (at_before spec schedule event s (omega arith)) in
        let is' : (fields_at spec (schedule ++ event ∷ []) t).step a p ≡ (fields_at spec schedule t).step a p = ap (λ (f : Fields). f.step a p) (at_before spec schedule event t early) in
        let rest : (fields_at spec schedule s).step a p ≤ (fields_at spec schedule t).step a p = grows s t before early a p below below' in
        omega (arith, is, is', rest)

-- ---- collects

abbrev pub Collects : RoomSpec → List ScheduleEvent → ℕ → ℕ → Own → Type 0
Collects spec schedule now i own =
    IsCollecting (sizes_in spec) (EndsCollect spec schedule i (process_on own) (round_on own) own.mind.collects) (steps_at spec schedule) now own.mind.before own.mind.snapshot own.mind.word own.mind.collects

abbrev pub Scans : RoomSpec → List ScheduleEvent → ℕ → ℕ → Own → Type 0
Scans spec schedule now i own = IsScan spec schedule now i (process_on own) (round_on own) own.mind.before own.mind.snapshot own.mind.collects

-- what has been stored of a snapshot
abbrev pub IsStored : RoomSpec → Own → Type 0
IsStored spec own = (a p : ℕ) → a < spec.simulators → p < processes spec → word_of (sizes_in spec) a p < own.mind.word → own.view (process_on own) (round_on own) a p ≡ own.mind.snapshot a p

-- ---- tests of a scan's end

and_is : (b c : Bool) → b ≡ true → c ≡ true → b && c ≡ true
and_is true c is is' = is'
and_is false c is is' = is

and_both : (b c : Bool) → b && c ≡ true → (b ≡ true) × (c ≡ true)
and_both true c is = (refl, is)
and_both false c is = absurd cc

turned : (b c : Bool) → b && c ≡ c && b
turned true true = refl
turned true false = refl
turned false true = refl
turned false false = refl

or_false : (b c : Bool) → b || c ≡ false → b ≡ false
or_false true c is = absurd cc
or_false false c is = refl

or_either : (b c : Bool) → b || c ≡ true → (b ≡ true) ⊎ (c ≡ true)
or_either true c is = inl refl
or_either false c is = inr is

-- more than one collect, counted before this one or with it
same_count : (collects : ℕ) → ltb 1 (collects + 1) ≡ ltb 0 collects
same_count collects = by_some (cases_lt 0 collects)
  where
    by_some : (0 < collects) ⊎ (collects ≤ 0) → ltb 1 (collects + 1) ≡ ltb 0 collects
    by_some (inl some) = lt-ltb 1 (collects + 1) (omega arith) ∙ sym (lt-ltb 0 collects some)
    by_some (inr none) = let is : collects ≡ 0 = omega arith in ap (λ (x : ℕ). ltb 1 (x + 1)) is ∙ sym (ap (λ (x : ℕ). ltb 0 x) is)

module _ (spec : RoomSpec) (fields : Fields) (own : Own) where
  again : Bool
  again = is_last_collect (sizes_in spec) own.mind.collects own.mind.before (step_loaded spec fields own).snapshot

  test_is : is_same_collect spec (step_loaded spec fields own) && ltb 1 (own.mind.collects + 1) ≡ is_last_collect (sizes_in spec) own.mind.collects own.mind.before (step_loaded spec fields own).snapshot
  test_is =
      turned (is_same_collect spec (step_loaded spec fields own)) (ltb 1 (own.mind.collects + 1))
      ∙ ap (λ (b : Bool). b && is_same_collect spec (step_loaded spec fields own)) (same_count own.mind.collects)

  goes_is : is_end spec (step_loaded spec fields own) ≡ false → is_last_collect (sizes_in spec) own.mind.collects own.mind.before (step_loaded spec fields own).snapshot ≡ false
  goes_is goes = sym test_is ∙ or_false (is_same_collect spec (step_loaded spec fields own) && ltb 1 (own.mind.collects + 1)) (eqb (own.mind.collects + 1) (most_collects spec)) goes

  ends_is : is_end spec (step_loaded spec fields own) ≡ true → (is_last_collect (sizes_in spec) own.mind.collects own.mind.before (step_loaded spec fields own).snapshot ≡ true) ⊎ (own.mind.collects + 1 ≡ most_collects spec)
  ends_is ends = elim (or_either (is_same_collect spec (step_loaded spec fields own) && ltb 1 (own.mind.collects + 1)) (eqb (own.mind.collects + 1) (most_collects spec)) ends) [ inl same ↦ inl (sym test_is ∙ same) | inr most ↦ inr (eqb-true _ _ most) ]

-- ---- what a line makes of a scan

module _ (spec : RoomSpec) (limits : IsWithinLimits spec) (schedule : List ScheduleEvent) (fields : Fields) (now i : ℕ) (within : AreWithin (sizes_in spec) fields.step) (here : steps_at spec schedule now ≡ fields.step)
    (grows : (s t : ℕ) → s ≤ t → t ≤ now + 1 → AreAtMost spec.simulators (processes spec) (steps_at spec schedule s) (steps_at spec schedule t)) (own : Own) (below : i < spec.simulators) where
  words_are : (a p : ℕ) → a < spec.simulators → p < processes spec → word_of (sizes_in spec) a p < words_in spec
  words_are a p less less' = word_below (sizes_in spec) a p limits.shape less less'

  abbrev Was : Type 0
  Was = Collects spec schedule now i own

  abbrev Becomes : Own → Type 0
  Becomes after = Collects spec schedule (now + 1) i after

  as_loaded : (P : StepMap → Type 0) → P (with_part (sizes_in spec) own.mind.word (steps_at spec schedule now) own.mind.snapshot) → P (step_loaded spec fields own).snapshot
  as_loaded P is = subst (λ (source : StepMap). P (with_part (sizes_in spec) own.mind.word source own.mind.snapshot)) here is

  line_collects : (after : Own) → Effect spec fields own after → (words_in spec ≢ 1 → own.mind.line ≡ Snap → Was) → (own.mind.line ≡ Snap → IsLastWord spec own → after.mind.line ≡ Snap → after.step (process_on after) ≡ round_on after → EndsCollect spec schedule i (process_on after) (round_on after) after.mind.collects (now + 1)) → words_in spec ≢ 1 → after.mind.line ≡ Snap → Becomes after
  line_collects after (stores j k value rest goal count process first last) was counts several is = absurd cc
  line_collects after (proposes j value rest goal none unentered within kind) was counts several is = absurd cc
  line_collects after (raises turn whole begun count) was counts several is =
      subst (λ (word : ℕ). IsCollecting (sizes_in spec) (EndsCollect spec schedule i (process_on after) (round_on after) own.mind.collects) (steps_at spec schedule) (now + 1) own.mind.before own.mind.snapshot word own.mind.collects) (sym whole)
      (subst (λ (collects : ℕ). IsCollecting (sizes_in spec) (EndsCollect spec schedule i (process_on after) (round_on after) collects) (steps_at spec schedule) (now + 1) own.mind.before own.mind.snapshot 0 collects) (sym begun)
      (collecting.begins (sizes_in spec) (EndsCollect spec schedule i (process_on after) (round_on after) 0) (steps_at spec schedule) (now + 1) own.mind.before own.mind.snapshot))
  line_collects after (collects_word turn count none more) was counts several is =
      as_loaded (λ (map : StepMap). IsCollecting (sizes_in spec) (EndsCollect spec schedule i (process_on own) (round_on own) own.mind.collects) (steps_at spec schedule) (now + 1) own.mind.before map (own.mind.word + 1) own.mind.collects)
      (collecting.loads (sizes_in spec) (EndsCollect spec schedule i (process_on own) (round_on own) own.mind.collects) (steps_at spec schedule) now own.mind.before own.mind.snapshot own.mind.word own.mind.collects grows (was several turn.stands))
  line_collects after (collects_again turn count none last several' goes) was counts several is =
      as_loaded (λ (map : StepMap). is_last_collect (sizes_in spec) own.mind.collects own.mind.before map ≡ false → IsCollecting (sizes_in spec) (EndsCollect spec schedule i (process_on own) (round_on own) (own.mind.collects + 1)) (steps_at spec schedule) (now + 1) map map 0 (own.mind.collects + 1))
      (λ differ.
      collecting.collects_again (sizes_in spec) (EndsCollect spec schedule i (process_on own) (round_on own) own.mind.collects) (steps_at spec schedule) now own.mind.before own.mind.snapshot own.mind.word own.mind.collects grows (was several turn.stands) (words_in spec) words_are last (EndsCollect spec schedule i (process_on own) (round_on own) (own.mind.collects + 1)) differ
      (counts turn.stands last refl count))
      (goes_is spec fields own goes)
  line_collects after (scans collects turn count none last ends) was counts several is = absurd cc
  line_collects after (shows_word turn count none more) was counts several is = absurd cc
  line_collects after (shows turn count none last) was counts several is = absurd cc
  line_collects after (enters turn count none) was counts several is = absurd cc
  line_collects after (looks turn count one) was counts several is = absurd cc
  line_collects after (leaves saw_two turn count one) was counts several is = absurd cc
  line_collects after (asks_in_vain asking asks none) was counts several is = absurd cc
  line_collects after (finds asking chosen asks some) was counts several is = absurd (gets_not (current_round asking) chosen Snap refl is)
  line_collects after (gets_input chosen turn count less) was counts several is = absurd cc
  line_collects after (loads_word found turn less more) was counts several is = absurd cc
  line_collects after (gathers reading reads more) was counts several is = absurd cc
  line_collects after (goes_to reading given reads all action) was counts several is = absurd cc
  line_collects after (will_decide reading decision reads all action) was counts several is = absurd cc
  line_collects after (decides decision turn count) was counts several is = absurd cc

  -- the content of a scan that has just ended: the step numbers at a moment at which the simulator had counted the round
  abbrev Content : (ℕ → Type 0) → Type 0
  Content Ends = IsContent (sizes_in spec) Ends (steps_at spec schedule) now (step_loaded spec fields own).snapshot

  abbrev Counted : ℕ → Type 0
  Counted = HasCounted spec schedule i (process_on own) (round_on own)

  abbrev Ended : ℕ → Type 0
  Ended = EndsCollect spec schedule i (process_on own) (round_on own) own.mind.collects

  one_content : own.step ≡ fields.step i → own.step (process_on own) ≡ round_on own → IsLastWord spec own → words_in spec ≡ 1 → Content Counted
  one_content mine count last one = record {
    time = now;
    early = omega arith;
    ends = ap (λ (map : StepMap). map i (process_on own)) here ∙ ap (λ (row : ℕ → ℕ). row (process_on own)) (sym mine) ∙ count;
    same = λ a p less less'.
        let w = words_are a p less less' in
        collecting.with_here (sizes_in spec) own.mind.word fields.step own.mind.snapshot a p (omega (arith, w, one, last)) ∙ ap (λ (map : StepMap). map a p) (sym here);
  }

  last_is : Was → IsLastWord spec own → is_end spec (step_loaded spec fields own) ≡ true → is_last_collect (sizes_in spec) own.mind.collects own.mind.before (step_loaded spec fields own).snapshot ≡ true
  last_is was last ends = elim (ends_is spec fields own ends) [
    | inl same ↦ same
    | inr most ↦
        as_loaded (λ (map : StepMap). is_last_collect (sizes_in spec) own.mind.collects own.mind.before map ≡ true)
        (collecting.scans_end (sizes_in spec) (EndsCollect spec schedule i (process_on own) (round_on own) own.mind.collects) (steps_at spec schedule) now own.mind.before own.mind.snapshot own.mind.word own.mind.collects grows was (words_in spec) words_are last
        (subst (λ (map : StepMap). AreWithin (sizes_in spec) map) (sym here) within) (omega (arith, most)))
  ]

  more_content : Was → IsLastWord spec own → is_end spec (step_loaded spec fields own) ≡ true → Content Ended
  more_content was last ends =
      as_loaded (λ (map : StepMap). is_last_collect (sizes_in spec) own.mind.collects own.mind.before map ≡ true → IsContent (sizes_in spec) (EndsCollect spec schedule i (process_on own) (round_on own) own.mind.collects) (steps_at spec schedule) now map)
      (λ equal. collecting.scans (sizes_in spec) (EndsCollect spec schedule i (process_on own) (round_on own) own.mind.collects) (steps_at spec schedule) now own.mind.before own.mind.snapshot own.mind.word own.mind.collects grows was (words_in spec) words_are last equal)
      (last_is was last ends)

  scan_content : own.step ≡ fields.step i → own.step (process_on own) ≡ round_on own → IsLastWord spec own → (words_in spec ≢ 1 → Was) → (collects : ℕ) → ScanEnds spec fields own collects
      → IsScan spec schedule now i (process_on own) (round_on own) own.mind.before (step_loaded spec fields own).snapshot collects
  scan_content mine count last was collects (inl one) =
      let content = one_content mine count last one in
      record { time = content.time; early = content.early; counted = content.ends; same = content.same; equal = λ several. absurd (several one); ended = λ several. absurd (several one) }
  scan_content mine count last was collects (inr more) =
      let content = more_content (was more.0) last more.1 in
      record {
        time = content.time;
        early = content.early;
        counted = (content.ends).counted;
        same = content.same;
        equal = λ several. collecting.equal_collects (sizes_in spec) own.mind.collects own.mind.before (step_loaded spec fields own).snapshot (last_is (was more.0) last more.1);
        ended = λ several. (own.mind.collects, more.2, content.ends);
      }

-- ---- what a line makes of a proposal that is being stored

module _ (spec : RoomSpec) (fields : Fields) (own : Own) where
  word_stored : (view : StepMap) (a p : ℕ) → ((a' p' : ℕ) → a' < spec.simulators → p' < processes spec → word_of (sizes_in spec) a' p' < own.mind.word → view a' p' ≡ own.mind.snapshot a' p') → a < spec.simulators → p < processes spec → word_of (sizes_in spec) a p < own.mind.word + 1 → with_shown spec view own.mind a p ≡ own.mind.snapshot a p
  word_stored view a p was below below' less = dite (ℕ_discrete (word_of (sizes_in spec) a p) own.mind.word)
      (λ (e : word_of (sizes_in spec) a p ≡ own.mind.word). collecting.with_here (sizes_in spec) own.mind.word own.mind.snapshot view a p e)
      (λ (n : word_of (sizes_in spec) a p ≢ own.mind.word). collecting.with_else (sizes_in spec) own.mind.word own.mind.snapshot view a p n ∙ was a p below below' (omega arith))

  line_stores : (after : Own) → Effect spec fields own after → (own.mind.line ≡ Show → IsStored spec own) → after.mind.line ≡ Show → IsStored spec after
  line_stores after (stores j k value rest goal count process first last) was is = absurd cc
  line_stores after (proposes j value rest goal none unentered within kind) was is = absurd cc
  line_stores after (raises turn whole begun count) was is = absurd cc
  line_stores after (collects_word turn count none more) was is = absurd cc
  line_stores after (collects_again turn count none last several goes) was is = absurd cc
  line_stores after (scans collects turn count none last ends) was is = λ a p below below' less. absurd (omega arith)
  line_stores after (shows_word turn count none more) was is = λ a p below below' less.
      ap (λ (map : StepMap). map a p) (pair_here own.view (process_on own) (round_on own) (with_shown spec (own.view (process_on own) (round_on own)) own.mind))
      ∙ word_stored (own.view (process_on own) (round_on own)) a p (was turn.stands) below below' less
  line_stores after (shows turn count none last) was is = absurd cc
  line_stores after (enters turn count none) was is = absurd cc
  line_stores after (looks turn count one) was is = absurd cc
  line_stores after (leaves saw_two turn count one) was is = absurd cc
  line_stores after (asks_in_vain asking asks none) was is = absurd cc
  line_stores after (finds asking chosen asks some) was is = absurd (gets_not (current_round asking) chosen Show refl is)
  line_stores after (gets_input chosen turn count less) was is = absurd cc
  line_stores after (loads_word found turn less more) was is = absurd cc
  line_stores after (gathers reading reads more) was is = absurd cc
  line_stores after (goes_to reading given reads all action) was is = absurd cc
  line_stores after (will_decide reading decision reads all action) was is = absurd cc
  line_stores after (decides decision turn count) was is = absurd cc

module _ (spec : RoomSpec) (limits : IsWithinLimits spec) (schedule : List ScheduleEvent) (fields : Fields) (now i : ℕ) (within : AreWithin (sizes_in spec) fields.step) (here : steps_at spec schedule now ≡ fields.step)
    (grows : (s t : ℕ) → s ≤ t → t ≤ now + 1 → AreAtMost spec.simulators (processes spec) (steps_at spec schedule s) (steps_at spec schedule t)) (own : Own) (below : i < spec.simulators) (mine : own.step ≡ fields.step i) where
  line_ends : (after : Own) → Effect spec fields own after → (words_in spec ≢ 1 → own.mind.line ≡ Snap → Collects spec schedule now i own) → (own.mind.line ≡ Show → Scans spec schedule now i own) → after.mind.line ≡ Show → Scans spec schedule now i after
  line_ends after (stores j k value rest goal count process first last) was kept is = absurd cc
  line_ends after (proposes j value rest goal none unentered within kind) was kept is = absurd cc
  line_ends after (raises turn whole begun count) was kept is = absurd cc
  line_ends after (collects_word turn count none more) was kept is = absurd cc
  line_ends after (collects_again turn count none last several goes) was kept is = absurd cc
  line_ends after (scans collects turn count none last ends) was kept is = scan_content spec limits schedule fields now i within here grows own below mine count last (λ several. was several turn.stands) collects ends
  line_ends after (shows_word turn count none more) was kept is = kept turn.stands
  line_ends after (shows turn count none last) was kept is = absurd cc
  line_ends after (enters turn count none) was kept is = absurd cc
  line_ends after (looks turn count one) was kept is = absurd cc
  line_ends after (leaves saw_two turn count one) was kept is = absurd cc
  line_ends after (asks_in_vain asking asks none) was kept is = absurd cc
  line_ends after (finds asking chosen asks some) was kept is = absurd (gets_not (current_round asking) chosen Show refl is)
  line_ends after (gets_input chosen turn count less) was kept is = absurd cc
  line_ends after (loads_word found turn less more) was kept is = absurd cc
  line_ends after (gathers reading reads more) was kept is = absurd cc
  line_ends after (goes_to reading given reads all action) was kept is = absurd cc
  line_ends after (will_decide reading decision reads all action) was kept is = absurd cc
  line_ends after (decides decision turn count) was kept is = absurd cc

-- ---- what is kept

pub record IsHistory (spec : RoomSpec) (schedule : List ScheduleEvent) (fields : Fields) : Type 0 where
  pub leads : replay_fields spec (opening_fields spec) schedule ≡ fields
  pub grows : Grow spec schedule
  pub shown : (i p r : ℕ) → i < spec.simulators → 1 ≤ r → HasShown (progress_own (own_of fields i) p r) → IsMoment spec schedule i p r (fields.view i p r)
  pub scanned : (i p r : ℕ) → i < spec.simulators → 1 ≤ r → progress_own (own_of fields i) p r ≡ Scanned → IsMoment spec schedule i p r (fields.mind i).snapshot
  pub collecting : (i : ℕ) → i < spec.simulators → words_in spec ≢ 1 → (fields.mind i).line ≡ Snap → Collects spec schedule (length schedule) i (own_of fields i)
  pub stored : (i : ℕ) → i < spec.simulators → (fields.mind i).line ≡ Show → IsStored spec (own_of fields i)
  pub scans : (i : ℕ) → i < spec.simulators → (fields.mind i).line ≡ Show → Scans spec schedule (length schedule) i (own_of fields i)

-- one event more changes nothing of the moments before
ends_rest : (spec : RoomSpec) (schedule : List ScheduleEvent) (event : ScheduleEvent) (i j k collects time : ℕ) → time ≤ length schedule → EndsCollect spec schedule i j k collects time → EndsCollect spec (schedule ++ event ∷ []) i j k collects time
ends_rest spec schedule event i j k collects time early is =
    let before : is.last ≤ length schedule = let e = is.next in omega arith in
    let at = at_before spec schedule event time early in
    let at' = at_before spec schedule event is.last before in
    record {
      counted = ap (λ (f : Fields). f.step i j) at ∙ is.counted;
      last = is.last;
      next = is.next;
      event = take-append-le time schedule (event ∷ []) early ∙ is.event ∙ ap (λ (l : List ScheduleEvent). l ++ steps i ∷ []) (sym (take-append-le is.last schedule (event ∷ []) before));
      stood = ap (λ (f : Fields). (f.mind i).line) at' ∙ is.stood;
      whole = ap (λ (f : Fields). (f.mind i).word + 1) at' ∙ is.whole;
      stands = ap (λ (f : Fields). (f.mind i).line) at ∙ is.stands;
      made = ap (λ (f : Fields). (f.mind i).collects) at ∙ is.made;
      process = ap (λ (f : Fields). (f.mind i).process) at ∙ is.process;
      round = ap (λ (f : Fields). current_round (f.mind i)) at ∙ is.round;
    }

scans_rest : (spec : RoomSpec) (schedule : List ScheduleEvent) (event : ScheduleEvent) (i : ℕ) (own : Own) → Scans spec schedule (length schedule) i own → Scans spec (schedule ++ event ∷ []) (length schedule) i own
scans_rest spec schedule event i own is = record {
  time = is.time;
  early = is.early;
  counted = ap (λ (f : Fields). f.step i (process_on own)) (at_before spec schedule event is.time is.early) ∙ is.counted;
  same = λ a p less less'. is.same a p less less' ∙ ap (λ (f : Fields). f.step a p) (sym (at_before spec schedule event is.time is.early));
  equal = is.equal;
  ended = λ several. let end = is.ended several in (end.0, end.1, ends_rest spec schedule event i (process_on own) (round_on own) end.0 is.time is.early end.2);
}

scans_more : (spec : RoomSpec) (schedule : List ScheduleEvent) (event : ScheduleEvent) (i : ℕ) (own : Own) → Scans spec (schedule ++ event ∷ []) (length schedule) i own → Scans spec (schedule ++ event ∷ []) (length (schedule ++ event ∷ [])) i own
scans_more spec schedule event i own is = record { time = is.time; early = let long = length-snoc schedule event in let e = is.early in omega (arith, long, e); counted = is.counted; same = is.same; equal = is.equal; ended = is.ended }

collects_rest : (spec : RoomSpec) (schedule : List ScheduleEvent) (event : ScheduleEvent) (i : ℕ) (own : Own) → Collects spec schedule (length schedule) i own → Collects spec (schedule ++ event ∷ []) (length schedule) i own
collects_rest spec schedule event i own is =
    collecting.rests (sizes_in spec) (EndsCollect spec schedule i (process_on own) (round_on own) own.mind.collects) (EndsCollect spec (schedule ++ event ∷ []) i (process_on own) (round_on own) own.mind.collects) (steps_at spec schedule) (steps_at spec (schedule ++ event ∷ [])) (length schedule) own.mind.before own.mind.snapshot own.mind.word own.mind.collects
    (λ t early a p below below'. ap (λ (f : Fields). f.step a p) (sym (at_before spec schedule event t early)))
    (λ t early ends. ends_rest spec schedule event i (process_on own) (round_on own) own.mind.collects t early ends) is

collects_wait : (spec : RoomSpec) (schedule : List ScheduleEvent) (event : ScheduleEvent) (i : ℕ) (own : Own) → Grow spec (schedule ++ event ∷ []) → Collects spec schedule (length schedule) i own → Collects spec (schedule ++ event ∷ []) (length (schedule ++ event ∷ [])) i own
collects_wait spec schedule event i own grows is =
    subst (λ (now : ℕ). Collects spec (schedule ++ event ∷ []) now i own) (sym (length-snoc schedule event))
    (collecting.waits (sizes_in spec) (EndsCollect spec (schedule ++ event ∷ []) i (process_on own) (round_on own) own.mind.collects) (steps_at spec (schedule ++ event ∷ [])) (length schedule) own.mind.before own.mind.snapshot own.mind.word own.mind.collects
    (λ s t before within. grows s t before (let long = length-snoc schedule event in omega (arith, within, long))) (collects_rest spec schedule event i own is))

module _ (spec : RoomSpec) (limits : IsWithinLimits spec) (done : List ScheduleEvent) (event : ScheduleEvent) (fields after : Fields) (i : ℕ) (tracks : KeepsTrack spec fields) (leads' : replay_fields spec (opening_fields spec) (done ++ event ∷ []) ≡ after) (effect : IsLineOf spec fields after i) (history : IsHistory spec done fields) where
  abbrev Now : List ScheduleEvent
  Now = done ++ event ∷ []

  steps_most : AreAtMost spec.simulators (processes spec) fields.step after.step
  steps_most a p below below' = dite (ℕ_discrete a i)
      (λ (e : a ≡ i). subst (λ (b : ℕ). fields.step b p ≤ after.step b p) (sym e) (own_grows spec fields (own_of fields i) (own_of after i) p effect.own))
      (λ (n : a ≢ i). let same : after.step a p ≡ fields.step a p = ap (λ (own : Own). own.step p) (effect.others a n) in omega (arith, same))

  grows_now : Grow spec (done ++ event ∷ [])
  grows_now = grow_more spec done event fields after history.leads leads' steps_most history.grows

  grows_to : (s t : ℕ) → s ≤ t → t ≤ length done + 1 → AreAtMost spec.simulators (processes spec) (steps_at spec (done ++ event ∷ []) s) (steps_at spec (done ++ event ∷ []) t)
  grows_to s t before within = grows_now s t before (let long = length-snoc done event in omega (arith, within, long))

  here : steps_at spec (done ++ event ∷ []) (length done) ≡ fields.step
  here = ap (λ (f : Fields). f.step) (at_before spec done event (length done) (omega arith) ∙ at_end spec done (length done) (omega arith) ∙ history.leads)

  there : steps_at spec (done ++ event ∷ []) (length done + 1) ≡ after.step
  there = ap (λ (f : Fields). f.step) (at_end spec (done ++ event ∷ []) (length done + 1) (let long = length-snoc done event in omega (arith, long)) ∙ leads')

  in_range : AreWithin (sizes_in spec) fields.step
  in_range a p below below' = tracks.range.step a p

  was_collecting : words_in spec ≢ 1 → (fields.mind i).line ≡ Snap → Collects spec (done ++ event ∷ []) (length done) i (own_of fields i)
  was_collecting several is = collects_rest spec done event i (own_of fields i) (history.collecting i effect.below several is)

  -- a proposal whose last word was stored is the snapshot
  pub view_same : (p r : ℕ) → after.view i p r ≡ with_shown spec (fields.view i p r) (fields.mind i) → IsLastWord spec (own_of fields i) → p ≡ (fields.mind i).process → r ≡ current_round (fields.mind i) → (fields.mind i).line ≡ Show
      → AreSameSteps spec.simulators (processes spec) (after.view i p r) (fields.mind i).snapshot
  view_same p r is last e e' stands a q below below' =
      ap (λ (map : StepMap). map a q) is
      ∙ word_stored spec fields (own_of fields i) (fields.view i p r) a q
      (λ a' q' less less' early. ap (λ (j : ℕ). fields.view i j r a' q') e ∙ ap (λ (k : ℕ). fields.view i (fields.mind i).process k a' q') e' ∙ history.stored i effect.below stands a' q' less less' early) below below'
      (let w = word_below (sizes_in spec) a q limits.shape below below' in omega (arith, w, last))

  moment_as : (p r : ℕ) (map other : StepMap) → p < processes spec → AreSameSteps spec.simulators (processes spec) map other → IsMoment spec done i p r other → IsMoment spec done i p r map
  moment_as p r map other below same moment = record {
    time = moment.time;
    early = moment.early;
    same = λ a q less less'. same a q less less' ∙ moment.same a q less less';
    own = same i p effect.below below ∙ moment.own;
  }

  by_shown : (p r : ℕ) → 1 ≤ r
      → (HasShown (progress_own (own_of fields i) p r) × (after.view i p r ≡ fields.view i p r)) ⊎ ((progress_own (own_of fields i) p r ≡ Scanned) × (after.view i p r ≡ with_shown spec (fields.view i p r) (fields.mind i)) × IsLastWord spec (own_of fields i) × (p ≡ (fields.mind i).process) × (r ≡ current_round (fields.mind i)) × ((fields.mind i).line ≡ Show) × (p < processes spec))
      → IsMoment spec (done ++ event ∷ []) i p r (after.view i p r)
  by_shown p r first (inl kept) = subst (IsMoment spec (done ++ event ∷ []) i p r) (sym kept.1) (moment_more spec done event i p r (fields.view i p r) (history.shown i p r effect.below first kept.0))
  by_shown p r first (inr new) =
      moment_more spec done event i p r (after.view i p r) (moment_as p r (after.view i p r) (fields.mind i).snapshot new.6 (view_same p r new.1 new.2 new.3 new.4 new.5) (history.scanned i p r effect.below first new.0))

  by_scanned : (p r : ℕ) → 1 ≤ r
      → ((progress_own (own_of fields i) p r ≡ Scanned) × ((after.mind i).snapshot ≡ (fields.mind i).snapshot)) ⊎ (((after.mind i).snapshot ≡ (step_loaded spec fields (own_of fields i)).snapshot) × (fields.step i p ≡ r) × (p ≡ (fields.mind i).process) × ((fields.mind i).line ≡ Snap) × IsLastWord spec (own_of fields i) × (p < processes spec) × (fields.step i (fields.mind i).process ≡ current_round (fields.mind i)) × ScanEnds spec fields (own_of fields i) (after.mind i).collects)
      → IsMoment spec (done ++ event ∷ []) i p r (after.mind i).snapshot
  by_scanned p r first (inl kept) = subst (IsMoment spec (done ++ event ∷ []) i p r) (sym kept.1) (moment_more spec done event i p r (fields.mind i).snapshot (history.scanned i p r effect.below first kept.0))
  by_scanned p r first (inr new) =
      let content = scan_content spec limits (done ++ event ∷ []) fields (length done) i in_range here grows_to (own_of fields i) effect.below refl new.6 new.4 (λ several. was_collecting several new.3) (after.mind i).collects new.7 in
      let mine : (step_loaded spec fields (own_of fields i)).snapshot i p ≡ r =
      content.same i p effect.below new.5 ∙ ap (λ (q : ℕ). steps_at spec (done ++ event ∷ []) content.time i q) new.2 ∙ content.counted ∙ sym new.6 ∙ ap (λ (q : ℕ). fields.step i q) (sym new.2) ∙ new.1 in
      subst (IsMoment spec (done ++ event ∷ []) i p r) (sym new.0)
      (record {
        time = content.time;
        early = let long = length-snoc done event in let e = content.early in omega (arith, long, e);
        same = content.same;
        own = mine;
      })

  -- a collect ends now
  ends_now : event ≡ steps i → (fields.mind i).line ≡ Snap → IsLastWord spec (own_of fields i) → (after.mind i).line ≡ Snap → after.step i (after.mind i).process ≡ current_round (after.mind i)
      → EndsCollect spec (done ++ event ∷ []) i (after.mind i).process (current_round (after.mind i)) (after.mind i).collects (length done + 1)
  ends_now is stood whole stands count =
      let long = length-snoc done event in
      let at = at_end spec (done ++ event ∷ []) (length done + 1) (omega (arith, long)) ∙ leads' in
      let at' = at_before spec done event (length done) (omega arith) ∙ at_end spec done (length done) (omega arith) ∙ history.leads in
      record {
        counted = ap (λ (f : Fields). f.step i (after.mind i).process) at ∙ count;
        last = length done;
        next = refl;
        event = take_all (length done + 1) (done ++ event ∷ []) (omega (arith, long)) ∙ ap (λ (e : ScheduleEvent). done ++ e ∷ []) is
            ∙ ap (λ (l : List ScheduleEvent). l ++ steps i ∷ []) (sym (take-append-le (length done) done (event ∷ []) (omega arith) ∙ take_all (length done) done (omega arith)));
        stood = ap (λ (f : Fields). (f.mind i).line) at' ∙ stood;
        whole = ap (λ (f : Fields). (f.mind i).word + 1) at' ∙ whole;
        stands = ap (λ (f : Fields). (f.mind i).line) at ∙ stands;
        made = ap (λ (f : Fields). (f.mind i).collects) at;
        process = ap (λ (f : Fields). (f.mind i).process) at;
        round = ap (λ (f : Fields). current_round (f.mind i)) at;
      }

  history_line : event ≡ steps i → IsHistory spec (done ++ event ∷ []) after
  history_line taken = record {
    leads = leads';
    grows = grows_now;
    shown = λ a p r below first shown. dite (ℕ_discrete a i)
        (λ (e : a ≡ i).
        subst (λ (b : ℕ). IsMoment spec (done ++ event ∷ []) b p r (after.view b p r)) (sym e)
        (by_shown p r first (own_shown spec fields (own_of fields i) p r (own_of after i) effect.own (subst (λ (b : ℕ). HasShown (progress_own (own_of after b) p r)) e shown))))
        (λ (n : a ≢ i).
        let same = effect.others a n in
        subst (IsMoment spec (done ++ event ∷ []) a p r) (sym (ap (λ (own : Own). own.view p r) same))
        (moment_more spec done event a p r (fields.view a p r) (history.shown a p r below first (subst (λ (own : Own). HasShown (progress_own own p r)) same shown))));
    scanned = λ a p r below first is. dite (ℕ_discrete a i)
        (λ (e : a ≡ i).
        let is' = ap (λ (b : ℕ). progress_own (own_of after b) p r) (sym e) ∙ is in
        subst (λ (b : ℕ). IsMoment spec (done ++ event ∷ []) b p r (after.mind b).snapshot) (sym e)
        (by_scanned p r first (own_scanned spec fields (own_of fields i) p r (own_of after i) effect.own is')))
        (λ (n : a ≢ i).
        let same = effect.others a n in
        subst (IsMoment spec (done ++ event ∷ []) a p r) (sym (ap (λ (own : Own). own.mind.snapshot) same))
        (moment_more spec done event a p r (fields.mind a).snapshot (history.scanned a p r below first (ap (λ (own : Own). progress_own own p r) (sym same) ∙ is))));
    collecting = λ a below several is. dite (ℕ_discrete a i)
        (λ (e : a ≡ i).
        subst (λ (b : ℕ). Collects spec (done ++ event ∷ []) (length (done ++ event ∷ [])) b (own_of after b)) (sym e)
        (subst (λ (now : ℕ). Collects spec (done ++ event ∷ []) now i (own_of after i)) (sym (length-snoc done event))
        (line_collects spec limits (done ++ event ∷ []) fields (length done) i in_range here grows_to (own_of fields i) effect.below (own_of after i) effect.own was_collecting (ends_now taken) several (ap (λ (b : ℕ). (after.mind b).line) (sym e) ∙ is))))
        (λ (n : a ≢ i).
        let same = effect.others a n in
        subst (λ (own : Own). Collects spec (done ++ event ∷ []) (length (done ++ event ∷ [])) a own) (sym same)
        (collects_wait spec done event a (own_of fields a) grows_now (history.collecting a below several (ap (λ (own : Own). own.mind.line) (sym same) ∙ is))));
    stored = λ a below is. dite (ℕ_discrete a i)
        (λ (e : a ≡ i).
        subst (λ (b : ℕ). IsStored spec (own_of after b)) (sym e) (line_stores spec fields (own_of fields i) (own_of after i) effect.own (history.stored i effect.below) (ap (λ (b : ℕ). (after.mind b).line) (sym e) ∙ is)))
        (λ (n : a ≢ i). let same = effect.others a n in subst (λ (own : Own). IsStored spec own) (sym same) (history.stored a below (ap (λ (own : Own). own.mind.line) (sym same) ∙ is)));
    scans = λ a below is. dite (ℕ_discrete a i)
        (λ (e : a ≡ i).
        subst (λ (b : ℕ). Scans spec (done ++ event ∷ []) (length (done ++ event ∷ [])) b (own_of after b)) (sym e)
        (scans_more spec done event i (own_of after i)
        (line_ends spec limits (done ++ event ∷ []) fields (length done) i in_range here grows_to (own_of fields i) effect.below refl (own_of after i) effect.own was_collecting (λ stands. scans_rest spec done event i (own_of fields i) (history.scans i effect.below stands)) (ap (λ (b : ℕ). (after.mind b).line) (sym e) ∙ is))))
        (λ (n : a ≢ i).
        let same = effect.others a n in
        subst (λ (own : Own). Scans spec (done ++ event ∷ []) (length (done ++ event ∷ [])) a own) (sym same)
        (scans_more spec done event a (own_of fields a) (scans_rest spec done event a (own_of fields a) (history.scans a below (ap (λ (own : Own). own.mind.line) (sym same) ∙ is)))));
  }

history_crash : (spec : RoomSpec) (done : List ScheduleEvent) (fields : Fields) (i : ℕ) → IsHistory spec done fields → IsHistory spec (done ++ crashes i ∷ []) (with_crash fields i)
history_crash spec done fields i history =
    let leads' : replay_fields spec (opening_fields spec) (done ++ crashes i ∷ []) ≡ with_crash fields i = replay_fields-snoc spec (opening_fields spec) done (crashes i) ∙ ap (λ (f : Fields). with_crash f i) history.leads in
    record {
      leads = leads';
      grows = grow_more spec done (crashes i) fields (with_crash fields i) history.leads leads' (λ a p below below'. omega arith) history.grows;
      shown = λ a p r below first shown. moment_more spec done (crashes i) a p r (fields.view a p r) (history.shown a p r below first shown);
      scanned = λ a p r below first is. moment_more spec done (crashes i) a p r (fields.mind a).snapshot (history.scanned a p r below first is);
      collecting = λ a below several is.
          collects_wait spec done (crashes i) a (own_of fields a) (grow_more spec done (crashes i) fields (with_crash fields i) history.leads leads' (λ b p below' below''. omega arith) history.grows) (history.collecting a below several is);
      stored = history.stored;
      scans = λ a below is. scans_more spec done (crashes i) a (own_of fields a) (scans_rest spec done (crashes i) a (own_of fields a) (history.scans a below is));
    }

pub history_kept : (room : Configuration) (fields : Fields) (done : List ScheduleEvent) (event : ScheduleEvent) → IsShaped room → MayHappen room event → StandsFor room fields → IsHistory room.spec done fields → IsHistory room.spec (done ++ event ∷ []) (fields_after room.spec fields event)
history_kept room fields done (steps i) shape may for history =
    let leads' = replay_fields-snoc room.spec (opening_fields room.spec) done (steps i) ∙ ap (λ (f : Fields). line room.spec f i) history.leads in
    history_line room.spec shape.limits done (steps i) fields (line room.spec fields i) i for.tracks leads' (line_effect room fields i shape for may) history refl
history_kept room fields done (crashes i) shape may for history = history_crash room.spec done fields i history

pub opening_history : (spec : RoomSpec) → IsHistory spec [] (opening_fields spec)
opening_history spec = record {
  leads = refl;
  grows = λ s t before within a p below below'.
      let same : s ≡ t = omega arith in
      let e : (fields_at spec [] s).step a p ≡ (fields_at spec [] t).step a p = ap (λ (time : ℕ). (fields_at spec [] time).step a p) same in
      omega (arith, e);
  shown = λ i p r below first shown. absurd (subst HasShown (later 0 r _ Past (omega arith)) shown);
  scanned = λ i p r below first is. absurd (not_uncounted (sym (later 0 r _ Past (omega arith)) ∙ is));
  collecting = λ i below several is. absurd (no_snap is);
  stored = λ i below is. absurd (no_show is);
  scans = λ i below is. absurd (no_show is);
}
  where
    no_snap : ◌≡◌ {A = Line} Rest Snap → ⊥
    no_snap e = cc

    no_show : ◌≡◌ {A = Line} Rest Show → ⊥
    no_show e = cc

    not_uncounted : ◌≡◌ {A = Progress} Uncounted Scanned → ⊥
    not_uncounted e = cc

pub history_run : (room : Configuration) → IsWithinLimits room.spec → (one : IsOneInterleaving room) → IsHistory room.spec one.schedule (replay_fields room.spec (opening_fields room.spec) one.schedule)
history_run room limits one = over_run IsHistory history_kept room limits one (opening_history room.spec)

-- ---- any two moments compare

same_most : (m n : ℕ) (one two : StepMap) → AreSameSteps m n one two → AreAtMost m n one two
same_most m n one two same a p below below' = let e = same a p below below' in omega (arith, e)

pub moments_compare : (spec : RoomSpec) (schedule : List ScheduleEvent) (i j k i' j' k' : ℕ) (one two : StepMap) → Grow spec schedule → IsMoment spec schedule i j k one → IsMoment spec schedule i' j' k' two
    → AreAtMost spec.simulators (processes spec) one two ⊎ AreAtMost spec.simulators (processes spec) two one
moments_compare spec schedule i j k i' j' k' one two grows first second = by_time (cases_lt first.time second.time)
  where
    by_time : (first.time < second.time) ⊎ (second.time ≤ first.time) → AreAtMost spec.simulators (processes spec) one two ⊎ AreAtMost spec.simulators (processes spec) two one
    by_time (inl less) = inl (λ a p below below'.
        let e = first.same a p below below' in
        let e' = second.same a p below below' in
        let g = grows first.time second.time (omega arith) second.early a p below below' in
        omega (arith, e, e', g))
    by_time (inr more) = inr (λ a p below below'.
        let e = first.same a p below below' in
        let e' = second.same a p below below' in
        let g = grows second.time first.time more first.early a p below below' in
        omega (arith, e, e', g))
