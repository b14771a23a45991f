-- When a simulator read last, as a schedule goes on.
use Rattle.std.proofs.Common.{◌≡◌, ℕ, zero, suc, ◌+◌, ◌<◌, ◌≤◌, Bool, true, false, cond, eqb, List, [], ◌∷◌, ◌++◌, length, take, Option, Some, None, refl, sym, ap, ◌∙◌, arith}
use Rattle.std.specs.Prelude.{◌&&◌, ◌||◌, slice_get}
use Rattle.std.proofs.lemmas.Bool.{eqb-true, eq-eqb, and_parts}
use Rattle.std.proofs.lemmas.List.{take-append-le, take_all}
use Rattle.room_spec.specs.Rooms.{RoomSpec, processes}
use Rattle.sim_memory.specs.Steps.{AreSameSteps}
use Rattle.simulator.specs.declared.line.Line.{Line}
use Rattle.simulator.specs.declared.line.Line.TheVariants.{Rest, Raise, Snap, Show, Enter, Look, Leave, Ask, GetInput, GetView, Values, Out}
use Rattle.simulator.specs.Minds.{current_round}
use Rattle.simulator.specs.Turns.{words_in}
use Rattle.room_core.specs.Rooms.{ScheduleEvent, steps, crashes}
use Rattle.room_core.specs.Fields.{StepMap, Fields}
use Rattle.room_core.specs.Moments.{fields_at, steps_at, EndsCollect}
use Rattle.room_core.specs.Points.{is_snap, is_step_of, reads_in, reads_at, last_read, last_when}
use Rattle.room_core.proofs.moments.Moments.{at_before, length-snoc}

-- ---- lists

pub slice_get-append : {X : Type 0} (xs ys : List X) (i : ℕ) → i < length xs → slice_get (xs ++ ys) i ≡ slice_get xs i
slice_get-append [] ys i below = absurd (omega arith)
slice_get-append (x ∷ xs) ys zero below = refl
slice_get-append (x ∷ xs) ys (suc i) below = slice_get-append xs ys i (omega arith)

pub slice_get-push : {X : Type 0} (xs : List X) (y : X) → slice_get (xs ++ y ∷ []) (length xs) ≡ Some y
slice_get-push [] y = refl
slice_get-push (x ∷ xs) y = slice_get-push xs y

-- ---- what it is to read

pub snap_is : (line : Line) → is_snap line ≡ true → line ≡ Snap
snap_is Rest is = absurd cc
snap_is Raise is = absurd cc
snap_is Snap is = refl
snap_is Show is = absurd cc
snap_is Enter is = absurd cc
snap_is Look is = absurd cc
snap_is (Leave saw_two) is = absurd cc
snap_is Ask is = absurd cc
snap_is (GetInput chosen) is = absurd cc
snap_is (GetView chosen) is = absurd cc
snap_is Values is = absurd cc
snap_is (Out decision) is = absurd cc

step_is : (i : ℕ) (event : Option ScheduleEvent) → is_step_of i event ≡ true → event ≡ Some (steps i)
step_is i None is = absurd cc
step_is i (Some (steps a)) is = ap (λ (b : ℕ). Some (steps b)) (eqb-true a i is)
step_is i (Some (crashes a)) is = absurd cc

-- a simulator ends a collect by its step
pub record IsReadAt (spec : RoomSpec) (event : Option ScheduleEvent) (before after : Fields) (i j k : ℕ) : Type 0 where
  pub event_is : event ≡ Some (steps i)
  pub line : (before.mind i).line ≡ Snap
  pub process : (before.mind i).process ≡ j
  pub round : current_round (before.mind i) ≡ k
  pub whole : (before.mind i).word + 1 ≡ words_in spec
  pub goes_on : eqb (words_in spec) 1 || is_snap (after.mind i).line ≡ true

pub read_is : (spec : RoomSpec) (event : Option ScheduleEvent) (before after : Fields) (i j k : ℕ) → is_step_of i event && reads_in spec before after i j k ≡ true → IsReadAt spec event before after i j k
read_is spec event before after i j k is =
    let parts = and_parts (is_step_of i event) (reads_in spec before after i j k) is in
    let both = and_parts ((is_snap (before.mind i).line && eqb (before.mind i).process j) && (eqb (current_round (before.mind i)) k && eqb ((before.mind i).word + 1) (words_in spec))) (eqb (words_in spec) 1 || is_snap (after.mind i).line) parts.1 in
    let four = and_parts (is_snap (before.mind i).line && eqb (before.mind i).process j) (eqb (current_round (before.mind i)) k && eqb ((before.mind i).word + 1) (words_in spec)) both.0 in
    let one = and_parts (is_snap (before.mind i).line) (eqb (before.mind i).process j) four.0 in
    let two = and_parts (eqb (current_round (before.mind i)) k) (eqb ((before.mind i).word + 1) (words_in spec)) four.1 in
    record {
      event_is = step_is i event parts.0;
      line = snap_is (before.mind i).line one.0;
      process = eqb-true (before.mind i).process j one.1;
      round = eqb-true (current_round (before.mind i)) k two.0;
      whole = eqb-true ((before.mind i).word + 1) (words_in spec) two.1;
      goes_on = both.1;
    }

-- ---- one event more

pub reads_before : (spec : RoomSpec) (schedule : List ScheduleEvent) (event : ScheduleEvent) (time i j k : ℕ) → time < length schedule → reads_at spec (schedule ++ event ∷ []) time i j k ≡ reads_at spec schedule time i j k
reads_before spec schedule event time i j k early =
    ap (λ (e : Option ScheduleEvent). is_step_of i e && reads_in spec (fields_at spec (schedule ++ event ∷ []) time) (fields_at spec (schedule ++ event ∷ []) (time + 1)) i j k) (slice_get-append schedule (event ∷ []) time early)
    ∙ ap (λ (f : Fields). is_step_of i (slice_get schedule time) && reads_in spec f (fields_at spec (schedule ++ event ∷ []) (time + 1)) i j k) (at_before spec schedule event time (omega arith))
    ∙ ap (λ (f : Fields). is_step_of i (slice_get schedule time) && reads_in spec (fields_at spec schedule time) f i j k) (at_before spec schedule event (time + 1) (omega arith))

pub last_same : (test other : ℕ → Bool) (time : ℕ) → ((t : ℕ) → t < time → test t ≡ other t) → last_when test time ≡ last_when other time
last_same test other zero same = refl
last_same test other (suc time) same =
    ap (λ (b : Bool). cond b time (last_when test time)) (same time (omega arith))
    ∙ ap (λ (t : ℕ). cond (other time) time t) (last_same test other time (λ t early. same t (omega (arith, early))))

pub last_before : (spec : RoomSpec) (schedule : List ScheduleEvent) (event : ScheduleEvent) (i j k time : ℕ) → time ≤ length schedule → last_read spec (schedule ++ event ∷ []) i j k time ≡ last_read spec schedule i j k time
last_before spec schedule event i j k time early =
    last_same (λ t. reads_at spec (schedule ++ event ∷ []) t i j k) (λ t. reads_at spec schedule t i j k) time (λ t before. reads_before spec schedule event t i j k (omega (arith, before, early)))

-- this last event is the last by which it read, or isn't
pub last_now : (spec : RoomSpec) (schedule : List ScheduleEvent) (event : ScheduleEvent) (i j k : ℕ) (b : Bool) → reads_at spec (schedule ++ event ∷ []) (length schedule) i j k ≡ b
    → last_read spec (schedule ++ event ∷ []) i j k (length (schedule ++ event ∷ [])) ≡ cond b (length schedule) (last_read spec schedule i j k (length schedule))
last_now spec schedule event i j k b is =
    let long : length (schedule ++ event ∷ []) ≡ suc (length schedule) = length-snoc schedule event ∙ omega arith in
    ap (λ (t : ℕ). last_read spec (schedule ++ event ∷ []) i j k t) long
    ∙ ap (λ (c : Bool). cond c (length schedule) (last_read spec (schedule ++ event ∷ []) i j k (length schedule))) is
    ∙ ap (λ (t : ℕ). cond b (length schedule) t) (last_before spec schedule event i j k (length schedule) (omega arith))

-- ---- what was read

-- The map is the step numbers as they stood when simulator i read last for round k of process j.
pub record IsRead (spec : RoomSpec) (schedule : List ScheduleEvent) (i j k : ℕ) (map : StepMap) : Type 0 where
  pub early : last_read spec schedule i j k (length schedule) < length schedule
  pub reads : reads_at spec schedule (last_read spec schedule i j k (length schedule)) i j k ≡ true
  pub same : AreSameSteps spec.simulators (processes spec) map (steps_at spec schedule (last_read spec schedule i j k (length schedule) + 1))

-- by a last event that isn't another read it stays so
pub read_more : (spec : RoomSpec) (schedule : List ScheduleEvent) (event : ScheduleEvent) (i j k : ℕ) (map : StepMap) → reads_at spec (schedule ++ event ∷ []) (length schedule) i j k ≡ false → IsRead spec schedule i j k map → IsRead spec (schedule ++ event ∷ []) i j k map
read_more spec schedule event i j k map none is =
    let last = last_now spec schedule event i j k false none in
    let soon = is.early in
    let long = length-snoc schedule event in
    record {
      early = omega (arith, last, soon, long);
      reads = ap (λ (t : ℕ). reads_at spec (schedule ++ event ∷ []) t i j k) last ∙ reads_before spec schedule event (last_read spec schedule i j k (length schedule)) i j k soon ∙ is.reads;
      same = λ a p below below'.
          is.same a p below below'
          ∙ ap (λ (f : Fields). f.step a p) (sym (at_before spec schedule event (last_read spec schedule i j k (length schedule) + 1) (omega (arith, soon))))
          ∙ ap (λ (t : ℕ). steps_at spec (schedule ++ event ∷ []) (t + 1) a p) (sym last);
    }

both_true : (b c : Bool) → b ≡ true → c ≡ true → b && c ≡ true
both_true true c is is' = is'
both_true false c is is' = absurd cc

pub read_from : (spec : RoomSpec) (event : Option ScheduleEvent) (before after : Fields) (i j k : ℕ) → IsReadAt spec event before after i j k → is_step_of i event && reads_in spec before after i j k ≡ true
read_from spec event before after i j k is =
    both_true (is_step_of i event) (reads_in spec before after i j k) (ap (is_step_of i) is.event_is ∙ eq-eqb i i refl)
    (both_true ((is_snap (before.mind i).line && eqb (before.mind i).process j) && (eqb (current_round (before.mind i)) k && eqb ((before.mind i).word + 1) (words_in spec))) (eqb (words_in spec) 1 || is_snap (after.mind i).line)
    (both_true (is_snap (before.mind i).line && eqb (before.mind i).process j) (eqb (current_round (before.mind i)) k && eqb ((before.mind i).word + 1) (words_in spec))
    (both_true (is_snap (before.mind i).line) (eqb (before.mind i).process j) (ap is_snap is.line) (eq-eqb (before.mind i).process j is.process))
    (both_true (eqb (current_round (before.mind i)) k) (eqb ((before.mind i).word + 1) (words_in spec)) (eq-eqb (current_round (before.mind i)) k is.round) (eq-eqb ((before.mind i).word + 1) (words_in spec) is.whole)))
    is.goes_on)

-- ---- ends of collects

-- it was so before the last event as well
pub ends_back : (spec : RoomSpec) (schedule : List ScheduleEvent) (event : ScheduleEvent) (i j k collects time : ℕ) → time ≤ length schedule → EndsCollect spec (schedule ++ event ∷ []) i j k collects time → EndsCollect spec schedule i j k collects time
ends_back spec schedule event i j k collects time early is =
    let before : is.last ≤ length schedule = let e = is.next in omega arith in
    let at = at_before spec schedule event time early in
    let at' = at_before spec schedule event is.last before in
    record {
      counted = ap (λ (f : Fields). f.step i j) (sym at) ∙ is.counted;
      last = is.last;
      next = is.next;
      event = sym (take-append-le time schedule (event ∷ []) early) ∙ is.event ∙ ap (λ (l : List ScheduleEvent). l ++ steps i ∷ []) (take-append-le is.last schedule (event ∷ []) before);
      stood = ap (λ (f : Fields). (f.mind i).line) (sym at') ∙ is.stood;
      whole = ap (λ (f : Fields). (f.mind i).word + 1) (sym at') ∙ is.whole;
      stands = ap (λ (f : Fields). (f.mind i).line) (sym at) ∙ is.stands;
      made = ap (λ (f : Fields). (f.mind i).collects) (sym at) ∙ is.made;
      process = ap (λ (f : Fields). (f.mind i).process) (sym at) ∙ is.process;
      round = ap (λ (f : Fields). current_round (f.mind i)) (sym at) ∙ is.round;
    }

some_event : (x y : ScheduleEvent) → ◌≡◌ {A = Option ScheduleEvent} (Some x) (Some y) → x ≡ y
some_event x y is = cc

-- a collect that ends with the last event was ended by it
pub ends_by : (spec : RoomSpec) (schedule : List ScheduleEvent) (event : ScheduleEvent) (i j k collects time : ℕ) → time ≡ length schedule + 1 → EndsCollect spec (schedule ++ event ∷ []) i j k collects time → event ≡ steps i
ends_by spec schedule event i j k collects time late is =
    let all : List ScheduleEvent = schedule ++ event ∷ [] in
    let long = length-snoc schedule event in
    let last : is.last ≡ length schedule = let e = is.next in omega (arith, late, e) in
    let whole : schedule ++ event ∷ [] ≡ schedule ++ steps i ∷ [] =
    sym (take_all time (schedule ++ event ∷ []) (omega (arith, long, late))) ∙ is.event
    ∙ ap (λ (t : ℕ). take t (schedule ++ event ∷ []) ++ steps i ∷ []) last
    ∙ ap (λ (l : List ScheduleEvent). l ++ steps i ∷ []) (take-append-le (length schedule) schedule (event ∷ []) (omega arith) ∙ take_all (length schedule) schedule (omega arith)) in
    some_event event (steps i) (sym (slice_get-push schedule event) ∙ ap (λ (l : List ScheduleEvent). slice_get l (length schedule)) whole ∙ slice_get-push schedule (steps i))

-- This collect was the last one so far that ended so.
pub record IsLast (spec : RoomSpec) (schedule : List ScheduleEvent) (i j k time : ℕ) : Type 0 where
  pub last : last_read spec schedule i j k (length schedule) + 1 ≡ time
  pub reads : reads_at spec schedule (last_read spec schedule i j k (length schedule)) i j k ≡ true

pub last_more : (spec : RoomSpec) (schedule : List ScheduleEvent) (event : ScheduleEvent) (i j k time : ℕ) → time ≤ length schedule → reads_at spec (schedule ++ event ∷ []) (length schedule) i j k ≡ false → IsLast spec schedule i j k time → IsLast spec (schedule ++ event ∷ []) i j k time
last_more spec schedule event i j k time early none is =
    let same = last_now spec schedule event i j k false none in
    record {
      last = ap (λ (t : ℕ). t + 1) same ∙ is.last;
      reads = ap (λ (t : ℕ). reads_at spec (schedule ++ event ∷ []) t i j k) same ∙ reads_before spec schedule event (last_read spec schedule i j k (length schedule)) i j k (let l = is.last in omega (arith, l, early)) ∙ is.reads;
    }
