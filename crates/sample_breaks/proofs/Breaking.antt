-- Runs that break a task, counted.
use Rattle.std.proofs.Common.{◌≡◌, ◌∙◌, ℕ, suc, ◌+◌, ◌-◌, ◌≤◌, Bool, true, false, cond, List, [], ◌∷◌, ◌++◌, length, length-append, Option, Some, None, not, refl, sym, ap, ap₂, subst, arith, inl, inr}
use Rattle.std.specs.Prelude.{◌↔◌, ◌%◌, IfNone, IfSome, option_and_then, slice_get}
use Rattle.std.specs.List.{count_by, find}
use Rattle.std.proofs.lemmas.Bool.{cases_lt}
use Rattle.std.proofs.lemmas.List.{length_push}
use Rattle.std.proofs.lemmas.List.Sums.{count_by-le-length, sum_by-append, sum_by_push}
use Rattle.std.proofs.lemmas.Option.{slice_get_within}
use Rattle.transcript.proofs.CallerLemmas.{slice_get-append, slice_get-push}
use Rattle.protocol_lang.specs.Trees.{Tree}
use Rattle.room_spec.specs.Rooms.{RoomSpec}
use Rattle.transcript.specs.declared.event.Event.{Event}
use Rattle.decision_tasks.specs.Decisions.{decided_by}
use Rattle.decision_tasks.specs.Tasks.{IsFirstBroken, KeepsDecisions, is_allowed}
use Rattle.decision_tasks.specs.declared.history.Moment.{Moment}
use Rattle.room_sample.specs.Chances.{random_of}
use Rattle.room_sample.specs.Samples.{IsSettledFrom, number_at}
use Rattle.room_sample.specs.declared.sampling.Plan.{Plan}
use Rattle.room_sample.specs.declared.stretch.Stretch.{Stretch}
use Rattle.sample_breaks.specs.Breaks.{AreBreaks, AreBreaksOf, IsFoundOf, IsJudgedBy, Judged, added, either, first_of, found_in, is_broken, noted}
use Rattle.sample_breaks.specs.declared.breaks.Breaks.{Breaks}
use Rattle.sample_breaks.specs.declared.breaks.Broken.{Broken}

true_false : true ≡ false → ⊥
true_false e = absurd cc

-- ---- a history

-- what breaks a task doesn't keep it
pub breaks_it : (lines : List Tree) (spec : RoomSpec) (events : List Event) (moment : Moment) → IsFirstBroken lines spec events moment → KeepsDecisions lines spec events → ⊥
breaks_it lines spec events moment is keeps =
    let refused = is.refused.refused in
    let there : slice_get (decided_by spec events (moment.at + 1)) moment.process ≡ Some (Some moment.value) = subst (λ (d : List (Option ℕ)). slice_get d moment.process ≡ Some (Some moment.value)) is.decided refused.decided in
    let not_allowed : is_allowed lines spec.inputs (decided_by spec events (moment.at + 1)) moment.process moment.value ≡ false = subst (λ (d : List (Option ℕ)). is_allowed lines spec.inputs d moment.process moment.value ≡ false) is.decided refused.refused in
    true_false (sym (keeps (moment.at + 1) moment.process moment.value there) ∙ not_allowed)

pub is_kept : (K : Type 0) → K → ((true ≡ true) ↔ K)
is_kept K keeps = (λ same. keeps, λ kept. refl)

pub is_not : (K : Type 0) → (K → ⊥) → ((false ≡ true) ↔ K)
is_not K never = (λ same. absurd (true_false (sym same)), λ kept. absurd (never kept))

pub none_broken : (lines : List Tree) (spec of : RoomSpec) (events those : List Event) (found : Option Moment) → of ≡ spec → those ≡ events → found ≡ None → IfNone found (KeepsDecisions lines of those) → KeepsDecisions lines spec events
none_broken lines spec of events those None spec_is events_is none is = subst (λ (s : RoomSpec). KeepsDecisions lines s events) spec_is (subst (λ (e : List Event). KeepsDecisions lines of e) events_is is)
none_broken lines spec of events those (Some moment) spec_is events_is none is = absurd cc

pub some_broken : (lines : List Tree) (spec of : RoomSpec) (events those : List Event) (found : Option Moment) (moment : Moment) → of ≡ spec → those ≡ events → found ≡ Some moment → IfSome found (IsFirstBroken lines of those) → KeepsDecisions lines spec events → ⊥
some_broken lines spec of events those None moment spec_is events_is some is keeps = absurd cc
some_broken lines spec of events those (Some one) moment spec_is events_is some is keeps =
    breaks_it lines of those one is (subst (λ (s : RoomSpec). KeepsDecisions lines s those) (sym spec_is) (subst (λ (e : List Event). KeepsDecisions lines spec e) (sym events_is) keeps))

-- ---- what is found of runs

abbrev pair_of : Judged → Option (ℕ × List Stretch)
pair_of run = Some (run.number, run.schedule)

none_found : (run : Judged) → None ≡ found_in run → is_broken run ≡ false
none_found run is = by run.kept refl is
  where
    by : (kept : Bool) → run.kept ≡ kept → None ≡ cond kept None (pair_of run) → not run.kept ≡ false
    by true so is = ap not so
    by false so is = absurd cc

some_found : (run : Judged) (broken : Broken) → first_of (Some broken) ≡ found_in run → is_broken run ≡ true
some_found run broken is = by run.kept refl is
  where
    by : (kept : Bool) → run.kept ≡ kept → first_of (Some broken) ≡ cond kept None (pair_of run) → not run.kept ≡ true
    by true so is = absurd cc
    by false so is = ap not so

found_none : (run : Judged) → is_broken run ≡ true → None ≡ found_in run → ⊥
found_none run breaks none = true_false (sym breaks ∙ none_found run none)

same_run : (x y : Judged) → Some x ≡ Some y → x ≡ y
same_run x y h = cc

-- what is found breaks the task
find_true : (runs : List Judged) (one : Judged) → find is_broken runs ≡ Some one → is_broken one ≡ true
find_true [] one is = absurd cc
find_true (first ∷ rest) one is = there (is_broken first) refl is (find_true rest one)
  where
    there : (b : Bool) → is_broken first ≡ b → cond b (Some first) (find is_broken rest) ≡ Some one → (find is_broken rest ≡ Some one → is_broken one ≡ true) → is_broken one ≡ true
    there true so is later = subst (λ (r : Judged). is_broken r ≡ true) (same_run first one is) so
    there false so is later = later is

-- ---- runs after others

count_both : (runs later : List Judged) → count_by is_broken (runs ++ later) ≡ count_by is_broken runs + count_by is_broken later
count_both runs later = sum_by-append (λ (r : Judged). cond (is_broken r) 1 0) runs later

abbrev or_found : Option Judged → Option Judged → Option Judged
or_found None other = other
or_found (Some run) other = Some run

find_both : (runs later : List Judged) → find is_broken (runs ++ later) ≡ or_found (find is_broken runs) (find is_broken later)
find_both [] later = refl
find_both (first ∷ runs) later = by (is_broken first) (find_both runs later)
  where
    by : (b : Bool) → find is_broken (runs ++ later) ≡ or_found (find is_broken runs) (find is_broken later) → cond b (Some first) (find is_broken (runs ++ later)) ≡ or_found (cond b (Some first) (find is_broken runs)) (find is_broken later)
    by true rest = refl
    by false rest = rest

first_both : (one other : Option Broken) (found later : Option Judged) → ((run : Judged) → found ≡ Some run → is_broken run ≡ true) → first_of one ≡ option_and_then found_in found → first_of other ≡ option_and_then found_in later
    → first_of (either one other) ≡ option_and_then found_in (or_found found later)
first_both None other None later breaks is is' = is'
first_both None other (Some run) later breaks is is' = absurd (found_none run (breaks run refl) is)
first_both (Some one) other None later breaks is is' = absurd cc
first_both (Some one) other (Some run) later breaks is is' = is

pub both : (runs later : List Judged) (breaks more : Breaks) → AreBreaksOf runs breaks → AreBreaksOf later more → AreBreaksOf (runs ++ later) (added breaks more)
both runs later breaks more are ares = (
  ap₂ (λ (a b : ℕ). a + b) are.0 ares.0 ∙ sym (count_both runs later),
  first_both breaks.first more.first (find is_broken runs) (find is_broken later) (find_true runs) are.1 ares.1 ∙ sym (ap (option_and_then found_in) (find_both runs later)),
)

-- ---- one run more

one_counted : (run : Judged) (b : Bool) → is_broken run ≡ b → cond b 1 0 ≡ count_by is_broken (run ∷ [])
one_counted run b is = omega (arith, sum_by_push (λ (r : Judged). cond (is_broken r) 1 0) [] run, count_by-le-length is_broken [], ap {B = ℕ} (λ (c : Bool). cond c 1 0) is)

one_breaks : (run : Judged) (broken : Broken) → IsFoundOf run (Some broken) → AreBreaksOf (run ∷ []) (record { times = 1; first = Some broken })
one_breaks run broken is =
    let so = some_found run broken is in
    (one_counted run true so, is ∙ sym (ap (λ (b : Bool). option_and_then found_in (cond b (Some run) None)) so))

one_keeps : (run : Judged) → IsFoundOf run None → AreBreaksOf (run ∷ []) (record { times = 0; first = None })
one_keeps run is =
    let so = none_found run is in
    (one_counted run false so, sym (ap (λ (b : Bool). option_and_then found_in (cond b (Some run) None)) so))

either_none : (one : Option Broken) → either one None ≡ one
either_none None = refl
either_none (Some broken) = refl

none_more : (breaks : Breaks) → added breaks (record { times = 0; first = None }) ≡ breaks
none_more breaks =
    let times : breaks.times + 0 ≡ breaks.times = omega arith in
    λ i. record { times = times i; first = either_none breaks.first i }

-- what is found of a run is noted
pub noted_more : (runs : List Judged) (run : Judged) (breaks : Breaks) (found : Option Broken) → IsFoundOf run found → AreBreaksOf runs breaks → AreBreaksOf (runs ++ run ∷ []) (noted breaks found)
noted_more runs run breaks None is are = subst (AreBreaksOf (runs ++ run ∷ [])) (none_more breaks) (both runs (run ∷ []) breaks (record { times = 0; first = None }) are (one_keeps run is))
noted_more runs run breaks (Some broken) is are = both runs (run ∷ []) breaks (record { times = 1; first = Some broken }) are (one_breaks run broken is)

pub one_more : (lines : List Tree) (spec : RoomSpec) (plan : Plan) (place : ℕ) (breaks : Breaks) (found : Option Broken) (run : Judged) → IsJudgedBy lines spec plan (number_at plan place) run → IsFoundOf run found
    → AreBreaks lines spec plan place breaks → AreBreaks lines spec plan (place + 1) (noted breaks found)
one_more lines spec plan place breaks found run is found_is are = record {
  runs = are.runs ++ run ∷ [];
  count = length_push are.runs run ∙ ap (λ (n : ℕ). n + 1) are.count;
  judged = λ k other there. elim (cases_lt k (length are.runs)) [
    | inl below ↦ are.judged k other (sym (slice_get-append are.runs (run ∷ []) k below) ∙ there)
    | inr past ↦
        let within = slice_get_within (are.runs ++ run ∷ []) k other there in
        let here : length are.runs ≡ k = omega (arith, past, within, length_push are.runs run) in
        let same : run ≡ other = same_run run other (sym (slice_get-push are.runs run) ∙ ap (slice_get (are.runs ++ run ∷ [])) here ∙ there) in
        let at : place ≡ k = sym are.count ∙ here in
        subst (IsJudgedBy lines spec plan (number_at plan k)) same (subst (λ (n : ℕ). IsJudgedBy lines spec plan (number_at plan n) run) at is)
  ];
  breaks_are = noted_more are.runs run breaks found found_is are.breaks_are;
}

pub none_yet : (lines : List Tree) (spec : RoomSpec) (plan : Plan) → AreBreaks lines spec plan 0 (record { times = 0; first = None })
none_yet lines spec plan = record {
  runs = [];
  count = refl;
  judged = λ k run there. absurd (nothing_there k run there);
  breaks_are = (refl, refl);
}
  where
    nothing_there : (k : ℕ) (run : Judged) → slice_get {X = Judged} [] k ≡ Some run → ⊥
    nothing_there k run there = absurd cc

-- no more break than there are
pub few_break : (lines : List Tree) (spec : RoomSpec) (plan : Plan) (place : ℕ) (breaks : Breaks) → AreBreaks lines spec plan place breaks → breaks.times ≤ place
few_break lines spec plan place breaks are = omega (arith, are.breaks_are.0, are.count, count_by-le-length is_broken are.runs)

-- ---- two plans

-- a place of the later plan is one of the first plan, past its schedules
later_number : (from schedules k : ℕ) → ((from + schedules) % 4294967296 + k) % 4294967296 ≡ (from + (schedules + k)) % 4294967296
later_number from schedules k = omega arith

nth_later : (runs later : List Judged) (k : ℕ) → slice_get (runs ++ later) (length runs + k) ≡ slice_get later k
nth_later [] later k =
    let same : length {A = Judged} [] + k ≡ k = omega arith in
    ap (slice_get later) same
nth_later (run ∷ runs) later k =
    let same : length (run ∷ runs) + k ≡ suc (length runs + k) = omega arith in
    ap (slice_get ((run ∷ runs) ++ later)) same ∙ nth_later runs later k

module _ (lines : List Tree) (spec : RoomSpec) (plan plan' : Plan) (schedules : ℕ) (seed : plan.seed ≡ plan'.seed) (from : plan'.from ≡ number_at plan schedules) (crashes : plan.crashes ≡ plan'.crashes) where
  later_judged : (k : ℕ) (run : Judged) → IsJudgedBy lines spec plan' (number_at plan' k) run → IsJudgedBy lines spec plan (number_at plan (schedules + k)) run
  later_judged k run is =
      let numbers : number_at plan' k ≡ number_at plan (schedules + k) = ap (λ (n : ℕ). (n + k) % 4294967296) from ∙ later_number plan.from schedules k in
      record {
        number_is = is.number_is ∙ numbers;
        room = is.room;
        settled =
            subst (λ (n : ℕ). IsSettledFrom spec n (random_of plan.seed (number_at plan (schedules + k))) run.schedule is.room) (sym crashes)
            (subst (λ (n : ℕ). IsSettledFrom spec plan'.crashes (random_of n (number_at plan (schedules + k))) run.schedule is.room) (sym seed)
            (subst (λ (n : ℕ). IsSettledFrom spec plan'.crashes (random_of plan'.seed n) run.schedule is.room) numbers is.settled));
        events = is.events;
        history = is.history;
        is_run = is.is_run;
        kept_is = is.kept_is;
      }

  pub breaks_add : (more : ℕ) (breaks later : Breaks) → AreBreaks lines spec plan schedules breaks → AreBreaks lines spec plan' more later → AreBreaks lines spec plan (schedules + more) (added breaks later)
  breaks_add more breaks later are ares = record {
    runs = are.runs ++ ares.runs;
    count = length-append are.runs ares.runs ∙ ap₂ (λ (a b : ℕ). a + b) are.count ares.count;
    judged = λ k run there. elim (cases_lt k (length are.runs)) [
      | inl below ↦ are.judged k run (sym (slice_get-append are.runs ares.runs k below) ∙ there)
      | inr past ↦
          let at : length are.runs + (k - length are.runs) ≡ k = omega (arith, past) in
          let here : slice_get ares.runs (k - length are.runs) ≡ Some run = sym (nth_later are.runs ares.runs (k - length are.runs)) ∙ ap (slice_get (are.runs ++ ares.runs)) at ∙ there in
          let place : schedules + (k - length are.runs) ≡ k = ap (λ (n : ℕ). n + (k - length are.runs)) (sym are.count) ∙ at in
          subst (λ (n : ℕ). IsJudgedBy lines spec plan (number_at plan n) run) place (later_judged (k - length are.runs) run (ares.judged (k - length are.runs) run here))
    ];
    breaks_are = both are.runs ares.runs breaks later are.breaks_are ares.breaks_are;
  }
