-- Schedules: they go on, and what every room that one leads to keeps.
use Rattle.std.proofs.Common.{◌≡◌, ◌≢◌, ℕ, suc, ◌+◌, ◌<◌, Bool, true, false, cond, eqb, eq-eqb, ne_eqb, List, [], ◌∷◌, ◌++◌, length, get_or, set, refl, sym, ap, ◌∙◌, subst, arith}
use Rattle.std.proofs.lemmas.List.{length-set, length-replicate, get_or-set_same, get_or-set_other}
use Rattle.std.proofs.lemmas.List.FromFn.{get_or-map-range_with_len, length-map-range_with_len}
use mathlib.Core.Logic.{dite}
use native.Mathlib.Decide.{ℕ_discrete}
use Rattle.room_spec.specs.Rooms.{RoomSpec, IsWithinLimits}
use Rattle.room_spec.specs.Sizes.{sizes_in}
use Rattle.view_table.specs.Places.{words_of}
use Rattle.simulator.specs.Minds.{MindState, opening_mind}
use Rattle.simulator.specs.Moves.{move_of, taken, answer_of}
use Rattle.simulator.specs.Ranges.{IsMind}
use Rattle.simulator.proofs.CallerLemmas.{kept, opens, keeps_number, steps_by_one}
use Rattle.room_core.specs.Lengths.{length_words_after}
use Rattle.room_core.specs.Rooms.{Configuration, ScheduleEvent, steps, crashes, opening, mind_at, stepped, crashed_by, IsAlive, HasLine, MayHappen, after_event, replay, IsLegal, IsOneInterleaving, IsShaped, IsRoom, times}

-- what simulator i's operation answers
abbrev pub answer_to : Configuration → ℕ → ℕ
answer_to room i = answer_of (move_of room.spec (mind_at room i)) room.words

-- ---- a longer list

pub replay-snoc : (room : Configuration) (schedule : List ScheduleEvent) (event : ScheduleEvent) → replay room (schedule ++ event ∷ []) ≡ after_event (replay room schedule) event
replay-snoc room [] event = refl
replay-snoc room (first ∷ schedule) event = replay-snoc (after_event room first) schedule event

pub legal-snoc : (room : Configuration) (schedule : List ScheduleEvent) (event : ScheduleEvent) → IsLegal room schedule → MayHappen (replay room schedule) event → IsLegal room (schedule ++ event ∷ [])
legal-snoc room [] event legal may = (may, tt)
legal-snoc room (first ∷ schedule) event legal may = (legal.0, legal-snoc (after_event room first) schedule event legal.1 may)

pub opens_run : (spec : RoomSpec) → IsOneInterleaving (opening spec)
opens_run spec = record { schedule = []; legal = tt; leads = refl }

-- One interleaving goes on by one atomic step, and by one crash.
pub under_line : (room : Configuration) (i : ℕ) → IsOneInterleaving room → HasLine room i → IsOneInterleaving (stepped room i)
under_line room i one may = record {
  schedule = one.schedule ++ steps i ∷ [];
  legal = legal-snoc (opening room.spec) one.schedule (steps i) one.legal (subst (λ (q : Configuration). HasLine q i) (sym one.leads) may);
  leads = replay-snoc (opening room.spec) one.schedule (steps i) ∙ ap (λ (q : Configuration). stepped q i) one.leads;
}

pub under_crash : (room : Configuration) (i : ℕ) → IsOneInterleaving room → IsAlive room i → IsOneInterleaving (crashed_by room i)
under_crash room i one may = record {
  schedule = one.schedule ++ crashes i ∷ [];
  legal = legal-snoc (opening room.spec) one.schedule (crashes i) one.legal (subst (λ (q : Configuration). IsAlive q i) (sym one.leads) may);
  leads = replay-snoc (opening room.spec) one.schedule (crashes i) ∙ ap (λ (q : Configuration). crashed_by q i) one.leads;
}

-- with that event at the end of the list
pub under_line_at_end : (room : Configuration) (i : ℕ) (one : IsOneInterleaving room) → HasLine room i → (after : IsOneInterleaving (stepped room i)) × (after.schedule ≡ one.schedule ++ steps i ∷ [])
unfolding under_line
under_line_at_end room i one may = (under_line room i one may, refl)

pub under_crash_at_end : (room : Configuration) (i : ℕ) (one : IsOneInterleaving room) → IsAlive room i → (after : IsOneInterleaving (crashed_by room i)) × (after.schedule ≡ one.schedule ++ crashes i ∷ [])
unfolding under_crash
under_crash_at_end room i one may = (under_crash room i one may, refl)

-- ---- shapes

pub opening_at : (spec : RoomSpec) (i : ℕ) → i < spec.simulators → mind_at (opening spec) i ≡ opening_mind spec i
opening_at spec i below = get_or-map-range_with_len (opening_mind spec) 0 spec.simulators i i (opening_mind spec i) (omega arith) (omega arith)

pub opening_shape : (spec : RoomSpec) → IsWithinLimits spec → IsShaped (opening spec)
opening_shape spec limits = record {
  limits = limits;
  words = length-replicate {A = ℕ} (words_of (sizes_in spec)) 0;
  minds = length-map-range_with_len (opening_mind spec) 0 spec.simulators;
  crashed = length-replicate spec.simulators false;
  each = λ i below. subst (IsMind spec) (sym (opening_at spec i below)) (opens spec i limits below);
  numbers = λ i below. ap (λ (mind : MindState). mind.number) (opening_at spec i below);
}

-- what holds of a mind that was put in at i, and of the others, holds of each
minds_set : (P : ℕ → MindState → Type 0) (m : ℕ) (spec : RoomSpec) (minds : List MindState) (i : ℕ) (mind : MindState) → i < length minds → P i mind
    → ((k : ℕ) → k < m → P k (get_or minds k (opening_mind spec k))) → (k : ℕ) → k < m → P k (get_or (set minds i mind) k (opening_mind spec k))
minds_set P m spec minds i mind below here else k h = dite (ℕ_discrete k i)
    (λ (e : k ≡ i). subst (λ (j : ℕ). P j (get_or (set minds i mind) j (opening_mind spec j))) (sym e) (subst (P i) (sym (get_or-set_same minds i mind (opening_mind spec i) below)) here))
    (λ (n : k ≢ i). subst (P k) (sym (get_or-set_other minds i k mind (opening_mind spec k) n)) (else k h))

pub shape_after : (room : Configuration) (event : ScheduleEvent) → MayHappen room event → IsShaped room → IsShaped (after_event room event)
shape_after room (steps i) may shape =
    let below : i < room.spec.simulators = may.alive.below in
    let place : i < length room.minds = let count = shape.minds in omega arith in
    let mind : MindState = (taken room.spec (mind_at room i) (answer_to room i)).mind in
    record {
      limits = shape.limits;
      words = length_words_after (move_of room.spec (mind_at room i)) room.words ∙ shape.words;
      minds = length-set room.minds i mind ∙ shape.minds;
      crashed = shape.crashed;
      each = minds_set (λ k mind. IsMind room.spec mind) room.spec.simulators room.spec room.minds i mind place (kept room.spec (mind_at room i) (answer_to room i) (shape.each i below) may.moving) shape.each;
      numbers = minds_set (λ k (mind : MindState). mind.number ≡ k) room.spec.simulators room.spec room.minds i mind place (keeps_number room.spec (mind_at room i) (answer_to room i) ∙ shape.numbers i below) shape.numbers;
    }
shape_after room (crashes i) may shape = record {
  limits = shape.limits;
  words = shape.words;
  minds = shape.minds;
  crashed = length-set room.crashed i true ∙ shape.crashed;
  each = shape.each;
  numbers = shape.numbers;
}

shape_replay : (room : Configuration) (schedule : List ScheduleEvent) → IsLegal room schedule → IsShaped room → IsShaped (replay room schedule)
shape_replay room [] legal shape = shape
shape_replay room (event ∷ schedule) legal shape = shape_replay (after_event room event) schedule legal.1 (shape_after room event legal.0 shape)

pub shapes : (room : Configuration) → IsWithinLimits room.spec → IsOneInterleaving room → IsShaped room
shapes room limits one = subst IsShaped one.leads (shape_replay (opening room.spec) one.schedule one.legal (opening_shape room.spec limits))

pub is_room : (room : Configuration) → IsWithinLimits room.spec → IsOneInterleaving room → IsRoom room
is_room room limits one = record { run = one; shape = shapes room limits one }

-- ---- each simulator stands in the list as often as its mind counts steps

pub counted_at : (room : Configuration) (event : ScheduleEvent) (i : ℕ) → MayHappen room event → IsShaped room → (mind_at (after_event room event) i).steps ≡ times i (event ∷ []) + (mind_at room i).steps
counted_at room (crashes j) i may shape = omega arith
counted_at room (steps j) i may shape =
    let place : j < length room.minds = let count = shape.minds in let h = may.alive.below in omega arith in
    let mind : MindState = (taken room.spec (mind_at room j) (answer_to room j)).mind in
    let one : mind.steps ≡ (mind_at room j).steps + 1 = steps_by_one room.spec (mind_at room j) (answer_to room j) in
    dite (ℕ_discrete i j)
    (λ (e : i ≡ j).
    let own : (get_or (set room.minds j mind) i (opening_mind room.spec i)).steps ≡ mind.steps = ap (λ (k : ℕ). (get_or (set room.minds j mind) k (opening_mind room.spec k)).steps) e ∙ ap (λ (one : MindState). one.steps) (get_or-set_same room.minds j mind (opening_mind room.spec j) place) in
    let before : (mind_at room i).steps ≡ (mind_at room j).steps = ap (λ (k : ℕ). (mind_at room k).steps) e in
    let counts : times i (steps j ∷ []) ≡ 1 = ap (λ (b : Bool). cond b 1 0) (eq-eqb j i (sym e)) in
    omega (arith, own, one, before, counts))
    (λ (n : i ≢ j).
    let own : (get_or (set room.minds j mind) i (opening_mind room.spec i)).steps ≡ (mind_at room i).steps = ap (λ (one : MindState). one.steps) (get_or-set_other room.minds j i mind (opening_mind room.spec i) n) in
    let counts : times i (steps j ∷ []) ≡ 0 = ap (λ (b : Bool). cond b 1 0) (ne_eqb j i (λ e. n (sym e))) in
    omega (arith, own, counts))

times_more : (i : ℕ) (event : ScheduleEvent) (schedule : List ScheduleEvent) → times i (event ∷ schedule) ≡ times i (event ∷ []) + times i schedule
times_more i (crashes j) schedule = omega arith
times_more i (steps j) schedule = by_test (eqb j i) (times i schedule)
  where
    by_test : (b : Bool) (n : ℕ) → cond b (suc n) n ≡ cond b 1 0 + n
    by_test true n = omega arith
    by_test false n = omega arith

counts_replay : (room : Configuration) (schedule : List ScheduleEvent) (i : ℕ) → IsLegal room schedule → IsShaped room → (mind_at (replay room schedule) i).steps ≡ times i schedule + (mind_at room i).steps
counts_replay room [] i legal shape = omega arith
counts_replay room (event ∷ schedule) i legal shape =
    let rest = counts_replay (after_event room event) schedule i legal.1 (shape_after room event legal.0 shape) in
    let here = counted_at room event i legal.0 shape in
    let more = times_more i event schedule in
    omega (arith, rest, here, more)

pub counts : (room : Configuration) → IsWithinLimits room.spec → (one : IsOneInterleaving room) (i : ℕ) → i < room.spec.simulators → (mind_at room i).steps ≡ times i one.schedule
counts room limits one i below =
    let all = counts_replay (opening room.spec) one.schedule i one.legal (opening_shape room.spec limits) in
    let end : (mind_at (replay (opening room.spec) one.schedule) i).steps ≡ (mind_at room i).steps = ap (λ (q : Configuration). (mind_at q i).steps) one.leads in
    let none : (mind_at (opening room.spec) i).steps ≡ 0 = ap (λ (mind : MindState). mind.steps) (opening_at room.spec i below) in
    omega (arith, all, end, none)
