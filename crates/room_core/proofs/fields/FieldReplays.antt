-- The words and minds of a replay stand for the fields of the same replay.
use Rattle.std.proofs.Common.{◌≡◌, ◌≢◌, ℕ, zero, suc, ◌<◌, Bool, true, false, cond, List, [], ◌∷◌, length, get_or, set, map, replicate, slice_index, refl, sym, ap, ◌∙◌, subst, arith}
use Rattle.std.proofs.lemmas.List.{get_or-set_same, get_or-set_other, get_or-replicate}
use Rattle.std.proofs.lemmas.List.FromFn.{get_or-map-range_with_len, length-map-range_with_len}
use Rattle.std.specs.List.{range_with_len}
use mathlib.Core.Logic.{dite}
use native.Mathlib.Decide.{ℕ_discrete}
use Rattle.room_spec.specs.Rooms.{RoomSpec, IsWithinLimits, is_reduction, processes}
use Rattle.room_spec.specs.Sizes.{Sizes, sizes_in}
use Rattle.level_cells.proofs.CallerLemmas.{of_zeros}
use Rattle.view_table.specs.declared.place.Place.{Place}
use Rattle.view_table.specs.declared.place.Place.TheVariants as places
use Rattle.view_table.proofs.CallerLemmas.{zeros}
use Rattle.sim_memory.specs.Steps.{AreWithin, memory_of, memory_word}
use Rattle.sim_memory.proofs.CallerLemmas.{memory_at, word_zero}
use Rattle.std.proofs.lemmas.Grind.{same_number_lists}
use Rattle.simulator.specs.Minds.{MindOf, MindState, goal_at, current_round, first_goal, first_goals, no_words, opening_mind, opening_mind_of}
use Rattle.simulator.specs.declared.goal.Goal.TheVariants as goals
use Rattle.simulator.specs.Turns.{TakenOf, counted}
use Rattle.simulator.specs.Moves.{IsOperation, move_of, taken, words_after, answer_of}
use Rattle.simulator.specs.Ranges.{IsMind}
use Rattle.room_core.specs.Rooms.{Configuration, ScheduleEvent, steps, crashes, opening, mind_at, crashed_at, stepped, crashed_by, HasLine, MayHappen, after_event, replay, IsLegal, IsOneInterleaving, IsShaped}
use Rattle.room_core.specs.Fields.{StepMap, Fields, changed, no_steps, opening_fields, with_taken, line, with_crash, fields_after, replay_fields}
use Rattle.room_core.specs.Reading.{worded, Reads}
use Rattle.room_core.specs.Tracks.{AtRest, Tells, ToldBy, KeepsTrack, StandsFor}
use Rattle.room_core.proofs.fields.Replays.{answer_to, shape_after, opening_shape}
use Rattle.room_core.proofs.fields.Maps.{changed_here, changed_else}
use Rattle.room_core.proofs.fields.Tracks.{beside, at_sweep, told_at_rest}
use Rattle.room_core.proofs.fields.Wording.{worded_taken}
use Rattle.room_core.proofs.fields.Holding.{word_for, Hold}
use Rattle.room_core.proofs.fields.Lines.{stored_on, taken_on, line_parts, StandsAt}
use Rattle.room_core.proofs.fields.LineMinds.{same_taken}
use Rattle.room_core.proofs.fields.LineWords.{held_line}
use Rattle.room_core.proofs.fields.LineTracks.{told_line}
use Rattle.room_core.proofs.fields.FieldLines.{IsStoreOf, is_store, in_range_line, snapshot_line}

-- ---- a room that stands for its fields

pub stand_by : (room : Configuration) (fields : Fields) → Hold (sizes_in room.spec) room.words fields → ((i : ℕ) → i < room.spec.simulators → mind_at room i ≡ worded (sizes_in room.spec) (fields.mind i))
    → ((i : ℕ) → i < room.spec.simulators → crashed_at room i ≡ fields.crashed i) → KeepsTrack room.spec fields → StandsFor room fields
stand_by room fields held minds crashed tracks = record {
  reads = record {
    words = record {
      step = record { within = λ i p _ _. tracks.range.step i p; same = λ w one. held (places.Memory w) one };
      level = λ j k process round. held (places.Levels j k) (process, round);
      levels = λ i j k _ _ _. tracks.range.level i j k;
      view = λ i j k simulator process round. record { within = tracks.range.view i j k; same = λ w one. held (places.View i j k w) (simulator, process, round, one) };
      value = λ i j k simulator process round. held (places.Value i j k) (simulator, process, round);
      out = λ i j simulator process. held (places.Out i j) (simulator, process);
    };
    minds = λ i below. record { before = tracks.before i; within = tracks.snapshot i; same = minds i below };
    crashed = crashed;
  };
  tracks = tracks;
}

pub held_of : (room : Configuration) (fields : Fields) → StandsFor room fields → Hold (sizes_in room.spec) room.words fields
held_of room fields for (places.Memory w) range = let step = for.reads.words.step in step.same w range
held_of room fields for (places.Levels j k) range = for.reads.words.level j k range.0 range.1
held_of room fields for (places.View i j k w) range = let view = for.reads.words.view i j k range.0 range.1 range.2 in view.same w range.3
held_of room fields for (places.Value i j k) range = for.reads.words.value i j k range.0 range.1 range.2
held_of room fields for (places.Out i j) range = for.reads.words.out i j range.0 range.1

pub mind_is : (room : Configuration) (fields : Fields) (i : ℕ) → StandsFor room fields → i < room.spec.simulators → mind_at room i ≡ worded (sizes_in room.spec) (fields.mind i)
mind_is room fields i for below = let mind = for.reads.minds i below in mind.same

-- ---- one line

pub stands_at : (room : Configuration) (fields : Fields) (i : ℕ) → IsShaped room → StandsFor room fields → HasLine room i → StandsAt (fields.mind i).line room.spec fields i (fields.mind i)
stands_at room fields i shape for may =
    let below = may.alive.below in
    let mind = fields.mind i in
    let same = mind_is room fields i for below in
    let is_mind : IsMind room.spec (worded (sizes_in room.spec) mind) = subst (IsMind room.spec) same (shape.each i below) in
    record {
      below = below;
      number = ap (λ (one : MindState). one.number) (sym same) ∙ shape.numbers i below;
      is_mind = is_mind;
      word = is_mind.word;
      collects = is_mind.collects;
      open_at = is_mind.at;
      round = is_mind.round;
      moves = subst (λ (one : MindState). IsOperation (move_of room.spec one)) same may.moving;
      others = beside room.spec.rounds mind (fields.step i) (fields.level i) (for.tracks.told i);
      own = at_sweep room.spec.rounds mind (fields.step i) (fields.level i) (for.tracks.told i);
      range = for.tracks.range;
      before = for.tracks.before i;
      snapshot = for.tracks.snapshot i;
    }

-- what a mind tells of its fields, where only those of i have changed
told_others : (rounds i : ℕ) (fields after : Fields) (mind : MindOf StepMap) → IsStoreOf i fields after → ToldBy rounds mind (after.step i) (after.level i) → ((a : ℕ) → ToldBy rounds (fields.mind a) (fields.step a) (fields.level a))
    → (a : ℕ) → ToldBy rounds (changed after.mind i mind a) (after.step a) (after.level a)
told_others rounds i fields after mind store own all a = dite (ℕ_discrete a i)
    (λ (e : a ≡ i). subst (λ (one : MindOf StepMap). ToldBy rounds one (after.step a) (after.level a)) (sym (changed_here after.mind i mind a e)) (subst (λ (b : ℕ). ToldBy rounds mind (after.step b) (after.level b)) (sym e) own))
    (λ (n : a ≢ i).
    let mind_is : changed after.mind i mind a ≡ fields.mind a = changed_else after.mind i mind a n ∙ ap (λ (minds : ℕ → MindOf StepMap). minds a) store.mind in
    subst (λ (one : MindOf StepMap). ToldBy rounds one (after.step a) (after.level a)) (sym mind_is)
    (subst (λ (row : ℕ → ℕ). ToldBy rounds (fields.mind a) row (after.level a)) (sym (store.step a n))
    (subst (λ (row : ℕ → ℕ → ℕ). ToldBy rounds (fields.mind a) (fields.step a) row) (sym (store.level a n)) (all a))))

each_mind : (P : MindOf StepMap → Type 0) (i : ℕ) (fields after : Fields) (mind : MindOf StepMap) → IsStoreOf i fields after → P mind → ((a : ℕ) → P (fields.mind a)) → (a : ℕ) → P (changed after.mind i mind a)
each_mind P i fields after mind store own all a = dite (ℕ_discrete a i)
    (λ (e : a ≡ i). subst P (sym (changed_here after.mind i mind a e)) own)
    (λ (n : a ≢ i). subst P (sym (changed_else after.mind i mind a n ∙ ap (λ (minds : ℕ → MindOf StepMap). minds a) store.mind)) (all a))

-- the fields after a line, as `line_parts` has them
abbrev pub fields_by : RoomSpec → Fields → ℕ → Fields
fields_by spec fields i = with_taken (stored_on (fields.mind i).line spec fields i (fields.mind i).process (current_round (fields.mind i)) (counted (fields.mind i))) i (taken_on (fields.mind i).line spec fields (fields.mind i).process (current_round (fields.mind i)) (counted (fields.mind i)))

tracks_line : (spec : RoomSpec) (fields : Fields) (i : ℕ) → StandsAt (fields.mind i).line spec fields i (fields.mind i) → KeepsTrack spec fields → KeepsTrack spec (fields_by spec fields i)
tracks_line spec fields i at tracks =
    let mind = fields.mind i in
    let after = stored_on mind.line spec fields i mind.process (current_round mind) (counted mind) in
    let new = (taken_on mind.line spec fields mind.process (current_round mind) (counted mind)).mind in
    let store = is_store mind.line spec fields i mind.process (current_round mind) (counted mind) in
    let range = in_range_line mind.line spec fields i mind at in
    let both = snapshot_line mind.line spec fields i mind at in
    record {
      told = told_others spec.rounds i fields after new store (told_line mind.line spec fields i mind at) tracks.told;
      range = record { step = range.step; level = range.level; view = range.view };
      before = each_mind (λ (one : MindOf StepMap). AreWithin (sizes_in spec) one.before) i fields after new store both.0 tracks.before;
      snapshot = each_mind (λ (one : MindOf StepMap). AreWithin (sizes_in spec) one.snapshot) i fields after new store both.1 tracks.snapshot;
    }

-- the turn of the mind that took its answer in is that of the line
pub taken_is : (room : Configuration) (fields : Fields) (i : ℕ) → IsShaped room → StandsFor room fields → HasLine room i
    → taken room.spec (mind_at room i) (answer_to room i) ≡ worded_taken (sizes_in room.spec) (taken_on (fields.mind i).line room.spec fields (fields.mind i).process (current_round (fields.mind i)) (counted (fields.mind i)))
taken_is room fields i shape for may =
    ap (λ (one : MindState). taken room.spec one (answer_of (move_of room.spec one) room.words)) (mind_is room fields i for may.alive.below)
    ∙ same_taken (fields.mind i).line room.spec fields i room.words (fields.mind i) (stands_at room fields i shape for may) (held_of room fields for)

parts_stand : (room : Configuration) (fields : Fields) (i : ℕ) → IsShaped room → HasLine room i → StandsFor room fields → StandsFor (stepped room i) (fields_by room.spec fields i)
parts_stand room fields i shape may for =
    let below = may.alive.below in
    let mind = fields.mind i in
    let at = stands_at room fields i shape for may in
    let after = stored_on mind.line room.spec fields i mind.process (current_round mind) (counted mind) in
    let store = is_store mind.line room.spec fields i mind.process (current_round mind) (counted mind) in
    let new = (taken_on mind.line room.spec fields mind.process (current_round mind) (counted mind)).mind in
    let own = (taken room.spec (mind_at room i) (answer_to room i)).mind in
    let place : i < length room.minds = let count = shape.minds in omega arith in
    stand_by (stepped room i) (fields_by room.spec fields i)
    (subst (λ (one : MindState). Hold (sizes_in room.spec) (words_after (move_of room.spec one) room.words) (fields_by room.spec fields i)) (sym (mind_is room fields i for below)) (held_line mind.line room.spec fields i room.words mind shape.words at (held_of room fields for)))
    (λ a less. dite (ℕ_discrete a i)
    (λ (e : a ≡ i).
    ap (λ (k : ℕ). get_or (set room.minds i own) k (opening_mind room.spec k)) e ∙ get_or-set_same room.minds i own (opening_mind room.spec i) place
    ∙ ap (λ (one : TakenOf (List ℕ)). one.mind) (taken_is room fields i shape for may) ∙ ap (worded (sizes_in room.spec)) (sym (changed_here after.mind i new a e)))
    (λ (n : a ≢ i).
    get_or-set_other room.minds i a own (opening_mind room.spec a) n ∙ mind_is room fields a for less
    ∙ ap (worded (sizes_in room.spec)) (sym (changed_else after.mind i new a n ∙ ap (λ (minds : ℕ → MindOf StepMap). minds a) store.mind))))
    (λ a less. for.reads.crashed a less ∙ sym (ap (λ (marks : ℕ → Bool). marks a) store.crashed))
    (tracks_line room.spec fields i at for.tracks)

-- a line is its two parts, where the simulator has one to take
pub line_is : (room : Configuration) (fields : Fields) (i : ℕ) → IsShaped room → StandsFor room fields → HasLine room i → line room.spec fields i ≡ fields_by room.spec fields i
line_is room fields i shape for may =
    let at = stands_at room fields i shape for may in
    line_parts (fields.mind i).line room.spec fields i (fields.mind i).process (current_round (fields.mind i)) (fields.mind i) at.moves

-- ---- one event, and a list of them

pub event_stands : (room : Configuration) (fields : Fields) (event : ScheduleEvent) → IsShaped room → MayHappen room event → StandsFor room fields → StandsFor (after_event room event) (fields_after room.spec fields event)
event_stands room fields (steps i) shape may for = subst (λ (after : Fields). StandsFor (stepped room i) after) (sym (line_is room fields i shape for may)) (parts_stand room fields i shape may for)
event_stands room fields (crashes i) shape may for =
    let place : i < length room.crashed = let count = shape.crashed in let below = may.below in omega arith in
    stand_by (crashed_by room i) (with_crash fields i) (held_of room fields for) (λ a less. mind_is room fields a for less)
    (λ a less. dite (ℕ_discrete a i)
    (λ (e : a ≡ i). ap (λ (k : ℕ). get_or (set room.crashed i true) k false) e ∙ get_or-set_same room.crashed i true false place ∙ sym (changed_here fields.crashed i true a e))
    (λ (n : a ≢ i). get_or-set_other room.crashed i a true false n ∙ for.reads.crashed a less ∙ sym (changed_else fields.crashed i true a n)))
    (record { told = for.tracks.told; range = record { step = for.tracks.range.step; level = for.tracks.range.level; view = for.tracks.range.view }; before = for.tracks.before; snapshot = for.tracks.snapshot })

replay_stands : (room : Configuration) (fields : Fields) (schedule : List ScheduleEvent) → IsShaped room → IsLegal room schedule → StandsFor room fields → StandsFor (replay room schedule) (replay_fields room.spec fields schedule)
replay_stands room fields [] shape legal for = for
replay_stands room fields (steps i ∷ schedule) shape legal for =
    replay_stands (stepped room i) (line room.spec fields i) schedule (shape_after room (steps i) legal.0 shape) legal.1 (event_stands room fields (steps i) shape legal.0 for)
replay_stands room fields (crashes i ∷ schedule) shape legal for =
    replay_stands (crashed_by room i) (with_crash fields i) schedule (shape_after room (crashes i) legal.0 shape) legal.1 (event_stands room fields (crashes i) shape legal.0 for)

-- ---- the opening

opening_words : (spec : RoomSpec) (place : Place) → word_for (sizes_in spec) (opening_fields spec) place ≡ 0
opening_words spec (places.Memory w) = word_zero (sizes_in spec) w
opening_words spec (places.Levels j k) = of_zeros (λ i. 0) 2 spec.simulators (λ i less. refl)
opening_words spec (places.View i j k w) = word_zero (sizes_in spec) w
opening_words spec (places.Value i j k) = refl
opening_words spec (places.Out i j) = refl

zero_words : (sizes : Sizes) → memory_of sizes no_steps ≡ no_words
zero_words sizes =
    let long : length (memory_of sizes no_steps) ≡ 4 = length-map-range_with_len (memory_word sizes no_steps) 0 4 in
    same_number_lists (memory_of sizes no_steps) no_words long (λ k less. memory_at sizes no_steps k (omega (arith, less, long)) ∙ word_zero sizes k ∙ sym (get_or-replicate 4 k 0 0 (omega (arith, less, long))))

opening_tells : (spec : RoomSpec) (numbers : List ℕ) (p : ℕ) → Tells spec.rounds (goal_at (map (first_goal spec) numbers) p) AtRest 0 (λ k. 0)
opening_tells spec [] p = record { counts = tt; levels = (λ k after. refl, λ k before one. absurd (omega (arith, one))) }
opening_tells spec (q ∷ numbers) zero = record { counts = refl; levels = (λ k after. refl, λ k before one. absurd (omega (arith, one))) }
opening_tells spec (q ∷ numbers) (suc p) = opening_tells spec numbers p

proposals_tell : (rounds value n p : ℕ) → Tells rounds (goal_at (replicate n (goals.Propose value)) p) AtRest 0 (λ k. 0)
proposals_tell rounds value zero p = record { counts = tt; levels = (λ k after. refl, λ k before one. absurd (omega (arith, one))) }
proposals_tell rounds value (suc n) zero = record { counts = refl; levels = (λ k after. refl, λ k before one. absurd (omega (arith, one))) }
proposals_tell rounds value (suc n) (suc p) = proposals_tell rounds value n p

opening_goals_tell : (spec : RoomSpec) (b : Bool) (value p : ℕ) → Tells spec.rounds (goal_at (cond b (replicate (processes spec) (goals.Propose value)) (first_goals spec)) p) AtRest 0 (λ k. 0)
opening_goals_tell spec true value p = proposals_tell spec.rounds value (processes spec) p
opening_goals_tell spec false value p = opening_tells spec (range_with_len 0 (processes spec)) p

pub opening_stands : (spec : RoomSpec) → StandsFor (opening spec) (opening_fields spec)
opening_stands spec =
    stand_by (opening spec) (opening_fields spec) (λ place range. zeros (sizes_in spec) place range ∙ sym (opening_words spec place))
    (λ i below.
    get_or-map-range_with_len (opening_mind spec) 0 spec.simulators i i (opening_mind spec i) below (omega arith)
    ∙ ap (λ (words : List ℕ). opening_mind_of words spec i) (sym (zero_words (sizes_in spec))))
    (λ i below. get_or-replicate spec.simulators i false false below)
    (record {
      told = λ i. told_at_rest spec.rounds (opening_mind_of no_steps spec i) (λ p. 0) (λ p k. 0) refl (λ p. opening_goals_tell spec (is_reduction spec) (slice_index spec.own i) p);
      range = record { step = λ i p. omega arith; level = λ i j k. omega arith; view = λ i j k a p _ _. omega arith };
      before = λ i a p _ _. omega arith;
      snapshot = λ i a p _ _. omega arith;
    })

-- ---- every room that is one interleaving

pub stands_for : (room : Configuration) → IsWithinLimits room.spec → (one : IsOneInterleaving room) → StandsFor room (replay_fields room.spec (opening_fields room.spec) one.schedule)
stands_for room limits one =
    subst (λ (q : Configuration). StandsFor q (replay_fields room.spec (opening_fields room.spec) one.schedule)) one.leads
    (replay_stands (opening room.spec) (opening_fields room.spec) one.schedule (opening_shape room.spec limits) one.legal (opening_stands room.spec))

-- Every such room stands for the fields to which its schedule leads.
pub reads : (room : Configuration) → IsWithinLimits room.spec → (one : IsOneInterleaving room) → Reads room (replay_fields room.spec (opening_fields room.spec) one.schedule)
reads room limits one = let for = stands_for room limits one in for.reads
