-- Rooms with their quiet counts, and without them.
use Rattle.std.proofs.Common.{◌≡◌, ◌≢◌, ℕ, zero, suc, ◌<◌, Bool, true, false, List, [], ◌∷◌, ◌++◌, length, get_or, set, map, take, drop, refl, sym, ap, ◌∙◌, subst, arith}
use mathlib.Core.Logic.{dite}
use native.Mathlib.Decide.{ℕ_discrete}
use Rattle.std.proofs.lemmas.List.FromFn.{get_or-map-range_with_len}
use Rattle.std.proofs.lemmas.List.{get_or-set_same, get_or-set_other, map-set, set-get_or, get_or_read_under, length-set, length-map}
use Rattle.std.specs.Prelude.{slice_set}
use Rattle.std.specs.List.{range_with_len, refill}
use Rattle.room_spec.specs.Rooms.{RoomSpec, IsWithinLimits}
use Rattle.simulator.specs.Minds.{MindState, goal_at, opening_mind}
use Rattle.simulator.specs.declared.operation.Move.{Move}
use Rattle.simulator.specs.Moves.{move_of, taken, words_after, answer_of, IsOperation}
use Rattle.simulator.specs.Quiet.{HasNoWrite, IsQuietCount}
use Rattle.simulator.specs.Ranges.{IsMind}
use Rattle.simulator.specs.Sweeps.{SweepState, opening_sweep}
use Rattle.simulator.specs.declared.sweep.Ready.TheVariants.{Step, Idle}
use Rattle.simulator.proofs.CallerLemmas.{counts_on, counts_anew, idle_waits, moves}
use Rattle.room_core.specs.Rooms.{Configuration, IsRoom, IsShaped, HasLine, mind_at, opening, stepped, crashed_by}
use Rattle.room_core.specs.Calls.{RoomState, IsCore, CountsQuietTurns, configuration_of, sweep_at, has_crashed, opening_state, ready_at, moved, taken_by, sweep_after, with_sweep, woken}
use Rattle.room_core.proofs.fields.Replays.{is_room, opens_run, under_line, under_crash}

abbrev mind_of : SweepState → MindState
mind_of sweep = sweep.mind

mind_in : (sweeps : List SweepState) (i : ℕ) (default : SweepState) → get_or (map mind_of sweeps) i (mind_of default) ≡ mind_of (get_or sweeps i default)
mind_in [] i default = refl
mind_in (sweep ∷ sweeps) zero default = refl
mind_in (sweep ∷ sweeps) (suc i) default = mind_in sweeps i default

pub mind_here : (room : RoomState) (i : ℕ) → mind_at (configuration_of room) i ≡ (sweep_at room i).mind
mind_here room i = mind_in room.sweeps i (opening_sweep room.spec i)

pub moved_data : (room : RoomState) (i : ℕ) → configuration_of (moved room i) ≡ stepped (configuration_of room) i
moved_data room i =
    let here = sym (mind_here room i) in
    let words = ap (λ (mind : MindState). words_after (move_of room.spec mind) room.words) here in
    let minds = map-set mind_of room.sweeps i (sweep_after (taken_by room i) (sweep_at room i).quiet)
    ∙ ap (λ (mind : MindState). set (map mind_of room.sweeps) i (taken room.spec mind (answer_of (move_of room.spec mind) room.words)).mind) here in
    λ k. record { spec = room.spec; words = words k; minds = minds k; crashed = room.crashed }

-- one that counts its quiet turns anew has the same in mind
pub woken_data : (room : RoomState) (i : ℕ) → configuration_of (with_sweep room i (woken (sweep_at room i))) ≡ configuration_of room
woken_data room i =
    let put = map-set mind_of room.sweeps i (woken (sweep_at room i)) in
    let same : set (map mind_of room.sweeps) i (sweep_at room i).mind ≡ map mind_of room.sweeps = ap (λ (mind : MindState). set (map mind_of room.sweeps) i mind) (sym (mind_here room i)) ∙ set-get_or (map mind_of room.sweeps) i (opening_mind room.spec i) in
    λ k. record { spec = room.spec; words = room.words; minds = (put ∙ same) k; crashed = room.crashed }

opening_minds : (spec : RoomSpec) (numbers : List ℕ) → map mind_of (map (opening_sweep spec) numbers) ≡ map (opening_mind spec) numbers
opening_minds spec [] = refl
opening_minds spec (i ∷ numbers) = ap (λ (minds : List MindState). opening_mind spec i ∷ minds) (opening_minds spec numbers)

pub opening_data : (spec : RoomSpec) → configuration_of (opening_state spec) ≡ opening spec
opening_data spec = λ k. record {
  spec = spec;
  words = (opening spec).words;
  minds = opening_minds spec (range_with_len 0 spec.simulators) k;
  crashed = (opening spec).crashed;
}

-- ---- what the code reads and leaves

refilled : {A : Type 0} (before after : List A) → length after ≡ length before → take (length before) (after ++ drop (length after) before) ≡ after
refilled [] [] same = refl
refilled [] (a ∷ after) same = absurd (omega arith)
refilled (b ∷ before) [] same = absurd (omega arith)
refilled {A = A} (b ∷ before) (a ∷ after) same = ap (λ (items : List A). a ∷ items) (refilled before after (omega arith))

-- what an `ArrayVec` holds after a write of one element
pub refill-set : {A : Type 0} (items : List A) (i : ℕ) (item : A) → refill (length items) items (slice_set items i item) ≡ slice_set items i item
refill-set items i item = refilled items (set items i item) (length-set items i item)

pub sweep_count : (room : RoomState) → IsShaped (configuration_of room) → length room.sweeps ≡ room.spec.simulators
sweep_count room shape = sym (length-map room.sweeps mind_of) ∙ shape.minds

-- a sweep that was read is the one there
pub read_sweep : (room : RoomState) (i : ℕ) (sweep : SweepState) → IsShaped (configuration_of room) → i < room.spec.simulators → sweep ≡ get_or room.sweeps i sweep → sweep ≡ sweep_at room i
read_sweep room i sweep shape below is =
    let count = sweep_count room shape in
    get_or_read_under room.sweeps i (length room.sweeps) sweep (opening_sweep room.spec i) is (omega arith) refl

pub mind_ok : (room : RoomState) (i : ℕ) → IsShaped (configuration_of room) → i < room.spec.simulators → IsMind room.spec (sweep_at room i).mind
mind_ok room i shape below = subst (IsMind room.spec) (mind_here room i) (shape.each i below)

pub crash_room : (room : RoomState) (marks : List Bool) (i : ℕ) → IsCore room → i < room.spec.simulators → has_crashed room i ≡ false → marks ≡ room.crashed
    → IsCore (record room { crashed = refill (length room.crashed) room.crashed (slice_set marks i true) })
crash_room room marks i is below alive same =
    let P : List Bool → Type 0 = λ l. IsRoom (configuration_of (record room { crashed = l })) in
    let one = under_crash (configuration_of room) i is.is_room.run (record { below = below; alive = alive }) in
    let left : slice_set room.crashed i true ≡ refill (length room.crashed) room.crashed (slice_set marks i true) = sym (refill-set room.crashed i true) ∙ ap (λ (l : List Bool). refill (length room.crashed) room.crashed (slice_set l i true)) (sym same) in
    record { is_room = subst P left (is_room (crashed_by (configuration_of room) i) is.is_room.shape.limits one); quiet = is.quiet }

pub woken_is : (room : RoomState) (i : ℕ) (read after : SweepState) → IsShaped (configuration_of room) → i < room.spec.simulators → read ≡ get_or room.sweeps i read
    → after ≡ woken read → with_sweep room i after ≡ with_sweep room i (woken (sweep_at room i))
woken_is room i read after shape below is left = ap (λ (sweep : SweepState). with_sweep room i sweep) (left ∙ ap woken (read_sweep room i read shape below is))

abbrev IsQuiet : SweepState → Type 0
IsQuiet sweep = IsQuietCount sweep.mind sweep.quiet

-- each quiet count is one of its mind, where a sweep of which it is was put in
quiet_put : (room : RoomState) (words : List ℕ) (i : ℕ) (sweep : SweepState) → IsShaped (configuration_of room) → i < room.spec.simulators → CountsQuietTurns room → IsQuiet sweep
    → CountsQuietTurns (record room { words = words; sweeps = slice_set room.sweeps i sweep })
quiet_put room words i sweep shape below counts is a less =
    let place : i < length room.sweeps = let count = sweep_count room shape in omega arith in
    dite (ℕ_discrete a i)
    (λ (e : a ≡ i). subst (λ (k : ℕ). IsQuiet (get_or (set room.sweeps i sweep) k (opening_sweep room.spec k))) (sym e) (subst IsQuiet (sym (get_or-set_same room.sweeps i sweep (opening_sweep room.spec i) place)) is))
    (λ (n : a ≢ i). subst IsQuiet (sym (get_or-set_other room.sweeps i a sweep (opening_sweep room.spec a) n)) (counts a less))

pub woken_room : (room : RoomState) (i : ℕ) → i < room.spec.simulators → IsCore room → IsCore (with_sweep room i (woken (sweep_at room i)))
woken_room room i below is = record {
  is_room = subst IsRoom (sym (woken_data room i)) is.is_room;
  quiet = quiet_put room room.words i (woken (sweep_at room i)) is.is_room.shape below is.quiet (counts_anew (sweep_at room i).mind);
}

pub has_line : (room : RoomState) (i : ℕ) → IsShaped (configuration_of room) → i < room.spec.simulators → has_crashed room i ≡ false → ready_at room i ≡ Step → HasLine (configuration_of room) i
has_line room i shape below alive ready = record {
  alive = record { below = below; alive = alive };
  moving = subst (λ (mind : MindState). IsOperation (move_of room.spec mind)) (sym (mind_here room i)) (moves room.spec (sweep_at room i).mind (sweep_at room i).quiet (mind_ok room i shape below) ready);
}

-- what the simulator's mind wants next
abbrev pub operation_at : RoomState → ℕ → Move
operation_at room i = move_of room.spec (sweep_at room i).mind

pub operates : (room : RoomState) (i : ℕ) → HasLine (configuration_of room) i → IsOperation (operation_at room i)
operates room i may = subst (λ (mind : MindState). IsOperation (move_of room.spec mind)) (mind_here room i) may.moving

pub moved_room : (room : RoomState) (i : ℕ) → IsCore room → HasLine (configuration_of room) i → IsCore (moved room i)
moved_room room i is may =
    let shape = is.is_room.shape in
    let below = may.alive.below in
    let mind = (sweep_at room i).mind in
    record {
      is_room = subst IsRoom (sym (moved_data room i)) (is_room (stepped (configuration_of room) i) shape.limits (under_line (configuration_of room) i is.is_room.run may));
      quiet = quiet_put room (words_after (operation_at room i) room.words) i (sweep_after (taken_by room i) (sweep_at room i).quiet) shape below is.quiet
          (counts_on room.spec mind (sweep_at room i).quiet (answer_of (operation_at room i) room.words) (mind_ok room i shape below) (is.quiet i below));
    }

-- whoever is told that it is idle has no write left to make
pub idle_room : (room : RoomState) (i process : ℕ) → i < room.spec.simulators → CountsQuietTurns room → ready_at room i ≡ Idle → HasNoWrite (goal_at (sweep_at (with_sweep room i (woken (sweep_at room i))) i).mind.goals process)
idle_room room i process below counts ready =
    let same : (sweep_at (with_sweep room i (woken (sweep_at room i))) i).mind ≡ (sweep_at room i).mind = sym (mind_here (with_sweep room i (woken (sweep_at room i))) i) ∙ ap (λ (q : Configuration). mind_at q i) (woken_data room i) ∙ mind_here room i in
    subst (λ (mind : MindState). HasNoWrite (goal_at mind.goals process)) (sym same) (idle_waits room.spec (sweep_at room i).mind (sweep_at room i).quiet process (counts i below) ready)

pub fresh_room : (spec : RoomSpec) (words : List ℕ) (sweeps : List SweepState) (crashed : List Bool) → IsWithinLimits spec
    → words ≡ (opening_state spec).words → sweeps ≡ (opening_state spec).sweeps → crashed ≡ (opening_state spec).crashed → IsCore (record { spec = spec; words = words; sweeps = sweeps; crashed = crashed })
fresh_room spec words sweeps crashed limits same_words same_sweeps same_crashed =
    let left : record { spec = spec; words = words; sweeps = sweeps; crashed = crashed } ≡ opening_state spec = λ k. record { spec = spec; words = same_words k; sweeps = same_sweeps k; crashed = same_crashed k } in
    subst IsCore (sym left)
    (record {
      is_room = subst IsRoom (sym (opening_data spec)) (is_room (opening spec) limits (opens_run spec));
      quiet = λ i below. subst IsQuiet (sym (get_or-map-range_with_len (opening_sweep spec) 0 spec.simulators i i (opening_sweep spec i) below (omega arith))) (counts_anew (opening_sweep spec i).mind);
    })
