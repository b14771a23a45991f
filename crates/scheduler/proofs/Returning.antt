-- A simulator that has stopped comes back to its keeper.
use Rattle.std.proofs.Common.{◌≡◌, ◌≢◌, ℕ, zero, suc, ◌+◌, ◌<◌, ◌≤◌, Bool, true, false, cond, ◌&&◌, eqb, List, [], ◌∷◌, length, set, get_or, Option, Some, None, inl, inr, refl, sym, ap, ◌∙◌, subst, arith}
use mathlib.Core.Logic.{dite}
use native.Mathlib.Decide.{ℕ_discrete}
use Rattle.std.specs.List.{slice_get}
use Rattle.std.specs.Option.{IsSome}
use Rattle.std.proofs.lemmas.Bool.{eqb-true, eqb-false, eq-eqb, ne_eqb}
use Rattle.std.proofs.lemmas.List.{get_or-set_same, get_or-set_other, length-set}
use Rattle.std.proofs.lemmas.Option.{slice_get_within}
use Rattle.room_spec.specs.Rooms.{RoomSpec, fuse_of}
use Rattle.simulator.specs.Sweeps.{SweepState}
use Rattle.ruled_room.specs.declared.rule.Operation.{Operation}
use Rattle.ruled_room.specs.Parts.{KeeperData, RoomName, marked}
use Rattle.ruled_room.specs.declared.stop.Stop.{Stop}
use Rattle.ruled_room.specs.declared.stop.Stop.TheVariants.{Idle, OutOfTurns, Crashed}
use Rattle.scheduler.specs.declared.workers.Stopped.{Stopped}
use Rattle.scheduler.specs.Drives.{HasStopped, IsWithinFuse, is_burnt}
use Rattle.scheduler.specs.Results.{HasEnded, IsBelowFuse}
use Rattle.scheduler.specs.Tasks.{AreKept, IsKept, IsStoppedOf, away, away_from, is_here, own_fuse}

pub some_is : {X : Type 0} (x y : X) → Some x ≡ Some y → x ≡ y
some_is x y is = cc

-- ---- what is away

pub from_same : (sweeps : List (Option SweepState)) (n : ℕ) (sweep : SweepState) → n < length sweeps → away_from (set sweeps n (Some sweep)) n ≡ 0
from_same [] n sweep below = absurd (omega (arith, below))
from_same (first ∷ sweeps) zero sweep below = refl
from_same (None ∷ sweeps) (suc n) sweep below = from_same sweeps n sweep (omega (arith, below))
from_same (Some first ∷ sweeps) (suc n) sweep below = from_same sweeps n sweep (omega (arith, below))

pub from_given : (sweeps : List (Option SweepState)) (n : ℕ) → n < length sweeps → away_from (set sweeps n None) n ≡ 1
from_given [] n below = absurd (omega (arith, below))
from_given (first ∷ sweeps) zero below = refl
from_given (None ∷ sweeps) (suc n) below = from_given sweeps n (omega (arith, below))
from_given (Some first ∷ sweeps) (suc n) below = from_given sweeps n (omega (arith, below))

pub from_other : (sweeps : List (Option SweepState)) (n j : ℕ) (x : Option SweepState) → j ≢ n → away_from (set sweeps n x) j ≡ away_from sweeps j
from_other [] n j x other = refl
from_other (first ∷ sweeps) zero zero x other = absurd (other refl)
from_other (None ∷ sweeps) zero (suc j) None other = refl
from_other (None ∷ sweeps) zero (suc j) (Some x) other = refl
from_other (Some first ∷ sweeps) zero (suc j) None other = refl
from_other (Some first ∷ sweeps) zero (suc j) (Some x) other = refl
from_other (None ∷ sweeps) (suc n) zero x other = refl
from_other (Some first ∷ sweeps) (suc n) zero x other = refl
from_other (None ∷ sweeps) (suc n) (suc j) x other = from_other sweeps n j x (λ is. other (ap suc is))
from_other (Some first ∷ sweeps) (suc n) (suc j) x other = from_other sweeps n j x (λ is. other (ap suc is))

-- one that is away is not at home
pub record IsAway (sweeps : List (Option SweepState)) (n : ℕ) : Type 0 where
  pub below : n < length sweeps
  pub none : get_or sweeps n None ≡ None
  pub one : away_from sweeps n ≡ 1

pub is_away : (sweeps : List (Option SweepState)) (n : ℕ) → 1 ≤ away_from sweeps n → IsAway sweeps n
is_away [] n some = absurd (omega (arith, some))
is_away (None ∷ sweeps) zero some = record { below = omega arith; none = refl; one = refl }
is_away (Some first ∷ sweeps) zero some = absurd (omega (arith, some))
is_away (None ∷ sweeps) (suc n) some = let is = is_away sweeps n some in record { below = let b = is.below in omega (arith, b); none = is.none; one = is.one }
is_away (Some first ∷ sweeps) (suc n) some = let is = is_away sweeps n some in record { below = let b = is.below in omega (arith, b); none = is.none; one = is.one }

-- and one that isn't is
pub is_home : (sweeps : List (Option SweepState)) (n : ℕ) → n < length sweeps → away_from sweeps n ≡ 0 → IsSome (get_or sweeps n None)
is_home [] n below none = absurd (omega (arith, below))
is_home (None ∷ sweeps) zero below none = absurd (omega (arith, none))
is_home (Some first ∷ sweeps) zero below none = refl
is_home (None ∷ sweeps) (suc n) below none = is_home sweeps n (omega (arith, below)) none
is_home (Some first ∷ sweeps) (suc n) below none = is_home sweeps n (omega (arith, below)) none

pub away_at : (keepers : List KeeperData) (k i : ℕ) (d : KeeperData) → k < length keepers → away keepers k i ≡ away_from (get_or keepers k d).sweeps i
away_at [] k i d below = absurd (omega (arith, below))
away_at (keeper ∷ keepers) zero i d below = refl
away_at (keeper ∷ keepers) (suc k) i d below = away_at keepers k i d (omega (arith, below))

away_set_same : (keepers : List KeeperData) (k i : ℕ) (keeper : KeeperData) → k < length keepers → away (set keepers k keeper) k i ≡ away_from keeper.sweeps i
away_set_same [] k i keeper below = absurd (omega (arith, below))
away_set_same (first ∷ keepers) zero i keeper below = refl
away_set_same (first ∷ keepers) (suc k) i keeper below = away_set_same keepers k i keeper (omega (arith, below))

away_set_other : (keepers : List KeeperData) (k j i : ℕ) (keeper : KeeperData) → j ≢ k → away (set keepers k keeper) j i ≡ away keepers j i
away_set_other [] k j i keeper other = refl
away_set_other (first ∷ keepers) zero zero i keeper other = absurd (other refl)
away_set_other (first ∷ keepers) zero (suc j) i keeper other = refl
away_set_other (first ∷ keepers) (suc k) zero i keeper other = refl
away_set_other (first ∷ keepers) (suc k) (suc j) i keeper other = away_set_other keepers k j i keeper (λ is. other (ap suc is))

-- ---- counts

pub here_same : (place number : ℕ) → is_here place number place number ≡ 1
here_same place number = rw (eq-eqb place place refl, eq-eqb number number refl) refl

pub here_not_place : (k i place number : ℕ) → k ≢ place → is_here k i place number ≡ 0
here_not_place k i place number other = rw (ne_eqb place k (λ is. other (sym is))) refl

and_not : (b : Bool) → cond {A = ℕ} (b && false) 1 0 ≡ 0
and_not true = refl
and_not false = refl

pub here_not_number : (k i place number : ℕ) → i ≢ number → is_here k i place number ≡ 0
here_not_number k i place number other = rw (ne_eqb number i (λ is. other (sym is))) (and_not (eqb place k))

-- ---- how one has ended

abbrev crashes : Stop → Bool
crashes Idle = false
crashes OutOfTurns = false
crashes Crashed = true

burnt : (fuse : Option ℕ) (steps : ℕ) → is_burnt fuse steps ≡ true → fuse ≡ Some steps
burnt None steps is = absurd cc
burnt (Some after) steps is = ap Some (eqb-true after steps is)

below_fuse : (fuse : Option ℕ) (steps : ℕ) → is_burnt fuse steps ≡ false → IsWithinFuse fuse steps → IsBelowFuse fuse steps
below_fuse None steps is within = tt
below_fuse (Some after) steps is within = let other = eqb-false after steps is in grind (arith, other, within)

ended_by : (stop : Stop) (fuse : Option ℕ) (spec : RoomSpec) (sweep : SweepState) → HasStopped fuse spec stop sweep → IsWithinFuse fuse sweep.mind.steps → HasEnded fuse spec sweep (crashes stop)
ended_by Crashed fuse spec sweep is within = burnt fuse sweep.mind.steps is
ended_by Idle fuse spec sweep is within = (below_fuse fuse sweep.mind.steps is.0 within, is.1, inr is.2)
ended_by OutOfTurns fuse spec sweep is within = (below_fuse fuse sweep.mind.steps is.0 within, is.1, inl is.2)

marked_same : (stop : Stop) (crashed : List Bool) (n : ℕ) → n < length crashed → get_or crashed n false ≡ false → get_or (marked stop n crashed) n false ≡ crashes stop
marked_same Idle crashed n below is = is
marked_same OutOfTurns crashed n below is = is
marked_same Crashed crashed n below is = get_or-set_same crashed n true false below

marked_other : (stop : Stop) (crashed : List Bool) (n i : ℕ) → i ≢ n → get_or (marked stop n crashed) i false ≡ get_or crashed i false
marked_other Idle crashed n i other = refl
marked_other OutOfTurns crashed n i other = refl
marked_other Crashed crashed n i other = get_or-set_other crashed n i true false other

marked_length : (stop : Stop) (crashed : List Bool) (n : ℕ) → length (marked stop n crashed) ≡ length crashed
marked_length Idle crashed n = refl
marked_length OutOfTurns crashed n = refl
marked_length Crashed crashed n = length-set crashed n true

-- ---- its keeper

abbrev pub with_back : KeeperData → ℕ → SweepState → List Operation → Stop → KeeperData
with_back keeper n sweep operations stop = record { room = keeper.room; sweeps = set keeper.sweeps n (Some sweep); operations = set keeper.operations n operations; crashed = marked stop n keeper.crashed }

still_away : (keeper : KeeperData) (n : ℕ) (sweep : SweepState) (stop : Stop) → IsKept keeper → IsAway keeper.sweeps n → (i : ℕ) → get_or (set keeper.sweeps n (Some sweep)) i None ≡ None → get_or (marked stop n keeper.crashed) i false ≡ false
still_away keeper n sweep stop kept is i none = dite (ℕ_discrete i n)
    (λ same. absurd (
    let at = get_or-set_same keeper.sweeps n (Some sweep) None is.below in
    let other : Some sweep ≡ None = sym at ∙ ap (λ (k : ℕ). get_or (set keeper.sweeps n (Some sweep)) k None) (sym same) ∙ none in
    cc))
    (λ other. marked_other stop keeper.crashed n i other ∙ kept.away i (sym (get_or-set_other keeper.sweeps n i (Some sweep) None other) ∙ none))

still_ended : (keeper : KeeperData) (n : ℕ) (sweep : SweepState) (stop : Stop) → IsKept keeper → IsAway keeper.sweeps n → HasEnded (fuse_of keeper.room.spec.fuses n) keeper.room.spec sweep (crashes stop)
    → (i : ℕ) (found : SweepState) → get_or (set keeper.sweeps n (Some sweep)) i None ≡ Some found → HasEnded (fuse_of keeper.room.spec.fuses i) keeper.room.spec found (get_or (marked stop n keeper.crashed) i false)
still_ended keeper n sweep stop kept is ended i found some = dite (ℕ_discrete i n)
    (λ same.
    let at = get_or-set_same keeper.sweeps n (Some sweep) None is.below in
    let own : Some sweep ≡ Some found = sym at ∙ ap (λ (k : ℕ). get_or (set keeper.sweeps n (Some sweep)) k None) (sym same) ∙ some in
    let alive = kept.away n is.none in
    let below = is.below in
    let mark = marked_same stop keeper.crashed n (omega (arith, below, kept.sweeps, kept.crashed)) alive in
    let here : HasEnded (fuse_of keeper.room.spec.fuses n) keeper.room.spec found (get_or (marked stop n keeper.crashed) n false) =
    subst (λ (b : Bool). HasEnded (fuse_of keeper.room.spec.fuses n) keeper.room.spec found b) (sym mark)
    (subst (λ (s : SweepState). HasEnded (fuse_of keeper.room.spec.fuses n) keeper.room.spec s (crashes stop)) (some_is sweep found own) ended) in
    subst (λ (k : ℕ). HasEnded (fuse_of keeper.room.spec.fuses k) keeper.room.spec found (get_or (marked stop n keeper.crashed) k false)) (sym same) here)
    (λ other.
    let was = kept.ended i found (sym (get_or-set_other keeper.sweeps n i (Some sweep) None other) ∙ some) in
    subst (λ (b : Bool). HasEnded (fuse_of keeper.room.spec.fuses i) keeper.room.spec found b) (sym (marked_other stop keeper.crashed n i other)) was)

kept_back : (keeper : KeeperData) (n : ℕ) (sweep : SweepState) (operations : List Operation) (stop : Stop) → IsKept keeper → IsAway keeper.sweeps n → HasEnded (fuse_of keeper.room.spec.fuses n) keeper.room.spec sweep (crashes stop) → IsKept (with_back keeper n sweep operations stop)
kept_back keeper n sweep operations stop kept is ended = record {
  sweeps = length-set keeper.sweeps n (Some sweep) ∙ kept.sweeps;
  crashed = marked_length stop keeper.crashed n ∙ kept.crashed;
  away = still_away keeper n sweep stop kept is;
  ended = still_ended keeper n sweep stop kept is ended;
}

-- ---- all keepers

-- the keeper of the room at a task's place
pub record IsFor (rooms : List RoomName) (keepers : List KeeperData) (one : Stopped) (d : KeeperData) : Type 0 where
  pub below : one.place < length keepers
  pub room : (get_or keepers one.place d).room ≡ one.simulator.room
  pub kept : IsKept (get_or keepers one.place d)

pub is_for : (rooms : List RoomName) (keepers : List KeeperData) (one : Stopped) (d : KeeperData) → AreKept rooms keepers → IsStoppedOf rooms one → IsFor rooms keepers one d
is_for rooms keepers one d kept is =
    let within = slice_get_within rooms one.place one.simulator.room is.room in
    let below : one.place < length keepers = omega (arith, within, kept.count) in
    let at = kept.each one.place d below in
    record { below = below; room = some_is (get_or keepers one.place d).room one.simulator.room (sym at.0 ∙ is.room); kept = at.1 }

pub kept_by_all : (rooms : List RoomName) (keepers : List KeeperData) (one : Stopped) (new : KeeperData) (d : KeeperData) → AreKept rooms keepers → IsStoppedOf rooms one → 1 ≤ away keepers one.place one.simulator.number
    → new ≡ with_back (get_or keepers one.place d) one.simulator.number one.simulator.sweep one.simulator.operations one.stop → AreKept rooms (set keepers one.place new)
kept_by_all rooms keepers one new d kept is some to =
    let keeper : KeeperData = get_or keepers one.place d in
    let for_it = is_for rooms keepers one d kept is in
    let out = is_away keeper.sweeps one.simulator.number (let from = away_at keepers one.place one.simulator.number d for_it.below in omega (arith, some, from)) in
    let ended = ended_by one.stop (own_fuse one.simulator) one.simulator.room.spec one.simulator.sweep is.stops is.within in
    let here = subst (λ (r : RoomName). HasEnded (fuse_of r.spec.fuses one.simulator.number) r.spec one.simulator.sweep (crashes one.stop)) (sym for_it.room) ended in
    let after : IsKept new = subst IsKept (sym to) (kept_back keeper one.simulator.number one.simulator.sweep one.simulator.operations one.stop for_it.kept out here) in
    let room : new.room ≡ keeper.room = ap (λ (k : KeeperData). k.room) to in
    let at = kept.each one.place d for_it.below in
    record {
      count = length-set keepers one.place new ∙ kept.count;
      each = λ k e below. dite (ℕ_discrete k one.place)
          (λ same.
          let own = get_or-set_same keepers one.place new e for_it.below in
          let found : new ≡ get_or (set keepers one.place new) k e = sym own ∙ ap (λ (j : ℕ). get_or (set keepers one.place new) j e) (sym same) in
          subst (λ (n : KeeperData). (slice_get rooms k ≡ Some n.room) × IsKept n) found
          (ap (λ (j : ℕ). slice_get rooms j) same ∙ at.0 ∙ ap Some (sym room), after))
          (λ other. subst (λ (n : KeeperData). (slice_get rooms k ≡ Some n.room) × IsKept n) (sym (get_or-set_other keepers one.place k new e other)) (kept.each k e (let same = length-set keepers one.place new in omega (arith, below, same))));
    }

pub fewer_away : (rooms : List RoomName) (keepers : List KeeperData) (one : Stopped) (new : KeeperData) (d : KeeperData) → AreKept rooms keepers → IsStoppedOf rooms one → 1 ≤ away keepers one.place one.simulator.number
    → new ≡ with_back (get_or keepers one.place d) one.simulator.number one.simulator.sweep one.simulator.operations one.stop
    → (k i : ℕ) → away (set keepers one.place new) k i + is_here k i one.place one.simulator.number ≡ away keepers k i
fewer_away rooms keepers one new d kept is some to k i =
    let keeper : KeeperData = get_or keepers one.place d in
    let n = one.simulator.number in
    let for_it = is_for rooms keepers one d kept is in
    let out = is_away keeper.sweeps n (let from = away_at keepers one.place n d for_it.below in omega (arith, some, from)) in
    let sweeps : new.sweeps ≡ set keeper.sweeps n (Some one.simulator.sweep) = ap (λ (a : KeeperData). a.sweeps) to in
    dite (ℕ_discrete k one.place)
    (λ same. dite (ℕ_discrete i n)
    (λ own.
    let old = away_at keepers one.place n d for_it.below in
    let now = away_set_same keepers one.place n new for_it.below in
    let none = ap (λ (l : List (Option SweepState)). away_from l n) sweeps ∙ from_same keeper.sweeps n one.simulator.sweep out.below in
    subst (λ (a : ℕ). away (set keepers one.place new) a i + is_here a i one.place n ≡ away keepers a i) (sym same)
    (subst (λ (b : ℕ). away (set keepers one.place new) one.place b + is_here one.place b one.place n ≡ away keepers one.place b) (sym own)
    (omega (arith, old, now, none, out.one, here_same one.place n))))
    (λ other.
    let old = away_at keepers one.place i d for_it.below in
    let now = away_set_same keepers one.place i new for_it.below in
    let stays = ap (λ (l : List (Option SweepState)). away_from l i) sweeps ∙ from_other keeper.sweeps n i (Some one.simulator.sweep) other in
    subst (λ (a : ℕ). away (set keepers one.place new) a i + is_here a i one.place n ≡ away keepers a i) (sym same)
    (omega (arith, old, now, stays, here_not_number one.place i one.place n other))))
    (λ other. omega (arith, away_set_other keepers one.place k i new other, here_not_place k i one.place n other))
