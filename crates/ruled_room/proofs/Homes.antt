-- The sweeps that a keeper has, and their minds.
use Rattle.std.proofs.Common.{◌≡◌, true, false, ℕ, zero, suc, ◌<◌, List, [], ◌∷◌, length, map, get_or, set, refl, sym, ap, ◌∙◌, subst, ⊎_elim, arith, Option, Some, None}
use Rattle.std.specs.Prelude.{IsSome, is_some, not, slice_index_or}
use Rattle.std.proofs.lemmas.Bool.{and_parts}
use Rattle.std.proofs.lemmas.List.{map-set, get_or_read_under}
use Rattle.std.proofs.lemmas.List.FromFn.{get_or-map-range_with_len, length-map-range_with_len}
use Rattle.std.specs.Option.{option_map}
use Rattle.room_spec.specs.Rooms.{RoomSpec, IsWithinLimits}
use Rattle.simulator.specs.Minds.{MindState, opening_mind}
use Rattle.simulator.specs.Quiet.{IsQuietCount}
use Rattle.simulator.specs.Sweeps.{SweepState, opening_sweep}
use Rattle.simulator.proofs.CallerLemmas.{counts_anew, opens}
use Rattle.ruled_room.specs.Parts.{AreSweeps, IsSweepOf, KeeperData, first_sweeps, holds_in, minds_of, sweep_home}
use Rattle.ruled_room.proofs.Sharing.{left_over, put_in}

abbrev mind_of : Option SweepState → Option MindState
mind_of sweep = option_map (λ s. s.mind) sweep

pub minds-set : (sweeps : List (Option SweepState)) (i : ℕ) (sweep : Option SweepState) → minds_of (set sweeps i sweep) ≡ set (minds_of sweeps) i (mind_of sweep)
minds-set sweeps i sweep = map-set mind_of sweeps i sweep

pub mind_home : (sweeps : List (Option SweepState)) (i : ℕ) → get_or (minds_of sweeps) i None ≡ mind_of (get_or sweeps i None)
mind_home [] i = refl
mind_home (sweep ∷ sweeps) zero = refl
mind_home (sweep ∷ sweeps) (suc i) = mind_home sweeps i

pub are_sweeps_without : (spec : RoomSpec) (sweeps : List (Option SweepState)) (n : ℕ) → AreSweeps spec sweeps → AreSweeps spec (set sweeps n None)
are_sweeps_without spec sweeps n are i sweep e = are i sweep (left_over sweeps n i sweep e).1

pub are_sweeps_with : (spec : RoomSpec) (sweeps : List (Option SweepState)) (n : ℕ) (sweep : SweepState) → IsSweepOf spec n sweep → AreSweeps spec sweeps → AreSweeps spec (set sweeps n (Some sweep))
are_sweeps_with spec sweeps n sweep is are i other e = ⊎_elim
    (λ (t : (i ≡ n) × (sweep ≡ other)). subst (λ (q : ℕ × SweepState). IsSweepOf spec q.0 q.1) (λ k. (sym t.0 k, t.1 k)) is)
    (λ (t : get_or sweeps i None ≡ Some other). are i other t)
    (put_in sweeps n i sweep other e)

pub some_below : {X : Type 0} (l : List (Option X)) (i : ℕ) (x : X) → get_or l i None ≡ Some x → i < length l
some_below [] i x e = absurd (cc)
some_below (y ∷ l) zero x e = omega arith
some_below (y ∷ l) (suc i) x e = let h = some_below l i x e in omega arith

pub home_below : {X : Type 0} (l : List (Option X)) (i : ℕ) → IsSome (get_or l i None) → i < length l
home_below [] i h = absurd (cc)
home_below (y ∷ l) zero h = omega arith
home_below (y ∷ l) (suc i) h = let b = home_below l i h in omega arith

-- whoever the keeper holds is at home
pub held_home : (keeper : KeeperData) (i : ℕ) → holds_in keeper i ≡ true → IsSome (sweep_home keeper i)
held_home keeper i e = (and_parts (is_some (sweep_home keeper i)) (not (slice_index_or keeper.crashed i false)) e).0

-- one of those at home is read
pub read_home : (sweeps read : List (Option SweepState)) (i : ℕ) (found : Option SweepState) (sweep : SweepState) → read ≡ sweeps → i < length sweeps → found ≡ get_or read i found → found ≡ Some sweep → get_or sweeps i None ≡ Some sweep
read_home sweeps read i found sweep same below is there =
    sym (get_or_read_under sweeps i (length sweeps) found None (is ∙ ap (λ (l : List (Option SweepState)). get_or l i found) same) below refl) ∙ there

-- ---- at the start

pub first_homes : (spec : RoomSpec) (numbers : List ℕ) → minds_of (map (λ i. Some (opening_sweep spec i)) numbers) ≡ map Some (map (opening_mind spec) numbers)
first_homes spec [] = refl
first_homes spec (i ∷ numbers) = ap (λ (l : List (Option MindState)). Some (opening_mind spec i) ∷ l) (first_homes spec numbers)

pub first_count : (spec : RoomSpec) → length (first_sweeps spec) ≡ spec.simulators
first_count spec = length-map-range_with_len (λ i. Some (opening_sweep spec i)) 0 spec.simulators

pub first_are_sweeps : (spec : RoomSpec) → IsWithinLimits spec → AreSweeps spec (first_sweeps spec)
first_are_sweeps spec limits i sweep e =
    let below : i < spec.simulators = let b = some_below (first_sweeps spec) i sweep e in let n = first_count spec in omega arith in
    let opens-as : Some (opening_sweep spec i) ≡ Some sweep = sym (get_or-map-range_with_len (λ k. Some (opening_sweep spec k)) 0 spec.simulators i i None below (omega arith)) ∙ e in
    let same : opening_sweep spec i ≡ sweep = cc in
    subst (λ (s : SweepState). IsSweepOf spec i s) same (record { is_mind = opens spec i limits below; number = refl; quiet = counts_anew (opening_mind spec i) })

-- ---- at the end

abbrev mind_in_sweep : SweepState → MindState
mind_in_sweep sweep = sweep.mind

pub whole_homes : (sweeps : List SweepState) → minds_of (map Some sweeps) ≡ map Some (map mind_in_sweep sweeps)
whole_homes [] = refl
whole_homes (sweep ∷ sweeps) = ap (λ (l : List (Option MindState)). Some sweep.mind ∷ l) (whole_homes sweeps)

whole_at : (sweeps : List SweepState) (i : ℕ) (d : SweepState) → i < length sweeps → get_or (map Some sweeps) i None ≡ Some (get_or sweeps i d)
whole_at [] i d below = absurd (omega arith)
whole_at (sweep ∷ sweeps) zero d below = refl
whole_at (sweep ∷ sweeps) (suc i) d below = whole_at sweeps i d (omega arith)

-- whoever is read at a place of the whole is at home there
pub quiet_at_home : (spec : RoomSpec) (sweeps : List SweepState) (homes : List (Option SweepState)) → map Some sweeps ≡ homes → AreSweeps spec homes
    → (i : ℕ) → i < length sweeps → (d : SweepState) → IsQuietCount (get_or sweeps i d).mind (get_or sweeps i d).quiet
quiet_at_home spec sweeps homes same are i below d =
    (are i (get_or sweeps i d) (ap (λ (l : List (Option SweepState)). get_or l i None) (sym same) ∙ whole_at sweeps i d below)).quiet
