-- Rooms are opened, and their simulators put into queues.
use Rattle.std.proofs.Common.{◌≡◌, ℕ, zero, suc, ◌+◌, ◌<◌, ◌≤◌, Bool, true, false, cond, eqb, List, [], ◌∷◌, ◌++◌, length, set, get_or, map, replicate, Option, Some, None, inl, inr, refl, sym, ap, ◌∙◌, subst, arith}
use mathlib.Core.Logic.{dite}
use native.Mathlib.Decide.{ℕ_discrete}
use Rattle.std.specs.List.{All, range_with_len, slice_get}
use Rattle.std.proofs.lemmas.Bool.{cases_lt, eq-eqb, ne_eqb}
use Rattle.std.proofs.lemmas.List.{get_or-set_same, get_or-set_other, get_or_past, length-append, length-replicate, length-set}
use Rattle.std.proofs.lemmas.List.FromFn.{get_or-map-range_with_len, length-map-range_with_len}
use Rattle.std.proofs.lemmas.List.Sums.{sum_by-cons}
use Rattle.room_spec.specs.Rooms.{RoomSpec, fuse_of}
use Rattle.simulator.specs.Sweeps.{SweepState, opening_sweep}
use Rattle.ruled_room.specs.declared.rule.Operation.{Operation}
use Rattle.ruled_room.specs.Parts.{KeeperData, RoomName, SimulatorData, first_sweeps, holds_in, sweep_home}
use Rattle.scheduler.specs.declared.workers.Task.{Task}
use Rattle.scheduler.specs.Drives.{IsWithinFuse}
use Rattle.scheduler.specs.Tasks.{AreKept, AreTasksOf, IsKept, IsOpened, IsTaskOf, away, away_at, away_from, is_here, queued, own_fuse, waiting}
use Rattle.scheduler.proofs.Returning.{from_given, from_other, here_not_number, some_is}
use Rattle.scheduler.proofs.Rounds.{all_cons, all_head, all_snoc, all_tail, sum_snoc}

-- ---- one task more in one of the queues

pub put_all : {Q : Type 0} (rooms : List RoomName) (f : Q → List Task) (queues : List Q) (w : ℕ) (new d : Q) (task : Task) → w < length queues → f new ≡ f (get_or queues w d) ++ task ∷ [] → IsTaskOf rooms task
    → AreTasksOf rooms (map f queues) → AreTasksOf rooms (map f (set queues w new))
put_all rooms f [] w new d task below is task_is all = absurd (omega (arith, below))
put_all rooms f (queue ∷ queues) zero new d task below is task_is all =
    let P : List Task → Type 0 = λ tasks. All (λ t. IsTaskOf rooms t) tasks in
    let here = all_head P (f queue) (map f queues) all in
    all_cons P (f new) (map f queues) (subst P (sym is) (all_snoc (λ (t : Task). IsTaskOf rooms t) (f queue) task here task_is)) (all_tail P (f queue) (map f queues) all)
put_all rooms f (queue ∷ queues) (suc w) new d task below is task_is all =
    let P : List Task → Type 0 = λ tasks. All (λ t. IsTaskOf rooms t) tasks in
    all_cons P (f queue) (map f (set queues w new)) (all_head P (f queue) (map f queues) all)
    (put_all rooms f queues w new d task (omega (arith, below)) is task_is (all_tail P (f queue) (map f queues) all))

pub put_count : {Q : Type 0} (k i : ℕ) (f : Q → List Task) (queues : List Q) (w : ℕ) (new d : Q) (task : Task) → w < length queues → f new ≡ f (get_or queues w d) ++ task ∷ []
    → waiting k i (map f (set queues w new)) ≡ waiting k i (map f queues) + is_here k i task.place task.simulator.number
put_count k i f [] w new d task below is = absurd (omega (arith, below))
put_count k i f (queue ∷ queues) zero new d task below is =
    let h : Task → ℕ = λ t. is_here k i t.place t.simulator.number in
    let q : List Task → ℕ = λ tasks. queued k i tasks in
    omega (arith, sum_by-cons q (f new) (map f queues), sum_by-cons q (f queue) (map f queues), ap q is, sum_snoc h (f queue) task)
put_count k i f (queue ∷ queues) (suc w) new d task below is =
    let q : List Task → ℕ = λ tasks. queued k i tasks in
    omega (arith, sum_by-cons q (f queue) (map f (set queues w new)), sum_by-cons q (f queue) (map f queues), put_count k i f queues w new d task (omega (arith, below)) is)

-- ---- the simulators of one room

-- the first so many are given away
abbrev pub hidden : ℕ → List (Option SweepState) → List (Option SweepState)
hidden zero sweeps = sweeps
hidden (suc i) sweeps = set (hidden i sweeps) i None

pub hidden_length : (i : ℕ) (sweeps : List (Option SweepState)) → length (hidden i sweeps) ≡ length sweeps
hidden_length zero sweeps = refl
hidden_length (suc i) sweeps = length-set (hidden i sweeps) i None ∙ hidden_length i sweeps

pub hidden_later : (i j : ℕ) (sweeps : List (Option SweepState)) → i ≤ j → get_or (hidden i sweeps) j None ≡ get_or sweeps j None
hidden_later zero j sweeps later = refl
hidden_later (suc i) j sweeps later = get_or-set_other (hidden i sweeps) i j None None (λ same. omega (arith, later, same)) ∙ hidden_later i j sweeps (omega (arith, later))

hidden_before : (i j : ℕ) (sweeps : List (Option SweepState)) → j < i → i ≤ length sweeps → get_or (hidden i sweeps) j None ≡ None
hidden_before zero j sweeps before within = absurd (omega (arith, before))
hidden_before (suc i) j sweeps before within = dite (ℕ_discrete j i)
    (λ same. ap (λ (n : ℕ). get_or (set (hidden i sweeps) i None) n None) same ∙ get_or-set_same (hidden i sweeps) i None None (omega (arith, within, hidden_length i sweeps)))
    (λ other. get_or-set_other (hidden i sweeps) i j None None other ∙ hidden_before i j sweeps (omega (arith, before, other)) (omega (arith, within)))

home_zero : (sweeps : List (Option SweepState)) (n : ℕ) (sweep : SweepState) → get_or sweeps n None ≡ Some sweep → away_from sweeps n ≡ 0
home_zero [] n sweep is = refl
home_zero (None ∷ sweeps) zero sweep is = absurd cc
home_zero (Some first ∷ sweeps) zero sweep is = refl
home_zero (None ∷ sweeps) (suc n) sweep is = home_zero sweeps n sweep is
home_zero (Some first ∷ sweeps) (suc n) sweep is = home_zero sweeps n sweep is

none_away : (f : ℕ → SweepState) (list : List ℕ) (i : ℕ) → away_from (map (λ n. Some (f n)) list) i ≡ 0
none_away f [] i = refl
none_away f (n ∷ list) zero = refl
none_away f (n ∷ list) (suc i) = none_away f list i

all_false : (n i : ℕ) → get_or (replicate n false) i false ≡ false
all_false zero i = refl
all_false (suc n) zero = refl
all_false (suc n) (suc i) = all_false n i

-- the keeper of a new room who has given the first i simulators away
abbrev pub keeper_after : RoomName → ℕ → KeeperData
keeper_after room i = record { room = room; sweeps = hidden i (first_sweeps room.spec); operations = replicate room.spec.simulators []; crashed = replicate room.spec.simulators false }

first_count : (spec : RoomSpec) → length (first_sweeps spec) ≡ spec.simulators
first_count spec = length-map-range_with_len (λ i. Some (opening_sweep spec i)) 0 spec.simulators

at_home : (room : RoomName) (i : ℕ) → i < room.spec.simulators → sweep_home (keeper_after room i) i ≡ Some (opening_sweep room.spec i)
at_home room i below = hidden_later i i (first_sweeps room.spec) (omega arith) ∙ get_or-map-range_with_len (λ i. Some (opening_sweep room.spec i)) 0 room.spec.simulators i i None below (omega arith)

pub may_give : (room : RoomName) (i : ℕ) → i < room.spec.simulators → holds_in (keeper_after room i) i ≡ true
may_give room i below = rw (at_home room i below, all_false room.spec.simulators i) refl

pub starts_at_home : (place : ℕ) (room : RoomName) (k i : ℕ) → away_at place (keeper_after room 0).sweeps k i ≡ 0
starts_at_home place room k i = by (eqb place k)
  where
    by : (b : Bool) → cond b (away_from (first_sweeps room.spec) i) 0 ≡ 0
    by true = none_away (λ n. opening_sweep room.spec n) (range_with_len 0 room.spec.simulators) i
    by false = refl

-- one more is away
pub one_away : (place : ℕ) (room : RoomName) (n k i : ℕ) → n < room.spec.simulators → away_at place (hidden (suc n) (first_sweeps room.spec)) k i ≡ away_at place (hidden n (first_sweeps room.spec)) k i + is_here k i place n
one_away place room n k i below = dite (ℕ_discrete k place)
    (λ same. dite (ℕ_discrete i n)
    (λ own.
    let given = from_given (hidden n (first_sweeps room.spec)) n (omega (arith, below, hidden_length n (first_sweeps room.spec), first_count room.spec)) in
    let home = home_zero (hidden n (first_sweeps room.spec)) n (opening_sweep room.spec n) (at_home room n below) in
    let goal : ℕ → ℕ → Type 0 = λ a b. away_at place (hidden (suc n) (first_sweeps room.spec)) a b ≡ away_at place (hidden n (first_sweeps room.spec)) a b + is_here a b place n in
    subst (λ (a : ℕ). goal a i) (sym same) (subst (λ (b : ℕ). goal place b) (sym own)
    (rw (eq-eqb place place refl, eq-eqb n n refl) (omega (arith, given, home)))))
    (λ other.
    let stays = from_other (hidden n (first_sweeps room.spec)) n i None other in
    let here = here_not_number place i place n other in
    let goal : ℕ → Type 0 = λ a. away_at place (hidden (suc n) (first_sweeps room.spec)) a i ≡ away_at place (hidden n (first_sweeps room.spec)) a i + is_here a i place n in
    subst goal (sym same) (ap (λ (x : ℕ). cond (eqb place place) x 0) stays ∙ omega (arith, here))))
    (λ other. rw (ne_eqb place k (λ is. other (sym is))) refl)

never_home : (room : RoomName) (i : ℕ) (sweep : SweepState) → get_or (hidden room.spec.simulators (first_sweeps room.spec)) i None ≡ Some sweep → ⊥
never_home room i sweep some = elim (cases_lt i room.spec.simulators) [
  | inl below ↦ (let other : Some sweep ≡ None = sym some ∙ hidden_before room.spec.simulators i (first_sweeps room.spec) below (omega (arith, first_count room.spec)) in cc)
  | inr after ↦ (let other : Some sweep ≡ None = sym some ∙ hidden_later room.spec.simulators i (first_sweeps room.spec) after ∙ get_or_past (first_sweeps room.spec) i None (omega (arith, first_count room.spec, after)) in cc)
]

pub all_given : (room : RoomName) (keeper : KeeperData) → keeper ≡ keeper_after room room.spec.simulators → IsKept keeper
all_given room keeper is = subst IsKept (sym is) (record {
  sweeps = hidden_length room.spec.simulators (first_sweeps room.spec) ∙ first_count room.spec;
  crashed = length-replicate room.spec.simulators false;
  away = λ i none. all_false room.spec.simulators i;
  ended = λ i sweep some. absurd (never_home room i sweep some);
})

-- what giving one more makes of the keeper
abbrev pub gives : ℕ → KeeperData → KeeperData
gives i keeper = record { room = keeper.room; sweeps = set keeper.sweeps i None; operations = set keeper.operations i []; crashed = keeper.crashed }

-- who has done nothing leaves nothing
nothing_left : (m i : ℕ) → set (replicate {A = List Operation} m []) i [] ≡ replicate m []
nothing_left zero i = refl
nothing_left (suc m) zero = refl
nothing_left (suc m) (suc i) = ap (λ (l : List (List Operation)). [] ∷ l) (nothing_left m i)

pub one_given : (room : RoomName) (i : ℕ) (keeper new : KeeperData) → keeper ≡ keeper_after room i → new ≡ gives i keeper → new ≡ keeper_after room (i + 1)
one_given room i keeper new is to =
    let next : suc i ≡ i + 1 = omega arith in
    let left : gives i (keeper_after room i) ≡ keeper_after room (suc i) =
    λ p. record { room = room; sweeps = hidden (suc i) (first_sweeps room.spec); operations = nothing_left room.spec.simulators i p; crashed = replicate room.spec.simulators false } in
    to ∙ ap (gives i) is ∙ left ∙ ap (keeper_after room) next

pub fuses_count : (room : RoomName) (fuses : List (Option ℕ)) → fuses ≡ map (fuse_of room.spec.fuses) (range_with_len 0 room.spec.simulators) → length fuses ≡ room.spec.simulators
fuses_count room fuses is = ap length is ∙ length-map-range_with_len (fuse_of room.spec.fuses) 0 room.spec.simulators

pub away_one : (place : ℕ) (room : RoomName) (n k i : ℕ) (keeper new : KeeperData) → n < room.spec.simulators → keeper ≡ keeper_after room n → new ≡ gives n keeper → away_at place new.sweeps k i ≡ away_at place keeper.sweeps k i + is_here k i place n
away_one place room n k i keeper new below is to =
    ap (λ (a : KeeperData). away_at place a.sweeps k i) (to ∙ ap (gives n) is) ∙ one_away place room n k i below ∙ ap (λ (a : KeeperData). away_at place a.sweeps k i + is_here k i place n) (sym is)

-- a new task is one of its room
pub new_task : (rooms : List RoomName) (place i : ℕ) (room : RoomName) (task : Task) (simulator : SimulatorData) (fuses : List (Option ℕ)) (d : Option ℕ) → slice_get rooms place ≡ Some room → i < room.spec.simulators
    → fuses ≡ map (fuse_of room.spec.fuses) (range_with_len 0 room.spec.simulators) → simulator.room ≡ room → simulator.number ≡ i → Some simulator.sweep ≡ sweep_home (keeper_after room i) i
    → task.place ≡ place → task.simulator ≡ simulator → task.fuse ≡ get_or fuses i d → IsTaskOf rooms task
new_task rooms place i room task simulator fuses d at below list own number home place_is simulator_is fuse_is =
    let sweep : simulator.sweep ≡ opening_sweep room.spec i = some_is simulator.sweep (opening_sweep room.spec i) (home ∙ at_home room i below) in
    let fuse : task.fuse ≡ fuse_of room.spec.fuses i = fuse_is ∙ ap (λ (l : List (Option ℕ)). get_or l i d) list ∙ get_or-map-range_with_len (fuse_of room.spec.fuses) 0 room.spec.simulators i i d below (omega arith) in
    let steps : task.simulator.sweep.mind.steps ≡ 0 = ap (λ (s : SimulatorData). s.sweep.mind.steps) simulator_is ∙ ap (λ (s : SweepState). s.mind.steps) sweep in
    record {
      room = ap (λ (n : ℕ). slice_get rooms n) place_is ∙ at ∙ ap Some (sym (ap (λ (s : SimulatorData). s.room) simulator_is ∙ own));
      fuse = fuse ∙ sym (ap own_fuse simulator_is ∙ ap (λ (r : RoomName). fuse_of r.spec.fuses simulator.number) own ∙ ap (λ (n : ℕ). fuse_of room.spec.fuses n) number);
      within = subst (λ (n : ℕ). IsWithinFuse task.fuse n) (sym steps) (none_taken task.fuse);
    }
  where
    none_taken : (fuse : Option ℕ) → IsWithinFuse fuse 0
    none_taken None = tt
    none_taken (Some after) = omega arith

-- ---- one room more

pub get_or-append_end : {X : Type 0} (list : List X) (x d : X) → get_or (list ++ x ∷ []) (length list) d ≡ x
get_or-append_end [] x d = refl
get_or-append_end (y ∷ list) x d = get_or-append_end list x d

pub get_or-append_left : {X : Type 0} (list more : List X) (k : ℕ) (d : X) → k < length list → get_or (list ++ more) k d ≡ get_or list k d
get_or-append_left [] more k d below = absurd (omega (arith, below))
get_or-append_left (y ∷ list) more zero d below = refl
get_or-append_left (y ∷ list) more (suc k) d below = get_or-append_left list more k d (omega (arith, below))

longer : {X : Type 0} (list : List X) (x : X) (k : ℕ) (y : X) → slice_get list k ≡ Some y → slice_get (list ++ x ∷ []) k ≡ Some y
longer [] x k y is = absurd cc
longer (z ∷ list) x zero y is = is
longer (z ∷ list) x (suc k) y is = longer list x k y is

pub newest : {X : Type 0} (list : List X) (x : X) → slice_get (list ++ x ∷ []) (length list) ≡ Some x
newest [] x = refl
newest (y ∷ list) x = newest list x

still_task : (rooms : List RoomName) (room : RoomName) (task : Task) → IsTaskOf rooms task → IsTaskOf (rooms ++ room ∷ []) task
still_task rooms room task is = record { room = longer rooms room task.place task.simulator.room is.room; fuse = is.fuse; within = is.within }

pub still_tasks : (rooms : List RoomName) (room : RoomName) (queues : List (List Task)) → AreTasksOf rooms queues → AreTasksOf (rooms ++ room ∷ []) queues
still_tasks rooms room queues all k d below j e within = still_task rooms room (get_or (get_or queues k d) j e) (all k d below j e within)

pub kept_more : (rooms : List RoomName) (keepers : List KeeperData) (room : RoomName) (keeper : KeeperData) → AreKept rooms keepers → keeper.room ≡ room → IsKept keeper → AreKept (rooms ++ room ∷ []) (keepers ++ keeper ∷ [])
kept_more rooms keepers room keeper kept own is = record {
  count = omega (arith, kept.count, length-append keepers (keeper ∷ []), length-append rooms (room ∷ []));
  each = λ k d below. elim (cases_lt k (length keepers)) [
    | inl before ↦
        let at = kept.each k d before in
        subst (λ (one : KeeperData). (slice_get (rooms ++ room ∷ []) k ≡ Some one.room) × IsKept one) (sym (get_or-append_left keepers (keeper ∷ []) k d before))
        (longer rooms room k (get_or keepers k d).room at.0, at.1)
    | inr after ↦
        let last : k ≡ length keepers = omega (arith, below, after, length-append keepers (keeper ∷ [])) in
        let end : get_or (keepers ++ keeper ∷ []) k d ≡ keeper = ap (λ (n : ℕ). get_or (keepers ++ keeper ∷ []) n d) last ∙ get_or-append_end keepers keeper d in
        subst (λ (one : KeeperData). (slice_get (rooms ++ room ∷ []) k ≡ Some one.room) × IsKept one) (sym end)
        (ap (λ (n : ℕ). slice_get (rooms ++ room ∷ []) n) (last ∙ kept.count) ∙ newest rooms room ∙ ap Some (sym own), is)
  ];
}

pub away_at_own : (n i : ℕ) (sweeps : List (Option SweepState)) → away_at n sweeps n i ≡ away_from sweeps i
away_at_own n i sweeps = rw (eq-eqb n n refl) refl

shift : (n k i : ℕ) (sweeps : List (Option SweepState)) → away_at (suc n) sweeps (suc k) i ≡ away_at n sweeps k i
shift n k i sweeps = dite (ℕ_discrete n k)
    (λ same. rw (eq-eqb (suc n) (suc k) (ap suc same), eq-eqb n k same) refl)
    (λ other. rw (ne_eqb (suc n) (suc k) (λ is. other (omega (arith, is))), ne_eqb n k other) refl)

pub away_more : (keepers : List KeeperData) (keeper : KeeperData) (k i : ℕ) → away (keepers ++ keeper ∷ []) k i ≡ away keepers k i + away_at (length keepers) keeper.sweeps k i
away_more [] keeper zero i = omega arith
away_more [] keeper (suc k) i = let none : away_at 0 keeper.sweeps (suc k) i ≡ 0 = rw (ne_eqb 0 (suc k) (λ is. omega (arith, is))) refl in omega (arith, none)
away_more (first ∷ keepers) keeper zero i = let none : away_at (suc (length keepers)) keeper.sweeps 0 i ≡ 0 = rw (ne_eqb (suc (length keepers)) 0 (λ is. omega (arith, is))) refl in omega (arith, none)
away_more (first ∷ keepers) keeper (suc k) i = omega (arith, away_more keepers keeper k i, shift (length keepers) k i keeper.sweeps)

pub opened_more : (rooms rooms' : List RoomName) (keepers keepers' : List KeeperData) (queues queues' : List (List Task)) (room : RoomName) (keeper : KeeperData) (place : ℕ) → IsOpened rooms keepers queues → place ≡ length rooms
    → rooms' ≡ rooms ++ room ∷ [] → keepers' ≡ keepers ++ keeper ∷ [] → keeper.room ≡ room → IsKept keeper
    → ((all : List RoomName) → slice_get all place ≡ Some room → AreTasksOf all queues → AreTasksOf all queues')
    → ((k i : ℕ) → waiting k i queues' ≡ waiting k i queues + away_at place keeper.sweeps k i) → IsOpened rooms' keepers' queues'
opened_more rooms rooms' keepers keepers' queues queues' room keeper place is at last last_keeper own kept tasks count =
    let here : slice_get (rooms ++ room ∷ []) place ≡ Some room = ap (λ (n : ℕ). slice_get (rooms ++ room ∷ []) n) at ∙ newest rooms room in
    let places : place ≡ length keepers = at ∙ sym is.kept.count in
    record {
      kept = subst (λ (l : List RoomName). AreKept l keepers') (sym last) (subst (λ (l : List KeeperData). AreKept (rooms ++ room ∷ []) l) (sym last_keeper) (kept_more rooms keepers room keeper is.kept own kept));
      tasks = subst (λ (l : List RoomName). AreTasksOf l queues') (sym last) (tasks (rooms ++ room ∷ []) here (still_tasks rooms room queues is.tasks));
      away = λ k i.
          omega (arith, count k i, is.away k i, away_more keepers keeper k i, ap (λ (l : List KeeperData). away l k i) last_keeper, ap (λ (n : ℕ). away_at n keeper.sweeps k i) places);
    }

pub none_opened : (workers : ℕ) → IsOpened [] [] (replicate workers [])
none_opened workers = record {
  kept = record { count = refl; each = λ k d below. absurd (omega (arith, below)) };
  tasks = no_tasks workers;
  away = λ k i. none_waiting workers k i;
}
  where
    no_tasks : (n : ℕ) → AreTasksOf [] (replicate n [])
    no_tasks zero = λ k d below. absurd (omega (arith, below))
    no_tasks (suc n) = all_cons (λ (tasks : List Task). All (λ task. IsTaskOf [] task) tasks) [] (replicate n []) (λ k d below. absurd (omega (arith, below))) (no_tasks n)

    none_waiting : (n k i : ℕ) → waiting k i (replicate n []) ≡ 0
    none_waiting zero k i = refl
    none_waiting (suc n) k i = omega (arith, sum_by-cons (λ tasks. queued k i tasks) [] (replicate n []), none_waiting n k i)
