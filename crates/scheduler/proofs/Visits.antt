-- A worker's round: each of its simulators takes a turn, and those that go on are put first.
use Rattle.std.proofs.Common.{◌≡◌, ◌≢◌, ℕ, ◌+◌, ◌<◌, ◌≤◌, Bool, true, List, [], ◌∷◌, ◌++◌, length, length-append, map, set, get_or, Option, Some, refl, sym, ap, ◌∙◌, subst, arith, inl, inr}
use Rattle.std.specs.List.{All, SwappedAt, sum_by}
use Rattle.std.specs.List.Sorted.{IsPermutation}
use Rattle.std.specs.Option.{IsSome}
use Rattle.std.proofs.lemmas.Bool.{cases_eq}
use Rattle.std.proofs.lemmas.List.{get_or_append_left, get_or-set_same, get_or-set_other, length-set}
use Rattle.std.proofs.lemmas.List.Elements.{All-set}
use Rattle.std.proofs.lemmas.List.Sorted.{All-permutation, length_permutation, sum_by-IsPermutation}
use Rattle.std.proofs.lemmas.List.Sums.{sum_by-append, sum_by-cons, sum_by-set}
use Rattle.ruled_room.specs.Parts.{RoomName}
use Rattle.ruled_room.specs.declared.stop.Stop.{Stop}
use Rattle.scheduler.specs.declared.workers.Stopped.{Stopped}
use Rattle.scheduler.specs.declared.visiting.Visited.{Visited}
use Rattle.scheduler.specs.declared.workers.Task.{Task}
use Rattle.scheduler.specs.Tasks.{AreStoppedFrom, IsStoppedOf, IsTaskOf, IsVisitedBy, IsVisitedOf, brought, is_here, left_by, left_in_all, one_if, queued, to_visit, visited}
use Rattle.scheduler.proofs.Rounds.{all_cons, all_head, all_snoc, all_tail, sum_snoc}

-- ---- before the first round

all_from_visit : (rooms : List RoomName) (tasks : List Task) → All (λ one. IsVisitedOf rooms one) (map to_visit tasks) → All (λ task. IsTaskOf rooms task) tasks
all_from_visit rooms [] all = λ k d below. absurd (omega (arith, below))
all_from_visit rooms (task ∷ tasks) all =
    all_cons (λ (t : Task). IsTaskOf rooms t) task tasks (all_head (λ (one : Visited). IsVisitedOf rooms one) (to_visit task) (map to_visit tasks) all) (all_from_visit rooms tasks (all_tail (λ (one : Visited). IsVisitedOf rooms one) (to_visit task) (map to_visit tasks) all))

all_to_visit : (rooms : List RoomName) (tasks : List Task) → All (λ task. IsTaskOf rooms task) tasks → All (λ one. IsVisitedOf rooms one) (map to_visit tasks)
all_to_visit rooms [] all = λ k d below. absurd (omega (arith, below))
all_to_visit rooms (task ∷ tasks) all =
    all_cons (λ (one : Visited). IsVisitedOf rooms one) (to_visit task) (map to_visit tasks) (all_head (λ (t : Task). IsTaskOf rooms t) task tasks all) (all_to_visit rooms tasks (all_tail (λ (t : Task). IsTaskOf rooms t) task tasks all))

visited_to_visit : (k i : ℕ) (tasks : List Task) → visited k i (map to_visit tasks) ≡ queued k i tasks
visited_to_visit k i [] = refl
visited_to_visit k i (task ∷ tasks) =
    let f : Visited → ℕ = λ one. is_here k i one.task.place one.task.simulator.number in
    let h : Task → ℕ = λ t. is_here k i t.place t.simulator.number in
    omega (arith, sum_by-cons f (to_visit task) (map to_visit tasks), sum_by-cons h task tasks, visited_to_visit k i tasks)

all_first : (rooms : List RoomName) (first later : List Visited) → All (λ one. IsVisitedOf rooms one) (first ++ later) → All (λ one. IsVisitedOf rooms one) first
all_first rooms [] later all = λ k d below. absurd (omega (arith, below))
all_first rooms (one ∷ first) later all =
    all_cons (λ (v : Visited). IsVisitedOf rooms v) one first (all_head (λ (v : Visited). IsVisitedOf rooms v) one (first ++ later) all) (all_first rooms first later (all_tail (λ (v : Visited). IsVisitedOf rooms v) one (first ++ later) all))

all_later : (rooms : List RoomName) (first later : List Visited) → All (λ one. IsVisitedOf rooms one) (first ++ later) → All (λ one. IsVisitedOf rooms one) later
all_later rooms [] later all = all
all_later rooms (one ∷ first) later all = all_later rooms first later (all_tail (λ (v : Visited). IsVisitedOf rooms v) one (first ++ later) all)

-- some tasks were taken off the front, to be visited
pub record AreTaken (rooms : List RoomName) (tasks left : List Task) (all : List Visited) : Type 0 where
  pub every : All (λ one. IsVisitedOf rooms one) all
  pub rest : All (λ task. IsTaskOf rooms task) left
  pub same : (k i : ℕ) → visited k i all + queued k i left ≡ queued k i tasks

pub are_taken : (rooms : List RoomName) (tasks left : List Task) (all : List Visited) → all ++ map to_visit left ≡ map to_visit tasks → All (λ task. IsTaskOf rooms task) tasks → AreTaken rooms tasks left all
are_taken rooms tasks left all taken each =
    let both : All (λ one. IsVisitedOf rooms one) (all ++ map to_visit left) = subst (λ (l : List Visited). All (λ one. IsVisitedOf rooms one) l) (sym taken) (all_to_visit rooms tasks each) in
    record {
      every = all_first rooms all (map to_visit left) both;
      rest = all_from_visit rooms left (all_later rooms all (map to_visit left) both);
      same = λ k i.
          let f : Visited → ℕ = λ one. is_here k i one.task.place one.task.simulator.number in
          omega (arith, sum_by-append f all (map to_visit left), ap (λ (l : List Visited). sum_by f l) taken, visited_to_visit k i left, visited_to_visit k i tasks);
    }

-- ---- in the midst of a round

-- Those before `at` have been visited, and the first `kept` go on; of those from there on all but the ones still to be visited have stopped.
pub record IsGone (rooms : List RoomName) (going : ℕ) (before all : List Visited) (kept at : ℕ) : Type 0 where
  pub every : All (λ one. IsVisitedOf rooms one) all
  pub long : length all ≡ length before
  pub less_kept : kept ≤ at
  pub same : (k i : ℕ) → visited k i all ≡ visited k i before
  pub less : left_in_all all + kept ≤ left_in_all before
  pub stopped : (p : ℕ) (d : Visited) → kept ≤ p → p < length all → (at ≤ p → going ≤ p) → IsSome (get_or all p d).stop

module _ (rooms : List RoomName) (going : ℕ) (before all after : List Visited) (kept at : ℕ) (d new : Visited) (goes : Bool)
    (is : IsGone rooms going before all kept at) (below : at < length all) (after_is : after ≡ set all at new)
    (new_is : IsVisitedOf rooms new) (place : new.task.place ≡ (get_or all at d).task.place) (number : new.task.simulator.number ≡ (get_or all at d).task.simulator.number)
    (less : left_by new.task new.stop + one_if goes ≤ left_by (get_or all at d).task (get_or all at d).stop) where
  long : length after ≡ length all
  long = ap (λ (l : List Visited). length l) after_is ∙ length-set all at new

  every : All (λ one. IsVisitedOf rooms one) after
  every = subst (λ (l : List Visited). All (λ one. IsVisitedOf rooms one) l) (sym after_is) (All-set (λ (one : Visited). IsVisitedOf rooms one) all at new new_is is.every)

  same : (k i : ℕ) → visited k i after ≡ visited k i before
  same k i =
      let f : Visited → ℕ = λ one. is_here k i one.task.place one.task.simulator.number in
      let one_is : f new ≡ f (get_or all at d) = ap (λ (p : ℕ). is_here k i p new.task.simulator.number) place ∙ ap (λ (n : ℕ). is_here k i (get_or all at d).task.place n) number in
      omega (arith, ap (λ (l : List Visited). sum_by f l) after_is, sum_by-set f all at new d below, one_is, is.same k i)

  fewer : left_in_all after + one_if goes ≤ left_in_all all
  fewer =
      let f : Visited → ℕ = λ one. left_by one.task one.stop in
      omega (arith, ap (λ (l : List Visited). sum_by f l) after_is, sum_by-set f all at new d below, less)

  elsewhere : (p : ℕ) (x : Visited) → p ≢ at → get_or after p x ≡ get_or all p x
  elsewhere p x other = ap (λ (l : List Visited). get_or l p x) after_is ∙ get_or-set_other all at p new x other

  here : (x : Visited) → get_or after at x ≡ new
  here x = ap (λ (l : List Visited). get_or l at x) after_is ∙ get_or-set_same all at new x below

  -- it has stopped
  pub stops : IsSome new.stop → IsGone rooms going before after kept (at + 1)
  stops stop = record {
    every = every;
    long = long ∙ is.long;
    less_kept = omega (arith, is.less_kept);
    same = same;
    less = omega (arith, fewer, is.less);
    stopped = λ p x from within later. elim (cases_eq p at) [
      | inl is_at ↦ subst (λ (q : ℕ). IsSome (get_or after q x).stop) (sym is_at) (subst (λ (one : Visited). IsSome one.stop) (sym (here x)) stop)
      | inr other ↦ subst (λ (one : Visited). IsSome one.stop) (sym (elsewhere p x other)) (is.stopped p x from (omega (arith, within, long)) (λ early. later (omega (arith, early, other))))
    ];
  }

  -- it goes on, and is put behind the others that do
  pub goes_on : (last : List Visited) → IsPermutation after last → SwappedAt after last kept at → goes ≡ true → IsGone rooms going before last (kept + 1) (at + 1)
  goes_on last moved swapped on =
      let length_is : length last ≡ length after = length_permutation after last moved in
      record {
        every = All-permutation (λ (one : Visited). IsVisitedOf rooms one) after last moved every;
        long = length_is ∙ long ∙ is.long;
        less_kept = omega (arith, is.less_kept);
        same = λ k i. sum_by-IsPermutation (λ (one : Visited). is_here k i one.task.place one.task.simulator.number) after last moved ∙ same k i;
        less = omega (arith, sum_by-IsPermutation (λ (one : Visited). left_by one.task one.stop) after last moved, subst (λ (b : Bool). left_in_all after + one_if b ≤ left_in_all all) on fewer, is.less);
        stopped = λ p x from within later. elim (cases_eq p at) [
          | inl is_at ↦
              let apart : kept ≢ at = λ same_place. omega (arith, from, is_at, same_place) in
              subst (λ (q : ℕ). IsSome (get_or last q x).stop) (sym is_at) (subst (λ (one : Visited). IsSome one.stop) (sym (swapped.1 x ∙ elsewhere kept x apart)) (is.stopped kept x (omega arith) (omega (arith, is.less_kept, below)) (λ late. absurd (omega (arith, late, from, is_at)))))
          | inr other ↦
              let apart : p ≢ kept = λ same_place. omega (arith, from, same_place) in
              subst (λ (one : Visited). IsSome one.stop) (sym (swapped.2 p x apart other ∙ elsewhere p x other)) (is.stopped p x (omega (arith, from)) (omega (arith, within, length_is, long)) (λ early. later (omega (arith, early, other))))
        ];
      }

-- ---- after the last round

all_end : (rooms : List RoomName) (one : Visited) (rest : List Visited) → All (λ v. IsVisitedOf rooms v) (rest ++ one ∷ []) → IsVisitedOf rooms one
all_end rooms one [] all = all_head (λ (v : Visited). IsVisitedOf rooms v) one [] all
all_end rooms one (first ∷ rest) all = all_end rooms one rest (all_tail (λ (v : Visited). IsVisitedOf rooms v) first (rest ++ one ∷ []) all)

pub record IsLast (rest all : List Visited) (before after : List Stopped) : Type 0 where
  pub stopped : AreStoppedFrom 0 all → AreStoppedFrom 0 rest
  pub every : (rooms : List RoomName) → All (λ one. IsVisitedOf rooms one) all → All (λ one. IsVisitedOf rooms one) rest
  pub done : (rooms : List RoomName) → All (λ one. IsVisitedOf rooms one) all → All (λ one. IsStoppedOf rooms one) before → All (λ one. IsStoppedOf rooms one) after
  pub same : (k i : ℕ) → brought k i after + visited k i rest ≡ brought k i before + visited k i all

pub last_stopped : (one : Visited) (ended : Stopped) (stop : Stop) (rest all : List Visited) (before after : List Stopped) → all ≡ rest ++ one ∷ [] → one.stop ≡ Some stop
    → ended.place ≡ one.task.place → ended.simulator ≡ one.task.simulator → ended.stop ≡ stop → after ≡ before ++ ended ∷ [] → IsLast rest all before after
last_stopped one ended stop rest all before after all_is stop_is place simulator same_stop after_is =
    let long : length all ≡ length rest + 1 = ap (λ (l : List Visited). length l) all_is ∙ length-append rest (one ∷ []) in
    let made : Stopped = record { place = one.task.place; simulator = one.task.simulator; stop = stop } in
    let is : ended ≡ made = λ p. record { place = place p; simulator = simulator p; stop = same_stop p } in
    record {
      stopped = λ each p d from within. subst (λ (v : Visited). IsSome v.stop) (ap (λ (l : List Visited). get_or l p d) all_is ∙ get_or_append_left rest (one ∷ []) d p within) (each p d from (omega (arith, within, long)));
      every = λ rooms each k d below. subst (λ (v : Visited). IsVisitedOf rooms v) (ap (λ (l : List Visited). get_or l k d) all_is ∙ get_or_append_left rest (one ∷ []) d k below) (each k d (omega (arith, below, long)));
      done = λ rooms each earlier.
          let own : IsVisitedOf rooms one = all_end rooms one rest (subst (λ (l : List Visited). All (λ v. IsVisitedOf rooms v) l) all_is each) in
          let stopped : IsStoppedOf rooms made = subst (λ (s : Option Stop). IsVisitedBy rooms one.task s) stop_is own in
          subst (λ (l : List Stopped). All (λ o. IsStoppedOf rooms o) l) (sym after_is) (all_snoc (λ (o : Stopped). IsStoppedOf rooms o) before ended earlier (subst (IsStoppedOf rooms) (sym is) stopped));
      same = λ k i.
          let f : Visited → ℕ = λ v. is_here k i v.task.place v.task.simulator.number in
          let h : Stopped → ℕ = λ o. is_here k i o.place o.simulator.number in
          let one_is : h ended ≡ f one = ap h is in
          omega (arith, ap (λ (l : List Stopped). sum_by h l) after_is, ap (λ (l : List Visited). sum_by f l) all_is, sum_snoc h before ended, sum_snoc f rest one, one_is);
    }
