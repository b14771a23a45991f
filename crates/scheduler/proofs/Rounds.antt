-- Lists of tasks, from which a worker takes the first and to which it puts it back.
use Rattle.std.proofs.Common.{◌≡◌, ℕ, zero, suc, ◌+◌, ◌<◌, List, [], ◌∷◌, ◌++◌, get_or, map, Option, Some, sym, ap, ◌∙◌, subst, arith}
use Rattle.std.specs.List.{All, slice_get, sum_by}
use Rattle.std.proofs.lemmas.Option.{get_or_from_slice_get}
use Rattle.room_spec.specs.Rooms.{fuse_of}
use Rattle.ruled_room.specs.Parts.{RoomName, SimulatorData}
use Rattle.ruled_room.specs.declared.stop.Stop.{Stop}
use Rattle.scheduler.specs.Drives.{HasStopped, IsWithinFuse}
use Rattle.std.proofs.lemmas.List.Sums.{sum_by-append, sum_by-cons}
use Rattle.std.proofs.lemmas.List.Elements.{All-append}
use Rattle.scheduler.specs.declared.workers.Task.{Task}
use Rattle.scheduler.specs.declared.workers.Stopped.{Stopped}
use Rattle.scheduler.specs.Tasks.{IsStoppedOf, IsTaskOf, brought, is_here, queued}
use Rattle.scheduler.proofs.Stepwise.{left}

-- a task counts the steps that it may still take, and one more
abbrev pub left_in : Task → ℕ
left_in task = suc (left task.simulator)

abbrev pub left_in_all : List Task → ℕ
left_in_all tasks = sum_by (λ task. left_in task) tasks

-- ---- lists

pub all_head : {X : Type 0} (P : X → Type 0) (x : X) (list : List X) → All P (x ∷ list) → P x
all_head P x list all = all 0 x (omega arith)

pub all_tail : {X : Type 0} (P : X → Type 0) (x : X) (list : List X) → All P (x ∷ list) → All P list
all_tail P x list all k d below = all (suc k) d (omega (arith, below))

pub all_one : {X : Type 0} (P : X → Type 0) (x : X) → P x → All P (x ∷ [])
all_one P x is zero d below = is
all_one P x is (suc k) d below = absurd (omega (arith, below))

pub all_snoc : {X : Type 0} (P : X → Type 0) (list : List X) (x : X) → All P list → P x → All P (list ++ x ∷ [])
all_snoc P list x all is = All-append P list (x ∷ []) all (all_one P x is)

pub sum_snoc : {X : Type 0} (f : X → ℕ) (list : List X) (x : X) → sum_by f (list ++ x ∷ []) ≡ sum_by f list + f x
sum_snoc f list x = omega (arith, sum_by-append f list (x ∷ []), sum_by-cons f x [])

-- ---- a visit

abbrev pub with_simulator : Task → SimulatorData → Task
with_simulator task simulator = record { place = task.place; simulator = simulator; fuse = task.fuse }

-- the room at a task's place is that of its simulator
pub room_at : (rooms : List RoomName) (place : ℕ) (own room d : RoomName) → slice_get rooms place ≡ Some own → room ≡ get_or rooms place d → own ≡ room
room_at rooms place own room d is at = sym (at ∙ get_or_from_slice_get rooms place own d is)

pub first_at : (rooms : List RoomName) (task : Task) (rest tasks : List Task) (room d : RoomName) → tasks ≡ task ∷ rest → All (λ task. IsTaskOf rooms task) tasks → room ≡ get_or rooms task.place d → task.simulator.room ≡ room
first_at rooms task rest tasks room d first all at =
    let here = all_head (λ (t : Task). IsTaskOf rooms t) task rest (subst (λ (l : List Task). All (λ task. IsTaskOf rooms task) l) first all) in
    room_at rooms task.place task.simulator.room room d here.room at

still_task : (rooms : List RoomName) (task : Task) (next : SimulatorData) → IsTaskOf rooms task → next.room ≡ task.simulator.room → next.number ≡ task.simulator.number
    → (IsWithinFuse task.fuse task.simulator.sweep.mind.steps → IsWithinFuse task.fuse next.sweep.mind.steps) → IsTaskOf rooms (with_simulator task next)
still_task rooms task next is room number within = record {
  room = is.room ∙ ap Some (sym room);
  fuse = is.fuse ∙ sym (ap (λ (r : RoomName). fuse_of r.spec.fuses task.simulator.number) room) ∙ sym (ap (λ (i : ℕ). fuse_of next.room.spec.fuses i) number);
  within = within is.within;
}

-- the first task has taken a turn, and waits again
pub record GoesBack (rooms : List RoomName) (tasks after : List Task) : Type 0 where
  pub all : All (λ task. IsTaskOf rooms task) after
  pub same : (k i : ℕ) → queued k i after ≡ queued k i tasks
  pub less : left_in_all after < left_in_all tasks

pub goes_back : (rooms : List RoomName) (task : Task) (rest tasks after : List Task) (next : SimulatorData) → tasks ≡ task ∷ rest → after ≡ rest ++ with_simulator task next ∷ [] → All (λ task. IsTaskOf rooms task) tasks
    → next.room ≡ task.simulator.room → next.number ≡ task.simulator.number → (IsWithinFuse task.fuse task.simulator.sweep.mind.steps → IsWithinFuse task.fuse next.sweep.mind.steps) → left next < left task.simulator
    → GoesBack rooms tasks after
goes_back rooms task rest tasks after next first last all room number within less =
    let each : All (λ task. IsTaskOf rooms task) (task ∷ rest) = subst (λ (l : List Task). All (λ task. IsTaskOf rooms task) l) first all in
    let here = all_head (λ (t : Task). IsTaskOf rooms t) task rest each in
    let more = all_tail (λ (t : Task). IsTaskOf rooms t) task rest each in
    record {
      all = subst (λ (l : List Task). All (λ task. IsTaskOf rooms task) l) (sym last) (all_snoc (λ (t : Task). IsTaskOf rooms t) rest (with_simulator task next) more (still_task rooms task next here room number within));
      same = λ k i.
          let f : Task → ℕ = λ t. is_here k i t.place t.simulator.number in
          let one : f (with_simulator task next) ≡ f task = ap (λ (n : ℕ). is_here k i task.place n) number in
          omega (arith, ap (λ (l : List Task). sum_by f l) last, ap (λ (l : List Task). sum_by f l) first, sum_snoc f rest (with_simulator task next), sum_by-cons f task rest, one);
      less =
          let f : Task → ℕ = λ t. left_in t in
          omega (arith, ap (λ (l : List Task). sum_by f l) last, ap (λ (l : List Task). sum_by f l) first, sum_snoc f rest (with_simulator task next), sum_by-cons f task rest, less);
    }

-- it has stopped, and is done
pub record IsDone (rooms : List RoomName) (tasks rest : List Task) (before after : List Stopped) : Type 0 where
  pub all : All (λ task. IsTaskOf rooms task) rest
  pub stopped : All (λ one. IsStoppedOf rooms one) after
  pub same : (k i : ℕ) → brought k i after + queued k i rest ≡ brought k i before + queued k i tasks

pub is_done : (rooms : List RoomName) (task : Task) (rest tasks : List Task) (before after : List Stopped) (one : Stopped) (next : SimulatorData) (stop : Stop) → tasks ≡ task ∷ rest → after ≡ before ++ one ∷ [] → All (λ task. IsTaskOf rooms task) tasks → All (λ one. IsStoppedOf rooms one) before
    → one.place ≡ task.place → one.simulator ≡ next → one.stop ≡ stop
    → next.room ≡ task.simulator.room → next.number ≡ task.simulator.number → (IsWithinFuse task.fuse task.simulator.sweep.mind.steps → IsWithinFuse task.fuse next.sweep.mind.steps) → HasStopped task.fuse task.simulator.room.spec stop next.sweep
    → IsDone rooms tasks rest before after
is_done rooms task rest tasks before after one next stop first last all done place simulator is_stop room number within stops =
    let each : All (λ task. IsTaskOf rooms task) (task ∷ rest) = subst (λ (l : List Task). All (λ task. IsTaskOf rooms task) l) first all in
    let here = all_head (λ (t : Task). IsTaskOf rooms t) task rest each in
    let more = all_tail (λ (t : Task). IsTaskOf rooms t) task rest each in
    let still = still_task rooms task next here room number within in
    let ended : Stopped = record { place = task.place; simulator = next; stop = stop } in
    let by_room : HasStopped task.fuse next.room.spec stop next.sweep = subst (λ (r : RoomName). HasStopped task.fuse r.spec stop next.sweep) (sym room) stops in
    let is_of : IsStoppedOf rooms ended = record {
      room = still.room;
      stops = subst (λ (f : Option ℕ). HasStopped f next.room.spec stop next.sweep) still.fuse by_room;
      within = subst (λ (f : Option ℕ). IsWithinFuse f next.sweep.mind.steps) still.fuse still.within;
    } in
    let is : one ≡ ended = λ p. record { place = place p; simulator = simulator p; stop = is_stop p } in
    record {
      all = more;
      stopped = subst (λ (l : List Stopped). All (λ one. IsStoppedOf rooms one) l) (sym last) (all_snoc (λ (o : Stopped). IsStoppedOf rooms o) before one done (subst (IsStoppedOf rooms) (sym is) is_of));
      same = λ k i.
          let f : Task → ℕ = λ t. is_here k i t.place t.simulator.number in
          let h : Stopped → ℕ = λ o. is_here k i o.place o.simulator.number in
          let one_is : h one ≡ f task = ap h is ∙ ap (λ (n : ℕ). is_here k i task.place n) number in
          omega (arith, ap (λ (l : List Stopped). sum_by h l) last, ap (λ (l : List Task). sum_by f l) first, sum_snoc h before one, sum_by-cons f task rest, one_is);
    }

-- ---- the queues of all workers

pub all_cons : {X : Type 0} (P : X → Type 0) (x : X) (list : List X) → P x → All P list → All P (x ∷ list)
all_cons P x list is all zero d below = is
all_cons P x list is all (suc k) d below = all k d (omega (arith, below))

-- all but the last of a list that is read through a function, and the last
pub all_init : {X Y : Type 0} (P : Y → Type 0) (f : X → Y) (list : List X) (x : X) → All P (map f (list ++ x ∷ [])) → All P (map f list)
all_init P f [] x all = λ k d below. absurd (omega (arith, below))
all_init P f (y ∷ list) x all = all_cons P (f y) (map f list) (all_head P (f y) (map f (list ++ x ∷ [])) all) (all_init P f list x (all_tail P (f y) (map f (list ++ x ∷ [])) all))

pub all_last : {X Y : Type 0} (P : Y → Type 0) (f : X → Y) (list : List X) (x : X) → All P (map f (list ++ x ∷ [])) → P (f x)
all_last P f [] x all = all_head P (f x) [] all
all_last P f (y ∷ list) x all = all_last P f list x (all_tail P (f y) (map f (list ++ x ∷ [])) all)
