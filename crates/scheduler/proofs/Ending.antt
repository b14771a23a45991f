-- A room whose simulators have all stopped and are at home.
use Rattle.std.proofs.Common.{◌≡◌, ℕ, zero, suc, ◌+◌, ◌<◌, ◌≤◌, Bool, false, List, [], ◌∷◌, ◌++◌, length, get_or, map, take, drop, Option, Some, None, Result, Ok, Err, IfOk, inl, inr, refl, sym, ap, ◌∙◌, subst, arith}
use Rattle.std.specs.Global.{Vec}
use Rattle.std.specs.Option.{IsSome}
use Rattle.std.specs.List.{slice_get}
use Rattle.std.proofs.lemmas.Bool.{cases_lt}
use Rattle.std.proofs.lemmas.List.{append_assoc, append-nil, get_or-drop, get_or-map, get_or-take, length-drop, length-map, length-take, map-append, take-append-drop}
use Rattle.std.proofs.lemmas.Option.{get_or_from_slice_get, slice_get_read}
use Rattle.room_spec.specs.Rooms.{RoomSpec, fuse_of}
use Rattle.simulator.specs.Sweeps.{SweepState, opening_sweep}
use Rattle.room_core.specs.Calls.{RoomState, has_crashed, sweep_at}
use Rattle.ruled_room.specs.Parts.{GoneFor, KeeperData, RoomName}
use Rattle.ruled_room.specs.declared.room.Gone.{Gone}
use Rattle.ruled_room.specs.declared.room.Gone.TheVariants.{StillOut}
use Rattle.scheduler.specs.declared.rooms.RoomResult.{RoomResult}
use Rattle.ws_history.specs.Reports.{IsReportIn}
use Rattle.ws_history.specs.declared.states.Report.{Report}
use Rattle.scheduler.specs.Results.{AddsRoomRuns, AreRoomRuns, Gathered, GathersMore, HasEnded, IsRoomRun}
use Rattle.scheduler.specs.Tasks.{AreKept, IsKept, away, away_from}
use Rattle.scheduler.proofs.Returning.{away_at, is_home, some_is}

no_some : (o : Option SweepState) → IsSome o → o ≡ None → ⊥
no_some None some none = absurd cc
no_some (Some sweep) some none = absurd cc

-- nobody is still out
pub nobody_out : (keeper : KeeperData) (gone : Gone) (i : ℕ) → ((i : ℕ) → away_from keeper.sweeps i ≡ 0) → gone ≡ StillOut i → GoneFor keeper.sweeps gone → ⊥
nobody_out keeper gone i home is out =
    let first = subst (GoneFor keeper.sweeps) is out in
    no_some (get_or keeper.sweeps i None) (is_home keeper.sweeps i first.0 (home i)) first.1

-- each simulator has ended as its keeper knew
pub each_ended : (room : RoomName) (keeper : KeeperData) (core : RoomState) → keeper.room ≡ room → IsKept keeper → core.spec ≡ room.spec → map Some core.sweeps ≡ keeper.sweeps → core.crashed ≡ keeper.crashed
    → (i : ℕ) → i < room.spec.simulators → HasEnded (fuse_of room.spec.fuses i) room.spec (sweep_at core i) (has_crashed core i)
each_ended room keeper core own kept spec sweeps crashed i below =
    let count : length core.sweeps ≡ room.spec.simulators = sym (length-map core.sweeps (λ (s : SweepState). Some s)) ∙ ap length sweeps ∙ kept.sweeps ∙ ap (λ (r : RoomName). r.spec.simulators) own in
    let at : get_or keeper.sweeps i None ≡ Some (sweep_at core i) = ap (λ (l : List (Option SweepState)). get_or l i None) (sym sweeps) ∙ get_or-map (λ (s : SweepState). Some s) core.sweeps i (opening_sweep core.spec i) None (omega (arith, below, count)) in
    let ended = kept.ended i (sweep_at core i) at in
    let marks : get_or keeper.crashed i false ≡ has_crashed core i = ap (λ (l : List Bool). get_or l i false) (sym crashed) in
    subst (λ (b : Bool). HasEnded (fuse_of room.spec.fuses i) room.spec (sweep_at core i) b) marks
    (subst (λ (r : RoomName). HasEnded (fuse_of r.spec.fuses i) r.spec (sweep_at core i) (get_or keeper.crashed i false)) own ended)

-- ---- the first of all rooms

-- it can be ended, and the others are as before
pub record OneRoom (rest : List RoomName) (room : RoomName) (rest_keepers : List KeeperData) (keeper : KeeperData) : Type 0 where
  pub own : keeper.room ≡ room
  pub kept : IsKept keeper
  pub home : (i : ℕ) → away_from keeper.sweeps i ≡ 0
  pub others : AreKept rest rest_keepers
  pub others_home : (k i : ℕ) → away rest_keepers k i ≡ 0

pub first_room : (rooms rest : List RoomName) (room : RoomName) (keepers rest_keepers : List KeeperData) (keeper : KeeperData) → rooms ≡ room ∷ rest → keepers ≡ keeper ∷ rest_keepers → AreKept rooms keepers → ((k i : ℕ) → away keepers k i ≡ 0)
    → OneRoom rest room rest_keepers keeper
first_room rooms rest room keepers rest_keepers keeper is is_keepers kept home =
    let all = subst (λ (l : List RoomName). AreKept l (keeper ∷ rest_keepers)) is (subst (λ (l : List KeeperData). AreKept rooms l) is_keepers kept) in
    let none : (k i : ℕ) → away (keeper ∷ rest_keepers) k i ≡ 0 = λ k i. ap (λ (l : List KeeperData). away l k i) (sym is_keepers) ∙ home k i in
    let at = all.each 0 keeper (omega arith) in
    record {
      own = some_is keeper.room room (sym at.0);
      kept = at.1;
      home = λ i. none 0 i;
      others = record { count = omega (arith, all.count); each = λ k d below. all.each (suc k) d (omega (arith, below)) };
      others_home = λ k i. none (suc k) i;
    }

-- ---- what was gathered

-- the specs of the rooms that were ended, and of those that are left
pub specs_more : {X : Type 0} (f : X → RoomSpec) (all done : List RoomSpec) (left rest : List X) (x : X) → left ≡ x ∷ rest → all ≡ done ++ map f left → all ≡ (done ++ f x ∷ []) ++ map f rest
specs_more f all done left rest x is so_far = so_far ∙ ap (λ l. done ++ map f l) is ∙ sym (append_assoc done (f x ∷ []) (map f rest))

-- ---- some of the rooms that follow one another

away_past : (keepers : List KeeperData) (k i : ℕ) → length keepers ≤ k → away keepers k i ≡ 0
away_past [] k i past = refl
away_past (keeper ∷ keepers) zero i past = absurd (omega (arith, past))
away_past (keeper ∷ keepers) (suc k) i past = away_past keepers k i (omega (arith, past))

-- the part begins with the m-th of all
abbrev pub IsPart : {X : Type 0} → List X → List X → ℕ → Type 0
IsPart {X} all part m = (m + length part ≤ length all) × ((k : ℕ) (d : X) → k < length part → get_or part k d ≡ get_or all (m + k) d)

pub part_home : (keepers part : List KeeperData) (m : ℕ) → IsPart keepers part m → ((k i : ℕ) → away keepers k i ≡ 0) → (k i : ℕ) → away part k i ≡ 0
part_home keepers [] m is home k i = refl
part_home keepers (first ∷ part) m is home k i = elim (cases_lt k (length (first ∷ part))) [
  | inl below ↦
      let within = is.0 in
      let own = away_at (first ∷ part) k i first below in
      let same = ap (λ (keeper : KeeperData). away_from keeper.sweeps i) (is.1 k first below) in
      let there = away_at keepers (m + k) i first (omega (arith, within, below)) in
      own ∙ same ∙ sym there ∙ home (m + k) i
  | inr past ↦ away_past (first ∷ part) k i (omega (arith, past))
]

pub part_kept : (rooms some_rooms : List RoomName) (keepers some_keepers : List KeeperData) (m : ℕ) → IsPart rooms some_rooms m → IsPart keepers some_keepers m → length some_keepers ≡ length some_rooms → AreKept rooms keepers → AreKept some_rooms some_keepers
part_kept rooms some_rooms keepers some_keepers m are_rooms are_keepers same kept = record {
  count = same;
  each = λ k d below.
      let within = are_keepers.0 in
      let at = kept.each (m + k) d (omega (arith, within, below)) in
      let room : RoomName = (get_or keepers (m + k) d).room in
      let found = get_or_from_slice_get rooms (m + k) room room at.0 in
      let here : slice_get some_rooms k ≡ Some room = slice_get_read some_rooms (length some_rooms) k room refl (omega (arith, below, same)) (sym (are_rooms.1 k room (omega (arith, below, same)) ∙ found)) in
      subst (λ (one : KeeperData). (slice_get some_rooms k ≡ Some one.room) × IsKept one) (sym (are_keepers.1 k d below)) (here, at.1);
}

pub first_part : {X : Type 0} (all : List X) (m : ℕ) → m ≤ length all → IsPart all (take m all) 0
first_part all m within = (
  omega (arith, within, length-take m all),
  λ k d below. let here : k < m = omega (arith, below, length-take m all) in let is : 0 + k ≡ k = omega arith in get_or-take m all k d here ∙ ap (λ (n : ℕ). get_or all n d) (sym is),
)

pub last_part : {X : Type 0} (all : List X) (m : ℕ) → m ≤ length all → IsPart all (drop m all) m
last_part all m within = (omega (arith, within, length-drop m all), λ k d below. get_or-drop m all k d)

pub cut_first : (rooms some_rooms : List RoomName) (keepers some_keepers : List KeeperData) (m : ℕ) → m ≤ length rooms → some_rooms ≡ take m rooms → some_keepers ≡ take m keepers → AreKept rooms keepers → ((k i : ℕ) → away keepers k i ≡ 0)
    → AreKept some_rooms some_keepers × ((k i : ℕ) → away some_keepers k i ≡ 0)
cut_first rooms some_rooms keepers some_keepers m within are_rooms are_keepers kept home =
    let keepers_within : m ≤ length keepers = omega (arith, within, kept.count) in
    let of_rooms = subst (λ (l : List RoomName). IsPart rooms l 0) (sym are_rooms) (first_part rooms m within) in
    let of_keepers = subst (λ (l : List KeeperData). IsPart keepers l 0) (sym are_keepers) (first_part keepers m keepers_within) in
    let same : length some_keepers ≡ length some_rooms = omega (arith, ap length are_rooms, ap length are_keepers, length-take m rooms, length-take m keepers, kept.count) in
    (part_kept rooms some_rooms keepers some_keepers 0 of_rooms of_keepers same kept, part_home keepers some_keepers 0 of_keepers home)

pub cut_last : (rooms some_rooms : List RoomName) (keepers some_keepers : List KeeperData) (m : ℕ) → m ≤ length rooms → some_rooms ≡ drop m rooms → some_keepers ≡ drop m keepers → AreKept rooms keepers → ((k i : ℕ) → away keepers k i ≡ 0)
    → AreKept some_rooms some_keepers × ((k i : ℕ) → away some_keepers k i ≡ 0)
cut_last rooms some_rooms keepers some_keepers m within are_rooms are_keepers kept home =
    let keepers_within : m ≤ length keepers = omega (arith, within, kept.count) in
    let of_rooms = subst (λ (l : List RoomName). IsPart rooms l m) (sym are_rooms) (last_part rooms m within) in
    let of_keepers = subst (λ (l : List KeeperData). IsPart keepers l m) (sym are_keepers) (last_part keepers m keepers_within) in
    let same : length some_keepers ≡ length some_rooms = omega (arith, ap length are_rooms, ap length are_keepers, length-drop m rooms, length-drop m keepers, kept.count) in
    (part_kept rooms some_rooms keepers some_keepers m of_rooms of_keepers same kept, part_home keepers some_keepers m of_keepers home)

pub cut_specs : {X : Type 0} (f : X → RoomSpec) (all first last : List X) (m : ℕ) → first ≡ take m all → last ≡ drop m all → map f all ≡ map f first ++ map f last
cut_specs f all first last m is_first is_last =
    ap (λ l. map f l) (sym (take-append-drop m all) ∙ ap (λ l. l ++ drop m all) (sym is_first) ∙ ap (λ l. first ++ l) (sym is_last)) ∙ map-append f first last

-- the results of both parts
runs_of_both : (specs more : List RoomSpec) (results after : List RoomResult) → AreRoomRuns specs results → AreRoomRuns more after → AreRoomRuns (specs ++ more) (results ++ after)
runs_of_both [] more [] after are are_more = are_more
runs_of_both [] more (result ∷ results) after are are_more = absurd are
runs_of_both (spec ∷ specs) more [] after are are_more = absurd are
runs_of_both (spec ∷ specs) more (result ∷ results) after are are_more = (are.0, runs_of_both specs more results after are.1 are_more)

-- none yet
pub adds_none : (has : Gathered) → AddsRoomRuns [] has has
adds_none has = ([], tt, λ before holds. subst has (sym (append-nil before)) holds)

-- one room more
pub adds_one : (specs : List RoomSpec) (spec : RoomSpec) (core : RoomState) (start before after : Gathered) → ((report : Report) → IsReportIn core report → IsRoomRun spec (record { core = core; report = report }))
    → (report : Report) × IsReportIn core report × GathersMore before (record { core = core; report = report } ∷ []) after → AddsRoomRuns specs start before → AddsRoomRuns (specs ++ spec ∷ []) start after
adds_one specs spec core start before after run added adds =
    let result : RoomResult = record { core = core; report = added.0 } in (
      adds.0 ++ result ∷ [],
      runs_of_both specs (spec ∷ []) adds.0 (result ∷ []) adds.1 (run added.0 added.1, tt),
      λ earlier holds. subst after (append_assoc earlier adds.0 (result ∷ [])) (added.2 (earlier ++ adds.0) (adds.2 earlier holds)),
    )

-- the rooms of two parts
pub adds_both : (all specs more : List RoomSpec) (start before nothing others after : Gathered) → all ≡ specs ++ more → nothing [] → AddsRoomRuns specs start before → AddsRoomRuns more nothing others
    → ((results : List RoomResult) → others results → GathersMore before results after) → AddsRoomRuns all start after
adds_both all specs more start before nothing others after is none first rest added = (
  first.0 ++ rest.0,
  subst (λ (l : List RoomSpec). AreRoomRuns l (first.0 ++ rest.0)) (sym is) (runs_of_both specs more first.0 rest.0 first.1 rest.1),
  λ earlier holds. subst after (append_assoc earlier first.0 rest.0) (added rest.0 (rest.2 [] none) (earlier ++ first.0) (first.2 earlier holds)),
)

-- what was added to an empty list
pub runs_from_none : {E : Type 0} (specs : List RoomSpec) (result : Result (Vec RoomResult) E) (none : Vec RoomResult) → none.items ≡ [] → IfOk result (λ all. AddsRoomRuns specs (λ results. none.items ≡ results) (λ results. all.items ≡ results))
    → IfOk result (λ all. AreRoomRuns specs all.items)
runs_from_none specs (Ok all) none is adds = subst (AreRoomRuns specs) (sym (adds.2 [] is)) adds.1
runs_from_none specs (Err fault) none is adds = tt
