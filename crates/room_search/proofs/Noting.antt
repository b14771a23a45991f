-- One room more is run, and one node more is taken.
use Rattle.std.proofs.Common.{◌≡◌, inl, inr, ℕ, zero, suc, ◌+◌, ◌<◌, ◌≤◌, Bool, true, false, cond, List, ◌∷◌, length, filter, get_or, Some, refl, sym, ap, ◌∙◌, subst, arith}
use Rattle.std.specs.Prelude.{slice_get}
use Rattle.std.specs.List.{range_with_len}
use Rattle.std.proofs.lemmas.Bool.{true≢false}
use Rattle.std.proofs.lemmas.Option.{get_or_from_slice_get, slice_get-get_or}
use Rattle.room_spec.specs.Rooms.{IsWithinLimits, RoomSpec, processes}
use Rattle.room_core.specs.Calls.{RoomState}
use Rattle.room_core.specs.Fields.{Fields}
use Rattle.room_core.specs.Reading.{AreFieldsOf}
use Rattle.room_core.specs.Rooms.{Configuration}
use Rattle.ws_history.specs.Reports.{report_of, states_of}
use Rattle.ws_history.specs.declared.states.ProcessState.{ProcessState}
use Rattle.room_outcomes.specs.Ends.{IsRoomOutcome, ends_of}
use Rattle.room_outcomes.proofs.CallerLemmas.{reported_room_outcome}
use Rattle.room_sample.specs.Schedules.{IsSchedule, crashes_in}
use Rattle.room_sample.specs.declared.stretch.Stretch.{Stretch}
use Rattle.run_search.specs.declared.ended.Ended.{Ended}
use Rattle.room_search.specs.declared.choice.Choice.{Choice}
use Rattle.room_search.specs.declared.local.Local.{Local}
use Rattle.room_search.specs.declared.reached.Reached.{Reached}
use Rattle.room_search.specs.Beginnings.{crash_count}
use Rattle.room_search.specs.Ends.{DoEnd, ends_by}
use Rattle.room_search.specs.Nodes.{MayBe, Node, set_of}
use Rattle.room_search.specs.Reaching.{IsFound, IsReachedFrom, settled_from}
use Rattle.room_search.specs.Saying.{DoSay}
use Rattle.room_search.specs.Taking.{AreFoundFrom, HaveCrashed, Includes, IsChosen, IsNoChoice, IsSettledFrom, IsTaken, MayEnd, MayBeIn, MustHaveCrashed, crashed_from, one_if}
use Rattle.room_search.proofs.Going.{settled_spec}

-- ---- a room that was run

abbrev pub IsRead : RoomState → List ProcessState → Type 0
IsRead room states = (fields : Fields) → AreFieldsOf room fields → states ≡ states_of room.spec fields

pub room_reached : (start : RoomState) (crashes : ℕ) (room : RoomState) (one other : Reached) → IsSettledFrom start crashes one.schedule.items room → IsRead room one.states.items → other.states ≡ one.states → other.schedule ≡ one.schedule → IsReachedFrom start crashes other
room_reached start crashes room one other settled read states schedule = record {
  may_come = subst (λ s. IsSchedule start s.items) (sym schedule) settled.may_come;
  few = subst (λ s. crash_count start + crashes_in s.items ≤ crashes) (sym schedule) settled.few;
  reported = subst (λ s. (fields : Fields) → AreFieldsOf (settled_from start s.items) fields → other.states.items ≡ (report_of (settled_from start s.items).spec fields).states.items) (sym schedule)
      (subst (λ s. (fields : Fields) → AreFieldsOf (settled_from start one.schedule.items) fields → s.items ≡ (report_of (settled_from start one.schedule.items).spec fields).states.items) (sym states)
      (subst (λ (r : RoomState). (fields : Fields) → AreFieldsOf r fields → one.states.items ≡ (report_of r.spec fields).states.items) settled.room_is read));
}

-- the room has the spec of the start
pub spec_from : (spec : RoomSpec) (start : RoomState) (crashes : ℕ) (schedule : List Stretch) (room : RoomState) → start.spec ≡ spec → IsSettledFrom start crashes schedule room → room.spec ≡ spec
spec_from spec start crashes schedule room same settled = ap (λ (r : RoomState). r.spec) settled.room_is ∙ settled_spec start schedule ∙ same

-- its outcome is one of a run of the protocol
pub room_among : (spec : RoomSpec) (room : RoomState) (fields : Fields) (states : List ProcessState) → IsWithinLimits spec → room.spec ≡ spec → AreFieldsOf room fields → IsRead room states → IsRoomOutcome spec (processes spec) (ends_of states)
room_among spec room fields states limits same are read =
    subst (IsRoomOutcome spec (processes spec)) (ap ends_of (sym (read fields are)))
    (subst (λ (s : RoomSpec). IsRoomOutcome s (processes s) (ends_of (states_of room.spec fields))) same (reported_room_outcome room fields (subst IsWithinLimits (sym same) limits) are))

-- ---- a node that is taken

pub found_grown : (old new : List Reached) (outcome : List Ended) → Includes old new → IsFound old outcome → IsFound new outcome
found_grown old new outcome grown found = (found.0, grown found.0 found.1, found.2)

pub from_grown : (spec : RoomSpec) (start : Configuration) (table : List Local) (old new : List Reached) (node : Node) (first count crashes : ℕ) (said : List ℕ) → Includes old new → AreFoundFrom spec start table old node first count crashes said → AreFoundFrom spec start table new node first count crashes said
from_grown spec start table old new node first count crashes said grown found crashed words few says more may = found_grown old new (ends_by spec words) grown (found crashed words few says more may)

pub taken_grown : (spec : RoomSpec) (start : Configuration) (crashes : ℕ) (table : List Local) (old new : List Reached) (node : Node) → Includes old new → IsTaken spec start crashes table old node → IsTaken spec start crashes table new node
taken_grown spec start crashes table old new node grown taken = from_grown spec start table old new node 0 spec.simulators crashes node.said grown taken

-- ---- one simulator after the other

-- the outcomes of the rooms in which the next simulator is in this local state
abbrev pub AreFoundAt : RoomSpec → Configuration → List Local → List Reached → Node → ℕ → ℕ → ℕ → List ℕ → ℕ → Type 0
AreFoundAt spec start table outcomes node first count crashes said number =
    (local : Local) → slice_get table number ≡ Some local → (crashed : ℕ → Bool) (words : List ℕ) → crashed_from crashed first (suc count) ≤ crashes → MayBeIn spec start node first local (crashed first) words → DoSay said words
    → ((i : ℕ) → first + 1 ≤ i → i < first + 1 + count → MayEnd spec start table node i (crashed i) words) → IsFound outcomes (ends_by spec words)

pub at_grown : (spec : RoomSpec) (start : Configuration) (table : List Local) (old new : List Reached) (node : Node) (first count crashes : ℕ) (said : List ℕ) (number : ℕ) → Includes old new → AreFoundAt spec start table old node first count crashes said number → AreFoundAt spec start table new node first count crashes said number
at_grown spec start table old new node first count crashes said number grown found local is crashed words few may_be says may = found_grown old new (ends_by spec words) grown (found local is crashed words few may_be says may)

pub crashed_more : (crashed : ℕ → Bool) (first count : ℕ) → crashed_from crashed first (suc count) ≡ one_if (crashed first) + crashed_from crashed (first + 1) count
crashed_more crashed first count = by (crashed first) refl
  where
    by : (b : Bool) → crashed first ≡ b → crashed_from crashed first (suc count) ≡ one_if b + crashed_from crashed (first + 1) count
    by true is = ap (λ (b : Bool). length (cond b (first ∷ filter crashed (range_with_len (first + 1) count)) (filter crashed (range_with_len (first + 1) count)))) is ∙ omega arith
    by false is = ap (λ (b : Bool). length (cond b (first ∷ filter crashed (range_with_len (first + 1) count)) (filter crashed (range_with_len (first + 1) count)))) is ∙ omega arith

pub must_crash : (spec : RoomSpec) (start : Configuration) (node : Node) (i : ℕ) (local : Local) → MustHaveCrashed spec start node i local → (crashed : Bool) (words : List ℕ) → MayBeIn spec start node i local crashed words → 1 ≤ one_if crashed
must_crash spec start node i local why true words may_be = omega arith
must_crash spec start node i local why false words may_be = elim why [
  | inl had ↦ absurd (true≢false (sym (may_be.had had)))
  | inr never ↦ absurd (never words may_be.says (may_be.rests refl))
]

pub left_chosen : (spec : RoomSpec) (start : Configuration) (node : Node) (i : ℕ) (local : Local) (rests : Bool) (old new : ℕ) → (rests ≡ false → MustHaveCrashed spec start node i local) → old ≤ new + 1 → (rests ≡ true → new ≡ old)
    → (crashed : Bool) (words : List ℕ) → MayBeIn spec start node i local crashed words → old ≤ new + one_if crashed
left_chosen spec start node i local true old new why few same crashed words may_be = let is = same refl in omega (arith, is)
left_chosen spec start node i local false old new why few same crashed words may_be = let must = must_crash spec start node i local (why refl) crashed words may_be in omega (arith, few, must)

-- it is there, and the others come after it
pub at_chosen : (spec : RoomSpec) (start : Configuration) (table : List Local) (outcomes : List Reached) (node : Node) (number count : ℕ) (choice next : Choice) → ((local : Local) → slice_get table number ≡ Some local → IsChosen spec start node local choice next)
    → AreFoundFrom spec start table outcomes node (length choice.numbers.items + 1) count next.left next.said.items → AreFoundAt spec start table outcomes node (length choice.numbers.items) count choice.left choice.said.items number
at_chosen spec start table outcomes node number count choice next chosen found local is crashed words few may_be says may =
    let first = length choice.numbers.items in
    let here = chosen local is in
    let left = here.left (crashed first) words may_be in
    let more = crashed_more crashed first count in
    found crashed words (omega (arith, few, more, left)) may_be.says (here.says words says may_be.own) may

-- it can't be there
pub at_none : (spec : RoomSpec) (start : Configuration) (table : List Local) (outcomes : List Reached) (node : Node) (number count : ℕ) (choice : Choice) → ((local : Local) → slice_get table number ≡ Some local → IsNoChoice spec start node local choice)
    → AreFoundAt spec start table outcomes node (length choice.numbers.items) count choice.left choice.said.items number
at_none spec start table outcomes node number count choice none local is crashed words few may_be says may =
    let first = length choice.numbers.items in
    let over = none local is (crashed first) words may_be in
    let more = crashed_more crashed first count in
    absurd (omega (arith, few, more, over))

-- wherever it is
pub from_each : (spec : RoomSpec) (start : Configuration) (table : List Local) (outcomes : List Reached) (node : Node) (first count crashes : ℕ) (said : List ℕ) → ((place : ℕ) → place < length (set_of node first) → AreFoundAt spec start table outcomes node first count crashes said (get_or (set_of node first) place 0))
    → AreFoundFrom spec start table outcomes node first (suc count) crashes said
from_each spec start table outcomes node first count crashes said each crashed words few says more may =
    let here : MayEnd spec start table node first (crashed first) words = may first (omega arith) (omega arith) in
    let there = here.may.there in
    let number_is : get_or (set_of node first) there.0 0 ≡ here.may.number = get_or_from_slice_get (set_of node first) there.0 here.may.number 0 (slice_get-get_or (set_of node first) there.0 here.may.number there.1 ∙ ap Some there.2) in
    each there.0 there.1 here.local (ap (slice_get table) number_is ∙ here.may.is) crashed words few (record { says = says; own = here.own; rests = here.rests; had = here.had }) more
    (λ i low high. may i (omega (arith, low)) (omega (arith, high)))

-- however many come after it
pub from_all : (spec : RoomSpec) (start : Configuration) (table : List Local) (outcomes : List Reached) (node : Node) (first count crashes : ℕ) (said : List ℕ) → (count ≡ 0 → ⊥)
    → ((rest : ℕ) → count ≡ suc rest → (place : ℕ) → place < length (set_of node first) → AreFoundAt spec start table outcomes node first rest crashes said (get_or (set_of node first) place 0)) → AreFoundFrom spec start table outcomes node first count crashes said
from_all spec start table outcomes node first zero crashes said some each = absurd (some refl)
from_all spec start table outcomes node first (suc rest) crashes said some each = from_each spec start table outcomes node first rest crashes said (each rest refl)

-- all are there
pub from_none : (spec : RoomSpec) (start : Configuration) (table : List Local) (outcomes : List Reached) (node : Node) (first crashes : ℕ) (said : List ℕ) → ((words : List ℕ) → DoSay said words → IsFound outcomes (ends_by spec words)) → AreFoundFrom spec start table outcomes node first 0 crashes said
from_none spec start table outcomes node first crashes said found crashed words few says more may = found words more

-- what is said says how the processes end, and that is found
pub found_said : (spec : RoomSpec) (outcomes : List Reached) (said : List ℕ) (ends : List Ended) → DoEnd spec said ends → IsFound outcomes ends → (words : List ℕ) → DoSay said words → IsFound outcomes (ends_by spec words)
found_said spec outcomes said ends end found words says = (found.0, found.1, end words says ∙ found.2)

-- ---- who has crashed

-- counted from the first on
crashed_last : (crashed : ℕ → Bool) (first count : ℕ) → crashed_from crashed first (suc count) ≡ crashed_from crashed first count + one_if (crashed (first + count))
crashed_last crashed first zero =
    let more = crashed_more crashed first 0 in
    let at : one_if (crashed (first + 0)) ≡ one_if (crashed first) = ap (λ (k : ℕ). one_if (crashed k)) (let same : first + 0 ≡ first = omega arith in same) in
    omega (arith, more, at)
crashed_last crashed first (suc count) =
    let more = crashed_more crashed first (suc count) in
    let rest = crashed_last crashed (first + 1) count in
    let here = crashed_more crashed first count in
    let at : one_if (crashed (first + 1 + count)) ≡ one_if (crashed (first + suc count)) = ap (λ (k : ℕ). one_if (crashed k)) (let same : first + 1 + count ≡ first + suc count = omega arith in same) in
    omega (arith, more, rest, here, at)

-- one simulator more
pub have_crashed_more : (spec : RoomSpec) (start : Configuration) (table : List Local) (node : Node) (i least one : ℕ) (is_alive : Bool) → (is_alive ≡ false → (local : Local) → MayBe table node i local → MustHaveCrashed spec start node i local) → (is_alive ≡ true → one ≡ 0) → one ≤ 1
    → HaveCrashed spec start table node i least → HaveCrashed spec start table node (i + 1) (least + one)
have_crashed_more spec start table node i least one is_alive must none few before crashed words says may =
    let was = before crashed words says (λ k below. may k (omega (arith, below))) in
    let here : MayEnd spec start table node i (crashed i) words = may i (omega arith) in
    let may_be : MayBeIn spec start node i here.local (crashed i) words = record { says = says; own = here.own; rests = here.rests; had = here.had } in
    let last = crashed_last crashed 0 i in
    let place : one_if (crashed (0 + i)) ≡ one_if (crashed i) = ap (λ (k : ℕ). one_if (crashed k)) (let same : 0 + i ≡ i = omega arith in same) in
    let next : crashed_from crashed 0 (suc i) ≡ crashed_from crashed 0 (i + 1) = ap (crashed_from crashed 0) (let same : suc i ≡ i + 1 = omega arith in same) in
    let charged : one ≤ one_if (crashed i) = by is_alive refl here.local here.may may_be in
    omega (arith, was, last, place, next, charged)
  where
    by : (b : Bool) → is_alive ≡ b → (local : Local) → MayBe table node i local → MayBeIn spec start node i local (crashed i) words → one ≤ one_if (crashed i)
    by true is local there may_be = let zero_it = none is in omega (arith, zero_it)
    by false is local there may_be = let charge = must_crash spec start node i local (must is local there) (crashed i) words may_be in omega (arith, charge, few)

-- too many have crashed
pub never_taken : (spec : RoomSpec) (start : Configuration) (crashes : ℕ) (table : List Local) (outcomes : List Reached) (node : Node) (least : ℕ) → HaveCrashed spec start table node spec.simulators least → crashes < least → IsTaken spec start crashes table outcomes node
never_taken spec start crashes table outcomes node least have many crashed words few says more may =
    let all = have crashed words says (λ i below. may i (omega arith) (omega (arith, below))) in
    absurd (omega (arith, all, few, many))
