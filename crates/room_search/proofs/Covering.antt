-- Nodes that no step leads out of have each room to which a schedule leads.
use Rattle.std.proofs.Common.{◌≡◌, ℕ, ◌<◌, Bool, true, false, List, [], ◌∷◌, length, get_or, set, Some, refl, sym, ap, ◌∙◌, subst, arith, inl, inr}
use Rattle.std.specs.Prelude.{slice_get}
use Rattle.std.specs.List.{Contains}
use Rattle.std.proofs.lemmas.Bool.{cases_eq, cases_lt, true≢false}
use Rattle.std.proofs.lemmas.List.{get_or_past, get_or-set_same, get_or-set_other}
use Rattle.std.proofs.lemmas.Option.{slice_get-get_or}
use Rattle.room_spec.specs.Rooms.{RoomSpec, IsWithinLimits}
use Rattle.simulator.specs.declared.knowledge.Knowledge.{Knowledge}
use Rattle.room_search.specs.declared.local.Local.{Local}
use Rattle.simulator.specs.declared.operation.Move.{Move}
use Rattle.simulator.specs.Knowing.{knowledge_of, mind_of}
use Rattle.simulator.specs.Minds.{MindState, opening_mind}
use Rattle.simulator.specs.Moves.{IsOperation, answer_of, move_of, taken, words_after as after_move}
use Rattle.simulator.proofs.CallerLemmas.{goes_alike, wants_same}
use Rattle.room_core.specs.Rooms.{Configuration, IsLegal, IsOneInterleaving, IsShaped, MayHappen, ScheduleEvent, after_event, crashed_at, crashes, mind_at, replay, stepped, steps, words_by, taken_from}
use Rattle.room_core.proofs.CallerLemmas.{shapes, under_crash_at_end, under_line_at_end}
use Rattle.room_search.specs.Nodes.{AreComplete, CoverAllRooms, IsAfter, IsIn, MayHave, Node}
use Rattle.room_search.specs.Saying.{DoSay, IsWordOf}
use Rattle.room_search.specs.Steps.{HasStep, known_after, words_after}

abbrev pub IsCovered : List Local → List Node → Configuration → Type 0
IsCovered table nodes room = (node : Node) × Contains nodes node × IsIn table node room

pub node_at : (nodes : List Node) (node : Node) → (there : Contains nodes node) → slice_get nodes there.0 ≡ Some node
node_at nodes node there = slice_get-get_or nodes there.0 node there.1 ∙ ap Some there.2

-- a step by what the mind knows is that of the mind
module _ (spec : RoomSpec) (mind : MindState) (words : List ℕ) (wants : move_of spec (mind_of (knowledge_of mind)) ≡ move_of spec mind) where
  words_same : words_after spec words (knowledge_of mind) ≡ words_by spec mind words
  words_same = ap (λ (m : Move). after_move m words) wants

  known_same : known_after spec words (knowledge_of mind) ≡ knowledge_of (taken_from spec mind words).mind
  known_same =
      ap (λ (m : Move). knowledge_of (taken spec (mind_of (knowledge_of mind)) (answer_of m words)).mind) wants
      ∙ goes_alike spec mind (answer_of (move_of spec mind) words)

-- ---- one event

-- what a node says of the words of a simulator is so after a step of another
others_said : (spec : RoomSpec) (words after own : List ℕ) (q : ℕ) → ((at : ℕ) → IsWordOf spec q at → get_or after at 0 ≡ get_or words at 0) → ((at : ℕ) → (get_or own at 0 ≡ 0 → ⊥) → IsWordOf spec q at) → DoSay own words → DoSay own after
others_said spec words after own q stays is_own says at value is =
    stays at (is_own at (λ none. omega (arith, is, none))) ∙ says at value is

-- the local state of a simulator that doesn't step
other_has : (spec : RoomSpec) (table : List Local) (node to : Node) (i q : ℕ) (local : Local) (known : Knowledge) (words : List ℕ) → q < spec.simulators → (q ≡ i → ⊥) → IsAfter spec table node i local to → MayHave spec table node q known words → MayHave spec table to q known (words_after spec words local.known)
other_has spec table node to i q local known words below apart after has = record {
  local = has.local;
  may = after.others q has.local below apart has.may;
  known_is = has.known_is;
  own = others_said spec words (words_after spec words local.known) has.local.own.items q (λ at of. after.stays q at words apart of) has.is_own has.own;
  is_own = has.is_own;
}

-- who hasn't crashed in a room hadn't at the start
abbrev IsLater : Configuration → Configuration → Type 0
IsLater start room = (i : ℕ) → crashed_at room i ≡ false → crashed_at start i ≡ false

step_covered : (spec : RoomSpec) (start : Configuration) (table : List Local) (nodes : List Node) (room : Configuration) (i : ℕ) → room.spec ≡ spec → AreComplete spec start table nodes → IsShaped room → IsLater start room → MayHappen room (steps i) → IsCovered table nodes room → IsCovered table nodes (stepped room i)
step_covered spec start table nodes room i is complete shape later may covered =
    let node = covered.0 in
    let here = covered.2 in
    let below : i < room.spec.simulators = may.alive.below in
    let mind = mind_at room i in
    let has : MayHave room.spec table node i (knowledge_of mind) room.words = here.each i below in
    let local = has.local in
    let wants = wants_same room.spec mind (shape.each i below) may.moving in
    let step : HasStep room.spec local.known = subst (HasStep room.spec) (sym has.known_is) (subst IsOperation (sym wants) may.moving) in
    let inside = complete.closed covered.1.0 node (node_at nodes node covered.1) in
    let leads = inside i local (subst (λ (s : RoomSpec). i < s.simulators) is below) (later i may.alive.alive) has.may (subst (λ (s : RoomSpec). HasStep s local.known) is step) refl in
    let to = leads.0 in
    let after : IsAfter room.spec table node i local to = subst (λ (s : RoomSpec). IsAfter s table node i local to) (sym is) leads.2 in
    let place : i < length room.minds = let count = shape.minds in omega (arith, below, count) in
    let new : MindState = (taken_from room.spec mind room.words).mind in
    let words_are : words_after room.spec room.words local.known ≡ words_by room.spec mind room.words = ap (λ (k : Knowledge). words_after room.spec room.words k) has.known_is ∙ words_same room.spec mind room.words wants in
    let known_are : known_after room.spec room.words local.known ≡ knowledge_of new = ap (λ (k : Knowledge). known_after room.spec room.words k) has.known_is ∙ known_same room.spec mind room.words wants in (
      to,
      leads.1,
      record {
        says = subst (DoSay to.said) words_are (after.says room.words shape.words here.says has.own);
        each = λ q inside_q. elim (cases_eq q i) [
          | inl same ↦
              let own : get_or (set room.minds i new) i (opening_mind room.spec i) ≡ new = get_or-set_same room.minds i new (opening_mind room.spec i) place in
              let mine : MayHave room.spec table to i (known_after room.spec room.words local.known) (words_after room.spec room.words local.known) = after.has room.words shape.words here.says has.own has.is_own in
              subst (λ (k : ℕ). MayHave room.spec table to k (knowledge_of (get_or (set room.minds i new) k (opening_mind room.spec k))) (words_by room.spec mind room.words)) (sym same)
              (subst (λ (m : MindState). MayHave room.spec table to i (knowledge_of m) (words_by room.spec mind room.words)) (sym own)
              (subst (λ (w : List ℕ). MayHave room.spec table to i (knowledge_of new) w) words_are (subst (λ (k : Knowledge). MayHave room.spec table to i k (words_after room.spec room.words local.known)) known_are mine)))
          | inr other ↦
              subst (λ (m : MindState). MayHave room.spec table to q (knowledge_of m) (words_by room.spec mind room.words)) (sym (get_or-set_other room.minds i q new (opening_mind room.spec q) other))
              (subst (λ (w : List ℕ). MayHave room.spec table to q (knowledge_of (mind_at room q)) w) words_are
              (other_has room.spec table node to i q local (knowledge_of (mind_at room q)) room.words inside_q other after (here.each q inside_q)))
        ];
      },
    )

-- one that hasn't crashed then hadn't before
was_alive : (crashed : List Bool) (i q : ℕ) → get_or (set crashed i true) q false ≡ false → get_or crashed q false ≡ false
was_alive crashed i q alive = elim (cases_eq q i) [
  | inr other ↦ sym (get_or-set_other crashed i q true false other) ∙ alive
  | inl same ↦ elim (cases_lt i (length crashed)) [
    | inl inside ↦ absurd (true≢false (sym (get_or-set_same crashed i true false inside) ∙ ap (λ (k : ℕ). get_or (set crashed i true) k false) (sym same) ∙ alive))
    | inr past ↦ ap (λ (k : ℕ). get_or crashed k false) same ∙ get_or_past crashed i false past
  ]
]

event_covered : (spec : RoomSpec) (start : Configuration) (table : List Local) (nodes : List Node) (room : Configuration) (event : ScheduleEvent) → room.spec ≡ spec → AreComplete spec start table nodes → IsShaped room → IsLater start room → MayHappen room event → IsCovered table nodes room → IsCovered table nodes (after_event room event)
event_covered spec start table nodes room (steps i) is complete shape later may covered = step_covered spec start table nodes room i is complete shape later may covered
event_covered spec start table nodes room (crashes i) is complete shape later may covered = (covered.0, covered.1, record { says = covered.2.says; each = covered.2.each })

later_after : (start room : Configuration) (event : ScheduleEvent) → IsLater start room → IsLater start (after_event room event)
later_after start room (steps i) later = later
later_after start room (crashes i) later = λ q alive. later q (was_alive room.crashed i q alive)

same_spec_after : (room : Configuration) (event : ScheduleEvent) → (after_event room event).spec ≡ room.spec
same_spec_after room (steps i) = refl
same_spec_after room (crashes i) = refl

-- ---- schedules

pub goes_on : (room : Configuration) (event : ScheduleEvent) → IsOneInterleaving room → MayHappen room event → IsOneInterleaving (after_event room event)
goes_on room (steps i) run may = (under_line_at_end room i run may).0
goes_on room (crashes i) run may = (under_crash_at_end room i run may).0

replay_covered : (spec : RoomSpec) (start : Configuration) (table : List Local) (nodes : List Node) (room : Configuration) (schedule : List ScheduleEvent) → room.spec ≡ spec → IsWithinLimits spec → AreComplete spec start table nodes → IsOneInterleaving room → IsLater start room → IsLegal room schedule → IsCovered table nodes room → IsCovered table nodes (replay room schedule)
replay_covered spec start table nodes room [] is limits complete run later legal covered = covered
replay_covered spec start table nodes room (event ∷ schedule) is limits complete run later legal covered =
    let shape = shapes room (subst IsWithinLimits (sym is) limits) run in
    replay_covered spec start table nodes (after_event room event) schedule (same_spec_after room event ∙ is) limits complete (goes_on room event run legal.0) (later_after start room event later) legal.1
    (event_covered spec start table nodes room event is complete shape later legal.0 covered)

pub covers : (spec : RoomSpec) (start : Configuration) (table : List Local) (nodes : List Node) → IsWithinLimits spec → start.spec ≡ spec → IsOneInterleaving start → AreComplete spec start table nodes → CoverAllRooms start table nodes
covers spec start table nodes limits is run complete room goes =
    subst (IsCovered table nodes) goes.leads
    (replay_covered spec start table nodes start goes.events is limits complete run (λ i alive. alive) goes.legal complete.first)
