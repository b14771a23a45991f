-- A search whose nodes have all rooms finds all outcomes.
use Rattle.std.proofs.Common.{◌≡◌, ℕ, ◌<◌, Bool, true, false, cond, not, is_some, List, [], ◌∷◌, length, get_or, set, Option, None, refl, sym, ap, ◌∙◌, subst, arith, inl, inr}
use Rattle.std.specs.List.{Contains}
use Rattle.std.proofs.lemmas.Bool.{cases_eq, cases_lt, true≢false}
use Rattle.std.proofs.lemmas.List.{get_or-map, get_or-set_other, get_or-set_same, get_or_past, length-map}
use Rattle.std.proofs.lemmas.List.FromFn.{get_or-map-range_with_len, length-map-range_with_len}
use Rattle.room_spec.specs.Rooms.{RoomSpec, IsWithinLimits, is_reduction, processes}
use Rattle.room_spec.specs.Sizes.{sizes_in}
use Rattle.level_cells.specs.Fields.{level_of, levels_of}
use Rattle.safe_agreement.specs.Levels.{has_level, least_two}
use Rattle.safe_agreement.proofs.CallerLemmas.{has_level_at}
use Rattle.view_table.specs.declared.place.Place.TheVariants as places
use Rattle.view_table.specs.Words.{word_at}
use Rattle.simulator.specs.declared.knowledge.Knowledge.{Knowledge}
use Rattle.room_search.specs.declared.local.Local.{Local}
use Rattle.simulator.specs.declared.goal.Goal.{Goal}
use Rattle.simulator.specs.declared.goal.Goal.TheVariants as goals
use Rattle.simulator.specs.Ranges.{IsGoal}
use Rattle.view_table.specs.Places.{IsAgreementRound}
use Rattle.view_table.proofs.CallerLemmas.{agreement_round, zero_agreed}
use Rattle.simulator.specs.Knowing.{knowledge_of, mind_of}
use Rattle.simulator.specs.Minds.{MindOf, MindState, goal_at, opening_mind}
use Rattle.simulator.specs.Sweeps.{SweepState, opening_sweep}
use Rattle.room_core.specs.Calls.{RoomState, Settle, configuration_of, room_after_settle, sweep_at}
use Rattle.room_core.specs.Fields.{Fields, StepMap, fields_after_settle}
use Rattle.room_core.specs.Reading.{AgreeIn, AreFieldsOf, fields_in}
use Rattle.room_core.specs.Rooms.{Configuration, ScheduleEvent, crashed_at, crashed_by, crashes, mind_at, replay, stepped, steps}
use Rattle.room_core.specs.Settled.{HasTurnLeft, IsSettledInMind, mind_decided, mind_spent, mind_waits, mind_waits_for_input}
use Rattle.room_core.proofs.CallerLemmas.{agrees, calls_in_fields, shapes}
use Rattle.room_core.proofs.CallerLemmasOnSpecs.{same_spec}
use Rattle.run_search.specs.declared.ended.Ended.{Ended}
use Rattle.room_search.specs.declared.reached.Reached.{Reached}
use Rattle.room_search.specs.Continuing.{Continues}
use Rattle.room_search.specs.Nodes.{CoverAllRooms, IsIn, MayHave, Node}
use Rattle.room_search.specs.Reaching.{IsFound, IsOpen, IsReachable, outcome_of}
use Rattle.room_search.specs.Resting.{Rests, is_unresolved, waits}
use Rattle.room_search.specs.Ends.{ends_by}
use Rattle.room_search.specs.Taking.{IsTaken, MayEnd}
use Rattle.room_search.proofs.Ending.{room_ends}
use Rattle.room_search.proofs.Going.{settles_on}

-- ---- a mind that is settled rests

unresolved_by : (b : Bool) (least : Option ℕ) → b ≡ true → not (is_some (cond b None least)) ≡ true
unresolved_by true least is = refl
unresolved_by false least is = absurd cc

module _ (room : RoomState) (fields : Fields) (limits : IsWithinLimits room.spec) (are : AreFieldsOf room fields) where
  agree : AgreeIn (sizes_in room.spec) (fields_in room) fields
  agree = agrees room fields limits are

  level_read : (a j k : ℕ) → a < room.spec.simulators → j < processes room.spec → IsAgreementRound (sizes_in room.spec) k → fields.level a j k ≡ 1 → is_unresolved room.spec room.words j k ≡ true
  level_read a j k below process round is =
      let word = word_at (sizes_in room.spec) room.words (places.Levels j k) in
      let levels = levels_of word room.spec.simulators in
      let long : length levels ≡ room.spec.simulators = length-map-range_with_len (λ i. level_of word i) 0 room.spec.simulators in
      let at : get_or levels a 0 ≡ level_of word a = get_or-map-range_with_len (λ i. level_of word i) 0 room.spec.simulators a a 0 (omega (arith, below)) (omega arith) in
      let one : get_or levels a 0 ≡ 1 = at ∙ agree.level a j k below process round ∙ is in
      unresolved_by (has_level 1 levels) (least_two levels) (has_level_at 1 levels a (omega (arith, below, long)) one)

  -- only in a reduction a simulator asks for an input
  asks_input : (i j : ℕ) → i < room.spec.simulators → j < processes room.spec → goal_at (mind_at (configuration_of room) i).goals j ≡ goals.AskInput → is_reduction room.spec ≡ true
  asks_input i j below process is = subst (IsGoal (sizes_in room.spec)) is (((shapes (configuration_of room) limits are.run).each i below).rounds j process)

  rests_by : (i j : ℕ) (list : List Goal) → i < room.spec.simulators → list ≡ (mind_at (configuration_of room) i).goals → j < processes room.spec → goal_at (fields.mind i).goals j ≡ goal_at list j → IsSettledInMind room.spec fields i j → waits room.spec room.words j (goal_at list j) ≡ true
  rests_by i j list inside mine process same (mind_decided is) = ap (waits room.spec room.words j) (sym same ∙ is)
  rests_by i j list inside mine process same (mind_spent is) = ap (waits room.spec room.words j) (sym same ∙ is)
  rests_by i j list inside mine process same (mind_waits a k is below crashed first last one) = ap (waits room.spec room.words j) (sym same ∙ is) ∙ level_read a j k below process (agreement_round (sizes_in room.spec) k (first, last)) one
  rests_by i j list inside mine process same (mind_waits_for_input a is below crashed one) =
      let kind = asks_input i j inside process (ap (λ (l : List Goal). goal_at l j) (sym mine) ∙ sym same ∙ is) in
      ap (waits room.spec room.words j) (sym same ∙ is) ∙ level_read a j 0 below process (zero_agreed (sizes_in room.spec) kind) one

  mind_here : (i : ℕ) → i < room.spec.simulators → mind_at (configuration_of room) i ≡ (sweep_at room i).mind
  mind_here i below =
      let shape = shapes (configuration_of room) limits are.run in
      let long = length-map room.sweeps (λ (sweep : SweepState). sweep.mind) in
      let count = shape.minds in
      get_or-map (λ (sweep : SweepState). sweep.mind) room.sweeps i (opening_sweep room.spec i) (opening_mind room.spec i) (omega (arith, below, long, count))

  goals_are : (i : ℕ) → i < room.spec.simulators → (fields.mind i).goals ≡ (mind_at (configuration_of room) i).goals
  goals_are i below = sym (ap (λ (m : MindState). m.goals) (mind_here i below) ∙ ap (λ (m : MindOf StepMap). m.goals) (agree.mind i below).rest)

-- ---- who has crashed stays so

set_stays : (crashed : List Bool) (i q : ℕ) → get_or crashed i false ≡ true → get_or (set crashed q true) i false ≡ true
set_stays crashed i q is = elim (cases_eq i q) [
  | inr other ↦ get_or-set_other crashed q i true false other ∙ is
  | inl same ↦ elim (cases_lt q (length crashed)) [
    | inl inside ↦ ap (λ (k : ℕ). get_or (set crashed q true) k false) same ∙ get_or-set_same crashed q true false inside
    | inr past ↦ absurd (true≢false (sym is ∙ ap (λ (k : ℕ). get_or crashed k false) same ∙ get_or_past crashed q false past))
  ]
]

crashed_stays : (room : Configuration) (events : List ScheduleEvent) (i : ℕ) → crashed_at room i ≡ true → crashed_at (replay room events) i ≡ true
crashed_stays room [] i is = is
crashed_stays room (steps q ∷ events) i is = crashed_stays (stepped room q) events i is
crashed_stays room (crashes q ∷ events) i is = crashed_stays (crashed_by room q) events i (set_stays room.crashed i q is)

has_crashed_since : (start room : Configuration) (i : ℕ) → Continues start room → crashed_at start i ≡ true → crashed_at room i ≡ true
has_crashed_since start room i goes is = ap (λ (r : Configuration). crashed_at r i) (sym goes.leads) ∙ crashed_stays start goes.events i is

-- ---- the outcome of each room is found

-- a simulator for which each process is settled can go no further, where a node that has the room has it
rest_in : (spec : RoomSpec) (start : Configuration) (table : List Local) (node : Node) (room : RoomState) (fields : Fields) (i : ℕ) → IsWithinLimits room.spec → room.spec ≡ spec → AreFieldsOf room fields → Continues start (configuration_of room) → IsIn table node (configuration_of room) → i < spec.simulators
    → (fields.crashed i ≡ false → (j : ℕ) → j < processes spec → IsSettledInMind spec fields i j) → MayEnd spec start table node i (fields.crashed i) room.words
rest_in spec start table node room fields i limits is are goes here below settled =
    let inside : i < room.spec.simulators = subst (λ (s : RoomSpec). i < s.simulators) (sym is) below in
    let mind = mind_at (configuration_of room) i in
    let has : MayHave room.spec table node i (knowledge_of mind) room.words = here.each i inside in
    let list = mind.goals in
    let goals : (mind_of has.local.known).goals ≡ list = ap (λ (k : Knowledge). (mind_of k).goals) has.known_is in
    record {
      local = has.local;
      may = has.may;
      own = has.own;
      rests = λ alive. subst (Rests spec room.words) (sym goals)
          (λ j process.
          subst (λ (s : RoomSpec). waits s room.words j (goal_at list j) ≡ true) is
          (rests_by room fields limits are i j list inside refl (subst (λ (s : RoomSpec). j < processes s) (sym is) process) (ap (λ (l : List Goal). goal_at l j) (goals_are room fields limits are i inside))
          (subst (λ (s : RoomSpec). IsSettledInMind s fields i j) (sym is) (settled alive j process))));
      had = λ was. sym ((agree room fields limits are).crashed i inside) ∙ has_crashed_since start (configuration_of room) i goes was;
    }

abbrev pub Settles : Type 0
Settles = (room : RoomState) (fields : Fields) → IsWithinLimits room.spec → AreFieldsOf room fields → (left : HasTurnLeft room.spec (fields_after_settle room.spec fields)) → (j : ℕ) → j < processes room.spec
    → IsSettledInMind room.spec (fields_after_settle room.spec fields) left.simulator j

pub found_all : (spec : RoomSpec) (most : ℕ) (start : RoomState) (table : List Local) (nodes : List Node) (outcomes : List Reached) → IsWithinLimits spec → Settles → CoverAllRooms (configuration_of start) table nodes
    → ((node : Node) → Contains nodes node → IsTaken spec (configuration_of start) most table outcomes node) → (outcome : List Ended) → IsOpen start spec most outcome → IsFound outcomes outcome
found_all spec most start table nodes outcomes limits settles covers taken outcome opened =
    let is : IsReachable spec most outcome = opened.reachable in
    let first = configuration_of start in
    let room = is.room in
    let room_limits : IsWithinLimits room.spec = subst IsWithinLimits (sym is.of_room) limits in
    let after = room_after_settle room in
    let fields = fields_after_settle spec is.fields in
    let after_is : after.spec ≡ spec = same_spec room Settle ∙ is.of_room in
    let are : AreFieldsOf after fields = subst (λ (s : RoomSpec). AreFieldsOf after (fields_after_settle s is.fields)) is.of_room (calls_in_fields room is.fields (Settle ∷ []) room_limits is.are).1 in
    let after_limits : IsWithinLimits after.spec = subst IsWithinLimits (sym after_is) limits in
    let goes : Continues first (configuration_of after) = settles_on first room room_limits is.are.run opened.goes_on in
    let covered = covers (configuration_of after) goes in
    let node = covered.0 in
    let here = covered.2 in
    let rests : (i : ℕ) → i < spec.simulators → MayEnd spec first table node i (fields.crashed i) after.words = λ i below.
    rest_in spec first table node after fields i after_limits after_is are goes here below
    (λ alive j process.
    subst (λ (s : RoomSpec). IsSettledInMind s (fields_after_settle s is.fields) i j) is.of_room
    (settles room is.fields room_limits is.are
    (subst (λ (s : RoomSpec). HasTurnLeft s (fields_after_settle s is.fields)) (sym is.of_room) (record { simulator = i; below = below; alive = alive; turns = is.turns i below alive }))
    j (subst (λ (s : RoomSpec). j < processes s) (sym is.of_room) process))) in
    let found : IsFound outcomes (ends_by spec after.words) = taken node covered.1 fields.crashed after.words is.few here.says here.says (λ i low high. rests i (omega (arith, high))) in
    (found.0, found.1, ◌∙◌ {c = outcome_of found.0} (is.outcome_is ∙ room_ends spec after fields limits after_is are) found.2)
