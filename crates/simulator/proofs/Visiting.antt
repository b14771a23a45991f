-- A sweep visits each process before it comes to one a second time.
use Rattle.std.proofs.Common.{◌≡◌, ℕ, zero, suc, ◌+◌, ◌%◌, ◌<◌, ◌≤◌, Bool, true, false, cond, List, [], ◌∷◌, ◌++◌, length, map, replicate, set, take, drop, Some, sym, ap, ◌∙◌, subst, arith}
use Rattle.std.specs.List.{AllByRecursion, filter, range_with_len}
use Rattle.std.proofs.lemmas.List.{append-nil, take-append-drop}
use Rattle.std.proofs.lemmas.List.Elements.{filter-append}
use Rattle.std.specs.Prelude.{slice_index}
use Rattle.room_spec.specs.Rooms.{RoomSpec, is_reduction, processes}
use Rattle.simulator.specs.declared.goal.Goal.{Goal}
use Rattle.simulator.specs.declared.goal.Goal.TheVariants.{Write, Ask, Propose, AskInput, Done, Spent}
use Rattle.simulator.specs.Minds.{is_unfinished, goal_at, next_process, first_goal, first_goals, opening_goals}
use Rattle.simulator.specs.Quiet.{unfinished_from}
use Rattle.simulator.specs.Firsts.{IsVisited, AreVisitedLast}
use Rattle.simulator.proofs.Asking.{sets_out, ends, stays, first_of, others}

abbrev AreVisited : List Goal → Type 0
AreVisited goals = AllByRecursion IsVisited goals

-- ---- lists

visited_more : (goals : List Goal) (goal : Goal) → IsVisited goal → AreVisited goals → AreVisited (goals ++ goal ∷ [])
visited_more [] goal is all = (is, tt)
visited_more (first ∷ goals) goal is all = (all.0, visited_more goals goal is all.1)

last_more : (goals : List Goal) (goal : Goal) → IsVisited goal → AreVisitedLast goals → AreVisitedLast (goals ++ goal ∷ [])
last_more [] goal is all = ((λ first. tt), tt)
last_more (first ∷ goals) goal is all = ((λ visited. visited_more goals goal is (all.0 visited)), last_more goals goal is all.1)

-- where none was visited
abbrev AreFirst : List Goal → Type 0
AreFirst goals = AllByRecursion (λ goal. IsVisited goal → ⊥) goals

none_last : (goals : List Goal) → AreFirst goals → AreVisitedLast goals
none_last [] none = tt
none_last (goal ∷ goals) none = ((λ visited. absurd (none.0 visited)), none_last goals none.1)

-- ---- the opening mind

first_kept : (b : Bool) (goal : Goal) (goals : List Goal) → (IsVisited goal → ⊥) → AreFirst goals → AreFirst (cond b (goal ∷ goals) goals)
first_kept true goal goals none all = (none, all)
first_kept false goal goals none all = all

first_filter : (goals : List Goal) → AreFirst goals → AreFirst (filter is_unfinished goals)
first_filter [] all = tt
first_filter (goal ∷ goals) all = first_kept (is_unfinished goal) goal (filter is_unfinished goals) all.0 (first_filter goals all.1)

first_drop : (at : ℕ) (goals : List Goal) → AreFirst goals → AreFirst (drop at goals)
first_drop zero [] all = all
first_drop zero (goal ∷ goals) all = all
first_drop (suc at) [] all = all
first_drop (suc at) (goal ∷ goals) all = first_drop at goals all.1

first_take : (at : ℕ) (goals : List Goal) → AreFirst goals → AreFirst (take at goals)
first_take zero [] all = tt
first_take zero (goal ∷ goals) all = tt
first_take (suc at) [] all = tt
first_take (suc at) (goal ∷ goals) all = (all.0, first_take at goals all.1)

first_append : (goals more : List Goal) → AreFirst goals → AreFirst more → AreFirst (goals ++ more)
first_append [] more all others = others
first_append (goal ∷ goals) more all others = (all.0, first_append goals more all.1 others)

first_range : (spec : RoomSpec) (a n : ℕ) → AreFirst (map (first_goal spec) (range_with_len a n))
first_range spec a zero = tt
first_range spec a (suc n) = ((λ (two : 2 ≤ 1). absurd (omega (arith, two))), first_range spec (a + 1) n)

proposals_first : (value n : ℕ) → AreFirst (replicate n (Propose value))
proposals_first value zero = tt
proposals_first value (suc n) = ((λ visited. visited), proposals_first value n)

opening_first : (reduction : Bool) (spec : RoomSpec) (value : ℕ) → AreFirst (cond reduction (replicate (processes spec) (Propose value)) (first_goals spec))
opening_first true spec value = proposals_first value (processes spec)
opening_first false spec value = first_range spec 0 (processes spec)

pub visited_first : (spec : RoomSpec) (i sweep : ℕ) → AreVisitedLast (unfinished_from (opening_goals spec i) sweep)
visited_first spec i sweep =
    let all = opening_first (is_reduction spec) spec (slice_index spec.own i) in
    let goals = opening_goals spec i in
    none_last (unfinished_from goals sweep)
    (first_filter (drop sweep goals ++ take sweep goals) (first_append (drop sweep goals) (take sweep goals) (first_drop sweep goals all) (first_take sweep goals all)))

-- ---- a turn begins, and ends

pub visited_begun : (goals : List Goal) (sweep process : ℕ) → next_process goals sweep ≡ Some process → AreVisitedLast (unfinished_from goals sweep) → AreVisitedLast (unfinished_from goals process)
visited_begun goals sweep process found order = subst AreVisitedLast (sym (sets_out goals sweep process found)) order

comes_last : (goals : List Goal) (goal : Goal) → IsVisited goal → AreVisitedLast goals → AreVisitedLast (goals ++ filter is_unfinished (goal ∷ []))
comes_last goals (Write round value) is order = last_more goals (Write round value) is order
comes_last goals (Ask round) is order = last_more goals (Ask round) is order
comes_last goals (Propose value) is order = absurd is
comes_last goals AskInput is order = last_more goals AskInput is order
comes_last goals Done is order = subst AreVisitedLast (sym (append-nil goals)) order
comes_last goals Spent is order = subst AreVisitedLast (sym (append-nil goals)) order

pub visited_ended : (goals : List Goal) (sweep : ℕ) (goal : Goal) → sweep < length goals → is_unfinished (goal_at goals sweep) ≡ true → IsVisited goal → AreVisitedLast (unfinished_from goals sweep) → AreVisitedLast (unfinished_from (set goals sweep goal) ((sweep + 1) % length goals))
visited_ended goals sweep goal below left is order =
    let rest = filter is_unfinished (others goals sweep) in
    let before : AreVisitedLast (goal_at goals sweep ∷ rest) = subst AreVisitedLast (first_of goals sweep below left) order in
    subst AreVisitedLast (sym (ends goals sweep goal below)) (comes_last rest goal is before.1)

-- the sweep stays at a process that isn't visited yet
pub visited_stayed : (goals : List Goal) (sweep : ℕ) (goal : Goal) → sweep < length goals → is_unfinished (goal_at goals sweep) ≡ true → is_unfinished goal ≡ true → (IsVisited goal → ⊥) → AreVisitedLast (unfinished_from goals sweep) → AreVisitedLast (unfinished_from (set goals sweep goal) sweep)
visited_stayed goals sweep goal below left left_too none order =
    let rest = filter is_unfinished (others goals sweep) in
    let before : AreVisitedLast (goal_at goals sweep ∷ rest) = subst AreVisitedLast (first_of goals sweep below left) order in
    let after : AreVisitedLast (goal ∷ rest) = ((λ visited. absurd (none visited)), before.1) in
    subst AreVisitedLast (sym (stays goals sweep goal below left_too)) after

-- ---- whoever comes to a process again has visited all

all_split : (goals more : List Goal) → AreVisited (goals ++ more) → AreVisited goals × AreVisited more
all_split [] more all = (tt, all)
all_split (goal ∷ goals) more all = let rest = all_split goals more all.1 in ((all.0, rest.0), rest.1)

all_joined : (goals more : List Goal) → AreVisited goals → AreVisited more → AreVisited (goals ++ more)
all_joined [] more one two = two
all_joined (goal ∷ goals) more one two = (one.0, all_joined goals more one.1 two)

each_visited : (goals : List Goal) (process : ℕ) → AreVisited (filter is_unfinished goals) → IsVisited (goal_at goals process)
each_visited [] process all = tt
each_visited (Write round value ∷ goals) zero all = all.0
each_visited (Write round value ∷ goals) (suc process) all = each_visited goals process all.1
each_visited (Ask round ∷ goals) zero all = tt
each_visited (Ask round ∷ goals) (suc process) all = each_visited goals process all.1
each_visited (Propose value ∷ goals) zero all = all.0
each_visited (Propose value ∷ goals) (suc process) all = each_visited goals process all.1
each_visited (AskInput ∷ goals) zero all = tt
each_visited (AskInput ∷ goals) (suc process) all = each_visited goals process all.1
each_visited (Done ∷ goals) zero all = tt
each_visited (Done ∷ goals) (suc process) all = each_visited goals process all
each_visited (Spent ∷ goals) zero all = tt
each_visited (Spent ∷ goals) (suc process) all = each_visited goals process all

pub all_visited : (goals : List Goal) (sweep process : ℕ) → sweep < length goals → is_unfinished (goal_at goals sweep) ≡ true → IsVisited (goal_at goals sweep) → AreVisitedLast (unfinished_from goals sweep) → IsVisited (goal_at goals process)
all_visited goals sweep process below left is order =
    let rest = drop sweep goals in
    let before = take sweep goals in
    let first = first_of goals sweep below left in
    let all : AreVisitedLast (goal_at goals sweep ∷ filter is_unfinished (others goals sweep)) = subst AreVisitedLast first order in
    let each : AreVisited (unfinished_from goals sweep) = subst AreVisited (sym first) (is, all.0 is) in
    let both = all_split (filter is_unfinished rest) (filter is_unfinished before) (subst AreVisited (filter-append is_unfinished rest before) each) in
    let whole : filter is_unfinished goals ≡ filter is_unfinished before ++ filter is_unfinished rest = ap (filter is_unfinished) (sym (take-append-drop sweep goals)) ∙ filter-append is_unfinished before rest in
    each_visited goals process (subst AreVisited (sym whole) (all_joined (filter is_unfinished before) (filter is_unfinished rest) both.1 both.0))
