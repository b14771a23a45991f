-- The goals of a mind: which process comes next, how many are left, and the first of them.
use Rattle.std.proofs.Common.{◌≡◌, ℕ, zero, suc, ◌+◌, ◌<◌, ◌≤◌, true, List, [], ◌∷◌, ◌++◌, length, map, take, drop, Option, Some, None, refl, sym, ap, ◌∙◌, subst, arith}
use Rattle.std.specs.List.{filter, position, position_or_len, range_with_len}
use Rattle.std.specs.Option.{option_map}
use Rattle.std.proofs.lemmas.List.{get_or-drop, get_or-take, length-drop, length-append, length-take-le, take-append-drop}
use Rattle.std.proofs.lemmas.List.Elements.{filter-append}
use Rattle.std.proofs.lemmas.List.FromFn.{map-range_with_len_more}
use Rattle.std.proofs.lemmas.List.Quantifiers.{position-Some}
use Rattle.room_spec.specs.Rooms.{RoomSpec}
use Rattle.safe_agreement.proofs.CallerLemmas.{none_within}
use Rattle.simulator.specs.declared.goal.Goal.{Goal}
use Rattle.simulator.specs.declared.goal.Goal.TheVariants.{Write, Ask, Propose, AskInput, Done, Spent}
use Rattle.simulator.specs.Minds.{MindState, is_unfinished, goal_at, unfinished_in, or_else, next_process, first_goal}

-- ---- the first unfinished process of a list

none_left : (goals : List Goal) → length goals ≤ position_or_len is_unfinished goals → unfinished_in goals ≡ 0
none_left [] long = refl
none_left (Write round value ∷ goals) long = absurd (omega arith)
none_left (Ask round ∷ goals) long = absurd (omega arith)
none_left (Propose value ∷ goals) long = absurd (omega arith)
none_left (AskInput ∷ goals) long = absurd (omega arith)
none_left (Done ∷ goals) long = none_left goals (omega arith)
none_left (Spent ∷ goals) long = none_left goals (omega arith)

pub none_of_position : (goals : List Goal) → position is_unfinished goals ≡ None → unfinished_in goals ≡ 0
none_of_position goals none = none_left goals (none_within is_unfinished goals none)

some_left : (goals : List Goal) (process : ℕ) → process < length goals → is_unfinished (goal_at goals process) ≡ true → 0 < unfinished_in goals
some_left [] process below is = absurd (omega arith)
some_left (Write round value ∷ goals) process below is = omega arith
some_left (Ask round ∷ goals) process below is = omega arith
some_left (Propose value ∷ goals) process below is = omega arith
some_left (AskInput ∷ goals) process below is = omega arith
some_left (Done ∷ goals) zero below is = absurd cc
some_left (Done ∷ goals) (suc process) below is = some_left goals process (omega arith) is
some_left (Spent ∷ goals) zero below is = absurd cc
some_left (Spent ∷ goals) (suc process) below is = some_left goals process (omega arith) is

-- ---- going round

-- a process that is there, and neither done nor spent
pub record IsLeft (goals : List Goal) (process : ℕ) : Type 0 where
  pub below : process < length goals
  pub unfinished : is_unfinished (goal_at goals process) ≡ true

left_after : (goals : List Goal) (sweep at : ℕ) → position is_unfinished (drop sweep goals) ≡ Some at → IsLeft goals (sweep + at)
left_after goals sweep at is =
    let place = position-Some is_unfinished (drop sweep goals) at Done is in
    let long = length-drop sweep goals in
    record { below = omega (arith, place.0, long); unfinished = ap is_unfinished (sym (get_or-drop sweep goals at Done)) ∙ place.1 }

left_before : (goals : List Goal) (sweep at : ℕ) → sweep ≤ length goals → position is_unfinished (take sweep goals) ≡ Some at → IsLeft goals at
left_before goals sweep at within is =
    let place = position-Some is_unfinished (take sweep goals) at Done is in
    let long = length-take-le sweep goals within in
    let below : at < sweep = omega (arith, place.0, long) in
    record { below = omega arith; unfinished = ap is_unfinished (sym (get_or-take sweep goals at Done below)) ∙ place.1 }

pub some_same : (at process : ℕ) → Some at ≡ Some process → at ≡ process
some_same at process is = cc

found_left : (goals : List Goal) (sweep process : ℕ) (later sooner : Option ℕ) → sweep ≤ length goals → position is_unfinished (drop sweep goals) ≡ later → position is_unfinished (take sweep goals) ≡ sooner → or_else (option_map (λ at. sweep + at) later) sooner ≡ Some process → IsLeft goals process
found_left goals sweep process (Some at) sooner within is other found = subst (λ p. IsLeft goals p) (some_same (sweep + at) process found) (left_after goals sweep at is)
found_left goals sweep process None (Some at) within other is found = subst (λ p. IsLeft goals p) (some_same at process found) (left_before goals sweep at within is)
found_left goals sweep process None None within is other found = absurd cc

pub next_is_left : (goals : List Goal) (sweep process : ℕ) → sweep ≤ length goals → next_process goals sweep ≡ Some process → IsLeft goals process
next_is_left goals sweep process within found = found_left goals sweep process _ _ within refl refl found

-- the same of the goals that a mind shows
-- the search from the sweep's place, over goals that were read of the mind
pub found_there : (viewed mind : MindState) (goals : List Goal) (sweep : ℕ) (next : Option ℕ) → viewed ≡ mind → goals ≡ viewed.goals → sweep ≡ mind.process → next ≡ next_process goals sweep → next ≡ next_process viewed.goals viewed.process
found_there viewed mind goals sweep next is are stands searched =
    searched ∙ ap (λ (g : List Goal). next_process g sweep) are ∙ ap (λ (at : ℕ). next_process viewed.goals at) (stands ∙ ap (λ (m : MindState). m.process) (sym is))

pub shown_is_left : (viewed mind : MindState) (goals : List Goal) (sweep : ℕ) (next : Option ℕ) (process : ℕ) → viewed ≡ mind → mind.process < length mind.goals → goals ≡ viewed.goals → sweep ≡ mind.process → next ≡ next_process goals sweep → next ≡ Some process → IsLeft viewed.goals process
shown_is_left viewed mind goals sweep next process is within are stands searched found =
    let below = subst (λ (m : MindState). m.process < length m.goals) (sym is) within in
    next_is_left viewed.goals viewed.process process (omega (arith, below)) (sym (found_there viewed mind goals sweep next is are stands searched) ∙ found)

unfinished-append : (goals others : List Goal) → unfinished_in (goals ++ others) ≡ unfinished_in goals + unfinished_in others
unfinished-append goals others = ap (λ (l : List Goal). length l) (filter-append is_unfinished goals others) ∙ length-append (filter is_unfinished goals) (filter is_unfinished others)

none_found : (goals : List Goal) (sweep : ℕ) (later sooner : Option ℕ) → position is_unfinished (drop sweep goals) ≡ later → position is_unfinished (take sweep goals) ≡ sooner → or_else (option_map (λ at. sweep + at) later) sooner ≡ None → unfinished_in goals ≡ 0
none_found goals sweep (Some at) sooner is other none = absurd cc
none_found goals sweep None (Some at) is other none = absurd cc
none_found goals sweep None None is other none =
    let parts = unfinished-append (take sweep goals) (drop sweep goals) in
    let whole = ap unfinished_in (take-append-drop sweep goals) in
    let first = none_of_position (drop sweep goals) is in
    let second = none_of_position (take sweep goals) other in
    sym whole ∙ parts ∙ omega arith

pub none_next : (goals : List Goal) (sweep : ℕ) → next_process goals sweep ≡ None → unfinished_in goals ≡ 0
none_next goals sweep none = none_found goals sweep _ _ refl refl none

some_next : (goals : List Goal) (sweep process : ℕ) → sweep ≤ length goals → next_process goals sweep ≡ Some process → 0 < unfinished_in goals
some_next goals sweep process within found =
    let left = next_is_left goals sweep process within found in
    some_left goals process left.below left.unfinished

next_none_by : (goals : List Goal) (sweep : ℕ) (next : Option ℕ) → sweep ≤ length goals → next_process goals sweep ≡ next → unfinished_in goals ≡ 0 → next ≡ None
next_none_by goals sweep None within is none = refl
next_none_by goals sweep (Some process) within is none = absurd (omega (arith, some_next goals sweep process within is))

pub next_none : (goals : List Goal) (sweep : ℕ) → sweep ≤ length goals → unfinished_in goals ≡ 0 → next_process goals sweep ≡ None
next_none goals sweep within none = next_none_by goals sweep _ within refl none

next_some_by : (goals : List Goal) (sweep : ℕ) (next : Option ℕ) → next_process goals sweep ≡ next → 0 < unfinished_in goals → (process : ℕ) × (next ≡ Some process)
next_some_by goals sweep (Some process) is some = (process, refl)
next_some_by goals sweep None is some = absurd (omega (arith, none_next goals sweep is))

pub next_some : (goals : List Goal) (sweep : ℕ) → 0 < unfinished_in goals → (process : ℕ) × (next_process goals sweep ≡ Some process)
next_some goals sweep some = next_some_by goals sweep _ refl some

-- ---- the first goals

-- these are the first goals of so many processes
pub record AreFirst (spec : RoomSpec) (goals : List Goal) (count : ℕ) : Type 0 where
  pub goals_are : goals ≡ map (first_goal spec) (range_with_len 0 count)
  pub long : length goals ≡ count

pub first_more : (spec : RoomSpec) (goals after : List Goal) (goal : Goal) (count : ℕ) → AreFirst spec goals count → goal ≡ first_goal spec count → after ≡ goals ++ goal ∷ [] → AreFirst spec after (count + 1)
first_more spec goals after goal count are next is =
    let one : length (goals ++ goal ∷ []) ≡ length goals + 1 = length-append goals (goal ∷ []) in
    let long = are.long in
    record {
      goals_are = is ∙ ap (λ g. goals ++ g ∷ []) next ∙ ap (λ (l : List Goal). l ++ first_goal spec count ∷ []) are.goals_are ∙ sym (map-range_with_len_more (first_goal spec) 0 count count (omega arith));
      long = ap (λ (l : List Goal). length l) is ∙ one ∙ omega arith;
    }
