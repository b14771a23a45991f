-- The processes for which a simulator has asked in vain, in the order in which its sweep comes to them.
use Rattle.std.proofs.Common.{◌≡◌, ℕ, zero, suc, ◌+◌, ◌%◌, ◌<◌, ◌≤◌, Bool, true, false, cond, List, [], ◌∷◌, ◌++◌, length, set, take, drop, reverse, Option, Some, None, refl, sym, ap, ◌∙◌, subst, arith, append_assoc, drop-cons, inl, inr}
use Rattle.std.proofs.lemmas.Bool.{cases_lt}
use Rattle.std.specs.List.{AllByRecursion, filter, position, position_or_len}
use Rattle.std.specs.Option.{option_map}
use Rattle.std.proofs.lemmas.List.{append-nil, take-append-drop, length-append, length-reverse, reverse-append, drop-set-lt, get_or-set_same, take-set-le, take_more_set, drop_all, drop-drop, drop-append-le, take-append-le, take_all, length-set}
use Rattle.std.proofs.Math.Nat.{mod-eq_of_lt, mod_self}
use Rattle.std.proofs.Math.Seq.{take-add}
use Rattle.std.proofs.lemmas.List.Elements.{filter-append}
use Rattle.std.proofs.lemmas.List.Quantifiers.{position-Some}
use Rattle.simulator.proofs.Processes.{none_of_position, some_same}
use Rattle.simulator.specs.declared.goal.Goal.{Goal}
use Rattle.simulator.specs.declared.goal.Goal.TheVariants.{Write, Ask, Propose, AskInput, Done, Spent}
use Rattle.simulator.specs.Minds.{is_unfinished, goal_at, unfinished_in, or_else, next_process}
use Rattle.simulator.specs.Quiet.{IsAsk, HasNoWrite, unfinished_from, AreAsksAtTheEnd}

-- ---- the end of a list

abbrev AreAsks : List Goal → Type 0
AreAsks goals = AllByRecursion IsAsk goals

fewer : (goals : List Goal) (count less : ℕ) → less ≤ count → AreAsks (take count goals) → AreAsks (take less goals)
fewer [] count zero most all = tt
fewer [] count (suc less) most all = tt
fewer (goal ∷ goals) count zero most all = tt
fewer (goal ∷ goals) zero (suc less) most all = absurd (omega arith)
fewer (goal ∷ goals) (suc count) (suc less) most all = (all.0, fewer goals count less (omega arith) all.1)

in_front : (goals more : List Goal) (count : ℕ) → AreAsks (take count (goals ++ more)) → AreAsks (take count goals)
in_front [] more zero all = tt
in_front [] more (suc count) all = tt
in_front (goal ∷ goals) more zero all = tt
in_front (goal ∷ goals) more (suc count) all = (all.0, in_front goals more count all.1)

-- fewer are asks too
pub fewer_asks : (goals : List Goal) (count less : ℕ) → less ≤ count → AreAsksAtTheEnd goals count → AreAsksAtTheEnd goals less
fewer_asks goals count less most all = fewer (reverse goals) count less most all

none_asks : (goals : List Goal) → AreAsks (take 0 goals)
none_asks [] = tt
none_asks (goal ∷ goals) = tt

pub no_asks : (goals : List Goal) → AreAsksAtTheEnd goals 0
no_asks goals = none_asks (reverse goals)

-- the first goal goes to the end, as an ask
pub asked_again : (first goal : Goal) (goals : List Goal) (count : ℕ) → IsAsk goal → AreAsksAtTheEnd (first ∷ goals) count → AreAsksAtTheEnd (goals ++ goal ∷ []) (count + 1)
asked_again first goal goals count is all =
    let one : count + 1 ≡ suc count = omega arith in
    let before : AreAsks (take count (reverse goals)) = in_front (reverse goals) (first ∷ []) count (subst (λ (l : List Goal). AreAsks (take count l)) (reverse-append (first ∷ []) goals) all) in
    let now : AreAsks (take (suc count) (goal ∷ reverse goals)) = (is, before) in
    subst (λ (n : ℕ). AreAsks (take n (reverse (goals ++ goal ∷ [])))) (sym one) (subst (λ (l : List Goal). AreAsks (take (suc count) l)) (sym (reverse-append goals (goal ∷ []))) now)

-- ---- a turn begins: the processes that the sweep goes past are finished

none_before : (goals : List Goal) (at : ℕ) → at ≤ position_or_len is_unfinished goals → filter is_unfinished (take at goals) ≡ []
none_before [] zero early = refl
none_before [] (suc at) early = refl
none_before (goal ∷ goals) zero early = refl
none_before (Write round value ∷ goals) (suc at) early = absurd (omega arith)
none_before (Ask round ∷ goals) (suc at) early = absurd (omega arith)
none_before (Propose value ∷ goals) (suc at) early = absurd (omega arith)
none_before (AskInput ∷ goals) (suc at) early = absurd (omega arith)
none_before (Done ∷ goals) (suc at) early = none_before goals at (omega arith)
none_before (Spent ∷ goals) (suc at) early = none_before goals at (omega arith)

place_by : (found at : ℕ) (b : Bool) → cond b (Some found) None ≡ Some at → found ≡ at
place_by found at true is = cc
place_by found at false is = absurd cc

place_of : (goals : List Goal) (at : ℕ) → position is_unfinished goals ≡ Some at → filter is_unfinished (take at goals) ≡ []
place_of goals at is =
    let same : position_or_len is_unfinished goals ≡ at = place_by (position_or_len is_unfinished goals) at _ is in
    none_before goals at (omega arith)

-- a part with nothing unfinished in it
skip : (finished goals : List Goal) → filter is_unfinished finished ≡ [] → filter is_unfinished (finished ++ goals) ≡ filter is_unfinished goals
skip finished goals none = filter-append is_unfinished finished goals ∙ ap (λ (l : List Goal). l ++ filter is_unfinished goals) none

skip_after : (goals finished : List Goal) → filter is_unfinished finished ≡ [] → filter is_unfinished (goals ++ finished) ≡ filter is_unfinished goals
skip_after goals finished none = filter-append is_unfinished goals finished ∙ ap (λ (l : List Goal). filter is_unfinished goals ++ l) none ∙ append-nil (filter is_unfinished goals)

no_length : (goals : List Goal) → length goals ≡ 0 → goals ≡ []
no_length [] none = refl
no_length (goal ∷ goals) none = absurd (omega (arith, none))

begins_later : (goals : List Goal) (sweep at : ℕ) → position is_unfinished (drop sweep goals) ≡ Some at → unfinished_from goals (sweep + at) ≡ unfinished_from goals sweep
begins_later goals sweep at found =
    let rest = drop sweep goals in
    let before = take sweep goals in
    let none = place_of rest at found in
    ap (λ (l : List Goal). filter is_unfinished (l ++ take (sweep + at) goals)) (sym (drop-drop at sweep goals))
    ∙ ap (λ (l : List Goal). filter is_unfinished (drop at rest ++ l)) (take-add sweep at goals)
    ∙ ap (filter is_unfinished) (sym (append_assoc (drop at rest) before (take at rest)))
    ∙ skip_after (drop at rest ++ before) (take at rest) none
    ∙ sym (skip (take at rest) (drop at rest ++ before) none)
    ∙ ap (filter is_unfinished) (sym (append_assoc (take at rest) (drop at rest) before))
    ∙ ap (λ (l : List Goal). filter is_unfinished (l ++ before)) (take-append-drop at rest)

begins_sooner : (goals : List Goal) (sweep at : ℕ) → position is_unfinished (drop sweep goals) ≡ None → position is_unfinished (take sweep goals) ≡ Some at → unfinished_from goals at ≡ unfinished_from goals sweep
begins_sooner goals sweep at nothing found =
    let rest = drop sweep goals in
    let before = take sweep goals in
    let none = place_of before at found in
    let empty : filter is_unfinished rest ≡ [] = no_length (filter is_unfinished rest) (none_of_position rest nothing) in
    let place = position-Some is_unfinished before at Done found in
    let early : at ≤ length before = omega (arith, place.0) in
    let whole = sym (take-append-drop sweep goals) in
    ap (λ (l : List Goal). filter is_unfinished (drop at l ++ take at l)) whole
    ∙ ap (λ (l : List Goal). filter is_unfinished (l ++ take at (before ++ rest))) (drop-append-le at before rest early)
    ∙ ap (λ (l : List Goal). filter is_unfinished ((drop at before ++ rest) ++ l)) (take-append-le at before rest early)
    ∙ skip_after (drop at before ++ rest) (take at before) none
    ∙ skip_after (drop at before) rest empty
    ∙ sym (skip (take at before) (drop at before) none)
    ∙ ap (filter is_unfinished) (take-append-drop at before)
    ∙ sym (skip rest before empty)

begins_by : (goals : List Goal) (sweep process : ℕ) (later sooner : Option ℕ) → position is_unfinished (drop sweep goals) ≡ later → position is_unfinished (take sweep goals) ≡ sooner → or_else (option_map (λ at. sweep + at) later) sooner ≡ Some process → unfinished_from goals process ≡ unfinished_from goals sweep
begins_by goals sweep process (Some at) sooner is other found = ap (unfinished_from goals) (sym (some_same (sweep + at) process found)) ∙ begins_later goals sweep at is
begins_by goals sweep process None (Some at) is other found = ap (unfinished_from goals) (sym (some_same at process found)) ∙ begins_sooner goals sweep at is other
begins_by goals sweep process None None is other found = absurd cc

pub sets_out : (goals : List Goal) (sweep process : ℕ) → next_process goals sweep ≡ Some process → unfinished_from goals process ≡ unfinished_from goals sweep
sets_out goals sweep process found = begins_by goals sweep process _ _ refl refl found

-- ---- a turn ends: the sweep goes on by one process, which comes last from now on

-- the other goals, from the next one on
abbrev pub others : List Goal → ℕ → List Goal
others goals sweep = drop (suc sweep) goals ++ take sweep goals

pub first_of : (goals : List Goal) (sweep : ℕ) → sweep < length goals → is_unfinished (goal_at goals sweep) ≡ true → unfinished_from goals sweep ≡ goal_at goals sweep ∷ filter is_unfinished (others goals sweep)
first_of goals sweep below is =
    ap (λ (l : List Goal). filter is_unfinished (l ++ take sweep goals)) (drop-cons goals sweep Done below)
    ∙ ap (λ (b : Bool). cond b (goal_at goals sweep ∷ filter is_unfinished (others goals sweep)) (filter is_unfinished (others goals sweep))) is

-- the place after the last is the first
round_again : (goals : List Goal) (after : ℕ) → after ≤ length goals → unfinished_from goals (after % length goals) ≡ unfinished_from goals after
round_again goals after within = elim (cases_lt after (length goals)) [
  | inl below ↦ ap (unfinished_from goals) (mod-eq_of_lt below)
  | inr above ↦
      let end : after ≡ length goals = omega (arith, above) in
      let zero_is : after % length goals ≡ 0 = ap (λ (k : ℕ). k % length goals) end ∙ mod_self (length goals) in
      ap (unfinished_from goals) zero_is
      ∙ ap (filter is_unfinished) (append-nil goals ∙ sym (ap (λ (l : List Goal). l ++ take after goals) (drop_all after goals above) ∙ take_all after goals above))
]

last_of : (goals : List Goal) (sweep : ℕ) (goal : Goal) → sweep < length goals → unfinished_from (set goals sweep goal) (sweep + 1) ≡ filter is_unfinished (others goals sweep) ++ filter is_unfinished (goal ∷ [])
last_of goals sweep goal below =
    ap (λ (l : List Goal). filter is_unfinished (l ++ take (sweep + 1) (set goals sweep goal))) (drop-set-lt (sweep + 1) goals sweep goal (omega arith))
    ∙ ap (λ (l : List Goal). filter is_unfinished (drop (sweep + 1) goals ++ l)) (take_more_set goals sweep goal below)
    ∙ ap (filter is_unfinished) (sym (append_assoc (drop (sweep + 1) goals) (take sweep goals) (goal ∷ [])))
    ∙ filter-append is_unfinished (drop (sweep + 1) goals ++ take sweep goals) (goal ∷ [])
    ∙ ap (λ (k : ℕ). filter is_unfinished (drop k goals ++ take sweep goals) ++ filter is_unfinished (goal ∷ [])) (let same : sweep + 1 ≡ suc sweep = omega arith in same)

-- what each end of a turn leaves
pub ends : (goals : List Goal) (sweep : ℕ) (goal : Goal) → sweep < length goals → unfinished_from (set goals sweep goal) ((sweep + 1) % length goals) ≡ filter is_unfinished (others goals sweep) ++ filter is_unfinished (goal ∷ [])
ends goals sweep goal below =
    let long = length-set goals sweep goal in
    ap (λ (k : ℕ). unfinished_from (set goals sweep goal) ((sweep + 1) % k)) (sym long)
    ∙ round_again (set goals sweep goal) (sweep + 1) (omega arith)
    ∙ last_of goals sweep goal below

-- what the end of a turn leaves after which the sweep stays
pub stays : (goals : List Goal) (sweep : ℕ) (goal : Goal) → sweep < length goals → is_unfinished goal ≡ true → unfinished_from (set goals sweep goal) sweep ≡ goal ∷ filter is_unfinished (others goals sweep)
stays goals sweep goal below left_too =
    let own : goal_at (set goals sweep goal) sweep ≡ goal = get_or-set_same goals sweep goal Done below in
    let same : others (set goals sweep goal) sweep ≡ others goals sweep = ap (λ (l : List Goal). l ++ take sweep (set goals sweep goal)) (drop-set-lt (suc sweep) goals sweep goal (omega arith)) ∙ ap (λ (l : List Goal). drop (suc sweep) goals ++ l) (take-set-le sweep goals sweep goal (omega arith)) in
    first_of (set goals sweep goal) sweep (omega (arith, below, length-set goals sweep goal)) (ap is_unfinished own ∙ left_too)
    ∙ ap (λ (g : Goal). g ∷ filter is_unfinished (others (set goals sweep goal) sweep)) own
    ∙ ap (λ (l : List Goal). goal ∷ filter is_unfinished l) same

-- ---- the quiet count

-- an ask is unfinished
ask_open : (goal : Goal) → IsAsk goal → filter is_unfinished (goal ∷ []) ≡ goal ∷ []
ask_open (Write round value) ask = absurd ask
ask_open (Ask round) ask = refl
ask_open (Propose value) ask = absurd ask
ask_open AskInput ask = refl
ask_open Done ask = absurd ask
ask_open Spent ask = absurd ask

-- a turn that was quiet
pub quiet_ends : (goals : List Goal) (sweep : ℕ) (goal : Goal) (quiet more : ℕ) → sweep < length goals → is_unfinished (goal_at goals sweep) ≡ true → more ≤ quiet + 1 → IsAsk goal
    → AreAsksAtTheEnd (unfinished_from goals sweep) quiet → AreAsksAtTheEnd (unfinished_from (set goals sweep goal) ((sweep + 1) % length goals)) more
quiet_ends goals sweep goal quiet more below is less ask all =
    let rest = filter is_unfinished (others goals sweep) in
    let before : AreAsksAtTheEnd (goal_at goals sweep ∷ rest) quiet = subst (λ (l : List Goal). AreAsksAtTheEnd l quiet) (first_of goals sweep below is) all in
    let after : AreAsksAtTheEnd (rest ++ goal ∷ []) (quiet + 1) = asked_again (goal_at goals sweep) goal rest quiet ask before in
    let comes : filter is_unfinished (goal ∷ []) ≡ goal ∷ [] = ask_open goal ask in
    subst (λ (l : List Goal). AreAsksAtTheEnd l more) (sym (ends goals sweep goal below ∙ ap (λ (l : List Goal). rest ++ l) comes)) (fewer_asks (rest ++ goal ∷ []) (quiet + 1) more less after)

-- ---- where as many were quiet as are unfinished

split_asks : (goals more : List Goal) → AreAsks (goals ++ more) → AreAsks goals × AreAsks more
split_asks [] more all = (tt, all)
split_asks (goal ∷ goals) more all = let rest = split_asks goals more all.1 in ((all.0, rest.0), rest.1)

join_asks : (goals more : List Goal) → AreAsks goals → AreAsks more → AreAsks (goals ++ more)
join_asks [] more one two = two
join_asks (goal ∷ goals) more one two = (one.0, join_asks goals more one.1 two)

turned : (goals : List Goal) → AreAsks (reverse goals) → AreAsks goals
turned [] all = tt
turned (goal ∷ goals) all =
    let both = split_asks (reverse goals) (goal ∷ []) (subst AreAsks (reverse-append (goal ∷ []) goals) all) in
    (both.1.0, turned goals both.0)

no_writes : (goals : List Goal) (process : ℕ) → AreAsks (filter is_unfinished goals) → HasNoWrite (goal_at goals process)
no_writes [] process all = tt
no_writes (Write round value ∷ goals) process all = absurd all.0
no_writes (Ask round ∷ goals) zero all = tt
no_writes (Ask round ∷ goals) (suc process) all = no_writes goals process all.1
no_writes (Propose value ∷ goals) process all = absurd all.0
no_writes (AskInput ∷ goals) zero all = tt
no_writes (AskInput ∷ goals) (suc process) all = no_writes goals process all.1
no_writes (Done ∷ goals) zero all = tt
no_writes (Done ∷ goals) (suc process) all = no_writes goals process all
no_writes (Spent ∷ goals) zero all = tt
no_writes (Spent ∷ goals) (suc process) all = no_writes goals process all

-- the asks of a whole round
pub all_asked : (goals : List Goal) (sweep quiet process : ℕ) → unfinished_in goals ≤ quiet → AreAsksAtTheEnd (unfinished_from goals sweep) quiet → HasNoWrite (goal_at goals process)
all_asked goals sweep quiet process enough all =
    let rest = drop sweep goals in
    let before = take sweep goals in
    let parts = filter-append is_unfinished rest before in
    let counts : length (unfinished_from goals sweep) ≡ length (filter is_unfinished rest) + length (filter is_unfinished before) = ap (λ (l : List Goal). length l) parts ∙ length-append (filter is_unfinished rest) (filter is_unfinished before) in
    let whole = ap (filter is_unfinished) (sym (take-append-drop sweep goals)) ∙ filter-append is_unfinished before rest in
    let long : unfinished_in goals ≡ length (filter is_unfinished before) + length (filter is_unfinished rest) = ap (λ (l : List Goal). length l) whole ∙ length-append (filter is_unfinished before) (filter is_unfinished rest) in
    let back = length-reverse (unfinished_from goals sweep) in
    let each : AreAsks (unfinished_from goals sweep) = turned (unfinished_from goals sweep) (subst AreAsks (take_all quiet (reverse (unfinished_from goals sweep)) (omega arith)) all) in
    let both = split_asks (filter is_unfinished rest) (filter is_unfinished before) (subst AreAsks parts each) in
    no_writes goals process (subst AreAsks (sym whole) (join_asks (filter is_unfinished before) (filter is_unfinished rest) both.1 both.0))
