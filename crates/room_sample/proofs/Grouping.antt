-- Groups have each outcome once, and each schedule is counted once.
use Rattle.std.proofs.Common.{All, ◌≡◌, ◌∙◌, ℕ, ◌+◌, ◌<◌, ◌≤◌, Bool, true, false, cond, min, List, [], ◌∷◌, get_or, refl, ap, arith}
use Rattle.std.specs.List.{count_by, fold, sum_by}
use Rattle.std.proofs.lemmas.List.Elements.{All-cons, All-tail}
use Rattle.std.proofs.lemmas.List.Sums.{sum_by-cons}
use Rattle.std.proofs.lemmas.Option.{slice_get-get_or}
use Rattle.ws_history.specs.declared.states.ProcessState.{ProcessState}
use Rattle.room_sample.specs.Groups.{AreGroups, IsShownAs, are_alike, grouped, joined, without_holders}
use Rattle.room_sample.specs.Parts.{more_times}
use Rattle.room_sample.specs.Samples.{Counted, same_states}
use Rattle.room_sample.proofs.Joining.{same_states_self}
use Rattle.room_sample.proofs.Shortening.{same_lists}

abbrev joined_all : List Counted → List Counted → List Counted
joined_all groups outcomes = fold (λ (so_far : List Counted) (one : Counted). joined one so_far) groups outcomes

-- ---- outcomes that are alike

pub same_patterns : (one other : Counted) → are_alike one other ≡ true → without_holders one.states ≡ without_holders other.states
same_patterns one other is = same_lists (without_holders one.states) (without_holders other.states) is

-- what is alike is alike to the same outcomes
alike_both : (one other x : Counted) → are_alike one other ≡ true → are_alike x one ≡ are_alike x other
alike_both one other x is = ap (λ (states : List ProcessState). same_states (without_holders x.states) states) (same_patterns one other is)

alike_as : (one other x : Counted) → are_alike one other ≡ true → are_alike one x ≡ are_alike other x
alike_as one other x is = ap (λ (states : List ProcessState). same_states states (without_holders x.states)) (same_patterns one other is)

alike_self : (one : Counted) → are_alike one one ≡ true
alike_self one = same_states_self (without_holders one.states)

-- ---- sums over groups

-- what holds of an outcome or not, whichever simulators hold in it
pub record IsOfGroups (test : Counted → Bool) : Type 0 where
  pub alike : (one other : Counted) → are_alike one other ≡ true → test one ≡ test other
  pub often : (one : Counted) (count : ℕ) → test (more_times count one) ≡ test one

abbrev pub times_if : (Counted → Bool) → Counted → ℕ
times_if test one = cond (test one) one.times 0

all_times : (one : Counted) (others : List Counted) → sum_by (λ (c : Counted). c.times) (one ∷ others) ≡ one.times + sum_by (λ (c : Counted). c.times) others
all_times one others = sum_by-cons (λ (c : Counted). c.times) one others

joined_sum : (test : Counted → Bool) → IsOfGroups test → (one : Counted) (groups : List Counted) → sum_by (λ (c : Counted). c.times) groups + one.times < 4294967296
    → sum_by (times_if test) (joined one groups) ≡ sum_by (times_if test) groups + times_if test one
joined_sum test of one [] few = let all = sum_by-cons (times_if test) one [] in omega (arith, all)
joined_sum test of one (group ∷ groups) few =
    by (are_alike one group) refl (λ fewer. joined_sum test of one groups fewer)
  where
    all : sum_by (λ (c : Counted). c.times) (group ∷ groups) ≡ group.times + sum_by (λ (c : Counted). c.times) groups
    all = all_times group groups

    was : sum_by (times_if test) (group ∷ groups) ≡ times_if test group + sum_by (times_if test) groups
    was = sum_by-cons (times_if test) group groups

    times_both : (b : Bool) → cond b (min (group.times + one.times) 4294967295) 0 ≡ cond b group.times 0 + cond b one.times 0
    times_both true = omega (arith, few, all)
    times_both false = refl

    by : (b : Bool) → are_alike one group ≡ b
        → (sum_by (λ (c : Counted). c.times) groups + one.times < 4294967296 → sum_by (times_if test) (joined one groups) ≡ sum_by (times_if test) groups + times_if test one)
        → sum_by (times_if test) (cond b (more_times one.times group ∷ groups) (group ∷ joined one groups)) ≡ sum_by (times_if test) (group ∷ groups) + times_if test one
    by true is later =
        let here = sum_by-cons (times_if test) (more_times one.times group) groups in
        let more : times_if test (more_times one.times group) ≡ cond (test group) (min (group.times + one.times) 4294967295) 0 = ap (λ (b : Bool). cond b (min (group.times + one.times) 4294967295) 0) (of.often group one.times) in
        let own : times_if test one ≡ cond (test group) one.times 0 = ap (λ (b : Bool). cond b one.times 0) (of.alike one group is) in
        let both = times_both (test group) in
        omega (arith, here, was, more, own, both)
    by false is later =
        let here = sum_by-cons (times_if test) group (joined one groups) in
        let rest = later (omega (arith, few, all)) in
        omega (arith, here, was, rest)

any_of_groups : IsOfGroups (λ (one : Counted). true)
any_of_groups = record { alike = λ one other is. refl; often = λ one count. refl }

joined_total : (one : Counted) (groups : List Counted) → sum_by (λ (c : Counted). c.times) groups + one.times < 4294967296 → sum_by (λ (c : Counted). c.times) (joined one groups) ≡ sum_by (λ (c : Counted). c.times) groups + one.times
joined_total one groups few = joined_sum (λ (one : Counted). true) any_of_groups one groups few

sums_from : (test : Counted → Bool) → IsOfGroups test → (outcomes groups : List Counted) → sum_by (λ (c : Counted). c.times) groups + sum_by (λ (c : Counted). c.times) outcomes < 4294967296
    → sum_by (times_if test) (joined_all groups outcomes) ≡ sum_by (times_if test) groups + sum_by (times_if test) outcomes
sums_from test of [] groups few = omega arith
sums_from test of (one ∷ outcomes) groups few =
    let all = all_times one outcomes in
    let own = sum_by-cons (times_if test) one outcomes in
    let fits : sum_by (λ (c : Counted). c.times) groups + one.times < 4294967296 = omega (arith, few, all) in
    let here = joined_sum test of one groups fits in
    let total = joined_total one groups fits in
    let later = sums_from test of outcomes (joined one groups) (omega (arith, few, all, total)) in
    omega (arith, own, here, later)

-- what holds whichever simulators hold came as often in the groups as in the outcomes
pub grouped_sum : (test : Counted → Bool) → IsOfGroups test → (outcomes : List Counted) → sum_by (λ (c : Counted). c.times) outcomes < 4294967296 → sum_by (times_if test) (grouped outcomes) ≡ sum_by (times_if test) outcomes
grouped_sum test of outcomes few = let all = sums_from test of outcomes [] (omega (arith, few)) in omega (arith, all)

pub grouped_total : (outcomes : List Counted) → sum_by (λ (c : Counted). c.times) outcomes < 4294967296 → sum_by (λ (c : Counted). c.times) (grouped outcomes) ≡ sum_by (λ (c : Counted). c.times) outcomes
grouped_total outcomes few = grouped_sum (λ (one : Counted). true) any_of_groups outcomes few

-- ---- each outcome is in one group

abbrev one_if : Bool → ℕ
one_if b = cond b 1 0

count_more : (x group : Counted) (groups : List Counted) → count_by (are_alike x) (group ∷ groups) ≡ cond (are_alike x group) 1 0 + count_by (are_alike x) groups
count_more x group groups = sum_by-cons (λ (c : Counted). cond (are_alike x c) 1 0) group groups

-- one joins its own group, or begins it
joins_own : (x one : Counted) (groups : List Counted) → are_alike x one ≡ true → count_by (are_alike x) groups ≤ 1 → count_by (are_alike x) (joined one groups) ≡ 1
joins_own x one [] is few = let more = count_more x one [] in let own = ap one_if is in omega (arith, more, own)
joins_own x one (group ∷ groups) is few = by (are_alike one group) refl (λ fewer. joins_own x one groups is fewer)
  where
    was : count_by (are_alike x) (group ∷ groups) ≡ cond (are_alike x group) 1 0 + count_by (are_alike x) groups
    was = count_more x group groups

    same : are_alike x group ≡ are_alike one group
    same = alike_as x one group is

    by : (b : Bool) → are_alike one group ≡ b → (count_by (are_alike x) groups ≤ 1 → count_by (are_alike x) (joined one groups) ≡ 1)
        → count_by (are_alike x) (cond b (more_times one.times group ∷ groups) (group ∷ joined one groups)) ≡ 1
    by true to later =
        let here = count_more x (more_times one.times group) groups in
        let own : cond (are_alike x group) 1 0 ≡ 1 = ap one_if (same ∙ to) in
        omega (arith, here, was, own, few)
    by false to later =
        let here = count_more x group (joined one groups) in
        let other : one_if (are_alike x group) ≡ 0 = ap one_if (same ∙ to) in
        let rest = later (omega (arith, was, few)) in
        omega (arith, here, other, rest)

-- and no other
joins_none : (x one : Counted) (groups : List Counted) → are_alike x one ≡ false → count_by (are_alike x) (joined one groups) ≡ count_by (are_alike x) groups
joins_none x one [] not = let more = count_more x one [] in let other = ap one_if not in omega (arith, more, other)
joins_none x one (group ∷ groups) not = by (are_alike one group) (joins_none x one groups not)
  where
    was : count_by (are_alike x) (group ∷ groups) ≡ cond (are_alike x group) 1 0 + count_by (are_alike x) groups
    was = count_more x group groups

    by : (b : Bool) → count_by (are_alike x) (joined one groups) ≡ count_by (are_alike x) groups
        → count_by (are_alike x) (cond b (more_times one.times group ∷ groups) (group ∷ joined one groups)) ≡ count_by (are_alike x) (group ∷ groups)
    by true later = let here = count_more x (more_times one.times group) groups in omega (arith, here, was)
    by false later = let here = count_more x group (joined one groups) in omega (arith, here, was, later)

abbrev AreApart : List Counted → Type 0
AreApart groups = (x : Counted) → count_by (are_alike x) groups ≤ 1

still_apart : (one : Counted) (groups : List Counted) → AreApart groups → AreApart (joined one groups)
still_apart one groups apart x = by (are_alike x one) refl
  where
    by : (b : Bool) → are_alike x one ≡ b → count_by (are_alike x) (joined one groups) ≤ 1
    by true is = let own = joins_own x one groups is (apart x) in omega (arith, own)
    by false not = let none = joins_none x one groups not in let few = apart x in omega (arith, none, few)

-- a group that is there stays
stays_one : (x one : Counted) (groups : List Counted) → count_by (are_alike x) groups ≡ 1 → count_by (are_alike x) (joined one groups) ≡ 1
stays_one x one groups is = by (are_alike x one) refl
  where
    by : (b : Bool) → are_alike x one ≡ b → count_by (are_alike x) (joined one groups) ≡ 1
    by true same = joins_own x one groups same (omega (arith, is))
    by false not = joins_none x one groups not ∙ is

stays_all : (x : Counted) (outcomes groups : List Counted) → count_by (are_alike x) groups ≡ 1 → count_by (are_alike x) (joined_all groups outcomes) ≡ 1
stays_all x [] groups is = is
stays_all x (one ∷ outcomes) groups is = stays_all x outcomes (joined one groups) (stays_one x one groups is)

each_once : (outcomes groups : List Counted) → AreApart groups → All (λ (one : Counted). count_by (are_alike one) (joined_all groups outcomes) ≡ 1) outcomes
each_once [] groups apart = λ k d below. absurd (omega (arith, below))
each_once (one ∷ outcomes) groups apart =
    All-cons (λ (x : Counted). count_by (are_alike x) (joined_all (joined one groups) outcomes) ≡ 1) one outcomes
    (stays_all one outcomes (joined one groups) (joins_own one one groups (alike_self one) (apart one)))
    (each_once outcomes (joined one groups) (still_apart one groups apart))

-- ---- what holds of each outcome holds of each group

joined_keeps : (P : Counted → Type 0) → ((one : Counted) (count : ℕ) → P one → P (more_times count one)) → (one : Counted) (groups : List Counted) → P one → All P groups → All P (joined one groups)
joined_keeps P often one [] is all = All-cons P one [] is all
joined_keeps P often one (group ∷ groups) is all =
    by (are_alike one group) (joined_keeps P often one groups is (All-tail P group groups all))
  where
    by : (b : Bool) → All P (joined one groups) → All P (cond b (more_times one.times group ∷ groups) (group ∷ joined one groups))
    by true later = All-cons P (more_times one.times group) groups (often group one.times (all 0 group (omega arith))) (All-tail P group groups all)
    by false later = All-cons P group (joined one groups) (all 0 group (omega arith)) later

kept_from : (P : Counted → Type 0) → ((one : Counted) (count : ℕ) → P one → P (more_times count one)) → (outcomes groups : List Counted) → All P outcomes → All P groups → All P (joined_all groups outcomes)
kept_from P often [] groups are all = all
kept_from P often (one ∷ outcomes) groups are all = kept_from P often outcomes (joined one groups) (All-tail P one outcomes are) (joined_keeps P often one groups (are 0 one (omega arith)) all)

-- as long as it doesn't depend on how often they came
pub grouped_keeps : (P : Counted → Type 0) → ((one : Counted) (count : ℕ) → P one → P (more_times count one)) → (outcomes : List Counted) → All P outcomes → All P (grouped outcomes)
grouped_keeps P often outcomes are = kept_from P often outcomes [] are (λ k d below. absurd (omega (arith, below)))

-- ---- the groups

pub are_groups : (outcomes : List Counted) → sum_by (λ (c : Counted). c.times) outcomes < 4294967296 → AreGroups outcomes (grouped outcomes)
are_groups outcomes few = record {
  once = each_once outcomes [] (λ x. omega arith);
  shown = grouped_keeps (IsShownAs outcomes) (λ one count is. is) outcomes (λ k d below. (k, get_or outcomes k d, slice_get-get_or outcomes k d below, refl, refl));
  times = λ one. grouped_sum (are_alike one) (record { alike = λ a b is. alike_both a b one is; often = λ a count. refl }) outcomes few;
  total = grouped_total outcomes few;
}
