-- Outcomes of one group decide the same values, hold as many processes, and keep or break a task alike.
use Rattle.std.proofs.Common.{◌≡◌, ◌∙◌, ℕ, suc, ◌+◌, ◌<◌, ◌≤◌, Bool, true, false, ◌&&◌, ◌||◌, not, cond, eqb, List, [], ◌∷◌, Option, Some, None, refl, sym, ap, ap₂, arith}
use Rattle.std.specs.Prelude.{nat_le}
use Rattle.std.specs.List.{fold, list_all, list_any, sum_by}
use Rattle.std.specs.Option.{option_map_or}
use Rattle.std.proofs.lemmas.List.Sums.{sum_by-cons}
use Rattle.room_spec.specs.Rooms.{RoomSpec}
use Rattle.ws_history.specs.Reports.{is_held}
use Rattle.ws_history.specs.contracts.states.ProcessStatePartialEq.TheImpl.{ghosts}
use Rattle.ws_history.specs.declared.states.ProcessState.{ProcessState}
use Rattle.ws_history.specs.declared.states.ProcessState.TheVariants.{Decided, Spent, Held, Going}
use Rattle.room_sample.specs.Groups.{are_alike, grouped, grouped_if, joined, without_holder, without_holders}
use Rattle.room_sample.specs.Parts.{more_times}
use Rattle.room_sample.specs.Samples.{Counted}
use Rattle.room_sample.proofs.CallerLemmas.{grouped_sum, same_patterns}
use Rattle.view_sample.specs.Counts.{held_in, values_in}
use Rattle.view_sample.specs.Tasks.{breaks_task, decides_input, keeps, keeps_task, times_broken}

-- ---- states, whichever simulators hold

any_pattern : (v : ℕ) (states : List ProcessState) → list_any (ghosts.eq (Decided v)) (without_holders states) ≡ list_any (ghosts.eq (Decided v)) states
any_pattern v [] = refl
any_pattern v (Decided w ∷ states) = ap (λ (b : Bool). eqb v w || b) (any_pattern v states)
any_pattern v (Spent ∷ states) = any_pattern v states
any_pattern v (Held i ∷ states) = any_pattern v states
any_pattern v (Going ∷ states) = any_pattern v states

values_pattern : (states : List ProcessState) → values_in (without_holders states) ≡ values_in states
values_pattern [] = refl
values_pattern (Decided v ∷ states) = ap₂ (λ (b : Bool) (n : ℕ). cond (not b) (suc n) n) (any_pattern v states) (values_pattern states)
values_pattern (Spent ∷ states) = values_pattern states
values_pattern (Held i ∷ states) = values_pattern states
values_pattern (Going ∷ states) = values_pattern states

abbrev one_if : Bool → ℕ
one_if b = cond b 1 0

held_more : (state : ProcessState) (states : List ProcessState) → held_in (state ∷ states) ≡ cond (is_held state) 1 0 + held_in states
held_more state states = sum_by-cons (λ (one : ProcessState). cond (is_held one) 1 0) state states

same_hold : (state : ProcessState) → is_held (without_holder state) ≡ is_held state
same_hold (Decided v) = refl
same_hold Spent = refl
same_hold (Held i) = refl
same_hold Going = refl

held_pattern : (states : List ProcessState) → held_in (without_holders states) ≡ held_in states
held_pattern [] = refl
held_pattern (state ∷ states) =
    let here = held_more (without_holder state) (without_holders states) in
    let was = held_more state states in
    let same : one_if (is_held (without_holder state)) ≡ one_if (is_held state) = ap one_if (same_hold state) in
    let later = held_pattern states in
    omega (arith, here, was, same, later)

same_input : (spec : RoomSpec) (state : ProcessState) → decides_input spec (without_holder state) ≡ decides_input spec state
same_input spec (Decided v) = refl
same_input spec Spent = refl
same_input spec (Held i) = refl
same_input spec Going = refl

inputs_pattern : (spec : RoomSpec) (states : List ProcessState) → list_all (decides_input spec) (without_holders states) ≡ list_all (decides_input spec) states
inputs_pattern spec [] = refl
inputs_pattern spec (state ∷ states) = ap₂ (λ (a b : Bool). a && b) (same_input spec state) (inputs_pattern spec states)

keeps_pattern : (spec : RoomSpec) (states : List ProcessState) → keeps_task spec (without_holders states) ≡ keeps_task spec states
keeps_pattern spec states = by spec.task
  where
    by : (task : Option ℕ) → option_map_or (keeps spec (without_holders states)) task true ≡ option_map_or (keeps spec states) task true
    by None = refl
    by (Some most) = ap₂ (λ (n : ℕ) (b : Bool). nat_le n most && b) (values_pattern states) (inputs_pattern spec states)

-- ---- outcomes of one group

pub alike_values : (one other : Counted) → are_alike one other ≡ true → values_in one.states ≡ values_in other.states
alike_values one other is = sym (values_pattern one.states) ∙ ap values_in (same_patterns one other is) ∙ values_pattern other.states

pub alike_held : (one other : Counted) → are_alike one other ≡ true → held_in one.states ≡ held_in other.states
alike_held one other is = sym (held_pattern one.states) ∙ ap held_in (same_patterns one other is) ∙ held_pattern other.states

pub alike_tasks : (spec : RoomSpec) (one other : Counted) → are_alike one other ≡ true → keeps_task spec one.states ≡ keeps_task spec other.states
alike_tasks spec one other is = sym (keeps_pattern spec one.states) ∙ ap (keeps_task spec) (same_patterns one other is) ∙ keeps_pattern spec other.states

-- as many schedules broke the task
pub grouped_broken : (spec : RoomSpec) (outcomes : List Counted) → sum_by (λ (c : Counted). c.times) outcomes < 4294967296 → times_broken spec (grouped outcomes) ≡ times_broken spec outcomes
grouped_broken spec outcomes few =
    grouped_sum (breaks_task spec) (record { alike = λ one other is. ap not (alike_tasks spec one other is); often = λ one count. refl }) outcomes few

-- ---- there are no more schedules

all_times : (one : Counted) (others : List Counted) → sum_by (λ (c : Counted). c.times) (one ∷ others) ≡ one.times + sum_by (λ (c : Counted). c.times) others
all_times one others = sum_by-cons (λ (c : Counted). c.times) one others

joined_few : (one : Counted) (groups : List Counted) → sum_by (λ (c : Counted). c.times) (joined one groups) ≤ sum_by (λ (c : Counted). c.times) groups + one.times
joined_few one [] = let all = all_times one [] in omega (arith, all)
joined_few one (group ∷ groups) = by (are_alike one group) (joined_few one groups)
  where
    was : sum_by (λ (c : Counted). c.times) (group ∷ groups) ≡ group.times + sum_by (λ (c : Counted). c.times) groups
    was = all_times group groups

    by : (b : Bool) → sum_by (λ (c : Counted). c.times) (joined one groups) ≤ sum_by (λ (c : Counted). c.times) groups + one.times
        → sum_by (λ (c : Counted). c.times) (cond b (more_times one.times group ∷ groups) (group ∷ joined one groups)) ≤ sum_by (λ (c : Counted). c.times) (group ∷ groups) + one.times
    by true later = let here = all_times (more_times one.times group) groups in omega (arith, here, was)
    by false later = let here = all_times group (joined one groups) in omega (arith, here, was, later)

few_from : (outcomes groups : List Counted) → sum_by (λ (c : Counted). c.times) (fold (λ (so_far : List Counted) (one : Counted). joined one so_far) groups outcomes) ≤ sum_by (λ (c : Counted). c.times) groups + sum_by (λ (c : Counted). c.times) outcomes
few_from [] groups = omega arith
few_from (one ∷ outcomes) groups =
    let all = all_times one outcomes in
    let here = joined_few one groups in
    let later = few_from outcomes (joined one groups) in
    omega (arith, all, here, later)

pub grouped_few : (group : Bool) (outcomes : List Counted) → sum_by (λ (c : Counted). c.times) (grouped_if group outcomes) ≤ sum_by (λ (c : Counted). c.times) outcomes
grouped_few true outcomes = let all = few_from outcomes [] in omega (arith, all)
grouped_few false outcomes = omega arith
