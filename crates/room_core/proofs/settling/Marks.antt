-- The goals of a mind, in which an ask counts only where its agreement isn't resolved yet: any other is marked as a write.
use Rattle.std.proofs.Common.{◌≡◌, ℕ, zero, suc, ◌+◌, ◌%◌, ◌<◌, ◌≤◌, min, Bool, true, false, not, cond, ltb, List, [], ◌∷◌, length, set, take, drop, Option, Some, None, refl, sym, ap, ◌∙◌, subst, arith}
use Rattle.std.specs.List.{filter, position, position_or_len}
use Rattle.std.specs.Option.{option_map}
use Rattle.simulator.specs.declared.goal.Goal.{Goal}
use Rattle.simulator.specs.declared.goal.Goal.TheVariants.{Write, Ask, Propose, AskInput, Done, Spent}
use Rattle.simulator.specs.declared.turn.Turn.TheVariants.{Useful}
use Rattle.simulator.specs.Minds.{MindOf, is_unfinished, goal_at, current_goal, current_round, next_process, or_else, round_of, unfinished_in}
use Rattle.simulator.specs.Quiet.{HasNoWrite, IsAsk, AreAsksAtTheEnd, unfinished_from}
use Rattle.simulator.specs.Turns.{asks_in, begun, ended, asked}
use Rattle.simulator.specs.Sweeps.{quiet_after}
use Rattle.simulator.proofs.CallerLemmas.{sets_out, no_asks, quiet_ends, all_asked}

abbrev pub mark : (ℕ → ℕ → Bool) → ℕ → Goal → Goal
mark blocked p (Write round value) = Write round value
mark blocked p (Ask round) = cond (blocked p round) (Ask round) (Write round 0)
mark blocked p (Propose value) = Propose value
mark blocked p AskInput = cond (blocked p 0) AskInput (Propose 0)
mark blocked p Done = Done
mark blocked p Spent = Spent

abbrev pub marks : (ℕ → ℕ → Bool) → ℕ → List Goal → List Goal
marks blocked p [] = []
marks blocked p (goal ∷ goals) = mark blocked p goal ∷ marks blocked (suc p) goals

module _ (blocked : ℕ → ℕ → Bool) where
  test_by : (b : Bool) (round : ℕ) → is_unfinished (cond b (Ask round) (Write round 0)) ≡ true
  test_by true round = refl
  test_by false round = refl

  test_by_input : (b : Bool) → is_unfinished (cond b AskInput (Propose 0)) ≡ true
  test_by_input true = refl
  test_by_input false = refl

  same_test : (p : ℕ) (goal : Goal) → is_unfinished (mark blocked p goal) ≡ is_unfinished goal
  same_test p (Write round value) = refl
  same_test p (Ask round) = test_by (blocked p round) round
  same_test p (Propose value) = refl
  same_test p AskInput = test_by_input (blocked p 0)
  same_test p Done = refl
  same_test p Spent = refl

  pub same_length : (p : ℕ) (goals : List Goal) → length (marks blocked p goals) ≡ length goals
  same_length p [] = refl
  same_length p (goal ∷ goals) = ap suc (same_length (suc p) goals)

  same_place : (p : ℕ) (goals : List Goal) → position_or_len is_unfinished (marks blocked p goals) ≡ position_or_len is_unfinished goals
  same_place p [] = refl
  same_place p (goal ∷ goals) =
      ap (λ (b : Bool). cond (not b) (1 + position_or_len is_unfinished (marks blocked (suc p) goals)) 0) (same_test p goal)
      ∙ ap (λ (n : ℕ). cond (not (is_unfinished goal)) (1 + n) 0) (same_place (suc p) goals)

  same_count : (p : ℕ) (goals : List Goal) → unfinished_in (marks blocked p goals) ≡ unfinished_in goals
  same_count p [] = refl
  same_count p (goal ∷ goals) = count_by (is_unfinished (mark blocked p goal)) (is_unfinished goal) (same_test p goal) (mark blocked p goal) goal (filter is_unfinished (marks blocked (suc p) goals)) (filter is_unfinished goals) (same_count (suc p) goals)
    where
      count_by : (b c : Bool) → b ≡ c → (x y : Goal) (xs ys : List Goal) → length xs ≡ length ys → length (cond b (x ∷ xs) xs) ≡ length (cond c (y ∷ ys) ys)
      count_by true true e x y xs ys same = ap suc same
      count_by false false e x y xs ys same = same
      count_by true false e x y xs ys same = absurd cc
      count_by false true e x y xs ys same = absurd cc

  drop_marks : (s p : ℕ) (goals : List Goal) → drop s (marks blocked p goals) ≡ marks blocked (p + s) (drop s goals)
  drop_marks zero p goals = ap (λ (q : ℕ). marks blocked q goals) (let same : p ≡ p + 0 = omega arith in same)
  drop_marks (suc s) p [] = refl
  drop_marks (suc s) p (goal ∷ goals) = drop_marks s (suc p) goals ∙ ap (λ (q : ℕ). marks blocked q (drop s goals)) (let same : suc p + s ≡ p + suc s = omega arith in same)

  take_marks : (s p : ℕ) (goals : List Goal) → take s (marks blocked p goals) ≡ marks blocked p (take s goals)
  take_marks zero p [] = refl
  take_marks zero p (goal ∷ goals) = refl
  take_marks (suc s) p [] = refl
  take_marks (suc s) p (goal ∷ goals) = ap (λ (l : List Goal). mark blocked p goal ∷ l) (take_marks s (suc p) goals)

  same_position : (p : ℕ) (goals : List Goal) → position is_unfinished (marks blocked p goals) ≡ position is_unfinished goals
  same_position p goals =
      ap (λ (n : ℕ). cond (ltb n (length (marks blocked p goals))) (Some n) None) (same_place p goals)
      ∙ ap (λ (m : ℕ). cond (ltb (position_or_len is_unfinished goals) m) (Some (position_or_len is_unfinished goals)) None) (same_length p goals)

  same_next : (goals : List Goal) (s : ℕ) → next_process (marks blocked 0 goals) s ≡ next_process goals s
  same_next goals s =
      let later = ap (position is_unfinished) (drop_marks s 0 goals) ∙ same_position (0 + s) (drop s goals) in
      let sooner = ap (position is_unfinished) (take_marks s 0 goals) ∙ same_position 0 (take s goals) in
      ap (λ (at : Option ℕ). or_else (option_map (λ at. s + at) at) (position is_unfinished (take s (marks blocked 0 goals)))) later
      ∙ ap (λ (at : Option ℕ). or_else (option_map (λ at. s + at) (position is_unfinished (drop s goals))) at) sooner

  goal_marked : (s p : ℕ) (goals : List Goal) → goal_at (marks blocked p goals) s ≡ mark blocked (p + s) (goal_at goals s)
  goal_marked s p [] = refl
  goal_marked zero p (goal ∷ goals) = ap (λ (q : ℕ). mark blocked q goal) (let same : p ≡ p + 0 = omega arith in same)
  goal_marked (suc s) p (goal ∷ goals) = goal_marked s (suc p) goals ∙ ap (λ (q : ℕ). mark blocked q (goal_at goals s)) (let same : suc p + s ≡ p + suc s = omega arith in same)

  set_marked : (s p : ℕ) (goals : List Goal) (goal : Goal) → marks blocked p (set goals s goal) ≡ set (marks blocked p goals) s (mark blocked (p + s) goal)
  set_marked s p [] goal = refl
  set_marked zero p (first ∷ goals) goal = ap (λ (q : ℕ). mark blocked q goal ∷ marks blocked (suc p) goals) (let same : p ≡ p + 0 = omega arith in same)
  set_marked (suc s) p (first ∷ goals) goal = ap (λ (l : List Goal). mark blocked p first ∷ l) (set_marked s (suc p) goals goal)
      ∙ ap (λ (q : ℕ). mark blocked p first ∷ set (marks blocked (suc p) goals) s (mark blocked q goal)) (let same : suc p + s ≡ p + suc s = omega arith in same)

-- the marks look only at the asks that are there
mark_by : (blocked other : ℕ → ℕ → Bool) (p : ℕ) (goal : Goal) → (IsAsk goal → blocked p (round_of goal) ≡ other p (round_of goal)) → mark blocked p goal ≡ mark other p goal
mark_by blocked other p (Write round value) same = refl
mark_by blocked other p (Ask round) same = ap (λ (b : Bool). cond b (Ask round) (Write round 0)) (same tt)
mark_by blocked other p (Propose value) same = refl
mark_by blocked other p AskInput same = ap (λ (b : Bool). cond b AskInput (Propose 0)) (same tt)
mark_by blocked other p Done same = refl
mark_by blocked other p Spent same = refl

pub same_marks : (blocked other : ℕ → ℕ → Bool) (p : ℕ) (goals : List Goal) → ((s : ℕ) → IsAsk (goal_at goals s) → blocked (p + s) (round_of (goal_at goals s)) ≡ other (p + s) (round_of (goal_at goals s))) → marks blocked p goals ≡ marks other p goals
same_marks blocked other p [] same = refl
same_marks blocked other p (goal ∷ goals) same =
    let here : mark blocked p goal ≡ mark other p goal = mark_by blocked other p goal (λ is. subst (λ (q : ℕ). blocked q (round_of goal) ≡ other q (round_of goal)) (let e : p + 0 ≡ p = omega arith in e) (same 0 is)) in
    let more = same_marks blocked other (suc p) goals (λ s is. subst (λ (q : ℕ). blocked q (round_of (goal_at goals s)) ≡ other q (round_of (goal_at goals s))) (let e : p + suc s ≡ suc p + s = omega arith in e) (same (suc s) is)) in
    λ t. here t ∷ more t

-- what is left to ask is an ask, and is marked as one where it is blocked
asks_are : (round : ℕ) → IsAsk (asks_in round)
asks_are zero = tt
asks_are (suc round) = tt

asks_marked : (blocked : ℕ → ℕ → Bool) (p round : ℕ) → blocked p round ≡ true → mark blocked p (asks_in round) ≡ asks_in round
asks_marked blocked p zero is = ap (λ (b : Bool). cond b AskInput (Propose 0)) is
asks_marked blocked p (suc round) is = ap (λ (b : Bool). cond b (Ask (suc round)) (Write (suc round) 0)) is

-- ---- the quiet count of a mind whose last asks are blocked

abbrev pub IsBlockedCount : {S : Type 0} → (ℕ → ℕ → Bool) → MindOf S → ℕ → Type 0
IsBlockedCount blocked mind quiet = AreAsksAtTheEnd (unfinished_from (marks blocked 0 mind.goals) mind.process) quiet

module _ {S : Type 0} (blocked : ℕ → ℕ → Bool) where
  pub blocked_anew : (mind : MindOf S) → IsBlockedCount blocked mind 0
  blocked_anew mind = no_asks (unfinished_from (marks blocked 0 mind.goals) mind.process)

  pub blocked_ended : (goal : Goal) (mind : MindOf S) → IsBlockedCount blocked (ended Useful goal mind).mind 0
  blocked_ended goal mind = blocked_anew (ended Useful goal mind).mind

  pub blocked_begun : (process : ℕ) (mind : MindOf S) (quiet : ℕ) → next_process mind.goals mind.process ≡ Some process → IsBlockedCount blocked mind quiet → IsBlockedCount blocked (begun process mind) quiet
  blocked_begun process mind quiet found counts =
      subst (λ (l : List Goal). AreAsksAtTheEnd l quiet) (sym (sets_out (marks blocked 0 mind.goals) mind.process process (same_next blocked mind.goals mind.process ∙ found))) counts

  pub blocked_asked : (chosen : Option ℕ) (mind : MindOf S) (quiet : ℕ) → (chosen ≡ None → blocked mind.process (current_round mind) ≡ true) → mind.process < length mind.goals → is_unfinished (current_goal mind) ≡ true → IsBlockedCount blocked mind quiet
      → IsBlockedCount blocked (asked chosen mind).mind (quiet_after (asked chosen mind).turn quiet)
  blocked_asked (Some chosen) mind quiet is place left counts = counts
  blocked_asked None mind quiet is place left counts =
      let list = marks blocked 0 mind.goals in
      let s = mind.process in
      let round = current_round mind in
      let zero_is : 0 + s ≡ s = omega arith in
      let here : mark blocked (0 + s) (asks_in round) ≡ asks_in round = ap (λ (q : ℕ). mark blocked q (asks_in round)) zero_is ∙ asks_marked blocked s round (is refl) in
      let long = same_length blocked 0 mind.goals in
      let still : is_unfinished (goal_at list s) ≡ true = ap is_unfinished (goal_marked blocked s 0 mind.goals) ∙ same_test blocked (0 + s) (goal_at mind.goals s) ∙ left in
      let ends = quiet_ends list s (asks_in round) quiet (min (quiet + 1) 255) (omega (arith, long, place)) still (omega arith) (asks_are round) counts in
      let same : set list s (asks_in round) ≡ marks blocked 0 (set mind.goals s (asks_in round)) = sym (set_marked blocked s 0 mind.goals (asks_in round) ∙ ap (set list s) here) in
      let place_is : (s + 1) % length list ≡ (s + 1) % length mind.goals = ap (λ (n : ℕ). (s + 1) % n) long in
      subst (λ (l : List Goal). AreAsksAtTheEnd (unfinished_from l ((s + 1) % length mind.goals)) (min (quiet + 1) 255)) same
      (subst (λ (n : ℕ). AreAsksAtTheEnd (unfinished_from (set list s (asks_in round)) n) (min (quiet + 1) 255)) place_is ends)

  -- as many as are unfinished: each ask is blocked, and no write is left
  pub all_blocked : (mind : MindOf S) (quiet process : ℕ) → unfinished_in mind.goals ≤ quiet → IsBlockedCount blocked mind quiet → HasNoWrite (mark blocked process (goal_at mind.goals process))
  all_blocked mind quiet process enough counts =
      let list = marks blocked 0 mind.goals in
      let waits = all_asked list mind.process quiet process (omega (arith, same_count blocked 0 mind.goals, enough)) counts in
      subst HasNoWrite (goal_marked blocked process 0 mind.goals ∙ ap (λ (q : ℕ). mark blocked q (goal_at mind.goals process)) (let e : 0 + process ≡ process = omega arith in e)) waits
