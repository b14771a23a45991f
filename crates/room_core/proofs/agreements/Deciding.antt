-- A simulator that has stored a decision of a process has nothing more to do for it.
use Rattle.std.proofs.Common.{◌≡◌, ◌≢◌, ℕ, ◌+◌, ◌<◌, true, List, length, get_or, set, refl, sym, ap, ◌∙◌, arith}
use Rattle.std.proofs.lemmas.List.{get_or-set_same, get_or-set_other}
use mathlib.Core.Logic.{dite}
use native.Mathlib.Decide.{ℕ_discrete}
use Rattle.room_spec.specs.Rooms.{RoomSpec}
use Rattle.simulator.specs.declared.goal.Goal.{Goal}
use Rattle.simulator.specs.declared.goal.Goal.TheVariants as goals
use Rattle.simulator.specs.Minds.{current_goal, goal_at, is_unfinished}
use Rattle.room_core.specs.Fields.{Fields, changed}
use Rattle.room_core.proofs.fields.Maps.{changed_else}
use Rattle.room_core.proofs.fields.Effects.{Own, Effect, stores, proposes, raises, collects_word, collects_again, scans, shows_word, shows, loads_word, enters, looks, leaves, asks_in_vain, finds, gets_input, gathers, goes_to, will_decide, decides}

pub not_done : (goal : Goal) → is_unfinished goal ≡ true → goal ≢ goals.Done
not_done (goals.Write k value) left is = cc
not_done (goals.Ask k) left is = cc
not_done (goals.Propose value) left is = cc
not_done goals.AskInput left is = cc
not_done goals.Done left is = cc
not_done goals.Spent left is = cc

abbrev pub HasDecided : Own → ℕ → Type 0
HasDecided own p = own.out p ≢ 0 → goal_at own.mind.goals p ≡ goals.Done

module _ (spec : RoomSpec) (fields : Fields) (own : Own) (p : ℕ) where
  -- the turn has ended with another goal for its process, which was left to do
  ended_outs : (list : List Goal) (j : ℕ) (goal : Goal) → list ≡ own.mind.goals → is_unfinished (goal_at list j) ≡ true → HasDecided own p → own.out p ≢ 0 → goal_at (set list j goal) p ≡ goals.Done
  ended_outs list j goal same left was out = dite (ℕ_discrete p j)
      (λ (e : p ≡ j). absurd (not_done (goal_at list j) left (ap (λ (q : ℕ). goal_at list q) (sym e) ∙ ap (λ (l : List Goal). goal_at l p) same ∙ was out)))
      (λ (n : p ≢ j). get_or-set_other list j p goal goals.Done n ∙ ap (λ (l : List Goal). goal_at l p) same ∙ was out)

  decided_outs : (j entry : ℕ) → j < length own.mind.goals → HasDecided own p → changed own.out j entry p ≢ 0 → goal_at (set own.mind.goals j goals.Done) p ≡ goals.Done
  decided_outs j entry below was out = dite (ℕ_discrete p j)
      (λ (e : p ≡ j). ap (λ (q : ℕ). get_or (set own.mind.goals j goals.Done) q goals.Done) e ∙ get_or-set_same own.mind.goals j goals.Done goals.Done below)
      (λ (n : p ≢ j). get_or-set_other own.mind.goals j p goals.Done goals.Done n ∙ was (λ e. out (changed_else own.out j entry p n ∙ e)))

  pub own_outs : (after : Own) → Effect spec fields own after → HasDecided own p → HasDecided after p
  own_outs after (stores j k value rest goal count process first last) was = was
  own_outs after (proposes j value rest goal none unentered within kind) was = was
  own_outs after (raises turn whole begun count) was = was
  own_outs after (collects_word turn count none more) was = was
  own_outs after (collects_again turn count none last several goes) was = was
  own_outs after (scans collects turn count none last ends) was = was
  own_outs after (gets_input chosen turn count less) was = ended_outs own.mind.goals own.mind.process _ refl turn.left was
  own_outs after (loads_word found turn less more) was = was
  own_outs after (shows_word turn count none more) was = was
  own_outs after (shows turn count none last) was = was
  own_outs after (enters turn count none) was = was
  own_outs after (looks turn count one) was = was
  own_outs after (leaves saw_two turn count one) was = was
  own_outs after (asks_in_vain asking asks is) was = ended_outs asking.goals asking.process _ asks.goals asks.left was
  own_outs after (finds asking chosen asks is) was = λ out. ap (λ (l : List Goal). goal_at l p) asks.goals ∙ was out
  own_outs after (gathers reading reads more) was = λ out. ap (λ (l : List Goal). goal_at l p) reads.goals ∙ was out
  own_outs after (goes_to reading value reads all is) was =
      let left : is_unfinished (goal_at reading.goals reading.process) ≡ true = ap (λ (l : List Goal). is_unfinished (goal_at l reading.process)) reads.goals ∙ ap (λ (q : ℕ). is_unfinished (goal_at own.mind.goals q)) reads.same ∙ reads.left in
      ended_outs reading.goals reading.process _ reads.goals left was
  own_outs after (will_decide reading decision reads all is) was = λ out. ap (λ (l : List Goal). goal_at l p) reads.goals ∙ was out
  own_outs after (decides decision turn count) was = decided_outs own.mind.process (decision + 1) (let l = turn.long in let b = turn.process in omega arith) was

  -- what is stored stays
  pub own_kept : (after : Own) → Effect spec fields own after → HasDecided own p → own.out p ≢ 0 → after.out p ≡ own.out p
  own_kept after (stores j k value rest goal count process first last) was out = refl
  own_kept after (proposes j value rest goal none unentered within kind) was out = refl
  own_kept after (raises turn whole begun count) was out = refl
  own_kept after (collects_word turn count none more) was out = refl
  own_kept after (collects_again turn count none last several goes) was out = refl
  own_kept after (scans collects turn count none last ends) was out = refl
  own_kept after (gets_input chosen turn count less) was out = refl
  own_kept after (loads_word found turn less more) was out = refl
  own_kept after (shows_word turn count none more) was out = refl
  own_kept after (shows turn count none last) was out = refl
  own_kept after (enters turn count none) was out = refl
  own_kept after (looks turn count one) was out = refl
  own_kept after (leaves saw_two turn count one) was out = refl
  own_kept after (asks_in_vain asking asks is) was out = refl
  own_kept after (finds asking chosen asks is) was out = refl
  own_kept after (gathers reading reads more) was out = refl
  own_kept after (goes_to reading value reads all is) was out = refl
  own_kept after (will_decide reading decision reads all is) was out = refl
  own_kept after (decides decision turn count) was out = dite (ℕ_discrete p own.mind.process)
      (λ (e : p ≡ own.mind.process). absurd (not_done (current_goal own.mind) turn.left (ap (λ (q : ℕ). goal_at own.mind.goals q) (sym e) ∙ was out)))
      (λ (n : p ≢ own.mind.process). changed_else own.out own.mind.process (decision + 1) p n)
