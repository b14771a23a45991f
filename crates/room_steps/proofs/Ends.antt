-- How a step ends its turn.
use Rattle.std.proofs.Common.{◌≡◌, ◌∙◌, ℕ, zero, suc, ◌+◌, ◌<◌, ◌&&◌, ◌||◌, Bool, true, false, cond, eqb, ltb, min, List, [], ◌∷◌, ◌++◌, length, Option, Some, None, refl, ap, subst, arith}
use Rattle.std.proofs.lemmas.List.{get_or-set_same}
use Rattle.protocol_lang.specs.Meaning.{next_action}
use Rattle.protocol_lang.specs.Numbers.{greatest}
use Rattle.protocol_lang.specs.declared.meaning.Action.{Action}
use Rattle.protocol_lang.specs.declared.meaning.Action.TheVariants as actions
use Rattle.room_spec.specs.Rooms.{RoomSpec, processes}
use Rattle.simulator.specs.Minds.{MindState, current_input, current_round, first_write, goal_at, is_unfinished, next_process}
use Rattle.simulator.specs.Moves.{chosen_in, entry_in, is_again, loaded, taken, taken_at}
use Rattle.simulator.specs.Ranges.{IsMind}
use Rattle.simulator.specs.Sweeps.{is_resting, works_on}
use Rattle.simulator.specs.Turns.{TakenOf, acted, after_write, asked, asks_in, begun, counted, ended, gathered, gets_in, goes_on, most_collects, on_word, opened, opened_at, padded, scanned, stayed, with_input, words_in}
use Rattle.simulator.specs.declared.goal.Goal.{Goal}
use Rattle.simulator.specs.declared.goal.Goal.TheVariants as goals
use Rattle.simulator.specs.declared.line.Line.{Line}
use Rattle.simulator.specs.declared.line.Line.TheVariants.{Rest, Raise, Snap, Show, Enter, Look, Leave, Ask, GetInput, GetView, Values, Out}
use Rattle.simulator.specs.declared.turn.Turn.{Turn}
use Rattle.simulator.specs.declared.turn.Turn.TheVariants.{Useful, Quiet}
use Rattle.simulator.proofs.CallerLemmas.{next_is_left}
use Rattle.room_steps.specs.Steps.{end_in, turn_of}

abbrev Tells : ℕ → TakenOf (List ℕ) → Type 0
Tells process taken = turn_of (end_in taken.mind process) ≡ taken.turn

ends : (turn : Turn) (goal : Goal) (mind : MindState) → mind.process < length mind.goals → turn_of (Some goal) ≡ turn → Tells mind.process (ended turn goal mind)
ends turn goal mind below is = ap (λ (g : Goal). turn_of (Some g)) (get_or-set_same mind.goals mind.process goal goals.Done below) ∙ is

on_test : (b : Bool) (process : ℕ) (one other : TakenOf (List ℕ)) → Tells process one → Tells process other → Tells process (cond b one other)
on_test true process one other is that = is
on_test false process one other is that = that

stays : (turn : Turn) (goal : Goal) (mind : MindState) → mind.process < length mind.goals → turn_of (Some goal) ≡ turn → Tells mind.process (stayed turn goal mind)
stays turn goal mind below is = ap (λ (g : Goal). turn_of (Some g)) (get_or-set_same mind.goals mind.process goal goals.Done below) ∙ is

quiet_ask : (round : ℕ) → turn_of (Some (asks_in round)) ≡ Quiet
quiet_ask zero = refl
quiet_ask (suc round) = refl

on_gets : (round chosen : ℕ) (mind : MindState) → Tells mind.process (goes_on (gets_in round chosen) mind)
on_gets zero chosen mind = refl
on_gets (suc round) chosen mind = refl

on_asked : (chosen : Option ℕ) (mind : MindState) → mind.process < length mind.goals → Tells mind.process (asked chosen mind)
on_asked None mind below = ends Quiet (asks_in (current_round mind)) mind below (quiet_ask (current_round mind))
on_asked (Some chosen) mind below = on_gets (current_round mind) chosen mind

useful_write : (b : Bool) (round value : ℕ) → turn_of (Some (cond b (goals.Write round value) goals.Spent)) ≡ Useful
useful_write true round value = refl
useful_write false round value = refl

on_acted : (spec : RoomSpec) (action : Action) (mind : MindState) → mind.process < length mind.goals → Tells mind.process (acted spec action mind)
on_acted spec (actions.Write value) mind below =
    ends Useful (after_write spec.rounds (current_round mind) value) mind below (useful_write (ltb (current_round mind) spec.rounds) (current_round mind + 1) value)
on_acted spec (actions.Decide decision) mind below = refl

on_gathered : (row : ℕ → ℕ) (spec : RoomSpec) (entries : List (Option ℕ)) (mind : MindState) → mind.process < length mind.goals → Tells mind.process (gathered row spec entries mind)
on_gathered row spec entries mind below =
    let all : MindState = record mind { entries = padded row (processes spec) entries } in
    let action = next_action spec.protocol (current_input spec all) all.process (current_round all) all.entries in
    on_test (ltb (length all.entries) (processes spec)) mind.process (goes_on Values all) (acted spec action all) refl (on_acted spec action all below)

on_words : (spec : RoomSpec) (line : Line) (mind : MindState) (process : ℕ) (last : TakenOf (List ℕ)) → is_resting line ≡ false → Tells process last → Tells process (on_word spec line mind last)
on_words spec line mind process last goes is =
    on_test (ltb (mind.word + 1) (words_in spec)) process (goes_on line (record mind { word = mind.word + 1 })) last (ap (λ (b : Bool). turn_of (cond b (Some (goal_at mind.goals process)) None)) goes) is

on_scanned : (spec : RoomSpec) (same : Bool) (mind : MindState) (process : ℕ) → Tells process (scanned spec same mind)
on_scanned spec same mind process =
    on_test (eqb (words_in spec) 1) process _ _ refl (on_test ((same && ltb 1 (mind.collects + 1)) || eqb (mind.collects + 1) (most_collects spec)) process _ _ refl refl)

on_opened_at : (goal : Goal) (chosen : Option ℕ) (mind : MindState) → is_unfinished goal ≡ true → mind.process < length mind.goals → Tells mind.process (opened_at goal chosen mind)
on_opened_at (goals.Write round value) chosen mind left below = refl
on_opened_at (goals.Ask round) chosen mind left below = on_asked chosen mind below
on_opened_at (goals.Propose value) chosen mind left below = refl
on_opened_at goals.AskInput chosen mind left below = on_asked chosen mind below
on_opened_at goals.Done chosen mind left below = absurd cc
on_opened_at goals.Spent chosen mind left below = absurd cc

on_opened : (next chosen : Option ℕ) (mind : MindState) (process : ℕ) → next_process mind.goals mind.process ≡ next → mind.process < length mind.goals → next ≡ Some process → Tells process (opened next chosen mind)
on_opened None chosen mind process found below is = absurd cc
on_opened (Some next) chosen mind process found below is =
    let here = next_is_left mind.goals mind.process next (omega (arith, below)) found in
    subst (λ (p : ℕ). Tells p (opened_at (goal_at mind.goals next) chosen (begun next mind))) (same next process is) (on_opened_at (goal_at mind.goals next) chosen (begun next mind) here.unfinished here.below)
  where
    same : (one other : ℕ) → Some one ≡ Some other → one ≡ other
    same one other e = cc

-- an open turn works on the process at which the sweep stands
on_open : (line : Line) (spec : RoomSpec) (mind : MindState) (answer : ℕ) → is_resting line ≡ false → mind.process < length mind.goals → Tells mind.process (taken_at line spec mind answer)
on_open Rest spec mind answer goes below = absurd cc
on_open Raise spec mind answer goes below = refl
on_open Snap spec mind answer goes below =
    let got = loaded answer mind in
    on_words spec Snap got mind.process (scanned spec (is_again got) (record got { word = 0 })) refl (on_scanned spec (is_again got) (record got { word = 0 }) mind.process)
on_open Show spec mind answer goes below = on_words spec Show mind mind.process (goes_on Enter (record mind { word = 0 })) refl refl
on_open Enter spec mind answer goes below = refl
on_open Look spec mind answer goes below = refl
on_open (Leave saw_two) spec mind answer goes below = refl
on_open Ask spec mind answer goes below = on_asked (chosen_in spec answer) mind below
on_open (GetInput chosen) spec mind answer goes below =
    let input = min answer greatest in
    stays Useful (first_write spec input mind.process) (with_input input mind) below refl
on_open (GetView chosen) spec mind answer goes below =
    let got = loaded answer mind in
    on_words spec (GetView chosen) got mind.process (gathered (entry_in spec got.snapshot) spec [] (record got { word = 0 })) refl (on_gathered (entry_in spec got.snapshot) spec [] (record got { word = 0 }) below)
on_open Values spec mind answer goes below = on_gathered (entry_in spec mind.snapshot) spec (mind.entries ++ Some (min answer greatest) ∷ []) mind below
on_open (Out decision) spec mind answer goes below = ends Useful goals.Done mind below refl

at_line : (line : Line) (rests : Bool) (spec : RoomSpec) (mind : MindState) (answer process : ℕ) → is_resting line ≡ rests → mind.process < length mind.goals → cond rests (next_process mind.goals mind.process) (Some mind.process) ≡ Some process → Tells process (taken_at line spec mind answer)
at_line Rest true spec mind answer process rest below works = on_opened (next_process mind.goals mind.process) (chosen_in spec answer) mind process refl below works
at_line Rest false spec mind answer process rest below works = absurd cc
at_line line false spec mind answer process rest below works =
    subst (λ (p : ℕ). Tells p (taken_at line spec mind answer)) (same mind.process process works) (on_open line spec mind answer rest below)
  where
    same : (one other : ℕ) → Some one ≡ Some other → one ≡ other
    same one other e = cc
at_line line true spec mind answer process rest below works = absurd cc

pub ends_tell : (spec : RoomSpec) (mind : MindState) (answer process : ℕ) → IsMind spec mind → works_on mind ≡ Some process → turn_of (end_in (taken spec mind answer).mind process) ≡ (taken spec mind answer).turn
ends_tell spec mind answer process is works = at_line mind.line (is_resting mind.line) spec (counted mind) answer process refl (omega (arith, is.process, is.goals)) works
