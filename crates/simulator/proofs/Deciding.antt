-- What a step makes of a simulator's decision: only the store of a decision of a process makes one, if there was none.
use Rattle.std.proofs.Common.{◌≡◌, ◌≢◌, ℕ, ◌+◌, min, Bool, true, false, cond, eqb, ltb, List, [], ◌∷◌, ◌++◌, length, Option, Some, None, refl, ap, ◌∙◌}
use Rattle.std.specs.Prelude.{◌&&◌, ◌||◌}
use Rattle.protocol_lang.specs.Meaning.{next_action}
use Rattle.protocol_lang.specs.Numbers.{greatest}
use Rattle.protocol_lang.specs.declared.meaning.Action.{Action}
use Rattle.protocol_lang.specs.declared.meaning.Action.TheVariants as actions
use Rattle.room_spec.specs.Rooms.{RoomSpec, processes}
use Rattle.simulator.specs.declared.goal.Goal.{Goal}
use Rattle.simulator.specs.declared.goal.Goal.TheVariants as goals
use Rattle.simulator.specs.declared.line.Line.{Line}
use Rattle.simulator.specs.declared.line.Line.TheVariants.{Rest, Raise, Snap, Show, Enter, Look, Leave, Ask, GetInput, GetView, Values, Out}
use Rattle.simulator.specs.Minds.{MindState, current_round, goal_at, next_process, or_else, current_input}
use Rattle.simulator.specs.Moves.{chosen_in, entry_in, is_again, loaded, taken, taken_at}
use Rattle.simulator.specs.Turns.{TakenOf, acted, asked, begun, collected, counted, gathered, gathered_all, goes_on, most_collects, opened, opened_at, padded, scanned, words_in}

-- the decision after a step at this line
abbrev decision_after : Line → Option ℕ → Option ℕ
decision_after (Out decision) own = or_else own (Some decision)
decision_after line own = own

by_test : (b : Bool) (own : Option ℕ) (one other : TakenOf (List ℕ)) → one.mind.decision ≡ own → other.mind.decision ≡ own → (cond b one other).mind.decision ≡ own
by_test true own one other is that = is
by_test false own one other is that = that

on_asked : (chosen : Option ℕ) (mind : MindState) → (asked chosen mind).mind.decision ≡ mind.decision
on_asked None mind = refl
on_asked (Some chosen) mind = refl

on_acted : (spec : RoomSpec) (action : Action) (mind : MindState) → (acted spec action mind).mind.decision ≡ mind.decision
on_acted spec (actions.Write value) mind = refl
on_acted spec (actions.Decide decision) mind = refl

on_gathered_all : (spec : RoomSpec) (mind : MindState) → (gathered_all spec mind).mind.decision ≡ mind.decision
on_gathered_all spec mind =
    let action = next_action spec.protocol (current_input spec mind) mind.process (current_round mind) mind.entries in
    by_test (ltb (length mind.entries) (processes spec)) mind.decision (goes_on Values mind) (acted spec action mind) refl (on_acted spec action mind)

on_gathered : (row : ℕ → ℕ) (spec : RoomSpec) (entries : List (Option ℕ)) (mind : MindState) → (gathered row spec entries mind).mind.decision ≡ mind.decision
on_gathered row spec entries mind = on_gathered_all spec (record mind { entries = padded row (processes spec) entries })

on_scanned : (spec : RoomSpec) (same : Bool) (mind : MindState) → (scanned spec same mind).mind.decision ≡ mind.decision
on_scanned spec same mind =
    let more = record mind { collects = mind.collects + 1 } in
    by_test (eqb (words_in spec) 1) mind.decision (goes_on Show mind) (collected spec same more) refl
    (by_test ((same && ltb 1 (mind.collects + 1)) || eqb (mind.collects + 1) (most_collects spec)) mind.decision (goes_on Show more) (goes_on Snap (record more { before = mind.snapshot })) refl refl)

on_opened_at : (goal : Goal) (chosen : Option ℕ) (mind : MindState) → (opened_at goal chosen mind).mind.decision ≡ mind.decision
on_opened_at (goals.Write round value) chosen mind = refl
on_opened_at (goals.Ask round) chosen mind = on_asked chosen mind
on_opened_at (goals.Propose value) chosen mind = refl
on_opened_at goals.AskInput chosen mind = on_asked chosen mind
on_opened_at goals.Done chosen mind = refl
on_opened_at goals.Spent chosen mind = refl

on_opened : (next chosen : Option ℕ) (mind : MindState) → (opened next chosen mind).mind.decision ≡ mind.decision
on_opened None chosen mind = refl
on_opened (Some process) chosen mind = on_opened_at (goal_at mind.goals process) chosen (begun process mind)

on_line : (line : Line) (spec : RoomSpec) (mind : MindState) (answer : ℕ) → (taken_at line spec mind answer).mind.decision ≡ decision_after line mind.decision
on_line Rest spec mind answer = on_opened (next_process mind.goals mind.process) (chosen_in spec answer) mind
on_line Raise spec mind answer = refl
on_line Snap spec mind answer =
    let got = loaded answer mind in
    let whole = record got { word = 0 } in
    by_test (ltb (mind.word + 1) (words_in spec)) mind.decision (goes_on Snap (record got { word = mind.word + 1 })) (scanned spec (is_again got) whole) refl (on_scanned spec (is_again got) whole)
on_line Show spec mind answer = by_test (ltb (mind.word + 1) (words_in spec)) mind.decision (goes_on Show (record mind { word = mind.word + 1 })) (goes_on Enter (record mind { word = 0 })) refl refl
on_line Enter spec mind answer = refl
on_line Look spec mind answer = refl
on_line (Leave saw_two) spec mind answer = refl
on_line Ask spec mind answer = on_asked (chosen_in spec answer) mind
on_line (GetInput chosen) spec mind answer = refl
on_line (GetView chosen) spec mind answer =
    let got = loaded answer mind in
    let row = entry_in spec got.snapshot in
    let whole = record got { word = 0 } in
    by_test (ltb (mind.word + 1) (words_in spec)) mind.decision (goes_on (GetView chosen) (record got { word = mind.word + 1 })) (gathered row spec [] whole) refl (on_gathered row spec [] whole)
on_line Values spec mind answer = on_gathered (entry_in spec mind.snapshot) spec (mind.entries ++ Some (min answer greatest) ∷ []) mind
on_line (Out decision) spec mind answer = refl

decision_is : (spec : RoomSpec) (mind : MindState) (answer : ℕ) → (taken spec mind answer).mind.decision ≡ decision_after mind.line mind.decision
decision_is spec mind answer = on_line mind.line spec (counted mind) answer

had : (line : Line) (decision : ℕ) → decision_after line (Some decision) ≡ Some decision
had Rest decision = refl
had Raise decision = refl
had Snap decision = refl
had Show decision = refl
had Enter decision = refl
had Look decision = refl
had (Leave saw_two) decision = refl
had Ask decision = refl
had (GetInput chosen) decision = refl
had (GetView chosen) decision = refl
had Values decision = refl
had (Out other) decision = refl

had_none : (line : Line) → ((decision : ℕ) → line ≢ Out decision) → decision_after line None ≡ None
had_none Rest other = refl
had_none Raise other = refl
had_none Snap other = refl
had_none Show other = refl
had_none Enter other = refl
had_none Look other = refl
had_none (Leave saw_two) other = refl
had_none Ask other = refl
had_none (GetInput chosen) other = refl
had_none (GetView chosen) other = refl
had_none Values other = refl
had_none (Out decision) other = absurd (other decision refl)

pub decision_stays : (spec : RoomSpec) (mind : MindState) (answer decision : ℕ) → mind.decision ≡ Some decision → (taken spec mind answer).mind.decision ≡ Some decision
decision_stays spec mind answer decision is = decision_is spec mind answer ∙ ap (decision_after mind.line) is ∙ had mind.line decision

pub first_is : (spec : RoomSpec) (mind : MindState) (answer decision : ℕ) → mind.decision ≡ None → mind.line ≡ Out decision → (taken spec mind answer).mind.decision ≡ Some decision
first_is spec mind answer decision none at = decision_is spec mind answer ∙ ap (decision_after mind.line) none ∙ ap (λ (line : Line). decision_after line None) at

pub none_yet : (spec : RoomSpec) (mind : MindState) (answer : ℕ) → mind.decision ≡ None → ((decision : ℕ) → mind.line ≢ Out decision) → (taken spec mind answer).mind.decision ≡ None
none_yet spec mind answer none other = decision_is spec mind answer ∙ ap (decision_after mind.line) none ∙ had_none mind.line other
