-- The quiet count stays one over every answer.
use Rattle.std.proofs.Common.{◌≡◌, ℕ, ◌+◌, ◌<◌, min, Bool, true, false, cond, eqb, leb, ltb, List, [], ◌∷◌, ◌++◌, length, Option, Some, None, refl, sym, subst, arith, zero, suc}
use Rattle.std.proofs.lemmas.Bool.{leb-true}
use Rattle.protocol_lang.specs.declared.meaning.Action.{Action}
use Rattle.protocol_lang.specs.declared.meaning.Action.TheVariants as actions
use Rattle.room_spec.specs.Rooms.{RoomSpec}
use Rattle.room_spec.specs.Rooms.{processes}
use Rattle.protocol_lang.specs.Meaning.{next_action}
use Rattle.protocol_lang.specs.Numbers.{greatest}
use Rattle.std.specs.Prelude.{◌&&◌, ◌||◌}
use Rattle.simulator.specs.declared.goal.Goal.{Goal}
use Rattle.simulator.specs.declared.goal.Goal.TheVariants as goals
use Rattle.simulator.specs.declared.line.Line.{Line}
use Rattle.simulator.specs.declared.line.Line.TheVariants.{Rest, Raise, Snap, Show, Enter, Look, Leave, Ask, GetInput, GetView, Values, Out}
use Rattle.simulator.specs.declared.sweep.Ready.TheVariants as ready
use Rattle.simulator.specs.declared.turn.Turn.TheVariants.{Useful}
use Rattle.simulator.specs.Minds.{MindOf, MindState, is_unfinished, goal_at, current_goal, current_round, next_process, unfinished_in, current_input}
use Rattle.simulator.specs.Moves.{entry_in, chosen_in, is_again, loaded, taken_at, taken}
use Rattle.simulator.specs.Quiet.{HasNoWrite, IsQuietCount, unfinished_from, AreAsksAtTheEnd, IsAsk}
use Rattle.simulator.specs.Ranges.{IsOpenAt, IsMind}
use Rattle.simulator.specs.Sweeps.{is_resting, ready_of, quiet_after}
use Rattle.simulator.specs.Turns.{TakenOf, counted, begun, goes_on, ended, asked, acted, after_write, most_collects, on_word, padded, gathered_all, gathered, opened_at, opened, scanned, with_decision, words_in, asks_in, got_input}
use Rattle.simulator.proofs.Asking.{sets_out, no_asks, quiet_ends, all_asked}
use Rattle.simulator.proofs.Processes.{next_is_left}

-- a mind in an open turn, or at its first step, with its quiet count
record IsTurning {S : Type 0} (mind : MindOf S) (quiet : ℕ) : Type 0 where
  place : mind.process < length mind.goals
  left : is_unfinished (current_goal mind) ≡ true
  counts : IsQuietCount mind quiet

abbrev CountsOn : {S : Type 0} → TakenOf S → ℕ → Type 0
CountsOn taken quiet = IsQuietCount taken.mind (quiet_after taken.turn quiet)

useful : {S : Type 0} (goal : Goal) (mind : MindOf S) (quiet : ℕ) → CountsOn (ended Useful goal mind) quiet
useful goal mind quiet = no_asks (unfinished_from (ended Useful goal mind).mind.goals (ended Useful goal mind).mind.process)

asks_are : (round : ℕ) → IsAsk (asks_in round)
asks_are zero = tt
asks_are (suc round) = tt

on_asked : {S : Type 0} (chosen : Option ℕ) (mind : MindOf S) (quiet : ℕ) → IsTurning mind quiet → CountsOn (asked chosen mind) quiet
on_asked None mind quiet is = quiet_ends mind.goals mind.process (asks_in (current_round mind)) quiet (min (quiet + 1) 255) is.place is.left (omega arith) (asks_are (current_round mind)) is.counts
on_asked (Some chosen) mind quiet is = is.counts

on_acted : {S : Type 0} (spec : RoomSpec) (action : Action) (mind : MindOf S) (quiet : ℕ) → IsQuietCount mind quiet → CountsOn (acted spec action mind) quiet
on_acted spec (actions.Write value) mind quiet counts = useful (after_write spec.rounds (current_round mind) value) mind quiet
on_acted spec (actions.Decide decision) mind quiet counts = counts

on_test : {S : Type 0} (b : Bool) (one other : TakenOf S) (quiet : ℕ) → CountsOn one quiet → CountsOn other quiet → CountsOn (cond b one other) quiet
on_test true one other quiet is that = is
on_test false one other quiet is that = that

on_gathered_all : {S : Type 0} (spec : RoomSpec) (mind : MindOf S) (quiet : ℕ) → IsQuietCount mind quiet → CountsOn (gathered_all spec mind) quiet
on_gathered_all spec mind quiet counts =
    let action = next_action spec.protocol (current_input spec mind) mind.process (current_round mind) mind.entries in
    on_test (ltb (length mind.entries) (processes spec)) (goes_on Values mind) (acted spec action mind) quiet counts (on_acted spec action mind quiet counts)

on_gathered : {S : Type 0} (row : ℕ → ℕ) (spec : RoomSpec) (entries : List (Option ℕ)) (mind : MindOf S) (quiet : ℕ) → IsQuietCount mind quiet → CountsOn (gathered row spec entries mind) quiet
on_gathered row spec entries mind quiet counts = on_gathered_all spec (record mind { entries = padded row (processes spec) entries }) quiet counts

on_word_line : {S : Type 0} (spec : RoomSpec) (line : Line) (mind : MindOf S) (last : TakenOf S) (quiet : ℕ) → IsQuietCount mind quiet → CountsOn last quiet → CountsOn (on_word spec line mind last) quiet
on_word_line spec line mind last quiet counts is = on_test (ltb (mind.word + 1) (words_in spec)) _ last quiet counts is

on_scanned : {S : Type 0} (spec : RoomSpec) (same : Bool) (mind : MindOf S) (quiet : ℕ) → IsQuietCount mind quiet → CountsOn (scanned spec same mind) quiet
on_scanned spec same mind quiet counts = on_test (eqb (words_in spec) 1) _ _ quiet counts (on_test ((same && ltb 1 (mind.collects + 1)) || eqb (mind.collects + 1) (most_collects spec)) _ _ quiet counts counts)

on_opened_at : {S : Type 0} (goal : Goal) (chosen : Option ℕ) (mind : MindOf S) (quiet : ℕ) → IsTurning mind quiet → CountsOn (opened_at goal chosen mind) quiet
on_opened_at (goals.Write round value) chosen mind quiet is = is.counts
on_opened_at (goals.Ask round) chosen mind quiet is = on_asked chosen mind quiet is
on_opened_at (goals.Propose value) chosen mind quiet is = is.counts
on_opened_at goals.AskInput chosen mind quiet is = on_asked chosen mind quiet is
on_opened_at goals.Done chosen mind quiet is = is.counts
on_opened_at goals.Spent chosen mind quiet is = is.counts

on_opened : {S : Type 0} (next chosen : Option ℕ) (mind : MindOf S) (quiet : ℕ) → next_process mind.goals mind.process ≡ next → mind.process < length mind.goals → IsQuietCount mind quiet → CountsOn (opened next chosen mind) quiet
on_opened None chosen mind quiet found place counts = counts
on_opened (Some process) chosen mind quiet found place counts =
    let next = next_is_left mind.goals mind.process process (omega (arith, place)) found in
    on_opened_at (goal_at mind.goals process) chosen (begun process mind) quiet
    (record { place = next.below; left = next.unfinished; counts = subst (λ (l : List Goal). AreAsksAtTheEnd l quiet) (sym (sets_out mind.goals mind.process process found)) counts })

at_line : (line : Line) (spec : RoomSpec) (mind : MindState) (answer quiet : ℕ) → mind.process < length mind.goals → IsOpenAt line spec mind → IsQuietCount mind quiet → CountsOn (taken_at line spec (counted mind) answer) quiet
at_line Rest spec mind answer quiet place at counts = on_opened (next_process mind.goals mind.process) (chosen_in spec answer) (counted mind) quiet refl place counts
at_line Raise spec mind answer quiet place at counts = counts
at_line Snap spec mind answer quiet place at counts = on_word_line spec Snap (loaded answer (counted mind)) _ quiet counts (on_scanned spec (is_again (loaded answer (counted mind))) (record (loaded answer (counted mind)) { word = 0 }) quiet counts)
at_line Show spec mind answer quiet place at counts = on_word_line spec Show (counted mind) _ quiet counts counts
at_line Enter spec mind answer quiet place at counts = counts
at_line Look spec mind answer quiet place at counts = counts
at_line (Leave saw_two) spec mind answer quiet place at counts = counts
at_line Ask spec mind answer quiet place at counts = on_asked (chosen_in spec answer) (counted mind) quiet (record { place = place; left = at; counts = counts })
at_line (GetInput chosen) spec mind answer quiet place at counts = no_asks (unfinished_from (got_input spec answer (counted mind)).mind.goals mind.process)
at_line (GetView chosen) spec mind answer quiet place at counts =
    let got = loaded answer (counted mind) in
    on_word_line spec (GetView chosen) got _ quiet counts (on_gathered (entry_in spec got.snapshot) spec [] (record got { word = 0 }) quiet counts)
at_line Values spec mind answer quiet place at counts = on_gathered (entry_in spec mind.snapshot) spec (mind.entries ++ Some (min answer greatest) ∷ []) (counted mind) quiet counts
at_line (Out decision) spec mind answer quiet place at counts = useful goals.Done (with_decision decision (counted mind)) quiet

pub counts_on : (spec : RoomSpec) (mind : MindState) (quiet answer : ℕ) → IsMind spec mind → IsQuietCount mind quiet → IsQuietCount (taken spec mind answer).mind (quiet_after (taken spec mind answer).turn quiet)
counts_on spec mind quiet answer is counts = at_line mind.line spec mind answer quiet (omega (arith, is.process, is.goals)) is.at counts

pub counts_anew : {S : Type 0} (mind : MindOf S) → IsQuietCount mind 0
counts_anew mind = no_asks (unfinished_from mind.goals mind.process)

-- ---- idle

enough_by : (rests enough has_turns : Bool) → cond rests (cond enough ready.Idle (cond has_turns ready.Step ready.OutOfTurns)) ready.Step ≡ ready.Idle → enough ≡ true
enough_by true true has_turns is = refl
enough_by true false true is = absurd cc
enough_by true false false is = absurd cc
enough_by false enough has_turns is = absurd cc

pub idle_waits : {S : Type 0} (spec : RoomSpec) (mind : MindOf S) (quiet process : ℕ) → IsQuietCount mind quiet → ready_of spec mind quiet ≡ ready.Idle → HasNoWrite (goal_at mind.goals process)
idle_waits spec mind quiet process counts is =
    let enough = leb-true _ _ (enough_by (is_resting mind.line) (leb (unfinished_in mind.goals) quiet) (ltb mind.turns spec.turns) is) in
    all_asked mind.goals mind.process quiet process enough counts
