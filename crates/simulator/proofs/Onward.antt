-- Runs of many atomic steps.
use Rattle.std.proofs.Common.{◌≡◌, ◌≢◌, ◌⊎◌, inl, inr, ℕ, ◌<◌, ◌≤◌, ◌+◌, Bool, true, false, ◌&&◌, ◌||◌, cond, eqb, ltb, List, [], ◌∷◌, ◌++◌, length, Option, Some, None, refl, sym, subst, ap, ◌∙◌, arith, length-append, zero, suc}
use Rattle.protocol_lang.specs.declared.meaning.Action.{Action}
use Rattle.protocol_lang.specs.declared.meaning.Action.TheVariants as actions
use Rattle.room_spec.specs.Rooms.{RoomSpec, processes}
use Rattle.simulator.specs.declared.goal.Goal.{Goal}
use Rattle.simulator.specs.declared.goal.Goal.TheVariants as goals
use Rattle.simulator.specs.declared.line.Line.{Line}
use Rattle.simulator.specs.declared.line.Line.TheVariants.{Rest, Raise, Snap, Show, Enter, Look, Leave, Ask, GetInput, GetView, Values, Out}
use Rattle.simulator.specs.declared.operation.Move.{Move}
use Rattle.simulator.specs.declared.operation.Move.TheVariants.{OutOfTurns}
use Rattle.simulator.specs.declared.turn.Turn.{Turn}
use Rattle.simulator.specs.declared.turn.Turn.TheVariants.{Still}
use Rattle.simulator.specs.declared.sweep.Ready.TheVariants.{Step}
use Rattle.simulator.specs.Bounds.{IsReadyThroughout, answered_all}
use Rattle.simulator.specs.Minds.{MindState, goal_at, next_process, current_round}
use Rattle.simulator.specs.Moves.{IsOperation, chosen_in, entry_in, first_move, first_move_at, is_again, loaded, move_at, move_of, taken, taken_at}
use Rattle.simulator.specs.Ranges.{at_line}
use Rattle.simulator.specs.Runs.{Asked, LeavesTurn, Runs, taken_along}
use Rattle.simulator.specs.Sweeps.{is_resting, quiet_after, ready_between, ready_of}
use Rattle.simulator.specs.Turns.{TakenOf, acted, asked, begun, collected, counted, gathered, gathered_all, goes_on, most_collects, on_word, opened, opened_at, padded, scanned, words_in, gets_in}
use Rattle.simulator.proofs.Stepping.{open_moves}

-- ---- one step more

taken_more : (spec : RoomSpec) (mind : MindState) (answers : List ℕ) (answer : ℕ) → taken_along spec mind (answers ++ answer ∷ []) ≡ (taken spec (taken_along spec mind answers) answer).mind
taken_more spec mind [] answer = refl
taken_more spec mind (x ∷ answers) answer = taken_more spec (taken spec mind x).mind answers answer

asked_more : {M : Type 0} (does : M → Move → ℕ → M → Type 0) (spec : RoomSpec) (memory : M) (mind : MindState) (answers : List ℕ) (last : M) (answer : ℕ) (next : M) → Asked does spec memory mind answers last → does last (move_of spec (taken_along spec mind answers)) answer next → Asked does spec memory mind (answers ++ answer ∷ []) next
asked_more does spec memory mind [] last answer next asked done = (next, rw asked done, refl)
asked_more does spec memory mind (x ∷ answers) last answer next asked done =
    (asked.0, asked.1, asked_more does spec asked.0 (taken spec mind x).mind answers last answer next asked.2 done)

turn_more : (spec : RoomSpec) (mind : MindState) (answers : List ℕ) (answer : ℕ) → LeavesTurn spec mind answers Still → LeavesTurn spec mind (answers ++ answer ∷ []) (taken spec (taken_along spec mind answers) answer).turn
turn_more spec mind [] answer leaves = refl
turn_more spec mind (x ∷ []) answer leaves = (leaves, refl)
turn_more spec mind (x ∷ y ∷ answers) answer leaves = (leaves.0, turn_more spec (taken spec mind x).mind (y ∷ answers) answer leaves.1)

pub runs_nothing : {M : Type 0} (does : M → Move → ℕ → M → Type 0) (spec : RoomSpec) (memory : M) (mind : MindState) → Runs does spec memory mind 0 memory mind Still
runs_nothing does spec memory mind = record { answers = []; as_many = refl; mind_is = refl; asked = refl; turn_is = refl }

-- While no turn has ended, one step more.
pub runs_more : {M : Type 0} (does : M → Move → ℕ → M → Type 0) (spec : RoomSpec) (memory : M) (mind : MindState) (count : ℕ) (last : M) (after : MindState) (answer : ℕ) (next : M) → Runs does spec memory mind count last after Still → does last (move_of spec after) answer next → Runs does spec memory mind (count + 1) next (taken spec after answer).mind (taken spec after answer).turn
runs_more does spec memory mind count last after answer next runs done = record {
  answers = runs.answers ++ answer ∷ [];
  as_many = grind (arith, length-append, runs.as_many);
  mind_is = rw runs.mind_is (sym (taken_more spec mind runs.answers answer));
  asked = asked_more does spec memory mind runs.answers last answer next runs.asked (subst (λ m. does last (move_of spec m) answer next) runs.mind_is done);
  turn_is = rw runs.mind_is (turn_more spec mind runs.answers answer runs.turn_is);
}

some_answers : (spec : RoomSpec) (mind : MindState) (answers : List ℕ) (turn : Turn) → LeavesTurn spec mind answers turn → turn ≢ Still → 0 < length answers
some_answers spec mind [] turn leaves ends = absurd (ends leaves)
some_answers spec mind (x ∷ answers) turn leaves ends = omega arith

-- a run that takes no step more has taken one, if it may take any
pub some_taken : {M : Type 0} (does : M → Move → ℕ → M → Type 0) (spec : RoomSpec) (memory : M) (mind : MindState) (count most : ℕ) (last : M) (after : MindState) (turn : Turn) → Runs does spec memory mind count last after turn → (most ≤ count) ⊎ (turn ≢ Still) → 0 < most → 0 < count
some_taken does spec memory mind count most last after turn runs (inl all) some = omega (arith, all, some)
some_taken does spec memory mind count most last after turn runs (inr ends) some = omega (arith, some_answers spec mind runs.answers turn runs.turn_is ends, runs.as_many)

-- ---- a turn that hasn't ended wants an operation next

abbrev IsOpen : TakenOf (List ℕ) → Type 0
IsOpen after = after.turn ≡ Still → is_resting after.mind.line ≡ false

gets_open : (round chosen : ℕ) → is_resting (gets_in round chosen) ≡ false
gets_open zero chosen = refl
gets_open (suc round) chosen = refl

open_asked : (chosen : Option ℕ) (mind : MindState) → IsOpen (asked chosen mind)
open_asked None mind still = absurd cc
open_asked (Some chosen) mind still = gets_open (current_round mind) chosen

open_acted : (spec : RoomSpec) (action : Action) (mind : MindState) → IsOpen (acted spec action mind)
open_acted spec (actions.Write value) mind still = absurd cc
open_acted spec (actions.Decide decision) mind still = refl

open_by : (b : Bool) (first second : TakenOf (List ℕ)) → IsOpen first → IsOpen second → IsOpen (cond b first second)
open_by true first second is other still = is still
open_by false first second is other still = other still

open_all : (spec : RoomSpec) (mind : MindState) → IsOpen (gathered_all spec mind)
open_all spec mind still = open_by (ltb (length mind.entries) (processes spec)) _ _ (λ _. refl) (open_acted spec _ mind) still

open_gathered : (row : ℕ → ℕ) (spec : RoomSpec) (entries : List (Option ℕ)) (mind : MindState) → IsOpen (gathered row spec entries mind)
open_gathered row spec entries mind still = open_all spec _ still

open_opened_at : (goal : Goal) (spec : RoomSpec) (simulator process : ℕ) (chosen : Option ℕ) (mind : MindState) → IsOperation (first_move_at goal spec simulator process) → IsOpen (opened_at goal chosen mind)
open_opened_at (goals.Write round value) spec simulator process chosen mind operation still = refl
open_opened_at (goals.Ask round) spec simulator process chosen mind operation still = open_asked chosen mind still
open_opened_at (goals.Propose value) spec simulator process chosen mind operation still = refl
open_opened_at goals.AskInput spec simulator process chosen mind operation still = open_asked chosen mind still
open_opened_at goals.Done spec simulator process chosen mind operation still = absurd operation
open_opened_at goals.Spent spec simulator process chosen mind operation still = absurd operation

left_by : (b : Bool) (move : Move) → IsOperation (cond b move OutOfTurns) → IsOperation move
left_by true move operation = operation
left_by false move operation = absurd operation

open_opened : (next : Option ℕ) (spec : RoomSpec) (chosen : Option ℕ) (mind : MindState) → IsOperation (first_move next spec mind) → IsOpen (opened next chosen (counted mind))
open_opened None spec chosen mind operation still = absurd operation
open_opened (Some process) spec chosen mind operation still =
    open_opened_at (goal_at mind.goals process) spec mind.number process chosen (begun process (counted mind)) (left_by (ltb mind.turns spec.turns) _ operation) still

open_word : (spec : RoomSpec) (line : Line) (mind : MindState) (last : TakenOf (List ℕ)) → is_resting line ≡ false → IsOpen last → IsOpen (on_word spec line mind last)
open_word spec line mind last at is still = open_by (ltb (mind.word + 1) (words_in spec)) (goes_on line (record mind { word = mind.word + 1 })) last (λ _. at) is still

open_collected : (spec : RoomSpec) (same : Bool) (mind : MindState) → IsOpen (collected spec same mind)
open_collected spec same mind still = open_by ((same && ltb 1 mind.collects) || eqb mind.collects (most_collects spec)) (goes_on Show mind) (goes_on Snap (record mind { before = mind.snapshot })) (λ _. refl) (λ _. refl) still

open_scanned : (spec : RoomSpec) (same : Bool) (mind : MindState) → IsOpen (scanned spec same mind)
open_scanned spec same mind still =
    let next : MindState = record mind { collects = mind.collects + 1 } in
    open_by (eqb (words_in spec) 1) (goes_on Show mind) (collected spec same next) (λ _. refl) (open_collected spec same next) still

open_taken : (line : Line) (spec : RoomSpec) (mind : MindState) (answer : ℕ) → IsOperation (move_at line spec mind) → IsOpen (taken_at line spec (counted mind) answer)
open_taken Rest spec mind answer operation still = open_opened (next_process mind.goals mind.process) spec (chosen_in spec answer) mind operation still
open_taken Raise spec mind answer operation still = refl
open_taken Snap spec mind answer operation still = open_word spec Snap (loaded answer (counted mind)) _ refl (open_scanned spec (is_again (loaded answer (counted mind))) (record (loaded answer (counted mind)) { word = 0 })) still
open_taken Show spec mind answer operation still = open_word spec Show (counted mind) _ refl (λ _. refl) still
open_taken Enter spec mind answer operation still = refl
open_taken Look spec mind answer operation still = refl
open_taken (Leave saw_two) spec mind answer operation still = refl
open_taken Ask spec mind answer operation still = open_asked (chosen_in spec answer) (counted mind) still
open_taken (GetInput chosen) spec mind answer operation still = absurd cc
open_taken (GetView chosen) spec mind answer operation still = open_word spec (GetView chosen) (loaded answer (counted mind)) _ refl (open_gathered (entry_in spec (loaded answer (counted mind)).snapshot) spec [] (record (loaded answer (counted mind)) { word = 0 })) still
open_taken Values spec mind answer operation still = open_gathered (entry_in spec mind.snapshot) spec _ (counted mind) still
open_taken (Out decision) spec mind answer operation still = absurd cc

pub stays_open : (spec : RoomSpec) (mind : MindState) (answer : ℕ) → IsOperation (move_of spec mind) → (taken spec mind answer).turn ≡ Still → is_resting (taken spec mind answer).mind.line ≡ false
stays_open spec mind answer operation still = open_taken mind.line spec mind answer operation still

pub moves_on : (spec : RoomSpec) (mind : MindState) (answer : ℕ) → IsOperation (move_of spec mind) → (taken spec mind answer).turn ≡ Still → IsOperation (move_of spec (taken spec mind answer).mind)
moves_on spec mind answer operation still = open_moves spec (taken spec mind answer).mind (stays_open spec mind answer operation still)

open_ready : (b : Bool) (spec : RoomSpec) (mind : MindState) (quiet : ℕ) → b ≡ false → cond b (ready_between spec mind quiet) Step ≡ Step
open_ready true spec mind quiet is = absurd cc
open_ready false spec mind quiet is = refl

-- and whoever stands in it is ready
pub ready_on : (spec : RoomSpec) (mind : MindState) (answer : ℕ) → IsOperation (move_of spec mind) → (taken spec mind answer).turn ≡ Still → (quiet : ℕ) → ready_of spec (taken spec mind answer).mind quiet ≡ Step
ready_on spec mind answer operation still quiet = open_ready _ spec (taken spec mind answer).mind quiet (stays_open spec mind answer operation still)

-- ---- the sweep of a mind along a run

-- its quiet turns change at the end alone
pub answered_along : (spec : RoomSpec) (mind : MindState) (quiet : ℕ) (answers : List ℕ) (turn : Turn) → LeavesTurn spec mind answers turn → answered_all spec (record { mind = mind; quiet = quiet }) answers ≡ record { mind = taken_along spec mind answers; quiet = quiet_after turn quiet }
answered_along spec mind quiet [] turn leaves = ap (λ (t : Turn). record { mind = mind; quiet = quiet_after t quiet }) (sym leaves)
answered_along spec mind quiet (x ∷ []) turn leaves = ap (λ (t : Turn). record { mind = (taken spec mind x).mind; quiet = quiet_after t quiet }) leaves
answered_along spec mind quiet (x ∷ y ∷ answers) turn leaves =
    let after = (taken spec mind x).mind in
    ap (λ (t : Turn). answered_all spec (record { mind = after; quiet = quiet_after t quiet }) (y ∷ answers)) leaves.0 ∙ answered_along spec after quiet (y ∷ answers) turn leaves.1

-- whoever was ready at first is ready for each step
pub ready_along : (spec : RoomSpec) (mind : MindState) (quiet : ℕ) (answers : List ℕ) (turn : Turn) → LeavesTurn spec mind answers turn → IsOperation (move_of spec mind) → ready_of spec mind quiet ≡ Step → IsReadyThroughout spec (record { mind = mind; quiet = quiet }) answers
ready_along spec mind quiet [] turn leaves operation ready = tt
ready_along spec mind quiet (x ∷ []) turn leaves operation ready = (ready, tt)
ready_along spec mind quiet (x ∷ y ∷ answers) turn leaves operation ready =
    let next = quiet_after (taken spec mind x).turn quiet in
    (ready, ready_along spec (taken spec mind x).mind next (y ∷ answers) turn leaves.1 (moves_on spec mind x operation leaves.0) (ready_on spec mind x operation leaves.0 next))

-- ---- a line wants the same of a mind, and makes the same of it, whatever line it has itself

aside_asked : (chosen : Option ℕ) (line : Line) (mind : MindState) → asked chosen (at_line line mind) ≡ asked chosen mind
aside_asked None line mind = refl
aside_asked (Some chosen) line mind = refl

aside_acted : (spec : RoomSpec) (action : Action) (line : Line) (mind : MindState) → acted spec action (at_line line mind) ≡ acted spec action mind
aside_acted spec (actions.Write value) line mind = refl
aside_acted spec (actions.Decide decision) line mind = refl

aside_gathered : (row : ℕ → ℕ) (spec : RoomSpec) (entries : List (Option ℕ)) (line : Line) (mind : MindState) → gathered row spec entries (at_line line mind) ≡ gathered row spec entries mind
aside_gathered row spec entries line mind =
    let whole : MindState = record mind { entries = padded row (processes spec) entries } in
    ap (λ (last : TakenOf (List ℕ)). cond (ltb (length whole.entries) (processes spec)) (goes_on Values whole) last) (aside_acted spec _ line whole)

aside_opened_at : (goal : Goal) (chosen : Option ℕ) (line : Line) (mind : MindState) → opened_at goal chosen (at_line line mind) ≡ opened_at goal chosen mind
aside_opened_at (goals.Write round value) chosen line mind = refl
aside_opened_at (goals.Ask round) chosen line mind = aside_asked chosen line mind
aside_opened_at (goals.Propose value) chosen line mind = refl
aside_opened_at goals.AskInput chosen line mind = aside_asked chosen line mind
aside_opened_at goals.Done chosen line mind = refl
aside_opened_at goals.Spent chosen line mind = refl

aside_opened : (next chosen : Option ℕ) (line : Line) (mind : MindState) → opened next chosen (at_line line mind) ≡ opened next chosen mind
aside_opened None chosen line mind = refl
aside_opened (Some process) chosen line mind = aside_opened_at (goal_at mind.goals process) chosen line (begun process mind)

pub taken_aside : (line other : Line) (spec : RoomSpec) (mind : MindState) (answer : ℕ) → taken_at line spec (counted (at_line other mind)) answer ≡ taken_at line spec (counted mind) answer
taken_aside Rest other spec mind answer = aside_opened (next_process mind.goals mind.process) (chosen_in spec answer) other (counted mind)
taken_aside Raise other spec mind answer = refl
taken_aside Snap other spec mind answer = refl
taken_aside Show other spec mind answer = refl
taken_aside Enter other spec mind answer = refl
taken_aside Look other spec mind answer = refl
taken_aside (Leave saw_two) other spec mind answer = refl
taken_aside Ask other spec mind answer = aside_asked (chosen_in spec answer) other (counted mind)
taken_aside (GetInput chosen) other spec mind answer = refl
taken_aside (GetView chosen) other spec mind answer =
    let seen = loaded answer (counted mind) in
    ap (λ (last : TakenOf (List ℕ)). on_word spec (GetView chosen) seen last) (aside_gathered (entry_in spec seen.snapshot) spec [] other (record seen { word = 0 }))
taken_aside Values other spec mind answer = aside_gathered (entry_in spec mind.snapshot) spec _ other (counted mind)
taken_aside (Out decision) other spec mind answer = refl

first_aside : (next : Option ℕ) (spec : RoomSpec) (line : Line) (mind : MindState) → first_move next spec (at_line line mind) ≡ first_move next spec mind
first_aside None spec line mind = refl
first_aside (Some process) spec line mind = refl

pub move_aside : (line : Line) (spec : RoomSpec) (mind : MindState) → move_of spec (at_line line mind) ≡ move_at line spec mind
move_aside Rest spec mind = first_aside (next_process mind.goals mind.process) spec Rest mind
move_aside Raise spec mind = refl
move_aside Snap spec mind = refl
move_aside Show spec mind = refl
move_aside Enter spec mind = refl
move_aside Look spec mind = refl
move_aside (Leave saw_two) spec mind = refl
move_aside Ask spec mind = refl
move_aside (GetInput chosen) spec mind = refl
move_aside (GetView chosen) spec mind = refl
move_aside Values spec mind = refl
move_aside (Out decision) spec mind = refl
