-- What is said of a script and a goal.
use Rattle.std.specs.Prelude.{◌≡◌, ℕ, ◌+◌, ◌==◌, Bool, true, false, ◌&&◌, List, [], ◌∷◌, ◌++◌, length, map, Option, Some, None, Result, Ok, Err, if◌then◌else◌, codes, decimal, min, nat_le}
use Rattle.std.specs.declared.alloc.AllocError.{AllocError}
use Rattle.serde_json.specs.Data.{Data, array, boolean, member, no_members, null, object}
use Rattle.serde_json.specs.View.{items_of}
use Rattle.json_lines.specs.Lines.{json_line}
use Rattle.json_lines.specs.Values.{entry_data, number_data, text_data}
use Rattle.std.specs.List.{flat_map, list_any}
use Rattle.ws_history.specs.declared.states.ProcessState.{ProcessState}
use Rattle.ws_history.specs.declared.states.ProcessState.TheVariants as states
use Rattle.service_core.specs.Replies.{name_in}
use Rattle.service_core.specs.Rooms.{Entries, room_at}
use Rattle.service_core.specs.declared.command.Command.{Command}
use Rattle.service_core.specs.declared.command.Command.TheVariants as commands
use Rattle.service_core.specs.declared.reply.Reply.{Reply}
use Rattle.service_core.specs.declared.reply.Reply.TheVariants.{Report}
use Rattle.room_files.specs.Verdicts.{outcome_if}
use Rattle.room_files.specs.declared.outcome.Outcome.{Outcome}
use Rattle.room_files.specs.declared.kinds.Kinds.TheVariants.{All}
use Rattle.script_play.specs.Play.{AreDone, AreReplies, Done, Faulty, Replied, Unread, commands_of, ending_of, replies_in}
use Rattle.script_play.specs.Following.{AreFollowed, decisions_at}
use Rattle.script_play.specs.Script.{Entry as Asked, script_says}
use Rattle.script_play.specs.declared.following.Order.{Order}
use Rattle.script_play.specs.declared.following.Order.TheVariants as orders
use Rattle.room_core.specs.Calls.{RoomState}
use Rattle.view_grade.specs.Inputs.{inputs_at}
use Rattle.view_grade.specs.Judging.{ReportedParts, decision_of, holds, reported_input, satisfies, state_of}
use Rattle.view_grade.specs.declared.goal.Fact.{Fact}
use Rattle.view_grade.specs.declared.goal.Fact.TheVariants.{Decided, Spent, Held, Going, Input, Crashed, SimulatorDecided, History}
use Rattle.view_grade.specs.declared.goal.Claim.{Claim}
use Rattle.view_grade.specs.declared.goal.GoalFault.{GoalFault}
use Rattle.view_grade.specs.declared.goal.GoalFault.TheVariants.{NoClaim, NoJoint}

-- ---- the last report, and the moves

-- a report takes the place of those before it, with what the simulators of this room have decided and which inputs its processes have
abbrev pub reported_in : Option RoomState → Option ReportedParts → Reply → Option ReportedParts
reported_in room last (Report report) = Some (record { report = report; decisions = decisions_at room; inputs = inputs_at room })
reported_in room last reply = last

-- a report is of its room as it is left
abbrev pub reported_with : Option ReportedParts → Done → Entries → Option ReportedParts
reported_with last (Replied command reply) left = reported_in (room_at left (name_in command)) last reply
reported_with last (Faulty line fault) left = last
reported_with last (Unread line) left = last

-- a command `step` or `crash`
abbrev pub is_move : Command → Bool
is_move (commands.Step name sim count) = true
is_move (commands.Crash name sim) = true
is_move command = false

-- one more; a count ends at the largest number of 64 bits
abbrev pub one_more : ℕ → ℕ
one_more moves = min (moves + 1) 18446744073709551615

abbrev pub moves_by : ℕ → Command → ℕ
moves_by moves command = if is_move command then one_more moves else moves

abbrev pub moves_with : ℕ → Done → ℕ
moves_with moves (Replied command reply) = moves_by moves command
moves_with moves (Faulty line fault) = moves
moves_with moves (Unread line) = moves

-- the last report so far, and how many commands `step` and `crash` there were
pub record Graded : Type 0 where
  pub last : Option ReportedParts
  pub moves : ℕ

abbrev pub nothing_graded : Graded
nothing_graded = record { last = None; moves = 0 }

-- one thing more was done to these rooms, which led to those
abbrev pub IsGradedBy : Graded → Entries → Done → Entries → Graded → Type 0
IsGradedBy before rooms done left now = (now.last ≡ reported_with before.last done left) × (now.moves ≡ moves_with before.moves done)

-- ---- the text

-- a space and a number after words
abbrev pub and_number : List ℕ → ℕ → List ℕ
and_number words number = words ++ (32 ∷ decimal number)

-- an input after a process: a value, or none yet
abbrev pub input_text : Option ℕ → List ℕ
input_text None = codes " none"
input_text (Some value) = 32 ∷ decimal value

abbrev pub fact_text : Fact → List ℕ
fact_text (Decided process value) = and_number (and_number (codes "decided") process) value
fact_text (Spent process) = and_number (codes "spent") process
fact_text (Held process) = and_number (codes "held") process
fact_text (Going process) = and_number (codes "going") process
fact_text (Input process input) = and_number (codes "input") process ++ input_text input
fact_text (Crashed simulator) = and_number (codes "crashed") simulator
fact_text (SimulatorDecided simulator value) = and_number (codes "simulator") simulator ++ and_number (codes " decided") value
fact_text (History events) = and_number (codes "history") events

abbrev pub claim_text : Claim → List ℕ
claim_text claim = if claim.negated then codes "not " ++ fact_text claim.fact else fact_text claim.fact

abbrev pub state_text : ProcessState → List ℕ
state_text (states.Decided value) = and_number (codes " has decided") value
state_text states.Spent = codes " is out of rounds"
state_text (states.Held simulator) = and_number (codes " is held by simulator") simulator
state_text states.Going = codes " may still go on"

-- what a report shows of a process
abbrev pub process_text : ℕ → Option ProcessState → List ℕ
process_text process None = and_number (codes "the room has no process") process
process_text process (Some state) = and_number (codes "process") process ++ state_text state

abbrev pub crash_end : Bool → List ℕ
crash_end crashed = if crashed then codes " has crashed" else codes " has not crashed"

abbrev pub crash_text : ℕ → Bool → List ℕ
crash_text simulator crashed = and_number (codes "simulator") simulator ++ crash_end crashed

abbrev pub decision_shown : ℕ → Option (Option ℕ) → List ℕ
decision_shown simulator None = and_number (codes "the room has no simulator") simulator
decision_shown simulator (Some None) = and_number (codes "simulator") simulator ++ codes " has not decided"
decision_shown simulator (Some (Some decision)) = and_number (codes "simulator") simulator ++ and_number (codes " has decided") decision

-- the input that a process had, if it had one
abbrev pub input_shown : ℕ → Option (Option ℕ) → List ℕ
input_shown process None = and_number (codes "the room has no process") process
input_shown process (Some None) = and_number (codes "process") process ++ codes " has no input yet"
input_shown process (Some (Some input)) = and_number (codes "process") process ++ and_number (codes " has the input") input

-- what a report shows that decides a fact
abbrev pub shown_text : ReportedParts → Fact → List ℕ
shown_text reported (Decided process value) = process_text process (state_of reported.report process)
shown_text reported (Spent process) = process_text process (state_of reported.report process)
shown_text reported (Held process) = process_text process (state_of reported.report process)
shown_text reported (Going process) = process_text process (state_of reported.report process)
shown_text reported (Input process input) = input_shown process (reported_input reported process)
shown_text reported (Crashed simulator) = crash_text simulator (list_any (λ crashed. crashed == simulator) reported.report.crashed.items)
shown_text reported (SimulatorDecided simulator value) = decision_shown simulator (decision_of reported simulator)
shown_text reported (History events) = and_number (codes "the number of events is") (length reported.report.history)

abbrev pub claim_line : ReportedParts → Claim → List ℕ
claim_line reported claim = claim_text claim ++ (if holds reported claim then codes ": yes\n" else codes ": no, " ++ (shown_text reported claim.fact ++ codes "\n"))

-- whether each claim holds; there may be no report
abbrev pub claim_lines : Option ReportedParts → List Claim → List ℕ
claim_lines None claims = codes "there is no report: a script is graded by its last `report NAME`\n"
claim_lines (Some reported) claims = flat_map (claim_line reported) claims

-- whether there are at most this many moves, if a number is given
abbrev pub are_few : Option ℕ → ℕ → Bool
are_few None moves = true
are_few (Some most) moves = nat_le moves most

abbrev pub many_text : ℕ → List ℕ
many_text moves = and_number (codes ": no, the number of commands `step` and `crash` is") moves ++ codes "\n"

abbrev pub few_end : ℕ → ℕ → List ℕ
few_end most moves = if nat_le moves most then codes ": yes\n" else many_text moves

abbrev pub few_line : Option ℕ → ℕ → List ℕ
few_line None moves = []
few_line (Some most) moves = and_number (codes "commands") most ++ few_end most moves

abbrev pub is_satisfied : Option ReportedParts → List Claim → Bool
is_satisfied None claims = false
is_satisfied (Some reported) claims = satisfies reported claims

-- the last report satisfies the goal, and there are not too many moves
abbrev pub is_reached : List Claim → Option ℕ → Option ReportedParts → ℕ → Bool
is_reached claims most last moves = is_satisfied last claims && are_few most moves

abbrev pub end_line : Bool → List ℕ
end_line reached = if reached then codes "reached\n" else codes "not reached\n"

abbrev pub grade_text : List Claim → Option ℕ → Option ReportedParts → ℕ → List ℕ
grade_text claims most last moves = claim_lines last claims ++ (few_line most moves ++ end_line (is_reached claims most last moves))

-- ---- as JSON

abbrev pub claim_data : ReportedParts → Claim → Data
claim_data reported claim =
    object (member (codes "claim") (text_data (claim_text claim)) (member (codes "holds") (boolean (holds reported claim)) (member (codes "shows") (text_data (shown_text reported claim.fact)) no_members)))

-- whether each claim holds, and what the report shows of it; there may be no report
abbrev pub claims_data : Option ReportedParts → List Claim → Data
claims_data None claims = null
claims_data (Some reported) claims = array (items_of (map (claim_data reported) claims))

abbrev pub grade_data : List Claim → Option ℕ → Graded → Data
grade_data claims most graded =
    object (member (codes "claims") (claims_data graded.last claims) (member (codes "commands") (number_data graded.moves) (member (codes "most") (entry_data most)
    (member (codes "reached") (boolean (is_reached claims most graded.last graded.moves)) no_members))))

-- as text or as JSON
abbrev pub grade_shown : Bool → List Claim → Option ℕ → Graded → List ℕ
grade_shown false claims most graded = grade_text claims most graded.last graded.moves
grade_shown true claims most graded = json_line (grade_data claims most graded)

-- ---- a whole script

-- an allocation that failed for a command ends the script so
abbrev pub graded_ending : Result Outcome AllocError → Bool → Result Outcome AllocError
graded_ending (Ok outcome) reached = Ok (outcome_if reached)
graded_ending (Err failed) reached = Err failed

-- What is said of a script: the replies to its commands are those of `bgsim play`, and the last report among them is judged, with what the simulators
-- of its room had decided and which inputs its processes had then.
pub record IsGraded (json : Bool) (claims : List Claim) (most : Option ℕ) (input : List ℕ) (ending : Result Outcome AllocError) (output : List ℕ) : Type 0 where
  pub entries : List Asked
  pub asked : script_says input ≡ Ok entries
  pub all : List Done
  pub each_entry : AreDone All entries all
  pub replies : AreReplies (commands_of all) (replies_in all)
  pub rooms : Entries
  pub graded : Graded
  pub followed : AreFollowed IsGradedBy [] nothing_graded all rooms graded
  pub output_is : output ≡ grade_shown json claims most graded
  pub ending_is : ending ≡ graded_ending (ending_of all) (is_reached claims most graded.last graded.moves)

-- ---- a goal that is not valid

abbrev pub fault_text : GoalFault → List ℕ
fault_text (NoClaim number) = codes "claim " ++ (decimal number ++ codes " of the goal is not valid")
fault_text (NoJoint number) = codes "claim " ++ (decimal number ++ codes " of the goal is followed by neither `and` nor `or`")

-- ---- inside the crate

-- an order that is a command `step` or `crash`
abbrev pub is_move_for : Order → Bool
is_move_for (orders.Step sim count) = true
is_move_for (orders.Crash sim) = true
is_move_for order = false
