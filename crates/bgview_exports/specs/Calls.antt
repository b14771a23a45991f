-- What a call answers, and what it says of its answer.
use Rattle.std.specs.Prelude.{◌≡◌, ⊤, ℕ, ◌+◌, ◌<◌, ◌≤◌, ◌==◌, Bool, false, if◌then◌else◌, List, [], ◌∷◌, ◌++◌, length, take, drop, Option, Some, None, Result, Ok, Err, IsOk, decimal}
use Rattle.std.specs.List.{flat_map}
use Rattle.std.specs.declared.alloc.AllocError.{AllocError}
use Rattle.decision_tasks.specs.Tasks.{task_in}
use Rattle.decision_tasks.specs.declared.task.LineFault.{LineFault}
use Rattle.fault_words.specs.Faults.{fault_line, faults_outcome}
use Rattle.file_faults.specs.Warnings.{file_warnings}
use Rattle.io_text.specs.Reading.{most_bytes}
use Rattle.protocol_lang.specs.Faults.{code_of}
use Rattle.protocol_lang.specs.Trees.{Tree}
use Rattle.room_files.specs.Inputs.{input_says}
use Rattle.room_files.specs.Faults.{text_code}
use Rattle.room_files.specs.declared.outcome.Outcome.{Outcome}
use Rattle.room_files.specs.declared.outcome.Outcome.TheVariants.{AllWell, SomeRefused}
use Rattle.room_files.specs.declared.fault.InputFault.{InputFault}
use Rattle.room_files.specs.declared.fault.InputFault.TheVariants.{BadInput, Memory}
use Rattle.room_files.specs.declared.kinds.Kinds.TheVariants.{All, Ordinary}
use Rattle.room_sample.specs.declared.sampling.Plan.{Plan}
use Rattle.script_play.specs.declared.replies.PlayText.{PlayText}
use Rattle.script_play.specs.Script.{script_says}
use Rattle.view_grade.specs.Goals.{goal_in}
use Rattle.view_grade.specs.Grades.{IsGraded}
use Rattle.view_grade.specs.declared.goal.Claim.{Claim}
use Rattle.view_grade.specs.declared.goal.GoalFault.{GoalFault}
use Rattle.view_grade.specs.declared.goal.GoalFault.TheVariants.{NoClaim, NoJoint}
use Rattle.view_outcomes.specs.Asked.{AreInputsAsked, IsTaskAsked}
use Rattle.view_outcomes.specs.Blocks.{IsOutcomesFor}
use Rattle.input_vectors.specs.Values.{values_in}
use Rattle.view_outcomes.specs.declared.search.Asked.{Asked}
use Rattle.view_outcomes.specs.declared.search.Form.{Form}
use Rattle.view_outcomes.specs.declared.search.Search.{Search}
use Rattle.input_vectors.specs.declared.values.TheConstants.{MAX_VALUES}
use Rattle.input_vectors.specs.declared.values.ValuesFault.{ValuesFault}
use Rattle.input_vectors.specs.declared.values.ValuesFault.TheVariants.{NoNumber, Repeated, TooMany}
use Rattle.view_rooms.specs.declared.plan.RoomPlan.{RoomPlan}
use Rattle.bgview_exports.specs.declared.asked.SamplePlan.{SamplePlan}
use Rattle.bgview_exports.specs.declared.asked.SearchPlan.{SearchPlan}
use Rattle.bgview_exports.specs.declared.given.NoAnswer.{NoAnswer}
use Rattle.bgview_exports.specs.declared.given.NoAnswer.TheVariants.{TooLong, Fault, BadGoal, BadValues, BadTask}
use Rattle.bgview_exports.specs.declared.given.CallResult.{CallResult}

-- ---- the answer

-- The answer to an input that is shown so, or why there is none: the input is too long, or it has a fault, or an allocation failed.
abbrev pub IsAnswerTo : List ℕ → (Result Outcome AllocError → List ℕ → Type 0) → (InputFault → Type 0) → Result PlayText NoAnswer → Type 0
IsAnswerTo input shown IsFault (Ok text) = (length input ≤ most_bytes) × shown text.ending text.output
IsAnswerTo input shown IsFault (Err (Fault fault)) = (length input ≤ most_bytes) × IsFault fault
IsAnswerTo input shown IsFault (Err TooLong) = most_bytes < length input
IsAnswerTo input shown IsFault (Err (BadGoal fault)) = ⊥
IsAnswerTo input shown IsFault (Err (BadValues fault)) = ⊥
IsAnswerTo input shown IsFault (Err (BadTask fault)) = ⊥

-- it is there whole, so no allocation failed
abbrev pub IsComplete : (Outcome → List ℕ → Type 0) → Result Outcome AllocError → List ℕ → Type 0
IsComplete shown (Ok outcome) output = shown outcome output
IsComplete shown (Err failed) output = ⊥

abbrev pub IsOutOfMemory : InputFault → Type 0
IsOutOfMemory fault = fault ≡ Memory

-- a goal that is not valid hides the script's fault
abbrev pub IsGradeFault : List ℕ → List ℕ → InputFault → Type 0
IsGradeFault script goal (BadInput line fault) = IsOk (goal_in goal) × (script_says script ≡ Err (line, fault))
IsGradeFault script goal Memory = ⊤

-- The grade of a script by the goal that a text says, as JSON or as text; or why there is none, which may also be that it says none.
abbrev pub IsGradeOf : Bool → List ℕ → List ℕ → Option ℕ → Result PlayText NoAnswer → Type 0
IsGradeOf json script goal most (Ok text) = (length script ≤ most_bytes) × (claims : List Claim) × (goal_in goal ≡ Ok claims) × IsGraded json claims most script text.ending text.output
IsGradeOf json script goal most (Err (Fault fault)) = (length script ≤ most_bytes) × IsGradeFault script goal fault
IsGradeOf json script goal most (Err TooLong) = most_bytes < length script
IsGradeOf json script goal most (Err (BadGoal fault)) = (length script ≤ most_bytes) × (goal_in goal ≡ Err fault)
IsGradeOf json script goal most (Err (BadValues fault)) = ⊥
IsGradeOf json script goal most (Err (BadTask fault)) = ⊥

-- Rooms are searched within this many nodes of each, no run is left out, and the answer has this form.
pub record IsSearchWithin (nodes : ℕ) (form : Form) (search : Search) : Type 0 where
  pub crashes : search.crashes ≡ None
  pub nodes_are : search.nodes ≡ nodes
  pub brief : search.brief ≡ false
  pub form_is : search.form ≡ form

-- what such a search says of rooms, for which no allocation failed
abbrev pub IsSearchedFor : (Asked → Type 0) → ℕ → Form → List ℕ → Result Outcome AllocError → List ℕ → Type 0
IsSearchedFor IsAsked nodes form rooms ending output = (search : Search) × IsSearchWithin nodes form search × IsAsked search.asked × IsComplete (IsOutcomesFor search rooms) ending output

-- With which inputs, of all vectors of the values that a text says, each room keeps its task; or why there is no answer, which may also be that the text says no values.
abbrev pub AreInputsJudged : List ℕ → List ℕ → ℕ → Form → Result PlayText NoAnswer → Type 0
AreInputsJudged rooms values nodes form (Ok text) = (length rooms ≤ most_bytes) × IsSearchedFor (AreInputsAsked values) nodes form rooms text.ending text.output
AreInputsJudged rooms values nodes form (Err (Fault fault)) = (length rooms ≤ most_bytes) × (fault ≡ Memory)
AreInputsJudged rooms values nodes form (Err TooLong) = most_bytes < length rooms
AreInputsJudged rooms values nodes form (Err (BadGoal fault)) = ⊥
AreInputsJudged rooms values nodes form (Err (BadValues fault)) = (length rooms ≤ most_bytes) × (values_in values ≡ Err fault)
AreInputsJudged rooms values nodes form (Err (BadTask fault)) = ⊥

-- Whether each room keeps the task that a text says; or why there is no answer, which may also be that the text says no task.
abbrev pub IsTaskJudged : List ℕ → List ℕ → ℕ → Form → Result PlayText NoAnswer → Type 0
IsTaskJudged rooms task nodes form (Ok text) = (length rooms ≤ most_bytes) × IsSearchedFor (IsTaskAsked task) nodes form rooms text.ending text.output
IsTaskJudged rooms task nodes form (Err (Fault fault)) = (length rooms ≤ most_bytes) × (fault ≡ Memory)
IsTaskJudged rooms task nodes form (Err TooLong) = most_bytes < length rooms
IsTaskJudged rooms task nodes form (Err (BadGoal fault)) = ⊥
IsTaskJudged rooms task nodes form (Err (BadValues fault)) = ⊥
IsTaskJudged rooms task nodes form (Err (BadTask fault)) = (length rooms ≤ most_bytes) × (task_in task ≡ Err fault)

-- the text says no task, or an allocation failed
abbrev pub IsNoTask : List ℕ → NoAnswer → Type 0
IsNoTask task (BadTask fault) = task_in task ≡ Err fault
IsNoTask task (Fault fault) = fault ≡ Memory
IsNoTask task TooLong = ⊥
IsNoTask task (BadGoal fault) = ⊥
IsNoTask task (BadValues fault) = ⊥

-- a task that is not valid hides the transcript's fault
abbrev pub IsJudgedFault : List ℕ → List ℕ → InputFault → Type 0
IsJudgedFault transcript task (BadInput line fault) = IsOk (task_in task) × (input_says All transcript ≡ Err (line, fault))
IsJudgedFault transcript task Memory = ⊤

-- What is said of a transcript whose runs are judged by the task that a text says; or why there is no answer, which may also be that it says none.
abbrev pub IsJudgedWith : List ℕ → List ℕ → (List Tree → Outcome → List ℕ → Type 0) → Result PlayText NoAnswer → Type 0
IsJudgedWith transcript task shown (Ok text) = (length transcript ≤ most_bytes) × (lines : List Tree) × (task_in task ≡ Ok lines) × IsComplete (shown lines) text.ending text.output
IsJudgedWith transcript task shown (Err (Fault fault)) = (length transcript ≤ most_bytes) × IsJudgedFault transcript task fault
IsJudgedWith transcript task shown (Err TooLong) = most_bytes < length transcript
IsJudgedWith transcript task shown (Err (BadGoal fault)) = ⊥
IsJudgedWith transcript task shown (Err (BadValues fault)) = ⊥
IsJudgedWith transcript task shown (Err (BadTask fault)) = (length transcript ≤ most_bytes) × (task_in task ≡ Err fault)

-- the line of the fault of this number
abbrev pub IsFaultSaid : ℕ → Outcome → List ℕ → Type 0
IsFaultSaid number outcome output = (output ≡ flat_map fault_line (decimal number ∷ [])) × (outcome ≡ faults_outcome (decimal number ∷ []))

-- what is warned of in a file; all is well with it
abbrev pub AreWarningsOf : List ℕ → Outcome → List ℕ → Type 0
AreWarningsOf file outcome output = (output ≡ file_warnings file) × (outcome ≡ AllWell)

-- a number that may be left out, as C says it: the largest one says that it is
abbrev pub number_unless_largest : ℕ → Option ℕ
number_unless_largest number = if number == 4294967295 then None else Some number

-- how rooms are sampled, as C says it, by one worker
abbrev pub plan_of : SamplePlan → Plan
plan_of plan = record {
  schedules = plan.schedules;
  crashes = plan.crashes;
  seed = plan.seed;
  from = plan.from;
  workers = 1;
  group = plan.group;
  brief = plan.brief;
  top = number_unless_largest plan.top;
  json = plan.json;
  outcome = number_unless_largest plan.outcome;
}

-- how all schedules of rooms are searched, as C says it
abbrev pub room_plan_of : SearchPlan → RoomPlan
room_plan_of plan = record { crashes = number_unless_largest plan.crashes; nodes = plan.nodes; brief = plan.brief; json = plan.json }

-- ---- what is said of it

abbrev pub ending_status : Result Outcome AllocError → ℕ
ending_status (Ok AllWell) = 0
ending_status (Ok SomeRefused) = 1
ending_status (Err failed) = 4

abbrev pub status_of : Result PlayText NoAnswer → ℕ
status_of (Ok text) = ending_status text.ending
status_of (Err (Fault (BadInput line fault))) = 2
status_of (Err (Fault Memory)) = 3
status_of (Err TooLong) = 5
status_of (Err (BadGoal fault)) = 6
status_of (Err (BadValues fault)) = 7
status_of (Err (BadTask fault)) = 8

-- the number of the fault of the input or the task, or 0
abbrev pub fault_of : Result PlayText NoAnswer → ℕ
fault_of (Ok text) = 0
fault_of (Err (Fault (BadInput line fault))) = text_code fault
fault_of (Err (Fault Memory)) = 0
fault_of (Err TooLong) = 0
fault_of (Err (BadGoal fault)) = 0
fault_of (Err (BadValues fault)) = 0
fault_of (Err (BadTask fault)) = code_of fault.fault

abbrev pub claim_of : GoalFault → ℕ
claim_of (NoClaim number) = number
claim_of (NoJoint number) = number

-- the number of the value at which a text stops saying values: the first that is too many, if all before it are well
abbrev pub value_of : ValuesFault → ℕ
value_of (NoNumber number) = number
value_of (Repeated number) = number
value_of TooMany = MAX_VALUES + 1

-- the number of the line that has it, or of the goal's claim, or of the value, or 0
abbrev pub line_of : Result PlayText NoAnswer → ℕ
line_of (Ok text) = 0
line_of (Err (Fault (BadInput line fault))) = line
line_of (Err (Fault Memory)) = 0
line_of (Err TooLong) = 0
line_of (Err (BadGoal fault)) = claim_of fault
line_of (Err (BadValues fault)) = value_of fault
line_of (Err (BadTask fault)) = fault.line

-- if there is no answer there is no text
abbrev pub text_of : Result PlayText NoAnswer → List ℕ
text_of (Ok text) = text.output
text_of (Err none) = []

abbrev pub result_of : Result PlayText NoAnswer → CallResult
result_of answer = record { status = status_of answer; fault = fault_of answer; line = line_of answer; length = length (text_of answer) }

-- ---- what the caller gets

-- as much of a text as fits, and after it what was there before
abbrev pub written_over : List ℕ → List ℕ → List ℕ
written_over before text = take (length before) text ++ drop (length text) before

-- There is such an answer. The caller's bytes begin with it, as far as it fits, and the result is that of this very answer.
abbrev pub IsGiven : (Result PlayText NoAnswer → Type 0) → List ℕ → List ℕ → CallResult → Type 0
IsGiven IsAnswer before after result = (answer : Result PlayText NoAnswer) × IsAnswer answer × (after ≡ written_over before (text_of answer)) × (result ≡ result_of answer)
