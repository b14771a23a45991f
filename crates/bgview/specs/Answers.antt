-- What is answered for an input, by what is requested.
use Rattle.std.specs.Prelude.{◌≡◌, ⊤, ℕ, ◌<◌, ◌≤◌, Bool, true, false, ◌&&◌, ◌||◌, List, [], ◌∷◌, ◌++◌, length, Option, Some, None, is_some, Result, Ok, Err, OnOk, alloc_error, if◌then◌else◌, option_map}
use Rattle.std.specs.Borrow.{Bor}
use Rattle.std.specs.declared.alloc.AllocError.{AllocError}
use Rattle.io_text.specs.Reading.{most_bytes}
use Rattle.io_text.specs.declared.fault.DeviceFault.{DeviceFault}
use Rattle.io_text.specs.declared.fault.DeviceFault.TheVariants.{Read, Write, TooLong, Memory}
use Rattle.protocol_lang.specs.Trees.{Tree}
use Rattle.room_files.specs.Faults.{FaultAt}
use Rattle.room_files.specs.Inputs.{input_says}
use Rattle.room_files.specs.declared.outcome.Outcome.{Outcome}
use Rattle.room_files.specs.declared.kinds.Kinds.TheVariants.{All}
use Rattle.script_play.specs.Script.{script_says}
use Rattle.live_script.specs.Sessions.{IsServed}
use Rattle.view_grade.specs.Goals.{goal_in}
use Rattle.view_grade.specs.Grades.{IsGraded}
use Rattle.view_grade.specs.Keeping.{IsKeptGrade}
use Rattle.view_grade.specs.declared.goal.Claim.{Claim}
use Rattle.view_grade.specs.declared.goal.GoalFault.{GoalFault}
use Rattle.file_faults.specs.Lint.{IsLintIn}
use Rattle.view_outcomes.specs.Asked.{AreInputsAsked, IsTaskAsked}
use Rattle.view_outcomes.specs.Blocks.{IsOutcomesFor}
use Rattle.decision_tasks.specs.Tasks.{task_in}
use Rattle.decision_tasks.specs.declared.task.LineFault.{LineFault}
use Rattle.input_vectors.specs.Values.{values_in}
use Rattle.view_outcomes.specs.declared.search.Asked.{Asked}
use Rattle.view_outcomes.specs.declared.search.Asked.TheVariants as asking
use Rattle.view_outcomes.specs.declared.search.Form.{Form}
use Rattle.view_outcomes.specs.declared.search.Form.TheVariants.{Text, Json}
use Rattle.view_outcomes.specs.declared.search.Search.{Search}
use Rattle.input_vectors.specs.declared.values.ValuesFault.{ValuesFault}
use Rattle.view_draw.specs.Drawn.{IsDrawn}
use Rattle.view_transcript.specs.Transcripts.{IsTranscribed}
use Rattle.view_page.specs.Pages.{IsKeptPage, IsOpenPage, IsPageFor, fault_among, fault_in}
use Rattle.view_open.specs.Watched.{IsOpenFor}
use Rattle.view_open.specs.declared.plan.OpenPlan.{OpenPlan}
use Rattle.view_rooms.specs.Blocks.{IsRoomsFor}
use Rattle.view_rooms.specs.declared.plan.RoomPlan.{RoomPlan}
use Rattle.room_sample.specs.declared.sampling.Plan.{Plan}
use Rattle.view_sample.specs.Inputs.{IsInputsSample}
use Rattle.view_sample.specs.Keeping.{IsKeptSample}
use Rattle.view_sample.specs.Sample.{IsSampleFor}
use Rattle.view_trace.specs.Trace.{IsTraceIn}
use Rattle.view_why.specs.Keeping.{IsKeptExplanation}
use Rattle.view_why.specs.Why.{IsExplanationIn}
use Rattle.bgview.specs.Ends.{written}
use Rattle.bgview.specs.declared.request.Explaining.{Explaining}
use Rattle.bgview.specs.declared.request.Grading.{Grading}
use Rattle.bgview.specs.declared.request.OfInput.{OfInput}
use Rattle.bgview.specs.declared.request.OfInput.TheVariants.{Live, Whole}
use Rattle.bgview.specs.declared.request.Paging.{Paging}
use Rattle.bgview.specs.declared.request.Request.{Request}
use Rattle.bgview.specs.declared.request.Request.TheVariants.{Why, Trace, Draw, Page, Transcript, Grade, Sample, Outcomes, Open, Lint}
use Rattle.bgview.specs.declared.request.Sampling.{Sampling}
use Rattle.bgview.specs.declared.request.Searching.{Searching}
use Rattle.bgview.specs.declared.fault.OptionFault.{OptionFault}
use Rattle.bgview.specs.declared.fault.OptionFault.TheVariants.{Alone, Both, Goal, Inputs, Keeps, OpenTask, Rooms}
use Rattle.bgview.specs.declared.fault.OptionFault.TheVariants as option_faults
use Rattle.bgview.specs.declared.fault.ViewFault.{ViewFault}
use Rattle.bgview.specs.declared.fault.ViewFault.TheVariants.{BadInput, BadOption, BadPart, Device, Incomplete}

-- ---- what is shown of a valid input, and how that ends

-- it is there whole, so no allocation failed
abbrev pub IsWhole : (Outcome → List ℕ → Type 0) → Result Outcome AllocError → List ℕ → Type 0
IsWhole shown (Ok outcome) output = shown outcome output
IsWhole shown (Err refused) output = ⊥

abbrev pub goal_text : Grading → List ℕ
goal_text grading = grading.goal.now

-- an option's text
abbrev pub text_of : Option (Bor (List ℕ)) → Option (List ℕ)
text_of option = option_map (λ text. text.now) option

-- the task of one's own by which runs of a transcript are judged, as text
abbrev pub judged_by : Explaining → Option (List ℕ)
judged_by explaining = option_map (λ text. text.now) explaining.keeps

-- the task is that of the text, if there is one
abbrev pub IsTaskOf : Option (List ℕ) → Option (List Tree) → Type 0
IsTaskOf None None = ⊤
IsTaskOf (Some text) (Some lines) = task_in text ≡ Ok lines
IsTaskOf None (Some lines) = ⊥
IsTaskOf (Some text) None = ⊥

-- the task of one's own by which the histories of a script's rooms are judged, as text
abbrev pub kept_by : Grading → Option (List ℕ)
kept_by grading = option_map (λ text. text.now) grading.keeps

-- a script is judged by a goal, and by this task if there is one
abbrev pub IsGradedWith : Bool → Option (List Tree) → List Claim → Option ℕ → List ℕ → Result Outcome AllocError → List ℕ → Type 0
IsGradedWith json None claims most input ending output = IsGraded json claims most input ending output
IsGradedWith json (Some lines) claims most input ending output = IsKeptGrade json claims most lines input ending output

-- the script is judged by the goal that the text says, and by the task, if one is given
unfoldable pub IsGradeFor : Grading → List ℕ → Result Outcome AllocError → List ℕ → Type 0
IsGradeFor grading input ending output =
    (claims : List Claim) × (goal_in (goal_text grading) ≡ Ok claims) × (task : Option (List Tree)) × IsTaskOf (kept_by grading) task × IsGradedWith grading.json task claims grading.most input ending output

-- what is said of a transcript, whose runs are judged by this task if there is one
abbrev pub IsExplainedBy : Bool → Option (List Tree) → List ℕ → Outcome → List ℕ → Type 0
IsExplainedBy json None input outcome output = IsExplanationIn json input outcome output
IsExplainedBy json (Some lines) input outcome output = IsKeptExplanation json lines input outcome output

-- a transcript is explained as is requested
abbrev pub IsWhyShown : Explaining → List ℕ → Result Outcome AllocError → List ℕ → Type 0
IsWhyShown explaining input ending output = (task : Option (List Tree)) × IsTaskOf (judged_by explaining) task × IsWhole (IsExplainedBy explaining.json task input) ending output

-- the values of which inputs are made, as text
abbrev pub values_text : Searching → Option (List ℕ)
values_text searching = option_map (λ text. text.now) searching.values

-- the task of one's own, as text
abbrev pub keeps_text : Searching → Option (List ℕ)
keeps_text searching = option_map (λ text. text.now) searching.keeps

-- the outcomes of each room that are listed: that of a number alone, if one is given; else at most a number of them, if one is given; else all
abbrev pub listed_by : Option ℕ → Option ℕ → Asked
listed_by (Some number) top = asking.Outcome number
listed_by None (Some top) = asking.First top
listed_by None None = asking.Outcomes

-- what is asked of each room if neither values for inputs nor a task of one's own are given: whether it keeps its own task, or its outcomes
abbrev pub asked_alone : Searching → Asked
asked_alone searching = if searching.task then asking.Task else listed_by searching.outcome searching.top

-- what is asked of each room: with which inputs it keeps its task, if values are given for them; whether it keeps a task of one's own, if that is given; else this
abbrev pub IsAskedBy : Asked → Option (List ℕ) → Option (List ℕ) → Asked → Type 0
IsAskedBy alone None None asked = asked ≡ alone
IsAskedBy alone (Some values) None asked = AreInputsAsked values asked
IsAskedBy alone None (Some keeps) asked = IsTaskAsked keeps asked
IsAskedBy alone (Some values) (Some keeps) asked = ⊥

-- rooms are searched as is requested, whatever is asked of each
pub record IsSearchFor (searching : Searching) (search : Search) : Type 0 where
  pub crashes : search.crashes ≡ searching.crashes
  pub nodes : search.nodes ≡ searching.nodes
  pub brief : search.brief ≡ searching.brief
  pub form : search.form ≡ searching.form

-- the search that is requested
pub record IsSearchBy (searching : Searching) (search : Search) : Type 0 where
  pub search_is : IsSearchFor searching search
  pub asked : IsAskedBy (asked_alone searching) (values_text searching) (keeps_text searching) search.asked

-- all runs of rooms are searched as is requested
abbrev pub AreRunsShown : Searching → List ℕ → Result Outcome AllocError → List ℕ → Type 0
AreRunsShown searching input ending output = (search : Search) × IsSearchBy searching search × IsWhole (IsOutcomesFor search input) ending output

abbrev pub is_json : Form → Bool
is_json Text = false
is_json Json = true

-- how all schedules of the simulators are searched
abbrev pub room_plan : Searching → RoomPlan
room_plan searching = record { crashes = searching.crashes; nodes = searching.nodes; brief = searching.brief; json = is_json searching.form }

-- how the rooms of a script are searched
abbrev pub open_plan : Searching → OpenPlan
open_plan searching = record { crashes = searching.crashes; nodes = searching.nodes; json = is_json searching.form }

-- all schedules of the simulators are searched, or all runs
abbrev pub IsSearchShownBy : Bool → Searching → List ℕ → Result Outcome AllocError → List ℕ → Type 0
IsSearchShownBy true searching input ending output = IsWhole (IsRoomsFor (room_plan searching) input) ending output
IsSearchShownBy false searching input ending output = AreRunsShown searching input ending output

-- rooms are searched as is requested
abbrev pub IsSearchShown : Searching → List ℕ → Result Outcome AllocError → List ℕ → Type 0
IsSearchShown searching input ending output = IsSearchShownBy searching.rooms searching input ending output

-- the task of one's own by which the histories of sampled rooms are judged, as text
abbrev pub sampled_by : Sampling → Option (List ℕ)
sampled_by sampling = option_map (λ text. text.now) sampling.keeps

-- the values of which the inputs of sampled rooms are made, as text
abbrev pub sampled_with : Sampling → Option (List ℕ)
sampled_with sampling = option_map (λ text. text.now) sampling.values

-- rooms are sampled by a plan; or their tasks are judged with all inputs of the values that a text says, or their histories by the task that a text says
abbrev pub IsSampledBy : Option (List ℕ) → Option (List ℕ) → Plan → List ℕ → Result Outcome AllocError → List ℕ → Type 0
IsSampledBy None None plan input ending output = IsSampleFor plan input ending output
IsSampledBy (Some text) None plan input ending output = (values : List ℕ) × (values_in text ≡ Ok values) × IsWhole (IsInputsSample values plan input) ending output
IsSampledBy None (Some text) plan input ending output = (lines : List Tree) × (task_in text ≡ Ok lines) × IsWhole (IsKeptSample lines plan input) ending output
IsSampledBy (Some values) (Some text) plan input ending output = ⊥

-- rooms are sampled as is requested
abbrev pub IsSamplingShown : Sampling → List ℕ → Result Outcome AllocError → List ℕ → Type 0
IsSamplingShown sampling input ending output = IsSampledBy (sampled_with sampling) (sampled_by sampling) sampling.plan input ending output

-- a page of the file; or of the transcript that it is read as, whose runs are judged by the task that this text says; or of the script that it is read as, with the outcomes
-- that are open after each command
abbrev pub IsPageWith : Option (List ℕ) → Option OpenPlan → List ℕ → Result Outcome AllocError → List ℕ → Type 0
IsPageWith None None input ending output = IsPageFor (input ∷ []) ending output
IsPageWith (Some text) None input ending output = (lines : List Tree) × (task_in text ≡ Ok lines) × IsWhole (IsKeptPage lines input) ending output
IsPageWith None (Some plan) input ending output = IsOpenPage plan input ending output
IsPageWith (Some text) (Some plan) input ending output = ⊥

abbrev pub IsPageShown : Paging → List ℕ → Result Outcome AllocError → List ℕ → Type 0
IsPageShown paging input ending output = IsPageWith (text_of paging.keeps) paging.search input ending output

-- as text, or as JSON if that is asked for
abbrev pub IsShown : Request → List ℕ → Result Outcome AllocError → List ℕ → Type 0
IsShown (Why explaining) input ending output = IsWhyShown explaining input ending output
IsShown (Trace json) input ending output = IsTraceIn json input ending output
IsShown (Draw style) input ending output = IsDrawn style input ending output
IsShown (Page paging) input ending output = IsPageShown paging input ending output
IsShown Transcript input ending output = IsTranscribed input ending output
IsShown (Grade grading) input ending output = IsGradeFor grading input ending output
IsShown (Sample sampling) input ending output = IsSamplingShown sampling input ending output
IsShown (Outcomes searching) input ending output = IsSearchShown searching input ending output
IsShown (Open searching) input ending output = IsOpenFor (open_plan searching) input ending output
IsShown (Lint json) input ending output = IsWhole (IsLintIn json input) ending output

-- ---- why nothing is shown

-- the first fault of a file of which a page is made, if it is a page with this task of one's own and these searches of what is open
abbrev pub fault_of_page : Option (List ℕ) → Option OpenPlan → List ℕ → Option FaultAt
fault_of_page None None input = fault_among (input ∷ [])
fault_of_page (Some text) None input = fault_in (input_says All input)
fault_of_page None (Some plan) input = fault_in (script_says input)
fault_of_page (Some text) (Some plan) input = None

abbrev pub page_fault : Paging → List ℕ → Option FaultAt
page_fault paging input = fault_of_page (text_of paging.keeps) paging.search input

-- the input's first fault and its line, by what the input is read as: rooms are refused one by one, so a file of rooms has no fault
abbrev pub first_fault : Request → List ℕ → Option FaultAt
first_fault (Why explaining) input = fault_in (input_says All input)
first_fault (Trace json) input = fault_in (script_says input)
first_fault (Draw style) input = fault_in (script_says input)
first_fault (Page paging) input = page_fault paging input
first_fault Transcript input = fault_in (script_says input)
first_fault (Grade grading) input = fault_in (script_says input)
first_fault (Open searching) input = fault_in (script_says input)
first_fault _ input = None

abbrev pub goal_fault_in : {A : Type 0} → Result A GoalFault → Option OptionFault
goal_fault_in (Ok goal) = None
goal_fault_in (Err fault) = Some (Goal fault)

abbrev pub values_fault_in : {A : Type 0} → Result A ValuesFault → Option OptionFault
values_fault_in (Ok values) = None
values_fault_in (Err fault) = Some (Inputs fault)

abbrev pub keeps_fault_in : {A : Type 0} → Result A LineFault → Option OptionFault
keeps_fault_in (Ok task) = None
keeps_fault_in (Err fault) = Some (Keeps fault)

-- the fault of the values of which inputs are made, or of a task of one's own, if they are given; and they are not given together
abbrev pub search_fault : Option (List ℕ) → Option (List ℕ) → Option OptionFault
search_fault None None = None
search_fault (Some values) None = values_fault_in (values_in values)
search_fault None (Some keeps) = keeps_fault_in (task_in keeps)
search_fault (Some values) (Some keeps) = Some Both

-- one outcome alone is asked for, and so is whether tasks are kept
abbrev pub is_more_asked : Searching → Bool
is_more_asked searching = is_some searching.outcome && (searching.task || (is_some searching.values || is_some searching.keeps))

-- something is asked for that is no outcome of a simulation, or one outcome alone, or the first ones
abbrev pub is_more_of_rooms : Searching → Bool
is_more_of_rooms searching = is_some searching.top || (is_some searching.outcome || (searching.task || (is_some searching.values || is_some searching.keeps)))

abbrev pub rooms_fault : Searching → Option OptionFault
rooms_fault searching = if is_more_of_rooms searching then Some Rooms else None

-- something is asked for that is none of the outcomes that are open in the rooms of a script
abbrev pub is_more_of_open : Searching → Bool
is_more_of_open searching = searching.rooms || (searching.brief || is_more_of_rooms searching)

-- the fault of the options of `outcomes --open`
abbrev pub open_fault : Searching → Option OptionFault
open_fault searching = if is_more_of_open searching then Some option_faults.Open else None

-- the fault of the options of `outcomes` without `--rooms`
abbrev pub runs_fault : Searching → Option OptionFault
runs_fault searching = if is_more_asked searching then Some Alone else search_fault (values_text searching) (keeps_text searching)

-- the fault of the options of `outcomes`
abbrev pub searching_fault : Searching → Option OptionFault
searching_fault searching = if searching.rooms then rooms_fault searching else runs_fault searching

-- the fault of a task of one's own, if it is given
abbrev pub keeps_fault : Option (List ℕ) → Option OptionFault
keeps_fault None = None
keeps_fault (Some keeps) = keeps_fault_in (task_in keeps)

-- the fault of the options of `page`: what is open is shown of a script, and a task of one's own judges a transcript; or that of the task
abbrev pub paging_fault_of : Option (List ℕ) → Option OpenPlan → Option OptionFault
paging_fault_of keeps None = keeps_fault keeps
paging_fault_of None (Some plan) = None
paging_fault_of (Some text) (Some plan) = Some OpenTask

abbrev pub paging_fault : Paging → Option OptionFault
paging_fault paging = paging_fault_of (text_of paging.keeps) paging.search

-- one outcome alone is asked for, and so is whether tasks are kept
abbrev pub is_more_of_sample : Sampling → Bool
is_more_of_sample sampling = is_some sampling.plan.outcome && (is_some sampling.values || is_some sampling.keeps)

-- the fault of the options of `sample`
abbrev pub sampling_fault : Sampling → Option OptionFault
sampling_fault sampling = if is_more_of_sample sampling then Some Alone else search_fault (sampled_with sampling) (sampled_by sampling)

-- the first of two faults, if there is one
abbrev pub either_fault : Option OptionFault → Option OptionFault → Option OptionFault
either_fault (Some fault) other = Some fault
either_fault None other = other

-- the fault of the task of one's own of `grade`, if it is given, or else of the goal
abbrev pub grade_fault : Option (List ℕ) → List ℕ → Option OptionFault
grade_fault keeps goal = either_fault (keeps_fault keeps) (goal_fault_in (goal_in goal))

-- the fault of a task of one's own, of the goal that a script is graded by, or of the options of `outcomes`
abbrev pub option_fault : Request → Option OptionFault
option_fault (Why explaining) = keeps_fault (judged_by explaining)
option_fault (Page paging) = paging_fault paging
option_fault (Grade grading) = grade_fault (kept_by grading) (goal_text grading)
option_fault (Sample sampling) = sampling_fault sampling
option_fault (Outcomes searching) = searching_fault searching
option_fault (Open searching) = open_fault searching
option_fault _ = None

-- ---- the answer

-- What is shown of inputs that have this fault if they have one, with an option that has that fault if it has one: The answer is an outcome, with
-- what is shown; or a fault, with nothing. But if an allocation failed for a part of a script or for a room's sample, the rest is shown; and if writing
-- failed, a beginning is written.
abbrev pub IsAnswerOf : Type 0 → Type 0 → (Result Outcome AllocError → List ℕ → Type 0) → Option FaultAt → Option OptionFault → Result Outcome ViewFault → List ℕ → Type 0
IsAnswerOf fit long shown fault bad_option (Ok outcome) output = fit × shown (Ok outcome) output
IsAnswerOf fit long shown fault bad_option (Err (BadPart bad)) output = ⊥
IsAnswerOf fit long shown fault bad_option (Err Incomplete) output = fit × shown (Err alloc_error) output
IsAnswerOf fit long shown fault bad_option (Err (BadInput line text)) output = fit × (fault ≡ Some (line, text)) × (output ≡ [])
IsAnswerOf fit long shown fault bad_option (Err (BadOption option)) output = (bad_option ≡ Some option) × (output ≡ [])
IsAnswerOf fit long shown fault bad_option (Err (Device TooLong)) output = long × (output ≡ [])
IsAnswerOf fit long shown fault bad_option (Err (Device Memory)) output = output ≡ []
IsAnswerOf fit long shown fault bad_option (Err (Device Read)) output = output ≡ []
IsAnswerOf fit long shown fault bad_option (Err (Device Write)) output = fit × (ending : Result Outcome AllocError) × (rest : List ℕ) × shown ending (output ++ rest)

-- the answer to an input that was read whole before
abbrev pub IsWholeAnswer : Request → List ℕ → Result Outcome ViewFault → List ℕ → Type 0
IsWholeAnswer request input result output =
    IsAnswerOf (length input ≤ most_bytes) (most_bytes < length input) (IsShown request input) (first_fault request input) (option_fault request) result output

-- how a script ends that was played as it was written
abbrev pub live_result : Result (Result Outcome AllocError) DeviceFault → Result Outcome ViewFault
live_result (Ok ending) = written ending
live_result (Err fault) = Err (Device fault)

-- The answer to a script that is played as it is written: to what was read of it, and that is all unless a fault ended it.
pub record IsLiveAnswer (input : List ℕ) (result : Result Outcome ViewFault) (output : List ℕ) : Type 0 where
  pub bytes : List ℕ
  pub unread : List ℕ
  pub parts : input ≡ bytes ++ unread
  pub served : Result (Result Outcome AllocError) DeviceFault
  pub is : IsServed bytes served output
  pub result_is : result ≡ live_result served
  pub all : OnOk served (unread ≡ [])

-- the answer to what is asked of an input
abbrev pub IsAnswer : OfInput → List ℕ → Result Outcome ViewFault → List ℕ → Type 0
IsAnswer Live input result output = IsLiveAnswer input result output
IsAnswer (Whole request) input result output = IsWholeAnswer request input result output

-- ---- inside the crate

-- with these nothing is shown
abbrev pub Ends : Option FaultAt → Option OptionFault → ViewFault → Type 0
Ends fault bad_option (BadInput line text) = fault ≡ Some (line, text)
Ends fault bad_option (BadOption option) = bad_option ≡ Some option
Ends fault bad_option (Device Memory) = ⊤
Ends fault bad_option (Device Read) = ⊥
Ends fault bad_option (Device Write) = ⊥
Ends fault bad_option (Device TooLong) = ⊥
Ends fault bad_option Incomplete = ⊥
Ends fault bad_option (BadPart bad) = ⊥

abbrev pub EndsRequest : Request → List ℕ → ViewFault → Type 0
EndsRequest request input fault = Ends (first_fault request input) (option_fault request) fault
