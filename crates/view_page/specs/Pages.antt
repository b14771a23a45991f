-- A page that steps through the rooms of a file, or of two next to each other.
use Rattle.std.specs.Prelude.{◌≡◌, ⊤, ℕ, true, false, List, [], ◌∷◌, ◌++◌, map, Option, Some, None, Result, Ok, Err}
use Rattle.std.specs.List.{flat_map}
use Rattle.std.specs.Option.{option_or}
use Rattle.std.specs.declared.alloc.AllocError.{AllocError}
use Rattle.room_files.specs.Faults.{FaultAt}
use Rattle.room_files.specs.declared.fault.InputFault.{InputFault}
use Rattle.room_files.specs.declared.fault.InputFault.TheVariants.{BadInput, Memory}
use Rattle.room_files.specs.Inputs.{input_says}
use Rattle.room_files.specs.declared.outcome.Outcome.{Outcome}
use Rattle.room_files.specs.declared.outcome.Outcome.TheVariants.{AllWell, SomeRefused}
use Rattle.room_files.specs.declared.kinds.Kinds.TheVariants.{All}
use Rattle.script_play.specs.Script.{script_says}
use Rattle.file_faults.specs.Kinds.{kind_of as read_as}
use Rattle.file_faults.specs.declared.kinds.Kind.{Kind}
use Rattle.file_faults.specs.declared.kinds.Kind.TheVariants as kinds
use Rattle.step_page.specs.Pages.{file_text, open_text, page_text}
use Rattle.step_page.specs.declared.page.FileKind.{FileKind}
use Rattle.step_page.specs.declared.page.FileKind.TheVariants.{Script, Transcript}
use Rattle.view_trace.specs.Trace.{IsJsonTraceFor}
use Rattle.protocol_lang.specs.Trees.{Tree}
use Rattle.view_open.specs.Watched.{IsOpenFor}
use Rattle.view_open.specs.declared.plan.OpenPlan.{OpenPlan}
use Rattle.view_why.specs.Keeping.{IsKeptExplanation}
use Rattle.view_why.specs.Why.{IsExplanationFor}

abbrev pub answered_as : Kind → FileKind
answered_as kinds.Transcript = Transcript
answered_as kinds.Script = Script
answered_as kinds.Rooms = Script

-- what a file is answered as: rooms alone are no transcript
abbrev pub kind_of : List ℕ → FileKind
kind_of file = answered_as (read_as file)

-- ---- one file

-- what `trace --json` answers to a script, and `why` to a transcript
abbrev pub IsFileAnswer : FileKind → List ℕ → Result Outcome AllocError → List ℕ → Type 0
IsFileAnswer Script file ending answer = IsJsonTraceFor file ending answer
IsFileAnswer Transcript file ending answer = (outcome : Outcome) × (ending ≡ Ok outcome) × IsExplanationFor file outcome answer

-- a file of a page, with the answer to it
pub record Answered : Type 0 where
  pub file : List ℕ
  pub ending : Result Outcome AllocError
  pub answer : List ℕ

abbrev pub IsAnsweredFile : Answered → Type 0
IsAnsweredFile one = IsFileAnswer (kind_of one.file) one.file one.ending one.answer

abbrev pub AreAnswered : List Answered → Type 0
AreAnswered [] = ⊤
AreAnswered (one ∷ rest) = IsAnsweredFile one × AreAnswered rest

abbrev pub answered_text : Answered → List ℕ
answered_text one = file_text (kind_of one.file) one.file one.answer

abbrev pub fault_in : {A : Type 0} → Result A FaultAt → Option FaultAt
fault_in (Ok value) = None
fault_in (Err fault) = Some fault

-- a file's first fault and its line, if it has one
abbrev pub first_fault : FileKind → List ℕ → Option FaultAt
first_fault Script file = fault_in (script_says file)
first_fault Transcript file = fault_in (input_says All file)

-- ---- one or two files

-- the endings of two answers in one: an allocation failed, or something was refused, in either of them
abbrev pub both : Result Outcome AllocError → Result Outcome AllocError → Result Outcome AllocError
both (Ok AllWell) other = other
both (Ok SomeRefused) (Ok other) = Ok SomeRefused
both (Ok SomeRefused) (Err refused) = Err refused
both (Err refused) other = Err refused

abbrev pub ending_of_all : List (Result Outcome AllocError) → Result Outcome AllocError
ending_of_all [] = Ok AllWell
ending_of_all (one ∷ []) = one
ending_of_all (one ∷ other ∷ rest) = both one (ending_of_all (other ∷ rest))

-- The page holds each file, and the answer to it.
pub record IsPageFor (files : List (List ℕ)) (ending : Result Outcome AllocError) (page : List ℕ) : Type 0 where
  pub all : List Answered
  pub each_file : map (λ one. one.file) all ≡ files
  pub answered : AreAnswered all
  pub ending_is : ending ≡ ending_of_all (map (λ one. one.ending) all)
  pub page_is : page ≡ page_text (flat_map answered_text all)

-- The page of a transcript holds it, and what `why` answers to it if its runs are judged by a task of one's own.
pub record IsKeptPage (lines : List Tree) (transcript : List ℕ) (outcome : Outcome) (page : List ℕ) : Type 0 where
  pub answer : List ℕ
  pub answered : IsKeptExplanation false lines transcript outcome answer
  pub page_is : page ≡ page_text (file_text Transcript transcript answer)

-- how outcomes that are open are searched, if they are written as JSON
abbrev pub as_json : OpenPlan → OpenPlan
as_json plan = record plan { json = true }

-- The page of a script holds it, what `trace --json` answers to it, and the outcomes that are open after each of its commands.
pub record IsOpenPage (plan : OpenPlan) (script : List ℕ) (ending : Result Outcome AllocError) (page : List ℕ) : Type 0 where
  pub trace : List ℕ
  pub openings : List ℕ
  pub trace_ending : Result Outcome AllocError
  pub search_ending : Result Outcome AllocError
  pub traced : IsJsonTraceFor script trace_ending trace
  pub are_open : IsOpenFor (as_json plan) script search_ending openings
  pub ending_is : ending ≡ both trace_ending search_ending
  pub page_is : page ≡ page_text (file_text Script script trace ++ open_text openings)

-- the first fault of the first file that has one
abbrev pub fault_among : List (List ℕ) → Option FaultAt
fault_among [] = None
fault_among (file ∷ []) = first_fault (kind_of file) file
fault_among (file ∷ next ∷ rest) = option_or (first_fault (kind_of file) file) (fault_among (next ∷ rest))

-- it is this fault of a file, or an allocation failed
abbrev pub IsFaultOf : Option FaultAt → InputFault → Type 0
IsFaultOf known (BadInput line fault) = known ≡ Some (line, fault)
IsFaultOf known Memory = ⊤
