-- What is said of an input's faults on standard error.
use Rattle.std.specs.Prelude.{◌≡◌, ⊤, ℕ, Bool, true, false, List, [], ◌∷◌, Option, Some, None, Result, Ok, Err}
use Rattle.io_text.specs.declared.fault.DeviceFault.TheVariants.{Read, Write, TooLong, Memory}
use Rattle.file_faults.specs.Files.{AreRoomFaults, AreTranscriptFaults}
use Rattle.file_faults.specs.Scripts.{script_faults}
use Rattle.file_faults.specs.Warnings.{file_warnings}
use Rattle.view_grade.specs.Goals.{goal_forms}
use Rattle.view_open.specs.declared.plan.OpenPlan.{OpenPlan}
use Rattle.view_page.specs.Faults.{AreBothFaults, AreFileFaults, NamedFile}
use Rattle.view_page.specs.Pages.{kind_of}
use Rattle.bgview.specs.Answers.{text_of}
use Rattle.bgview.specs.declared.request.OfInput.{OfInput}
use Rattle.bgview.specs.declared.request.OfInput.TheVariants.{Live, Whole}
use Rattle.bgview.specs.declared.request.Paging.{Paging}
use Rattle.bgview.specs.declared.request.Request.{Request}
use Rattle.bgview.specs.declared.request.Request.TheVariants.{Why, Trace, Draw, Page, Transcript, Grade, Sample, Outcomes, Open, Lint}
use Rattle.bgview.specs.declared.fault.OptionFault.{OptionFault}
use Rattle.bgview.specs.declared.fault.OptionFault.TheVariants.{Alone, Both, Goal, Inputs, Keeps, OpenTask, Rooms, Second, TwoTasks}
use Rattle.bgview.specs.declared.fault.OptionFault.TheVariants as option_faults
use Rattle.bgview.specs.declared.fault.ViewFault.{ViewFault}
use Rattle.bgview.specs.declared.fault.ViewFault.TheVariants.{BadInput, BadOption, BadPart, Device, Incomplete}

-- of a transcript with a malformed line, and of no other: the answer to those has it
abbrev pub AreNotes : {A : Type 0} → List ℕ → Result A ViewFault → List ℕ → List ℕ → Type 0
AreNotes input (Ok value) old new = new ≡ old
AreNotes input (Err (Device fault)) old new = new ≡ old
AreNotes input (Err Incomplete) old new = new ≡ old
AreNotes input (Err (BadOption fault)) old new = new ≡ old
AreNotes input (Err (BadPart bad)) old new = new ≡ old
AreNotes input (Err (BadInput line fault)) old new = AreTranscriptFaults input new

-- this is said wherever the input was read, unless an allocation failed
abbrev pub AreSaid : {A : Type 0} → (List ℕ → Type 0) → Result A ViewFault → List ℕ → Type 0
AreSaid said (Ok value) notes = said notes
AreSaid said (Err (BadInput line fault)) notes = said notes
AreSaid said (Err Incomplete) notes = said notes
AreSaid said (Err (BadOption fault)) notes = ⊤
AreSaid said (Err (BadPart bad)) notes = ⊤
AreSaid said (Err (Device Write)) notes = said notes
AreSaid said (Err (Device Read)) notes = ⊤
AreSaid said (Err (Device TooLong)) notes = ⊤
AreSaid said (Err (Device Memory)) notes = ⊤

-- the answer as JSON has no refused block either
abbrev pub AreWhyNotes : {A : Type 0} → Bool → List ℕ → Result A ViewFault → List ℕ → List ℕ → Type 0
AreWhyNotes false input result old new = AreNotes input result old new
AreWhyNotes true input result old new = AreSaid (AreTranscriptFaults input) result new

-- of all faults of a script
abbrev pub AreScriptNotes : {A : Type 0} → List ℕ → Result A ViewFault → List ℕ → Type 0
AreScriptNotes input result notes = AreSaid (λ (said : List ℕ). said ≡ script_faults input) result notes

-- of all refused blocks of a file of rooms
abbrev pub AreRoomNotes : {A : Type 0} → List ℕ → Result A ViewFault → List ℕ → Type 0
AreRoomNotes input result notes = AreSaid (AreRoomFaults input) result notes

-- what is warned of in the rooms of a file
abbrev pub AreWarnings : {A : Type 0} → List ℕ → Result A ViewFault → List ℕ → Type 0
AreWarnings input result notes = AreSaid (λ (said : List ℕ). said ≡ file_warnings input) result notes

-- what is said of a file of which a page is made: all its faults, by what it is; or that it is empty, as one is that the shell has emptied for
-- the page
abbrev pub AreSaidOfFile : List ℕ → List ℕ → Type 0
AreSaidOfFile [] said = said ≡ file_warnings []
AreSaidOfFile (byte ∷ bytes) said = AreFileFaults (kind_of (byte ∷ bytes)) (byte ∷ bytes) said

-- of a file of which a page is made, if it is a page with this task of one's own and these searches of what is open: it is read as a transcript then, or as a script
abbrev pub AreNotesOfPage : {A : Type 0} → Option (List ℕ) → Option OpenPlan → List ℕ → Result A ViewFault → List ℕ → Type 0
AreNotesOfPage None None file result notes = AreSaid (AreSaidOfFile file) result notes
AreNotesOfPage (Some text) None file result notes = AreSaid (AreTranscriptFaults file) result notes
AreNotesOfPage None (Some plan) file result notes = AreScriptNotes file result notes
AreNotesOfPage (Some text) (Some plan) file result notes = ⊤

abbrev pub ArePageNotes : {A : Type 0} → Paging → List ℕ → Result A ViewFault → List ℕ → Type 0
ArePageNotes paging file result notes = AreNotesOfPage (text_of paging.keeps) paging.search file result notes

-- of all faults of two files, in order, each after the name of its file
abbrev pub AreBothNotes : {A : Type 0} → NamedFile → NamedFile → Result A ViewFault → List ℕ → Type 0
AreBothNotes file next result notes = AreSaid (AreBothFaults file next) result notes

-- of an option's text that is not valid: the forms of a goal, if it is one
abbrev pub AreOptionNotes : OptionFault → List ℕ → List ℕ → Type 0
AreOptionNotes (Goal fault) old new = new ≡ goal_forms
AreOptionNotes (Inputs fault) old new = new ≡ old
AreOptionNotes (Keeps fault) old new = new ≡ old
AreOptionNotes Both old new = new ≡ old
AreOptionNotes Alone old new = new ≡ old
AreOptionNotes Rooms old new = new ≡ old
AreOptionNotes option_faults.Open old new = new ≡ old
AreOptionNotes Second old new = new ≡ old
AreOptionNotes OpenTask old new = new ≡ old
AreOptionNotes TwoTasks old new = new ≡ old

-- of a goal that is not valid
abbrev pub AreGoalNotes : {A : Type 0} → Result A ViewFault → List ℕ → List ℕ → Type 0
AreGoalNotes (Err (BadOption fault)) old new = AreOptionNotes fault old new
AreGoalNotes (Ok value) old new = ⊤
AreGoalNotes (Err (Device fault)) old new = ⊤
AreGoalNotes (Err Incomplete) old new = ⊤
AreGoalNotes (Err (BadPart bad)) old new = ⊤
AreGoalNotes (Err (BadInput line fault)) old new = ⊤

-- of a script's faults, or of a goal that is not valid
abbrev pub AreGradeNotes : {A : Type 0} → List ℕ → Result A ViewFault → List ℕ → List ℕ → Type 0
AreGradeNotes input (Err (BadOption fault)) old new = AreOptionNotes fault old new
AreGradeNotes input (Ok value) old new = new ≡ script_faults input
AreGradeNotes input (Err (Device fault)) old new = AreSaid {A = ⊤} (λ (said : List ℕ). said ≡ script_faults input) (Err (Device fault)) new
AreGradeNotes input (Err Incomplete) old new = new ≡ script_faults input
AreGradeNotes input (Err (BadPart bad)) old new = ⊥
AreGradeNotes input (Err (BadInput line fault)) old new = new ≡ script_faults input

-- what `lint` warns of, which is a part of its answer as JSON
abbrev pub AreLintNotes : {A : Type 0} → Bool → List ℕ → Result A ViewFault → List ℕ → List ℕ → Type 0
AreLintNotes false input result old new = AreWarnings input result new
AreLintNotes true input result old new = new ≡ old

-- what is said on standard error of an input that is answered whole: of its faults; and as `lint` says these as its answer, what it warns of
abbrev pub AreNotesOn : {A : Type 0} → Request → List ℕ → Result A ViewFault → List ℕ → List ℕ → Type 0
AreNotesOn (Why explaining) input result old new = AreWhyNotes explaining.json input result old new
AreNotesOn (Trace json) input result old new = AreScriptNotes input result new
AreNotesOn (Draw style) input result old new = AreScriptNotes input result new
AreNotesOn (Page paging) input result old new = ArePageNotes paging input result new
AreNotesOn Transcript input result old new = AreScriptNotes input result new
AreNotesOn (Grade grading) input result old new = AreGradeNotes input result old new
AreNotesOn (Sample sampling) input result old new = AreRoomNotes input result new
AreNotesOn (Outcomes searching) input result old new = AreRoomNotes input result new
AreNotesOn (Open searching) input result old new = AreScriptNotes input result new
AreNotesOn (Lint json) input result old new = AreLintNotes json input result old new

-- and of any input: `live` says its faults in place
abbrev pub AreNotesOf : {A : Type 0} → OfInput → List ℕ → Result A ViewFault → List ℕ → List ℕ → Type 0
AreNotesOf Live input result old new = new ≡ old
AreNotesOf (Whole request) input result old new = AreNotesOn request input result old new
