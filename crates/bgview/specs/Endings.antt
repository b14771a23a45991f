-- How the program ends, by the words that it is given and the input that they name.
use Rattle.std.specs.Prelude.{◌≡◌, ◌⊎◌, ◌||◌, ℕ, Bool, true, false, List, [], ◌∷◌, Option, Some, None, Result, Err, IfSome, IsSome, is_some, codes, option_and_then, unwrap_or}
use Rattle.std.specs.Borrow.{Bor}
use Rattle.clap.specs.Kinds.{IsAmong}
use Rattle.clap.specs.Words.{Row, fault_of, subcommand_of}
use Rattle.clap.specs.declared.error.kind.ErrorKind.{ErrorKind}
use Rattle.clap.specs.declared.error.kind.ErrorKind.TheVariants.{OutOfMemory}
use Rattle.io_text.specs.declared.fault.DeviceFault.TheVariants.{Read}
use Rattle.room_files.specs.declared.outcome.Outcome.{Outcome}
use Rattle.bgview.specs.Answers.{IsAnswer}
use Rattle.bgview_command_line.specs.CommandLine.{bgview_app, codes_among, file_among, files_among, keeps_among, keeps_file_among, mode_among, other_among}
use Rattle.program_io.specs.Errors.{Errors}
use Rattle.program_io.specs.Named.{HasAppended, Writes, input_named}
use Rattle.program_io.specs.Statuses.{words_status}
use Rattle.bgview.specs.Ends.{ending_status, is_read_failed}
use Rattle.bgview.specs.Faults.{AreFaultsSaid}
use Rattle.bgview.specs.Notes.{AreBothNotes, AreNotesOf}
use Rattle.bgview.specs.OwnTasks.{judged_by, task_text}
use Rattle.bgview.specs.Pages.{IsPageAnswer}
use Rattle.bgview.specs.Requests.{IsRequestedBy}
use Rattle.bgview.specs.Said.{IsEndSaid}
use Rattle.bgview.specs.Sums.{IfAllKnown, IsNotRead, IsSummed, inputs_of}
use Rattle.bgview.specs.Unread.{IsUnreadIf}
use Rattle.view_sum.specs.declared.form.SumForm.{SumForm}
use Rattle.view_page.specs.Faults.{NamedFile}
use Rattle.bgview.specs.declared.ended.Ended.{Ended}
use Rattle.bgview.specs.declared.request.OfInput.{OfInput}
use Rattle.bgview.specs.declared.request.OfInput.TheVariants.{Whole}
use Rattle.bgview.specs.declared.request.Request.TheVariants.{Page}
use Rattle.bgview.specs.declared.request.Requested.{Requested}
use Rattle.bgview.specs.declared.request.Requested.TheVariants.{Faults, Input, Sum}
use Rattle.bgview.specs.declared.fault.OptionFault.TheVariants.{Second, TwoTasks}
use Rattle.bgview.specs.declared.fault.ViewFault.{ViewFault}
use Rattle.bgview.specs.declared.fault.ViewFault.TheVariants.{BadOption, Device}

-- the subcommand that was found in the words, with its values
abbrev pub Found : Type 0
Found = Option (List ℕ × List Row)

-- What is asked of an input is answered, and what is said of it is noted.
pub record IsAnswered (asked : OfInput) (input : List ℕ) (result : Result Outcome ViewFault) (before notes : List ℕ) (writes : Writes) : Type 0 where
  pub output : List ℕ
  pub answer : IsAnswer asked input result output
  pub appended : HasAppended writes output
  pub noted : AreNotesOf asked input result before notes

-- What the inputs give that the words name, if it is known: the first and the second, all of which there may be many, and the file of a task of one's own.
pub record Named : Type 0 where
  pub first : Option (List ℕ)
  pub second : Option (List ℕ)
  pub all : List (Option (List ℕ))
  pub task : Option (List ℕ)

abbrev pub named_by : Option (List ℕ) → (List ℕ → Option (List ℕ)) → Found → Named
named_by standard file found = record {
  first = input_named standard file (file_among found);
  second = option_and_then file (other_among found);
  all = inputs_of standard file (files_among found);
  task = option_and_then file (keeps_file_among found);
}

-- a file was not opened, and nothing is noted or written
abbrev pub IsNotOpened : Result Outcome ViewFault → List ℕ → Writes → Type 0
IsNotOpened result notes writes = (result ≡ Err (Device Read)) × (notes ≡ []) × HasAppended writes []

-- both are answered in one page, and what is said of them is noted
abbrev pub IsPaged : NamedFile → NamedFile → Result Outcome ViewFault → List ℕ → Writes → Type 0
IsPaged file next result notes writes = (output : List ℕ) × IsPageAnswer (file.bytes ∷ next.bytes ∷ []) result output × HasAppended writes output × AreBothNotes file next result notes

-- a file by the name that the words give it, or `-` for standard input
abbrev pub named_file : Option (List ℕ) → List ℕ → NamedFile
named_file path bytes = record { name = unwrap_or path (codes "-"); bytes = bytes }

-- a page is asked for that says more of its file than the answer to it
abbrev pub is_page_of_one : OfInput → Bool
is_page_of_one (Whole (Page paging)) = is_some paging.keeps || is_some paging.search
is_page_of_one _ = false

-- two files are given for a page of one
abbrev pub IsRefusedPage : Result Outcome ViewFault → List ℕ → Writes → Type 0
IsRefusedPage result notes writes = (result ≡ Err (BadOption Second)) × (notes ≡ []) × HasAppended writes []

-- both are answered in one page, unless the second was not opened
abbrev pub ArePaged : Found → Named → Result Outcome ViewFault → List ℕ → Writes → Type 0
ArePaged found named result notes writes = IsNotOpened result notes writes
    ⊎ IfSome named.first (λ file. IfSome named.second (λ next. IsPaged (named_file (file_among found) file) (named_file (other_among found) next) result notes writes))

-- what is done with two files, if a page of one is asked for or not
abbrev pub AreBothRead : Bool → Found → Named → Result Outcome ViewFault → List ℕ → Writes → Type 0
AreBothRead true found named result notes writes = IsRefusedPage result notes writes
AreBothRead false found named result notes writes = ArePaged found named result notes writes

-- One input is answered, or two in one page.
pub record IsReadBy (found : Found) (named : Named) (asked : OfInput) (result : Result Outcome ViewFault) (notes : List ℕ) (writes : Writes) : Type 0 where
  pub one : other_among found ≡ None → IfSome named.first (λ bytes. IsAnswered asked bytes result [] notes writes)
  pub two : IsSome (other_among found) → AreBothRead (is_page_of_one asked) found named result notes writes

-- If reading failed, the file that was not read is known: the first that the words name, or the second if there is one.
abbrev pub IsUnreadOf : Found → Ended → Type 0
IsUnreadOf found ended = IsUnreadIf (is_read_failed ended.result) (file_among found) ended.unread
    ⊎ (IsSome (other_among found) × IsUnreadIf (is_read_failed ended.result) (other_among found) ended.unread)

-- What is asked of the inputs that the words name is done, unless a file that they name was not opened.
abbrev pub IsInputDone : Found → Named → OfInput → Ended → List ℕ → Writes → Type 0
IsInputDone found named asked ended notes writes = ((IsSome (file_among found) × IsNotOpened ended.result notes writes) ⊎ IsReadBy found named asked ended.result notes writes) × IsUnreadOf found ended

-- What is asked is judged by the task of one's own in this file, if that is known.
abbrev pub IsJudgedDone : Found → Named → OfInput → Ended → List ℕ → Writes → Type 0
IsJudgedDone found named asked ended notes writes = IfSome named.task (λ file. (task : Bor (List ℕ)) × (task.now ≡ task_text file) × IsInputDone found named (judged_by task asked) ended notes writes)

-- a task of one's own is given as a text, and in a file
abbrev pub IsTwiceJudged : Ended → List ℕ → Writes → Type 0
IsTwiceJudged ended notes writes = (ended.result ≡ Err (BadOption TwoTasks)) × (ended.unread ≡ None) × (notes ≡ []) × HasAppended writes []

-- the file of the task was not read, and nothing is noted or written
abbrev pub IsTaskUnread : List ℕ → Ended → List ℕ → Writes → Type 0
IsTaskUnread path ended notes writes = IsNotRead (path ∷ []) ended × (notes ≡ []) × HasAppended writes []

-- what is done where a task of one's own is in the file of this path, and may be given as a text too
abbrev pub IsFileTaskDone : Option (List ℕ) → List ℕ → Found → Named → OfInput → Ended → List ℕ → Writes → Type 0
IsFileTaskDone (Some text) path found named asked ended notes writes = IsTwiceJudged ended notes writes
IsFileTaskDone None path found named asked ended notes writes = IsTaskUnread path ended notes writes ⊎ IsJudgedDone found named asked ended notes writes

-- what is done, if a task of one's own is in a file or not
abbrev pub IsOwnTaskDone : Option (List ℕ) → Found → Named → OfInput → Ended → List ℕ → Writes → Type 0
IsOwnTaskDone None found named asked ended notes writes = IsInputDone found named asked ended notes writes
IsOwnTaskDone (Some path) found named asked ended notes writes = IsFileTaskDone (keeps_among found) path found named asked ended notes writes

-- What is asked of the inputs that the words name is done, judged by the task of one's own in the file that they name, if they name one.
abbrev pub IsAskedDone : Found → Named → OfInput → Ended → List ℕ → Writes → Type 0
IsAskedDone found named asked ended notes writes = IsOwnTaskDone (keeps_file_among found) found named asked ended notes writes

-- Samples are added up, and what is said of one that can't be is noted; unless an input was not read, which is one of those that the words name.
abbrev pub IsSumDone : SumForm → List (List ℕ) → List (Option (List ℕ)) → Ended → List ℕ → Writes → Type 0
IsSumDone form names given ended notes writes =
    (IsNotRead names ended × (notes ≡ []) × HasAppended writes []) ⊎ (IfAllKnown given (λ texts. IsSummed form names texts ended.result notes writes) × (ended.unread ≡ None))

-- What is requested is done: faults are said, samples are added up, or something is done with the inputs.
abbrev pub IsDone : Requested → Found → Named → Ended → List ℕ → Writes → Type 0
IsDone Faults found named ended notes writes = ((output : List ℕ) × AreFaultsSaid (codes_among found) ended.result output × HasAppended writes output) × (notes ≡ []) × (ended.unread ≡ None)
IsDone (Sum form) found named ended notes writes = IsSumDone form (files_among found) named.all ended notes writes
IsDone (Input asked) found named ended notes writes = IsAskedDone found named asked ended notes writes

-- What the words request is done.
pub record IsEnding (found : Found) (named : Named) (ended : Ended) (notes : List ℕ) (writes : Writes) : Type 0 where
  pub requested : Requested
  pub is_requested : IsRequestedBy (mode_among found) found requested
  pub done : IsDone requested found named ended notes writes

-- The exit status for these words: that of what they ask for, and what is said with it on standard error; or they ask for nothing, for a
-- reason of this kind, and nothing is written.
pub data IsStatusFor (standard : Option (List ℕ)) (file : List ℕ → Option (List ℕ)) (words : List (List ℕ)) (writes : Writes) (errors : Errors) (status : ℕ) : Type 0 where
  done : (ended : Ended) (notes : List ℕ) → fault_of bgview_app words ≡ []
      → IsEnding (subcommand_of bgview_app words) (named_by standard file (subcommand_of bgview_app words)) ended notes writes
      → IsEndSaid (mode_among (subcommand_of bgview_app words)) ended notes errors → status ≡ ending_status ended.result → IsStatusFor standard file words writes errors status
  refused : (kind : ErrorKind) (is_printed : Bool) → (kind ≡ OutOfMemory) ⊎ IsAmong kind (fault_of bgview_app words) → HasAppended writes []
      → status ≡ words_status kind is_printed → IsStatusFor standard file words writes errors status
