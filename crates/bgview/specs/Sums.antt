-- What is answered for samples that are added up.
use Rattle.std.specs.Prelude.{◌≡◌, ⊤, ℕ, ◌≤◌, Bool, true, List, [], ◌∷◌, ◌++◌, length, map, Option, Some, None, Result, Ok, Err, IfSome, Contains, codes, nat_lt, if◌then◌else◌}
use Rattle.std.specs.List.{list_any}
use Rattle.std.specs.Str.{bytes_eq}
use Rattle.io_text.specs.Reading.{most_bytes}
use Rattle.io_text.specs.declared.fault.DeviceFault.TheVariants.{Read, Write, TooLong, Memory}
use Rattle.room_files.specs.declared.outcome.Outcome.{Outcome}
use Rattle.program_io.specs.Named.{HasAppended, Writes}
use Rattle.view_sum.specs.Refusals.{IsBad}
use Rattle.view_sum.specs.Sums.{IsSumOutput}
use Rattle.view_sum.specs.Words.{refusal_text}
use Rattle.view_sum.specs.declared.form.SumForm.{SumForm}
use Rattle.bgview.specs.Ends.{is_read_failed}
use Rattle.bgview.specs.Unread.{path_of}
use Rattle.bgview.specs.declared.ended.Ended.{Ended}
use Rattle.bgview.specs.declared.fault.ViewFault.{ViewFault}
use Rattle.bgview.specs.declared.fault.ViewFault.TheVariants.{BadInput, BadOption, BadPart, Device, Incomplete}

-- what an input gives, by the name that the words give it, if it is known: `-` is standard input
abbrev pub input_of : Option (List ℕ) → (List ℕ → Option (List ℕ)) → List ℕ → Option (List ℕ)
input_of standard file name = if bytes_eq name (codes "-") then standard else file name

abbrev pub inputs_of : Option (List ℕ) → (List ℕ → Option (List ℕ)) → List (List ℕ) → List (Option (List ℕ))
inputs_of standard file names = map (input_of standard file) names

-- if it is known what each gives, this holds of all
abbrev pub IfAllKnown : List (Option (List ℕ)) → (List (List ℕ) → Type 0) → Type 0
IfAllKnown [] P = P []
IfAllKnown (None ∷ others) P = ⊤
IfAllKnown (Some text ∷ others) P = IfAllKnown others (λ texts. P (text ∷ texts))

-- reading ended the program, or an allocation failed
abbrev pub IsReadEnding : Result Outcome ViewFault → Type 0
IsReadEnding (Err (Device Read)) = ⊤
IsReadEnding (Err (Device TooLong)) = ⊤
IsReadEnding (Err (Device Memory)) = ⊤
IsReadEnding _ = ⊥

-- the file that is said not to be read is one of these
abbrev pub IsNotRead : List (List ℕ) → Ended → Type 0
IsNotRead names ended = IsReadEnding ended.result × IfSome (path_of ended.unread) (Contains names)

abbrev pub has_long : List (List ℕ) → Bool
has_long files = list_any (λ (file : List ℕ). nat_lt most_bytes (length file)) files

-- The answer is the sum in this form, or why there is none; if writing failed, a beginning is written.
abbrev pub IsSumAnswer : SumForm → List (List ℕ) → Result Outcome ViewFault → List ℕ → Type 0
IsSumAnswer form texts (Ok outcome) output = IsSumOutput form texts outcome output
IsSumAnswer form texts (Err (BadPart bad)) output = IsBad texts bad × (output ≡ [])
IsSumAnswer form texts (Err (Device Memory)) output = output ≡ []
IsSumAnswer form texts (Err (Device Write)) output = (outcome : Outcome) × (rest : List ℕ) × IsSumOutput form texts outcome (output ++ rest)
IsSumAnswer form texts (Err (Device Read)) output = ⊥
IsSumAnswer form texts (Err (Device TooLong)) output = ⊥
IsSumAnswer form texts (Err Incomplete) output = ⊥
IsSumAnswer form texts (Err (BadInput line fault)) output = ⊥
IsSumAnswer form texts (Err (BadOption option)) output = ⊥

-- what is said of a file that can't be added up
abbrev pub AreSumNotes : List (List ℕ) → Result Outcome ViewFault → List ℕ → Type 0
AreSumNotes names (Err (BadPart bad)) notes = notes ≡ refusal_text names bad
AreSumNotes names _ notes = notes ≡ []

-- these texts, of files of these names, are added up
abbrev pub IsSummed : SumForm → List (List ℕ) → List (List ℕ) → Result Outcome ViewFault → List ℕ → Writes → Type 0
IsSummed form names texts result notes writes = (output : List ℕ) × IsSumAnswer form texts result output × HasAppended writes output × AreSumNotes names result notes
