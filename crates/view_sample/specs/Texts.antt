-- What is written of a room that was sampled.
use Rattle.std.specs.Prelude.{ℕ, ◌==◌, min, Bool, List, [], ◌∷◌, ◌++◌, length, Option, None, Some, if◌then◌else◌, codes, decimal}
use Rattle.std.specs.List.{flat_map}
use Rattle.room_files.specs.BlockLists.{whole_block}
use Rattle.report_text.specs.ReportTexts.{process_lines}
use Rattle.view_sample.specs.Counts.{held_in, most_of, once_in, values_in}
use Rattle.room_sample.specs.Samples.{Counted}
use Rattle.room_sample.specs.Shown.{Shown}
use Rattle.room_sample.specs.declared.sampling.Plan.{Plan}
use Rattle.room_sample.specs.declared.stretch.Stretch.{Stretch}
use Rattle.room_sample.specs.declared.stretch.Stretch.TheVariants.{Steps, Crash}

-- ---- the script of a schedule

abbrev pub stretch_line : List ℕ → Stretch → List ℕ
stretch_line name (Steps simulator count) = codes "step " ++ (name ++ ((32 ∷ decimal simulator) ++ ((32 ∷ decimal count) ++ codes "\n")))
stretch_line name (Crash simulator) = codes "crash " ++ (name ++ ((32 ∷ decimal simulator) ++ codes "\n"))

-- what `play` is given so that the outcome results and is reported
abbrev pub script_text : List ℕ → List ℕ → List Stretch → List ℕ
script_text name block schedule =
    codes "open\n" ++ (whole_block block ++ (flat_map (stretch_line name) schedule ++ ((codes "settle " ++ (name ++ codes "\n")) ++ (codes "report " ++ (name ++ codes "\n")))))

-- ---- the text

-- whether the outcomes are groups
abbrev pub plan_end : Bool → List ℕ
plan_end group = if group then codes " grouped\n" else codes "\n"

-- the number of the first schedule, unless it is 0
abbrev pub from_words : ℕ → List ℕ
from_words from = if from == 0 then [] else codes " from" ++ (32 ∷ decimal from)

abbrev pub plan_line : List ℕ → Plan → List ℕ
plan_line name plan =
    (name ++ (codes " sample" ++ (32 ∷ decimal plan.schedules)))
    ++ ((codes " crashes" ++ (32 ∷ decimal plan.crashes)) ++ ((codes " seed" ++ (32 ∷ decimal plan.seed)) ++ (from_words plan.from ++ plan_end plan.group)))

abbrev pub script_unless : Bool → List ℕ → List ℕ → List Stretch → List ℕ
script_unless brief name block schedule = if brief then [] else script_text name block schedule

-- how often an outcome came, the states of the processes in it, and a script that leads there
abbrev pub outcome_text : Bool → List ℕ → List ℕ → Shown → List ℕ
outcome_text brief name block one =
    (codes "\n" ++ (name ++ (codes " came" ++ ((32 ∷ decimal one.times) ++ codes " times\n")))) ++ (process_lines name one.states ++ script_unless brief name block one.schedule)

abbrev pub number_words : ℕ → List ℕ → List ℕ
number_words number things = (32 ∷ decimal number) ++ things

-- a line that says a number of something
abbrev pub number_line : List ℕ → List ℕ → ℕ → List ℕ → List ℕ
number_line name words number things = name ++ ((words ++ (32 ∷ decimal number)) ++ things)

-- how many values were decided at most, and how many processes were held
abbrev pub most_numbers : List ℕ → ℕ → ℕ → List ℕ
most_numbers name values held = codes "\n" ++ (number_line name (codes " decided at most") values (codes " values\n") ++ number_line name (codes " held at most") held (codes " processes\n"))

abbrev pub most_lines : List ℕ → List Counted → List ℕ
most_lines name outcomes = most_numbers name (most_of values_in outcomes) (most_of held_in outcomes)

-- how many outcomes are shown
abbrev pub shown_count : Option ℕ → ℕ → ℕ
shown_count None count = count
shown_count (Some top) count = min top count

abbrev pub outcome_texts : Bool → List ℕ → List ℕ → List Shown → List ℕ
outcome_texts brief name block shown = flat_map (outcome_text brief name block) shown

-- how many outcomes there are, and how likely a further schedule leads to a new one: as often as one came that came only once (Good 1953)
abbrev pub new_words : List ℕ → ℕ → ℕ → ℕ → List ℕ
new_words name count once schedules =
    number_line name (codes " has") count (codes " outcomes,") ++ (number_words once (codes " of them once: about") ++ (number_words once (codes " in") ++ number_words schedules (codes " more schedules give a new one\n")))

abbrev pub new_line : List ℕ → Plan → List Counted → List ℕ
new_line name plan outcomes = new_words name (length outcomes) (once_in outcomes) plan.schedules

-- the outcomes, of which these are shown
abbrev pub sample_text : List ℕ → List ℕ → Plan → List Counted → List Shown → List ℕ
sample_text name block plan outcomes shown = plan_line name plan ++ (outcome_texts plan.brief name block shown ++ (most_lines name outcomes ++ new_line name plan outcomes))

abbrev pub count_words : List ℕ → ℕ → List ℕ
count_words name count = number_line name (codes " has") count (codes " outcomes, and none has the number")

abbrev pub none_line : List ℕ → ℕ → ℕ → List ℕ
none_line name count number = count_words name count ++ number_words number (codes "\n")

-- the script of the outcome of this number; or, if there is none, how many outcomes there are
abbrev pub alone_text : List ℕ → List ℕ → ℕ → ℕ → Option Shown → List ℕ
alone_text name block count number None = none_line name count number
alone_text name block count number (Some one) = script_text name block one.schedule
