-- What `clap`'s parse reads of the program's command, and what that asks for.
use Rattle.std.specs.Prelude.{◌≡◌, ◌<◌, ◌^◌, ℕ, pos, Bool, true, false, List, [], Option, None, Some, codes, option_and_then, unwrap_or, if◌then◌else◌}
use Rattle.std.specs.Option.{option_map_or}
use Rattle.std.specs.Str.{bytes_eq}
use Rattle.std.specs.Str.Parse.{IsNumeral, signed_digits_value, without_leading_sign}
use Rattle.clap.specs.Lexer.{usize_max}
use Rattle.clap.specs.Words.{App, Row, Rule, Shape, all_of, first_of, new_app, new_rule, with_rule, with_subcommand}
use Rattle.clap.specs.declared.builder.action.ArgAction.TheVariants.{SetTrue}
use Rattle.clap.specs.declared.builder.value_parser.ValueParser.TheVariants.{Signed}
use Rattle.bgview_command_line.specs.declared.words.Mode.{Mode}
use Rattle.bgview_command_line.specs.declared.words.Mode.TheVariants.{Why, Trace, Draw, Page, Transcript, Fault, Grade, Sample, Sum, Outcomes, Lint, Live}

-- the subcommand of a word, which takes a file
abbrev pub file_app : List ℕ → App
file_app word = with_rule (new_app word) (new_rule (codes "FILE"))

-- an option that takes a number, from `least` to `most`
abbrev pub number_rule : List ℕ → ℕ → ℕ → Rule
number_rule name least most = record (new_rule name) { long = Some name; value_names = 1; parser = Some (Signed (pos least) (pos most)) }

-- an option that takes no value
abbrev pub json_rule : Rule
json_rule = record (new_rule (codes "json")) { long = Some (codes "json"); action = Some SetTrue }

-- the subcommand of a word, which takes a file, and a flag that asks for JSON
abbrev pub telling_app : List ℕ → App
telling_app word = with_rule (file_app word) json_rule

-- an option that takes a text
abbrev pub keeps_rule : Rule
keeps_rule = record (new_rule (codes "keeps")) { long = Some (codes "keeps"); value_names = 1 }

-- and one that takes the name of a file
abbrev pub keeps_file_rule : Rule
keeps_file_rule = record (new_rule (codes "keeps-file")) { long = Some (codes "keeps-file"); value_names = 1 }

-- a subcommand that takes besides a task of one's own, as a text or in a file
abbrev pub with_own_task : App → App
with_own_task app = with_rule (with_rule app keeps_rule) keeps_file_rule

-- the subcommand `why`
abbrev pub why_app : App
why_app = with_own_task (telling_app (codes "why"))

-- the subcommand `page` as far as it says of what: one file or two, and a task of one's own
abbrev pub paged_app : App
paged_app = with_own_task (with_rule (file_app (codes "page")) (new_rule (codes "OTHER")))

-- an option that takes no value
abbrev pub open_rule : Rule
open_rule = record (new_rule (codes "open")) { long = Some (codes "open"); action = Some SetTrue }

abbrev pub stopped_rule : Rule
stopped_rule = number_rule (codes "crashes") 0 16

abbrev pub nodes_rule : Rule
nodes_rule = number_rule (codes "nodes") 1 100000000

-- the subcommand `page`, which takes besides a flag and two numbers
abbrev pub page_app : App
page_app = with_rule (with_rule (with_rule paged_app open_rule) stopped_rule) nodes_rule

abbrev pub scale_rule : Rule
scale_rule = number_rule (codes "scale") 10 1000

-- an option that takes no value
abbrev pub turns_rule : Rule
turns_rule = record (new_rule (codes "turns")) { long = Some (codes "turns"); action = Some SetTrue }

-- the subcommand `draw`, which takes a file, a number and a flag
abbrev pub draw_app : App
draw_app = with_rule (with_rule (file_app (codes "draw")) scale_rule) turns_rule

abbrev pub schedules_rule : Rule
schedules_rule = number_rule (codes "schedules") 1 1000000

abbrev pub crashes_rule : Rule
crashes_rule = number_rule (codes "crashes") 0 8

abbrev pub seed_rule : Rule
seed_rule = number_rule (codes "seed") 0 4294967295

abbrev pub from_rule : Rule
from_rule = number_rule (codes "from") 0 4294967295

abbrev pub top_rule : Rule
top_rule = number_rule (codes "top") 1 1000000

abbrev pub outcome_rule : Rule
outcome_rule = number_rule (codes "outcome") 1 1000000

abbrev pub workers_rule : Rule
workers_rule = number_rule (codes "workers") 1 16

-- an option that takes no value
abbrev pub brief_rule : Rule
brief_rule = record (new_rule (codes "brief")) { long = Some (codes "brief"); action = Some SetTrue }

-- an option that takes no value
abbrev pub group_rule : Rule
group_rule = record (new_rule (codes "group")) { long = Some (codes "group"); action = Some SetTrue }

-- the subcommand `sample` as far as it says which schedules are drawn: a file and four numbers
abbrev pub drawing_app : App
drawing_app = with_rule (with_rule (with_rule (with_rule (file_app (codes "sample")) schedules_rule) crashes_rule) seed_rule) from_rule

-- and which outcomes are shown
abbrev pub choosing_app : App
choosing_app = with_rule (with_rule (with_rule drawing_app group_rule) top_rule) outcome_rule

-- and how they are found and written
abbrev pub sampling_app : App
sampling_app = with_rule (with_rule (with_rule choosing_app workers_rule) json_rule) brief_rule

-- an option that takes a text
abbrev pub inputs_rule : Rule
inputs_rule = record (new_rule (codes "inputs")) { long = Some (codes "inputs"); value_names = 1 }

-- the subcommand `sample`
abbrev pub sample_app : App
sample_app = with_own_task (with_rule sampling_app inputs_rule)

-- an option that takes no value
abbrev pub task_rule : Rule
task_rule = record (new_rule (codes "task")) { long = Some (codes "task"); action = Some SetTrue }

-- an option that takes no value
abbrev pub rooms_rule : Rule
rooms_rule = record (new_rule (codes "rooms")) { long = Some (codes "rooms"); action = Some SetTrue }

-- the subcommand `outcomes` as far as it says what is searched: a file, two flags and two numbers
abbrev pub searching_app : App
searching_app = with_rule (with_rule (with_rule (with_rule (file_app (codes "outcomes")) rooms_rule) open_rule) stopped_rule) nodes_rule

-- and which outcomes are shown
abbrev pub picking_app : App
picking_app = with_rule (with_rule searching_app top_rule) outcome_rule

-- and how they are written
abbrev pub listing_app : App
listing_app = with_rule (with_rule picking_app json_rule) brief_rule

-- the subcommand `outcomes`, which takes besides a flag and a text
abbrev pub outcomes_app : App
outcomes_app = with_own_task (with_rule (with_rule listing_app task_rule) inputs_rule)

-- an option that takes a text, and has to be there
abbrev pub goal_rule : Rule
goal_rule = record (new_rule (codes "goal")) { long = Some (codes "goal"); value_names = 1; required = true }

abbrev pub commands_rule : Rule
commands_rule = number_rule (codes "commands") 0 1000000

-- the subcommand `grade` as far as it says by which goal a script is graded: a file, a goal, a number and a flag
abbrev pub grading_app : App
grading_app = with_rule (with_rule (with_rule (file_app (codes "grade")) goal_rule) commands_rule) json_rule

-- the subcommand `grade`, which takes two texts besides
abbrev pub grade_app : App
grade_app = with_own_task grading_app

-- one value of this name at least
abbrev pub many_rule : List ℕ → Rule
many_rule name = record (new_rule name) { required = true; range = Some (record { start_inclusive = 1; end_inclusive = usize_max }) }

-- the subcommand `fault`, which takes numbers
abbrev pub fault_app : App
fault_app = with_rule (new_app (codes "fault")) (many_rule (codes "CODE"))

-- the subcommand `sum`, which takes files, a number and two flags
abbrev pub sum_app : App
sum_app = with_rule (with_rule (with_rule (with_rule (new_app (codes "sum")) (many_rule (codes "FILE"))) top_rule) json_rule) brief_rule

abbrev pub plain_shape : Shape
plain_shape = record (new_app (codes "bgview")).top { no_binary_name = true; disable_help_subcommand = true; has_version = true; subcommand_required = true }

abbrev pub plain_app : App
plain_app = record { top = plain_shape; subs = [] }

abbrev pub bgview_app : App
bgview_app =
    let showing = with_subcommand (with_subcommand (with_subcommand (with_subcommand plain_app why_app.top) (telling_app (codes "trace")).top) draw_app.top) page_app.top in
    let finding = with_subcommand (with_subcommand (with_subcommand (with_subcommand (with_subcommand showing (file_app (codes "transcript")).top) fault_app.top) sample_app.top) sum_app.top) outcomes_app.top in
    with_subcommand (with_subcommand (with_subcommand finding (telling_app (codes "lint")).top) grade_app.top) (file_app (codes "live")).top

-- the mode of a word, which is that of a subcommand
abbrev pub mode_of : List ℕ → Mode
mode_of word =
    if bytes_eq word (codes "trace") then Trace else if bytes_eq word (codes "draw") then Draw else if bytes_eq word (codes "page") then Page else if bytes_eq word (codes "transcript") then Transcript else if bytes_eq word (codes "fault") then Fault else if bytes_eq word (codes "sample") then Sample else if bytes_eq word (codes "sum") then Sum else if bytes_eq word (codes "outcomes") then Outcomes else if bytes_eq word (codes "lint") then Lint else if bytes_eq word (codes "grade") then Grade else if bytes_eq word (codes "live") then Live else Why

-- the mode of the subcommand that was found
abbrev pub mode_among : Option (List ℕ × List Row) → Mode
mode_among found = option_map_or (λ sub. mode_of sub.0) found Why

-- a value of the subcommand that was found, by its name
abbrev pub value_among : List ℕ → Option (List ℕ × List Row) → Option (List ℕ)
value_among name found = option_and_then (λ sub. first_of name sub.1) found

abbrev pub file_among : Option (List ℕ × List Row) → Option (List ℕ)
file_among found = value_among (codes "FILE") found

-- a task of one's own, as text
abbrev pub keeps_among : Option (List ℕ × List Row) → Option (List ℕ)
keeps_among found = value_among (codes "keeps") found

-- the file that it is in
abbrev pub keeps_file_among : Option (List ℕ × List Row) → Option (List ℕ)
keeps_file_among found = value_among (codes "keeps-file") found

-- the second file
abbrev pub other_among : Option (List ℕ × List Row) → Option (List ℕ)
other_among found = value_among (codes "OTHER") found

-- the numbers among the values of a subcommand
abbrev pub codes_among : Option (List ℕ × List Row) → List (List ℕ)
codes_among found = unwrap_or (option_and_then (λ sub. all_of (codes "CODE") sub.1) found) []

-- the files that a subcommand takes, if it takes several
abbrev pub files_among : Option (List ℕ × List Row) → List (List ℕ)
files_among found = unwrap_or (option_and_then (λ sub. all_of (codes "FILE") sub.1) found) []

-- The text is a numeral, which may have a sign, of this value. `clap` takes no other text for an option with a number: `-0` is 0.
pub record IsValueOf (text : List ℕ) (value : ℕ) : Type 0 where
  pub numeral : IsNumeral 10 (without_leading_sign text)
  pub small : value < 2 ^ 32
  pub is : signed_digits_value 10 text ≡ pos value

-- the number that a text gives, or this one without a text
abbrev pub IsNumber : Option (List ℕ) → ℕ → ℕ → Type 0
IsNumber None default number = number ≡ default
IsNumber (Some text) default number = (value : ℕ) → IsValueOf text value → number ≡ value

-- the number that a text gives, or none without a text
abbrev pub IsNumberIfAny : Option (List ℕ) → Option ℕ → Type 0
IsNumberIfAny None number = number ≡ None
IsNumberIfAny (Some text) number = (value : ℕ) → IsValueOf text value → number ≡ Some value

-- the flag is given
abbrev pub is_given : Option (List ℕ) → Bool
is_given None = false
is_given (Some text) = bytes_eq text (codes "true")

-- JSON is asked for
abbrev pub json_among : Option (List ℕ × List Row) → Bool
json_among found = is_given (value_among (codes "json") found)
