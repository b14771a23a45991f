-- What the words of the command line ask for, and what `clap`'s parse reads of the program's command.
use Rattle.std.specs.Prelude.{◌≡◌, ◌==◌, ◌≤◌, ℕ, Bool, true, false, List, [], ◌∷◌, Option, None, Some, pos, codes, if◌then◌else◌, option_and_then, slice_get, take}
use Rattle.std.specs.Option.{option_map_or}
use Rattle.std.specs.Str.{bytes_eq}
use Rattle.std.specs.Str.Parse.{IsNumeral, digits_value, without_leading_plus}
use Rattle.clap.specs.Kinds.{Kinds}
use Rattle.clap.specs.Words.{App, Row, Rule, Shape, fault_of, first_of, new_app, new_rule, with_rule, with_subcommand}
use Rattle.clap.specs.declared.builder.value_parser.ValueParser.TheVariants.{Signed}
use Rattle.bgsim_command_line.specs.declared.words.Mode.{Mode}
use Rattle.bgsim_command_line.specs.declared.words.Mode.TheVariants.{Check, Play, Run}

-- ---- the words

-- the word that asks for a mode
abbrev pub word_of : Mode → List ℕ
word_of Check = codes "check"
word_of Play = codes "play"
word_of Run = codes "run"

-- the file that these words name: the first of them, or the second if the first is `--`
abbrev pub file_named : List (List ℕ) → Option (List ℕ)
file_named [] = None
file_named (word ∷ words) = if bytes_eq word (codes "--") then slice_get words 0 else Some word

abbrev pub begins_with_dash : List ℕ → Bool
begins_with_dash [] = false
begins_with_dash (byte ∷ bytes) = byte == 45

-- the words after those that give the number of workers, which is `--workers=W`, or `--workers` and then `W`; `is_next` says that
-- the first word is such a `W`
abbrev pub behind_workers : (is_next : Bool) → List (List ℕ) → List (List ℕ)
behind_workers is_next [] = []
behind_workers true (number ∷ words) = behind_workers false words
behind_workers false (word ∷ words) =
    if bytes_eq word (codes "--workers") then behind_workers true words
    else if bytes_eq (take 10 word) (codes "--workers=") then behind_workers false words
    else word ∷ words

-- the words after a mode's name that name the file
abbrev pub file_words : Mode → List (List ℕ) → List (List ℕ)
file_words Check words = words
file_words Play words = words
file_words Run words = behind_workers false words

-- the words ask for the mode and the file: there are no words, the mode is `check` and there is no file; or the first word is the
-- mode's, and those after it name the file
abbrev pub IsAsked : List (List ℕ) → Mode → Option (List ℕ) → Type 0
IsAsked [] mode file = (mode ≡ Check) × (file ≡ None)
IsAsked (word ∷ words) mode file = (word ≡ word_of mode) × (file ≡ file_named (file_words mode words))

-- the words are the mode's, and at most a file after it that doesn't begin with `-`
abbrev pub IsPlainly : List (List ℕ) → Mode → Type 0
IsPlainly [] mode = ⊥
IsPlainly (word ∷ []) mode = word ≡ word_of mode
IsPlainly (word ∷ file ∷ []) mode = (word ≡ word_of mode) × (begins_with_dash file ≡ false)
IsPlainly (word ∷ file ∷ other ∷ others) mode = ⊥

-- ---- the program's command

-- the subcommand of this word, which takes a file
abbrev pub file_app : List ℕ → App
file_app word = with_rule (new_app word) (new_rule (codes "FILE"))

abbrev pub plain_shape : Shape
plain_shape = record (new_app (codes "bgsim")).top { no_binary_name = true; disable_help_subcommand = true; has_version = true; subcommand_required = true }

-- the option `--workers`, whose value is a number from 1 to 16
abbrev pub workers_rule : Rule
workers_rule = record (new_rule (codes "workers")) { long = Some (codes "workers"); value_names = 1; parser = Some (Signed (pos 1) (pos 16)) }

-- the subcommand that takes a number of workers too
abbrev pub run_app : App
run_app = with_rule (file_app (word_of Run)) workers_rule

abbrev pub plain_app : App
plain_app = record { top = plain_shape; subs = [] }

abbrev pub bgsim_app : App
bgsim_app =
    with_subcommand (with_subcommand (with_subcommand plain_app (file_app (word_of Check)).top) (file_app (word_of Play)).top) run_app.top

-- the mode of a word, which is that of a subcommand
abbrev pub mode_of : List ℕ → Mode
mode_of word = if bytes_eq word (codes "play") then Play else if bytes_eq word (codes "run") then Run else Check

-- the mode of the subcommand that was found
abbrev pub mode_among : Option (List ℕ × List Row) → Mode
mode_among found = option_map_or (λ sub. mode_of sub.0) found Check

-- the file among the values of a subcommand
abbrev pub file_among : Option (List ℕ × List Row) → Option (List ℕ)
file_among found = option_and_then (λ sub. first_of (codes "FILE") sub.1) found

-- the text of the number of workers among the values of a subcommand
abbrev pub workers_among : Option (List ℕ × List Row) → Option (List ℕ)
workers_among found = option_and_then (λ sub. first_of (codes "workers") sub.1) found

-- The number of workers that the text gives; without a text there are 2.
abbrev pub IsWorkers : Option (List ℕ) → ℕ → Type 0
IsWorkers None workers = workers ≡ 2
IsWorkers (Some text) workers =
    IsNumeral 10 (without_leading_plus text) → 1 ≤ digits_value 10 (without_leading_plus text) → digits_value 10 (without_leading_plus text) ≤ 16 → workers ≡ digits_value 10 (without_leading_plus text)

-- the kinds of fault that the words may have; there is none where they are taken
abbrev pub words_fault : List (List ℕ) → Kinds
words_fault [] = []
words_fault (word ∷ words) = fault_of bgsim_app (word ∷ words)
