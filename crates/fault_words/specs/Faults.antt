-- Faults in words, by the numbers that reports name them by.
use Rattle.std.specs.Prelude.{ℕ, List, ◌++◌, Option, Some, None, codes, is_some, min, ◌^◌, option_and_then}
use Rattle.std.specs.List.{flat_map, list_all}
use Rattle.std.specs.Option.{option_map}
use Rattle.protocol_lang.specs.Numbers.{number_of}
use Rattle.fault_words.specs.Words.{words_of}
use Rattle.room_files.specs.Verdicts.{outcome_if}
use Rattle.room_files.specs.declared.outcome.Outcome.{Outcome}
use Rattle.fault_words.specs.declared.faults.TheConstants.{NO_FAULT}

-- what the fault says that a text is the number of
abbrev pub said_by : List ℕ → Option (List ℕ)
said_by text = option_and_then words_of (option_map (λ n. min n (2 ^ 32)) (number_of text))

abbrev pub words_or_none : Option (List ℕ) → List ℕ
words_or_none None = NO_FAULT.now
words_or_none (Some words) = words

abbrev pub fault_line : List ℕ → List ℕ
fault_line text = text ++ (codes ": " ++ (words_or_none (said_by text) ++ codes "\n"))

-- all is well if each text is the number of a fault
abbrev pub faults_outcome : List (List ℕ) → Outcome
faults_outcome texts = outcome_if (list_all (λ text. is_some (said_by text)) texts)
