-- What steps do, in words.
use Rattle.std.specs.Prelude.{ℕ, zero, suc, ◌+◌, ◌==◌, nat_le, List, [], ◌∷◌, ◌++◌, Option, Some, None, codes, decimal, length, take, if◌then◌else◌}
use Rattle.room_spec.specs.Rooms.{RoomSpec}
use Rattle.run_columns.specs.declared.mark.StepKind.{StepKind}
use Rattle.run_columns.specs.declared.mark.StepKind.TheVariants.{StoreWrite, Propose, LoadValue}
use Rattle.run_columns.specs.declared.mark.Step.{Step as StepMark}
use Rattle.run_columns.specs.StepKinds.{is_same, verb_of}
use Rattle.run_columns.specs.Proposals.{proposes_input, words_of}
use Rattle.step_words.specs.Sights.{counts_text}

unfoldable pub process_name : ℕ → List ℕ
process_name process = codes "process " ++ decimal process

unfoldable pub process_round : ℕ → ℕ → List ℕ
process_round process round = process_name process ++ (codes ", round " ++ decimal round)

-- which word of a snapshot a step is on, if it takes several
unfoldable pub word_words : Option ℕ → List ℕ
word_words None = []
word_words (Some word) = codes ", word " ++ decimal word

unfoldable pub simulator_name : ℕ → List ℕ
simulator_name simulator = codes "simulator " ++ decimal simulator

-- in round 0 of a reduction a value that is stored is a proposal, and one that is loaded is the input that was chosen
abbrev pub input_verb : StepKind → List ℕ
input_verb StoreWrite = codes " proposes an input for "
input_verb LoadValue = codes " loads the chosen input of "
input_verb kind = verb_of kind

abbrev pub verb_in : ℕ → StepKind → List ℕ
verb_in zero kind = input_verb kind
verb_in (suc round) kind = verb_of kind

unfoldable pub actor_words : StepMark → List ℕ
actor_words step = codes ": " ++ (simulator_name step.simulator ++ verb_in step.round step.kind)

-- : simulator 0 enters the agreement on process 0, round 1
unfoldable pub kind_words : StepMark → List ℕ
kind_words step = actor_words step ++ (process_round step.process step.round ++ word_words step.word)

-- the input that a step proposes, if it proposes one
abbrev pub input_words : StepMark → List ℕ
input_words step = if proposes_input step then codes ":" ++ (32 ∷ decimal step.stored) else []

-- what a step stores, if it proposes: an input, or in the words of `trace` for each process how many writes of it the word shows
abbrev pub stored_words : RoomSpec → StepMark → List ℕ
stored_words spec step = if is_same step.kind Propose then codes ":" ++ counts_text spec (words_of step) else input_words step

-- what the simulator decides by a step, if it does
unfoldable pub decision_words : Option ℕ → List ℕ
decision_words None = []
decision_words (Some decision) = codes "; the simulator decides " ++ decimal decision

-- step 4: simulator 0 proposes its snapshot for process 0, round 1: 1 .
unfoldable pub step_words : RoomSpec → ℕ → StepMark → List ℕ
step_words spec number step = codes "step " ++ (decimal number ++ (kind_words step ++ (stored_words spec step ++ decision_words step.decision)))

-- as much of a text as there is space for
unfoldable pub clipped : ℕ → List ℕ → List ℕ
clipped most text = if nat_le (length text) (most + 2) then text else take most text ++ codes ".."

-- a number of things: the word for one, or for several
unfoldable pub counted : ℕ → List ℕ → List ℕ → List ℕ
counted count one several = decimal count ++ (if count == 1 then one else several)
