-- What there is to see at an atomic step: the word that was loaded or written, decoded.
use Rattle.std.specs.Prelude.{ℕ, zero, suc, ◌+◌, ◌-◌, List, [], ◌∷◌, ◌++◌, Option, Some, None, map, replicate, slice_set, codes, decimal, ◌==◌, if◌then◌else◌}
use Rattle.std.specs.List.{concat, range_with_len}
use Rattle.io_text.specs.Numbers.{numbers_text}
use Rattle.room_spec.specs.Rooms.{RoomSpec, processes}
use Rattle.room_spec.specs.Sizes.{sizes_in}
use Rattle.room_spec.specs.declared.spec.TheConstants.{MAX_MEMORY_WORDS}
use Rattle.level_cells.specs.Fields.{level_of, levels_of}
use Rattle.safe_agreement.specs.Levels.{has_level, resolved_of}
use Rattle.sim_memory.specs.Steps.{merged_of, step_in}
use Rattle.view_table.specs.declared.place.Place.{Place}
use Rattle.view_table.specs.declared.place.Place.TheVariants.{Memory, Levels, View, Value, Out}
use Rattle.simulator.specs.declared.line.Line.{Line}
use Rattle.simulator.specs.declared.line.Line.TheVariants.{Look}
use Rattle.simulator.specs.declared.operation.Move.{Move}
use Rattle.simulator.specs.declared.operation.Move.TheVariants.{Load, Store, Add, Sub, Finished, OutOfTurns}
use Rattle.room_steps.specs.declared.step.AtomicStep.{AtomicStep}
use Rattle.step_words.specs.Pieces.{behind, between}

-- ---- step numbers

-- the memory words, of which this one alone is known
abbrev pub memory_with : ℕ → ℕ → List ℕ
memory_with at word = slice_set (replicate MAX_MEMORY_WORDS 0) at word

-- how many writes of a process the word shows
abbrev pub shown_in : RoomSpec → List ℕ → ℕ → ℕ
shown_in spec words process = merged_of spec.simulators (step_in (sizes_in spec) words) process

abbrev pub entry_text : ℕ → List ℕ
entry_text number = if number == 0 then codes " ." else 32 ∷ decimal number

-- for each process the greatest step number that the words have for it, or `.` for none
abbrev pub counts_text : RoomSpec → List ℕ → List ℕ
counts_text spec words = concat (map (λ process. entry_text (shown_in spec words process)) (range_with_len 0 (processes spec)))

-- the same of one word
abbrev pub row_text : RoomSpec → ℕ → ℕ → List ℕ
row_text spec at word = counts_text spec (memory_with at word)

-- a number, and one more
abbrev pub raised_text : ℕ → List ℕ
raised_text number = (32 ∷ decimal number) ++ behind (codes " to") (number + 1)

-- ---- levels

abbrev pub chosen_text : Option ℕ → List ℕ
chosen_text None = codes ": not resolved"
chosen_text (Some simulator) = between (codes ": the proposal of simulator") simulator (codes " is chosen")

-- what the levels say: to a simulator in the agreement whether it is kept, and to one that asks which proposal was chosen
abbrev pub levels_say : Line → List ℕ → List ℕ
levels_say Look levels = if has_level 2 levels then codes ": a proposal stands" else codes ": no proposal stands"
levels_say line levels = chosen_text (resolved_of levels)

abbrev pub levels_text : Line → List ℕ → List ℕ
levels_text line levels = codes " levels" ++ (numbers_text levels ++ levels_say line levels)

-- from level 0 to 1, or from 1 to 2
abbrev pub entered_text : ℕ → List ℕ
entered_text level = raised_text level ++ (if level == 0 then codes ": inside the agreement" else codes ": its proposal stands")

abbrev pub withdrawn_text : ℕ → List ℕ
withdrawn_text level = (32 ∷ decimal level) ++ between (codes " to") (level - 1) (codes ": withdrawn")

-- ---- operations

abbrev pub loaded_text : Place → RoomSpec → AtomicStep → List ℕ
loaded_text (Memory word) spec step = row_text spec word step.word
loaded_text (View simulator process round word) spec step = row_text spec word step.word
loaded_text (Levels process round) spec step = levels_text step.line (levels_of step.word spec.simulators)
loaded_text (Value simulator process round) spec step = 32 ∷ decimal step.word
loaded_text (Out simulator process) spec step = 32 ∷ decimal step.word

-- what a process writes, or in round 0 what a simulator proposes as its input
abbrev pub value_text : ℕ → ℕ → ℕ → List ℕ
value_text process zero number = behind (codes " proposes") number ++ behind (codes " as the input of process") process
value_text process (suc round) number = behind (codes " process") process ++ behind (codes " writes") number

abbrev pub written_text : Place → RoomSpec → ℕ → List ℕ
written_text (View simulator process round word) spec number = row_text spec word number
written_text (Value simulator process round) spec number = value_text process round number
written_text (Out simulator process) spec number = behind (codes " process") process ++ behind (codes " decides") (number - 1)
written_text (Memory word) spec number = []
written_text (Levels process round) spec number = []

abbrev pub added_text : Place → RoomSpec → AtomicStep → List ℕ
added_text (Memory word) spec step = raised_text (step_in (sizes_in spec) (memory_with word step.word) step.simulator step.process)
added_text place spec step = entered_text (level_of step.word step.simulator)

abbrev pub sight_of : Move → RoomSpec → AtomicStep → List ℕ
sight_of (Load index) spec step = loaded_text step.place spec step
sight_of (Store index number) spec step = written_text step.place spec number
sight_of (Add index number) spec step = added_text step.place spec step
sight_of (Sub index number) spec step = withdrawn_text (level_of step.word step.simulator)
sight_of Finished spec step = []
sight_of OutOfTurns spec step = []

abbrev pub sight_text : RoomSpec → AtomicStep → List ℕ
sight_text spec step = sight_of step.operation spec step
