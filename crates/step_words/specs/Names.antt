-- The operation of an atomic step in words, with the names of the fields: by simulator, process and round.
use Rattle.std.specs.Prelude.{ℕ, ◌-◌, List, [], ◌++◌, codes, decimal, nat_lt, if◌then◌else◌}
use Rattle.room_spec.specs.Rooms.{RoomSpec}
use Rattle.room_spec.specs.Sizes.{memory_words, sizes_in}
use Rattle.view_table.specs.declared.place.Place.{Place}
use Rattle.view_table.specs.declared.place.Place.TheVariants.{Memory, Levels, View, Value, Out}
use Rattle.simulator.specs.declared.operation.Move.{Move}
use Rattle.simulator.specs.declared.operation.Move.TheVariants.{Load, Store, Add, Sub, Finished, OutOfTurns}
use Rattle.room_steps.specs.declared.step.AtomicStep.{AtomicStep}
use Rattle.step_words.specs.Pieces.{with_three, with_two}

-- which of the memory words, where a room has several
abbrev pub word_text : RoomSpec → ℕ → List ℕ
word_text spec word = if nat_lt 1 (memory_words (sizes_in spec)) then codes ", word " ++ decimal word else []

abbrev pub place_text : RoomSpec → Place → List ℕ
place_text spec (Memory word) = codes "the step numbers" ++ word_text spec word
place_text spec (Levels process round) = with_two (codes "the levels of agreement ") process round
place_text spec (View simulator process round word) = with_three (codes "view") simulator process round ++ word_text spec word
place_text spec (Value simulator process round) = with_three (codes "value") simulator process round
place_text spec (Out simulator process) = with_two (codes "out") simulator process

-- the field of its own that a simulator raises or lowers: its level in an agreement, or else its step number
abbrev pub own_text : Place → ℕ → ℕ → List ℕ
own_text (Levels process round) simulator of = with_three (codes "level") simulator process round
own_text place simulator of = with_two (codes "step") simulator of

-- what is stored: a snapshot that was loaded before, a decision with 1 added, or a value
abbrev pub stored_text : Place → ℕ → List ℕ
stored_text (View simulator process round word) number = codes "them"
stored_text (Out simulator process) number = decimal (number - 1) ++ codes " + 1"
stored_text place number = decimal number

abbrev pub operation_of : Move → RoomSpec → AtomicStep → List ℕ
operation_of (Load index) spec step = codes "load " ++ place_text spec step.place
operation_of (Store index number) spec step = codes "store " ++ (stored_text step.place number ++ (codes " in " ++ place_text spec step.place))
operation_of (Add index number) spec step = codes "add 1 to " ++ own_text step.place step.simulator step.process
operation_of (Sub index number) spec step = codes "subtract 1 from " ++ own_text step.place step.simulator step.process
operation_of Finished spec step = []
operation_of OutOfTurns spec step = []

abbrev pub operation_text : RoomSpec → AtomicStep → List ℕ
operation_text spec step = operation_of step.operation spec step
