use Rattle.std.proofs.Common.{◌≡◌, ◌++◌, true, take}
use Rattle.std.specs.List.{list_all}
use Rattle.io_text.specs.Numbers.{numbers_text}
use Rattle.room_spec.specs.Rooms.{is_value}
use Rattle.run_blocks.proofs.inputs.put_inputs.Given as goal

abbrev pub invariant-loop-input : goal.invariant-loop-input
invariant-loop-input l = (l.output ≡ l.initial.output ++ numbers_text (take l.input-index l.inputs)) × (list_all is_value (take l.input-index l.inputs) ≡ true)
