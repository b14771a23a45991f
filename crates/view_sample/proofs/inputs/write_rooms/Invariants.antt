use Rattle.std.proofs.Common.{take}
use Rattle.view_sample.specs.EachRoom.{AddsRooms}
use Rattle.view_sample.specs.Inputs.{IsInputsText}
use Rattle.view_sample.proofs.inputs.write_rooms.Given as goal

abbrev pub invariant-loop-index : goal.invariant-loop-index
invariant-loop-index g l = AddsRooms (IsInputsText l.asked.plan.now l.asked.values.now) (take l.index l.rooms.rooms) l.well l.initial.output l.output
