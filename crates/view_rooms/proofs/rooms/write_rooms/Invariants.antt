use Rattle.std.proofs.Common.{take}
use Rattle.view_rooms.specs.Rooms.{AddsOutcomes}
use Rattle.view_rooms.proofs.rooms.write_rooms.Given as goal

abbrev pub invariant-loop-index : goal.invariant-loop-index
invariant-loop-index g l = AddsOutcomes l.plan (take l.index l.rooms.rooms) l.well l.initial.output l.output
