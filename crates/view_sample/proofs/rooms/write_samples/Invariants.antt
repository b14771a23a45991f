use Rattle.std.proofs.Common.{take}
use Rattle.view_sample.specs.Rooms.{AddsSamples}
use Rattle.view_sample.proofs.rooms.write_samples.Given as goal

abbrev pub invariant-loop-index : goal.invariant-loop-index
invariant-loop-index g l = AddsSamples l.plan (take l.index l.rooms.rooms) l.well l.initial.output l.output
