use Rattle.std.proofs.Common.{◌≤◌, take}
use Rattle.room_spec.specs.Rooms.{processes}
use Rattle.input_vectors.specs.Judged.{AddsVectors}
use Rattle.input_vectors.specs.Vectors.{vectors}
use Rattle.view_sample.specs.Inputs.{IsVectorText}
use Rattle.view_sample.proofs.inputs.judge_vectors.Given as goal

abbrev pub invariant-loop-index : goal.invariant-loop-index
invariant-loop-index g l = (l.kept ≤ l.index) × AddsVectors (IsVectorText l.room.plan.now l.room.spec.now l.room.block.now) (take l.index (vectors l.values (processes l.room.spec.now))) l.kept l.initial.output l.output
