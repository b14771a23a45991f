use Rattle.std.proofs.Common.{◌≤◌, take}
use Rattle.input_vectors.specs.Judged.{AddsVectors}
use Rattle.view_outcomes.specs.Rooms.{IsAgreedText, agreed_vectors}
use Rattle.view_outcomes.proofs.rooms.answer_each.Given as goal

abbrev pub invariant-loop-index : goal.invariant-loop-index
invariant-loop-index g l = (l.kept ≤ l.index) × AddsVectors (IsAgreedText l.room.search.now l.room.spec.now l.room.block.now) (take l.index (agreed_vectors l.room.spec.now)) l.kept l.initial.output l.output
