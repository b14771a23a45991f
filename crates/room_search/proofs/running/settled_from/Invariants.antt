use Rattle.std.proofs.Common.{ℕ}
use Rattle.room_core.specs.Calls.{RoomState}
use Rattle.room_search.specs.Taking.{IsOnTheWay}
use Rattle.room_search.proofs.running.settled_from.Given as goal

abbrev pub invariant-loop-stretch : goal.invariant-loop-stretch
invariant-loop-stretch l = (start : RoomState) (crashes : ℕ) → IsOnTheWay start crashes l.initial.scheduled → IsOnTheWay start crashes l.scheduled
