use Rattle.std.proofs.Common.{◌≡◌, ◌++◌, map}
use Rattle.room_core.specs.Agreements.{is_passed}
use Rattle.ws_history.specs.Orders.{passed_of}
use Rattle.ws_history.specs.Placing.{agreed_at}
use Rattle.ws_history.specs.Readings.{read_of}
use Rattle.ws_history.proofs.snapshots.push_rounds.Given as goal

abbrev pub invariant-loop-r : goal.invariant-loop-r
invariant-loop-r l = l.agreed.items ≡ l.initial.agreed.items ++ map (agreed_at l.room) (passed_of (is_passed l.room.spec (read_of l.room)) l.process l.r)
