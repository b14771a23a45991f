use Rattle.std.proofs.Common.{◌≡◌, map}
use Rattle.room_core.specs.Agreements.{is_passed}
use Rattle.ws_history.specs.Orders.{all_passed}
use Rattle.ws_history.specs.Placing.{agreed_at}
use Rattle.ws_history.specs.Readings.{read_of}
use Rattle.ws_history.proofs.snapshots.all_agreed.Given as goal

abbrev pub invariant-loop-process : goal.invariant-loop-process
invariant-loop-process l = l.agreed.items ≡ map (agreed_at l.room) (all_passed (is_passed l.room.spec (read_of l.room)) l.process l.room.spec.rounds)
