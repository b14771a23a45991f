use Rattle.std.proofs.Common.{◌≡◌, [], fold}
use Rattle.ws_history.specs.Ordered.{all_points, put_in}
use Rattle.ws_history.specs.Readings.{read_of}
use Rattle.ws_history.proofs.linearization.events_by_time.Given as goal

abbrev pub invariant-loop-p : goal.invariant-loop-p
invariant-loop-p l = l.events.entries ≡ fold (put_in l.room) [] (all_points l.room.spec (read_of l.room) l.points l.p)
