use Rattle.std.proofs.Common.{◌≡◌, fold}
use Rattle.ws_history.specs.Ordered.{put_in, round_points}
use Rattle.ws_history.specs.Readings.{read_of}
use Rattle.ws_history.proofs.linearization.put_process.Given as goal

abbrev pub invariant-loop-k : goal.invariant-loop-k
invariant-loop-k l = l.events.entries ≡ fold (put_in l.noted.room.now) l.initial.events.entries (round_points l.noted.room.now.spec (read_of l.noted.room.now) l.noted.points.now l.p l.k)
