use Rattle.std.proofs.Common.{◌≡◌, ◌+◌, map}
use Rattle.std.specs.List.{range_with_len}
use Rattle.room_core.specs.Agreements.{shown, written}
use Rattle.transcript.specs.declared.event.Event.TheVariants.{Write}
use Rattle.ws_history.specs.Readings.{read_of}
use Rattle.ws_history.specs.Taking.{TakesMore}
use Rattle.ws_history.proofs.histories.push_writes_of.Given as goal

abbrev pub invariant-loop-more : goal.invariant-loop-more
invariant-loop-more g l = record {
  so_far : TakesMore (g.S.EventSink.has_taken l.initial.sink) (map (λ r. Write l.p (written l.room.spec (read_of l.room) l.p r)) (range_with_len (l.from + 1) l.more)) (g.S.EventSink.has_taken l.sink);
  last : l.last ≡ shown l.room.spec (read_of l.room) l.p (l.from + l.more);
}
