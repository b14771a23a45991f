use Rattle.std.proofs.Common.{get_or}
use Rattle.ws_history.specs.Histories.{by_process, new_writes}
use Rattle.ws_history.specs.Readings.{read_of}
use Rattle.ws_history.specs.Sources.{source_of}
use Rattle.ws_history.specs.Taking.{TakesMore}
use Rattle.ws_history.proofs.Showing.{IsShownTo}
use Rattle.ws_history.proofs.histories.push_writes.Given as goal

abbrev pub invariant-loop-p : goal.invariant-loop-p
invariant-loop-p g l = record {
  so_far : TakesMore (g.S.EventSink.has_taken l.initial.sink) (by_process (λ p. new_writes (source_of l.room.spec (read_of l.room)) p (get_or l.initial.shown.counts.items p 0) (get_or l.upto p 0)) l.p) (g.S.EventSink.has_taken l.sink);
  shows : IsShownTo l.room l.initial.shown.counts.items l.upto l.shown.counts.items l.shown.values.items l.p;
}
