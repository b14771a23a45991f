use Rattle.std.proofs.Common.{◌≡◌, ◌++◌, [], List, take, drop}
use Rattle.room_spec.specs.Rooms.{processes}
use Rattle.transcript.specs.declared.event.Event.{Event}
use Rattle.room_core.specs.Agreements.{shown_by}
use Rattle.ws_history.specs.Histories.{blocks}
use Rattle.ws_history.specs.Readings.{read_of}
use Rattle.ws_history.specs.Sources.{source_of}
use Rattle.ws_history.specs.Taking.{TakesMore}
use Rattle.ws_history.proofs.Walking.{running}
use Rattle.ws_history.proofs.histories.pass_events.Given as goal

abbrev pub invariant-loop-snapshot : goal.invariant-loop-snapshot
invariant-loop-snapshot g l = record {
  so_far : (events : List Event) × TakesMore (g.S.EventSink.has_taken l.initial.sink) events (g.S.EventSink.has_taken l.sink)
      × (events ++ blocks (source_of l.room.spec (read_of l.room)) (processes l.room.spec) (take l.snapshot-index (source_of l.room.spec (read_of l.room)).order) (drop l.snapshot-index (source_of l.room.spec (read_of l.room)).order)
      ≡ blocks (source_of l.room.spec (read_of l.room)) (processes l.room.spec) [] (source_of l.room.spec (read_of l.room)).order);
  shown : l.shown.counts.items ≡ running l.room (take l.snapshot-index (source_of l.room.spec (read_of l.room)).order);
  view : l.shown.values.items ≡ shown_by l.room.spec (read_of l.room) l.shown.counts.items;
}
