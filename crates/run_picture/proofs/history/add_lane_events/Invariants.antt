use Rattle.std.proofs.Common.{◌≡◌, ◌++◌, drop, fold, take}
use Rattle.run_picture.specs.History.{boxed, events_from, first_pen, own_pen, tied}
use Rattle.run_picture.proofs.history.add_lane_events.Given as goal

abbrev pub invariant-loop-event : goal.invariant-loop-event
invariant-loop-event l =
    (l.ties ++ events_from tied l.chart.panel.now l.chart.columns.now l.chart.grid l.process l.pen (drop l.event-index l.events) ≡ l.initial.ties ++ events_from tied l.chart.panel.now l.chart.columns.now l.chart.grid l.process first_pen l.events)
    × (l.boxes ++ events_from boxed l.chart.panel.now l.chart.columns.now l.chart.grid l.process l.pen (drop l.event-index l.events) ≡ l.initial.boxes ++ events_from boxed l.chart.panel.now l.chart.columns.now l.chart.grid l.process first_pen l.events)
    × (l.pen ≡ fold (own_pen l.chart.panel.now l.chart.columns.now l.chart.grid l.process) first_pen (take l.event-index l.events))
