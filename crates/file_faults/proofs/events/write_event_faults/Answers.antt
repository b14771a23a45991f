use Rattle.std.proofs.Common.{◌∙◌, ◌++◌, sym}
use Rattle.file_faults.specs.Events.{event_lines, events_said}
use Rattle.file_faults.proofs.Walking.{none_left, some_left, walk_ends, walk_step, walk_stops, with_end}
use Rattle.file_faults.proofs.events.write_event_faults.Goals as goal

pub walk-preserved : goal.walk-preserved
walk-preserved c =
    let inv = c.walk.invariant in
    let rest = c.walk.rest.now in
    let some = some_left c.is_empty.result rest c.is_empty.ensures c.walk-test.true in
    walk_step (event_lines c.args.format.json c.args.opened.now) inv.0 c.walk.left c.walk.number c.next_event-number.result c.walk.unknown_names c.write_event.new.unknown_names rest c.later_events-rest.result.now c.walk.output
    (c.args.output.now ++ events_said c.args.format.json c.args.opened.now c.args.first c.args.transcript.now) c.write_event.new.output c.in-Some.fewer
    inv.1 some (c.later_events-rest.ensures.shorter some) c.next_event-number.ensures c.later_events-rest.ensures.text c.in_ok-fewer.ensures.unknown_names
    inv.2 (sym c.in-Some.is ∙ c.in_ok-fewer.ensures.left) c.in_ok-fewer.ensures.text

pub returns-in_default : goal.returns-in_default
returns-in_default c =
    let inv = c.walk.invariant in
    let rest = c.walk.rest.now in
    walk_stops (event_lines c.args.format.json c.args.opened.now) inv.0 c.walk.left c.walk.number c.walk.unknown_names rest c.walk.output (c.args.output.now ++ events_said c.args.format.json c.args.opened.now c.args.first c.args.transcript.now) c.write_event.new.output
    inv.1 (some_left c.is_empty.result rest c.is_empty.ensures c.walk-test.true) inv.2 (sym c.in_default.is ∙ c.in_ok-fewer.ensures.left) c.in_ok-fewer.ensures.text

pub returns : goal.returns
returns c =
    let inv = c.walk.invariant in
    with_end c.write_end.result _ _ _ c.write_end.ensures
    (walk_ends (event_lines c.args.format.json c.args.opened.now) inv.0 c.walk.left c.walk.number c.walk.unknown_names c.walk.rest.now c.walk.output (c.args.output.now ++ events_said c.args.format.json c.args.opened.now c.args.first c.args.transcript.now)
    (none_left c.is_empty.result c.walk.rest.now c.is_empty.ensures c.walk-test.false) inv.2)
