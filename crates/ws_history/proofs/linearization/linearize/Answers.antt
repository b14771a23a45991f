use Rattle.std.proofs.Common.{ℕ, List, map, sym, subst}
use Rattle.transcript.specs.declared.event.Event.{Event}
use Rattle.transcript.specs.Runs.{IsRun}
use Rattle.room_core.specs.Agreements.{run_spec}
use Rattle.room_core.proofs.CallerLemmas.{rooms_agree}
use Rattle.ws_history.specs.Linearizations.{AreEventsAtSteps, LackAtMostASnapshot, events_of}
use Rattle.ws_history.specs.Sources.{history_of}
use Rattle.ws_history.proofs.RunSpecs.{room_run}
use Rattle.ws_history.proofs.LinearizedNotes.{is_in_order, order_runs, ordinary_order_runs, same_of_each}
use Rattle.ws_history.proofs.linearization.linearize.Goals as goal

pub returns-clause-at_steps : goal.returns-clause-at_steps
returns-clause-at_steps c = λ schedule are.
    subst (AreEventsAtSteps c.args.room.now.spec schedule) (sym c.in_ok-events.ensures) (is_in_order c.args.room.now c.shape_of-shape.ensures.limits schedule c.args.points.now are)

pub returns-clause-run : goal.returns-clause-run
returns-clause-run c = λ schedule fields are fields_are.
    subst (λ (events : List (ℕ × Event)). IsRun (run_spec c.args.room.now.spec fields) (map (λ (e : ℕ × Event). e.1) events)) (sym c.in_ok-events.ensures) (order_runs c.args.room.now c.shape_of-shape.ensures.limits schedule c.args.points.now are fields fields_are)

pub returns-clause-ordinary : goal.returns-clause-ordinary
returns-clause-ordinary c = λ schedule is are.
    subst (λ (events : List (ℕ × Event)). IsRun c.args.room.now.spec (map (λ (e : ℕ × Event). e.1) events)) (sym c.in_ok-events.ensures) (ordinary_order_runs c.args.room.now c.shape_of-shape.ensures.limits schedule c.args.points.now are is)

pub returns-clause-same : goal.returns-clause-same
returns-clause-same c = λ schedule fields are fields_are p low.
    subst (λ (events : List (ℕ × Event)). LackAtMostASnapshot p (events_of p (history_of c.args.room.now.spec fields)) (events_of p (map (λ (e : ℕ × Event). e.1) events))) (sym c.in_ok-events.ensures)
    (same_of_each c.args.room.now c.shape_of-shape.ensures.limits schedule c.args.points.now are fields fields_are p low)

pub returns-clause-of_room : goal.returns-clause-of_room
returns-clause-of_room c = λ schedule are.
    let room = c.args.room.now in
    let at = c.shape_of-shape.ensures.fields in
    room_run room.spec at.0 (map (λ (e : ℕ × Event). e.1) c.in_ok-events.events.entries) (rooms_agree room at.0 c.shape_of-shape.ensures.limits at.1) (returns-clause-run c schedule at.0 are at.1)
