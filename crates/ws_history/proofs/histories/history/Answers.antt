use Rattle.std.proofs.Common.{List, sym, ◌∙◌, subst}
use Rattle.transcript.specs.declared.event.Event.{Event}
use Rattle.transcript.specs.Reductions.{IsRunOf}
use Rattle.transcript.specs.Runs.{IsRun}
use Rattle.room_core.specs.Agreements.{run_spec}
use Rattle.room_core.proofs.CallerLemmas.{rooms_agree}
use Rattle.ws_history.proofs.RoomFields.{history_in}
use Rattle.ws_history.proofs.RunSpecs.{room_run}
use Rattle.ws_history.proofs.SourceIs.{fields_run, ordinary_fields_run, reduction_fields_run}
use Rattle.ws_history.proofs.histories.history.Goals as goal

pub returns-clause-fields : goal.returns-clause-fields
returns-clause-fields c = λ fields are. c.in_ok-events.ensures ∙ history_in c.args.room.now fields c.shape_of-shape.ensures.limits are

pub returns-clause-run : goal.returns-clause-run
returns-clause-run c = λ fields are.
    let room = c.args.room.now in
    let limits = c.shape_of-shape.ensures.limits in
    subst (λ (events : List Event). IsRun (run_spec room.spec fields) events) (sym (returns-clause-fields c fields are)) (fields_run room.spec fields (rooms_agree room fields limits are))

pub returns-clause-ordinary : goal.returns-clause-ordinary
returns-clause-ordinary c = λ is.
    let room = c.args.room.now in
    let at = c.shape_of-shape.ensures.fields in
    subst (λ (events : List Event). IsRun room.spec events) (sym (returns-clause-fields c at.0 at.1)) (ordinary_fields_run room.spec at.0 is (rooms_agree room at.0 c.shape_of-shape.ensures.limits at.1))

pub returns-clause-from_own : goal.returns-clause-from_own
returns-clause-from_own c = λ is.
    let room = c.args.room.now in
    let at = c.shape_of-shape.ensures.fields in
    subst (λ (events : List Event). IsRunOf room.spec events) (sym (returns-clause-fields c at.0 at.1)) (reduction_fields_run room.spec at.0 is (rooms_agree room at.0 c.shape_of-shape.ensures.limits at.1))

pub returns-clause-of_room : goal.returns-clause-of_room
returns-clause-of_room c =
    let room = c.args.room.now in
    let at = c.shape_of-shape.ensures.fields in
    room_run room.spec at.0 c.in_ok-events.events.items (rooms_agree room at.0 c.shape_of-shape.ensures.limits at.1) (returns-clause-run c at.0 at.1)
