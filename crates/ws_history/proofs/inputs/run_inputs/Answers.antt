use Rattle.std.proofs.Common.{◌∙◌, ap, sym, subst}
use Rattle.room_spec.specs.Rooms.{RoomSpec}
use Rattle.room_core.proofs.CallerLemmas.{rooms_agree}
use Rattle.transcript.specs.Reductions.{AreFromOwn}
use Rattle.ws_history.proofs.RoomFields.{run_in}
use Rattle.ws_history.proofs.RunSpecs.{run_from_own}
use Rattle.ws_history.proofs.inputs.run_inputs.Goals as goal

pub returns-clause-fields : goal.returns-clause-fields
returns-clause-fields c = λ fields are. c.inputs_in.ensures ∙ ap (λ (s : RoomSpec). s.inputs) (run_in c.args.room.now fields c.shape_of-shape.ensures.limits are)

pub returns-clause-from_own : goal.returns-clause-from_own
returns-clause-from_own c = λ is.
    let room = c.args.room.now in
    let at = c.shape_of-shape.ensures.fields in
    subst (AreFromOwn room.spec) (sym (returns-clause-fields c at.0 at.1)) (run_from_own room.spec at.0 (rooms_agree room at.0 c.shape_of-shape.ensures.limits at.1) is)
