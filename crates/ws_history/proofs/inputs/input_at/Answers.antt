use Rattle.std.proofs.Common.{◌≡◌, ℕ, Option, Some, None, sym, ap, ◌∙◌}
use Rattle.std.specs.Prelude.{slice_index, unwrap_or}
use Rattle.room_spec.specs.Rooms.{RoomSpec}
use Rattle.room_core.specs.Agreements.{agreed_input}
use Rattle.ws_history.specs.Readings.{read_of}
use Rattle.ws_history.proofs.RoomFields.{agreed_in}
use Rattle.ws_history.proofs.inputs.input_at.Goals as goal

pub returns-in-Some : goal.returns-in-Some
returns-in-Some c =
    let room = c.args.room.now in
    let at = c.shape_of-shape.ensures.fields in
    let agreed : agreed_input room.spec (read_of room) c.args.j ≡ Some c.in-Some.input =
    agreed_in room at.0 c.shape_of-shape.ensures.limits at.1 c.args.j c.requires ∙ sym (c.input.ensures.agreed at.0 at.1 c.requires) ∙ c.in-Some.is in
    sym (ap (λ (o : Option ℕ). unwrap_or o (slice_index room.spec.inputs c.args.j)) agreed)

pub returns-in-None : goal.returns-in-None
returns-in-None c =
    let room = c.args.room.now in
    let at = c.shape_of-shape.ensures.fields in
    let none : agreed_input room.spec (read_of room) c.args.j ≡ None =
    agreed_in room at.0 c.shape_of-shape.ensures.limits at.1 c.args.j c.requires ∙ sym (c.input.ensures.agreed at.0 at.1 c.requires) ∙ c.in-None.is in
    c.input-in-None.ensures ∙ ap (λ (s : RoomSpec). slice_index s.inputs c.args.j) c.spec.ensures.value
    ∙ sym (ap (λ (o : Option ℕ). unwrap_or o (slice_index room.spec.inputs c.args.j)) none)
