use Rattle.std.proofs.Common.{◌≡◌, ◌∙◌, None, Some, inl, inr, sym, subst}
use Rattle.std.proofs.lemmas.Bool.{cases_lt}
use Rattle.room_spec.specs.Rooms.{processes}
use Rattle.room_core.specs.Calls.{RoomState, configuration_of}
use Rattle.room_core.specs.Rooms.{IsRoom}
use Rattle.room_core.proofs.fields.FieldCalls.{has_fields}
use Rattle.room_core.proofs.settling.AgreedInputs.{absent_input, input_is_agreed, input_is_own, input_stays}
use Rattle.room_core.proofs.room.RoomCore.input.Goals as goal

pub returns-clause-agreed : goal.returns-clause-agreed
returns-clause-agreed c = λ fields are low.
    let room : RoomState = c.args.self.now in
    let was : IsRoom (configuration_of room) = subst (λ (r : RoomState). IsRoom (configuration_of r)) c.self.view_is c.self.invariant.is_room in
    c.first_input.ensures ∙ input_is_agreed room fields was.shape.limits are c.args.j low

pub returns-clause-own : goal.returns-clause-own
returns-clause-own c = λ input is.
    let room : RoomState = c.args.self.now in
    let was : IsRoom (configuration_of room) = subst (λ (r : RoomState). IsRoom (configuration_of r)) c.self.view_is c.self.invariant.is_room in
    let fields = has_fields room was in
    elim (cases_lt c.args.j (processes room.spec)) [
      | inl low ↦ input_is_own room fields.0 was.shape.limits fields.1 c.args.j input low (sym (input_is_agreed room fields.0 was.shape.limits fields.1 c.args.j low) ∙ sym c.first_input.ensures ∙ is)
      | inr above ↦ absurd (let wrong : None ≡ Some input = sym (absent_input room fields.0 was.shape.limits fields.1 c.args.j above) ∙ sym c.first_input.ensures ∙ is in cc)
    ]

pub returns-clause-stays : goal.returns-clause-stays
returns-clause-stays c = λ calls input is.
    let room : RoomState = c.args.self.now in
    let was : IsRoom (configuration_of room) = subst (λ (r : RoomState). IsRoom (configuration_of r)) c.self.view_is c.self.invariant.is_room in
    let fields = has_fields room was in
    elim (cases_lt c.args.j (processes room.spec)) [
      | inl low ↦ input_stays room fields.0 calls c.args.j input was.shape.limits fields.1 low (sym c.first_input.ensures ∙ is)
      | inr above ↦ absurd (let wrong : None ≡ Some input = sym (absent_input room fields.0 was.shape.limits fields.1 c.args.j above) ∙ sym c.first_input.ensures ∙ is in cc)
    ]
