use Rattle.std.proofs.Common.{◌≡◌, ◌∙◌, ℕ, false, ap, sym, subst}
use Rattle.std.specs.Box.{boxed_slice_items}
use Rattle.std.specs.Prelude.{replicate}
use Rattle.room_core.specs.Calls.{RoomState, opening_state}
use Rattle.room_core.specs.Fields.{opening_fields}
use Rattle.room_core.specs.Reading.{AreFieldsOf}
use Rattle.room_core.proofs.fields.States.{fresh_room}
use Rattle.room_core.proofs.fields.FieldCalls.{opening_in_fields}
use Rattle.room_core.proofs.room.RoomCore.opening.Goals as goal

pub invariant_of-result : goal.invariant_of-result
invariant_of-result c =
    let crashed = c.none_crashed-crashed.ensures ∙ ap (λ (n : ℕ). replicate n false) c.m.ensures.value in
    fresh_room c.args.spec c.new.result (boxed_slice_items c.into_boxed_slice.result) c.none_crashed-crashed.result.items c.shape-shape.ensures.limits (c.new.ensures ∙ c.requires.words) (c.into_boxed_slice.ensures.items ∙ c.requires.sweeps) crashed

pub returns-clause-fields : goal.returns-clause-fields
returns-clause-fields c =
    let crashed = c.none_crashed-crashed.ensures ∙ ap (λ (n : ℕ). replicate n false) c.m.ensures.value in
    let left : record { spec = c.args.spec; words = c.new.result; sweeps = boxed_slice_items c.into_boxed_slice.result; crashed = c.none_crashed-crashed.result.items } ≡ opening_state c.args.spec = λ k. record { spec = c.args.spec; words = (c.new.ensures ∙ c.requires.words) k; sweeps = (c.into_boxed_slice.ensures.items ∙ c.requires.sweeps) k; crashed = crashed k } in
    subst (λ (r : RoomState). AreFieldsOf r (opening_fields c.args.spec)) (sym left) (opening_in_fields c.args.spec)
