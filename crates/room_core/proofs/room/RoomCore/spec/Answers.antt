use Rattle.std.specs.Box.{boxed_slice_items}
use Rattle.std.proofs.Common.{◌≡◌, ℕ, ◌<◌, subst}
use Rattle.room_core.specs.Calls.{RoomState, configuration_of}
use Rattle.room_core.specs.Fields.{Fields, IsLegalIn, opening_fields}
use Rattle.room_core.specs.Reading.{AreFieldsOf, Reads}
use Rattle.room_core.specs.Rooms.{IsOneInterleaving, mind_at, times}
use Rattle.room_core.proofs.fields.FieldCalls.{has_fields}
use Rattle.room_core.proofs.fields.Legality.{schedules_in_fields}
use Rattle.room_core.proofs.fields.Replays.{counts}
use Rattle.room_core.proofs.room.RoomCore.spec.Goals as goal

pub returns-clause-fields : goal.returns-clause-fields
returns-clause-fields c =
    let room : RoomState = record { spec = c.self.inside.spec; words = c.self.inside.words; sweeps = boxed_slice_items c.self.inside.sweeps; crashed = c.self.inside.crashed.items } in
    subst (λ (r : RoomState). (fields : Fields) × AreFieldsOf r fields × Reads (configuration_of r) fields) c.self.view_is (has_fields room c.self.invariant.is_room)

pub returns-clause-counts : goal.returns-clause-counts
returns-clause-counts c =
    let room : RoomState = record { spec = c.self.inside.spec; words = c.self.inside.words; sweeps = boxed_slice_items c.self.inside.sweeps; crashed = c.self.inside.crashed.items } in
    subst (λ (r : RoomState). (one : IsOneInterleaving (configuration_of r)) (i : ℕ) → i < r.spec.simulators → (mind_at (configuration_of r) i).steps ≡ times i one.schedule) c.self.view_is
    (λ one i below. counts (configuration_of room) c.self.invariant.is_room.shape.limits one i below)

pub returns-clause-legal : goal.returns-clause-legal
returns-clause-legal c =
    let room : RoomState = record { spec = c.self.inside.spec; words = c.self.inside.words; sweeps = boxed_slice_items c.self.inside.sweeps; crashed = c.self.inside.crashed.items } in
    subst (λ (r : RoomState). (one : IsOneInterleaving (configuration_of r)) → IsLegalIn r.spec (opening_fields r.spec) one.schedule) c.self.view_is (λ one. (schedules_in_fields room.spec one.schedule c.self.invariant.is_room.shape.limits).0 one.legal)
