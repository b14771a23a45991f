use Rattle.std.specs.Box.{boxed_slice_items}
use Rattle.std.proofs.Common.{sym, subst}
use Rattle.room_core.specs.Rooms.{IsAlive}
use Rattle.room_core.specs.Calls.{RoomState, configuration_of}
use Rattle.room_core.proofs.fields.States.{crash_room}
use Rattle.room_core.proofs.room.RoomCore.mark.Goals as goal

pub invariant_of-self : goal.invariant_of-self
invariant_of-self c =
    let room : RoomState = record { spec = c.self.inside.spec; words = c.self.inside.words; sweeps = boxed_slice_items c.self.inside.sweeps; crashed = c.self.inside.crashed.items } in
    let may : IsAlive (configuration_of room) c.args.i = subst (λ (r : RoomState). IsAlive (configuration_of r) c.args.i) (sym c.self.view_is) c.requires in
    crash_room room c.deref_mut.result.now c.args.i c.self.invariant may.below may.alive c.deref_mut.ensures.value
