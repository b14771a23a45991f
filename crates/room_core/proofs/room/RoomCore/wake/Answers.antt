use Rattle.std.proofs.Common.{◌<◌, sym, subst}
use Rattle.std.specs.Box.{boxed_slice_items}
use Rattle.room_core.specs.Calls.{RoomState, IsCore}
use Rattle.room_core.proofs.fields.States.{woken_is, woken_room}
use Rattle.room_core.proofs.room.RoomCore.wake.Goals as goal

pub invariant_of-self : goal.invariant_of-self
invariant_of-self c =
    let room : RoomState = record { spec = c.self.inside.spec; words = c.self.inside.words; sweeps = boxed_slice_items c.self.inside.sweeps; crashed = c.self.inside.crashed.items } in
    let below : c.args.i < room.spec.simulators = subst (λ (r : RoomState). c.args.i < r.spec.simulators) (sym c.self.view_is) c.requires in
    let left = woken_is room c.args.i c.index_mut.result.now c.wake.new.self c.self.invariant.is_room.shape below c.index_mut.ensures.value c.wake.ensures in
    subst IsCore (sym left) (woken_room room c.args.i below c.self.invariant)
