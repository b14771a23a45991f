use Rattle.std.proofs.Common.{subst, rules}
use Rattle.room_spec.specs.Rooms.{IsWithinLimits}
use Rattle.room_core.specs.Calls.{RoomState}
use Rattle.room_core.proofs.fields.Repeating.{agreements_stay_after, fields_after, reply_after}
use Rattle.room_core.proofs.room.RoomCore.steps.Goals as goal

pub returns-clause-fields : goal.returns-clause-fields
returns-clause-fields c = λ fields are.
    let limits = subst (λ (r : RoomState). IsWithinLimits r.spec) c.self.view_is c.self.invariant.is_room.shape.limits in
    fields_after c.args.self.now c.run.new.self fields c.args.i c.run.result limits are c.run.ensures.room

pub returns-clause-replies : goal.returns-clause-replies
returns-clause-replies c = λ fields count are less.
    let limits = subst (λ (r : RoomState). IsWithinLimits r.spec) c.self.view_is c.self.invariant.is_room.shape.limits in
    reply_after c.args.self.now fields c.args.i count limits are (c.run.ensures.taken count less)

pub returns-then-i-m-clause-agreement : goal.returns-then-i-m-clause-agreement
returns-then-i-m-clause-agreement c = λ fields are.
    let limits = subst (λ (r : RoomState). IsWithinLimits r.spec) c.self.view_is c.self.invariant.is_room.shape.limits in
    agreements_stay_after c.args.self.now fields c.args.i 0 limits are

pub returns-clause-agreement : goal.returns-clause-agreement
returns-clause-agreement c = λ fields are.
    let limits = subst (λ (r : RoomState). IsWithinLimits r.spec) c.self.view_is c.self.invariant.is_room.shape.limits in
    agreements_stay_after c.args.self.now fields c.args.i c.run.result limits are

pub returns-clause-stopped : goal.returns-clause-stopped
returns-clause-stopped c = search rules
