use Rattle.std.proofs.Common.{◌≡◌, ◌<◌, ◌≤◌, ◌∙◌, ℕ, ap, sym, subst}
use Rattle.room_spec.specs.Rooms.{IsWithinLimits}
use Rattle.room_core.specs.declared.reply.CrashReply.TheVariants.{Crashed, AlreadyCrashed, NoSimulator}
use Rattle.room_core.specs.Calls.{Crash, RoomState}
use Rattle.room_core.proofs.fields.FieldCalls.{absent_crash, crashed_crash, alive_crashes, crash_by}
use Rattle.room_core.proofs.agreements.Lasting.{agreements_stay}
use Rattle.room_core.proofs.room.RoomCore.crash.Goals as goal

pub returns-then-i-m-clause-fields : goal.returns-then-i-m-clause-fields
returns-then-i-m-clause-fields c =
    let room : RoomState = c.args.self.now in
    let limits = subst (λ (r : RoomState). IsWithinLimits r.spec) c.self.view_is c.self.invariant.is_room.shape.limits in
    let count : c.m.result ≡ room.spec.simulators = c.m.ensures.value ∙ ap (λ (r : RoomState). r.spec.simulators) c.self.view_is in
    crash_by room room NoSimulator c.args.i limits (absent_crash room c.args.i (subst (λ (m : ℕ). m ≤ c.args.i) count c.if-i-m.true))

pub returns-then-is_crashed-clause-fields : goal.returns-then-is_crashed-clause-fields
returns-then-is_crashed-clause-fields c =
    let room : RoomState = c.args.self.now in
    let limits = subst (λ (r : RoomState). IsWithinLimits r.spec) c.self.view_is c.self.invariant.is_room.shape.limits in
    let count : c.m.result ≡ room.spec.simulators = c.m.ensures.value ∙ ap (λ (r : RoomState). r.spec.simulators) c.self.view_is in
    let below : c.args.i < room.spec.simulators = subst (λ (m : ℕ). c.args.i < m) count c.if-i-m.false in
    crash_by room room AlreadyCrashed c.args.i limits (crashed_crash room c.args.i below (sym c.is_crashed.ensures ∙ c.if-is_crashed.true))

pub returns-clause-fields : goal.returns-clause-fields
returns-clause-fields c =
    let room : RoomState = c.args.self.now in
    let limits = subst (λ (r : RoomState). IsWithinLimits r.spec) c.self.view_is c.self.invariant.is_room.shape.limits in
    let count : c.m.result ≡ room.spec.simulators = c.m.ensures.value ∙ ap (λ (r : RoomState). r.spec.simulators) c.self.view_is in
    let below : c.args.i < room.spec.simulators = subst (λ (m : ℕ). c.args.i < m) count c.if-i-m.false in
    let to = alive_crashes room c.args.i below (sym c.is_crashed.ensures ∙ c.if-is_crashed.false) in
    crash_by room c.mark.new.self Crashed c.args.i limits (record { replied = to.replied; left = c.mark.ensures ∙ to.left })

pub returns-then-i-m-clause-agreement : goal.returns-then-i-m-clause-agreement
returns-then-i-m-clause-agreement c = λ fields are.
    let limits = subst (λ (r : RoomState). IsWithinLimits r.spec) c.self.view_is c.self.invariant.is_room.shape.limits in
    agreements_stay c.args.self.now fields (Crash c.args.i) limits are

pub returns-then-is_crashed-clause-agreement : goal.returns-then-is_crashed-clause-agreement
returns-then-is_crashed-clause-agreement c = λ fields are.
    let limits = subst (λ (r : RoomState). IsWithinLimits r.spec) c.self.view_is c.self.invariant.is_room.shape.limits in
    agreements_stay c.args.self.now fields (Crash c.args.i) limits are

pub returns-clause-agreement : goal.returns-clause-agreement
returns-clause-agreement c = λ fields are.
    let limits = subst (λ (r : RoomState). IsWithinLimits r.spec) c.self.view_is c.self.invariant.is_room.shape.limits in
    agreements_stay c.args.self.now fields (Crash c.args.i) limits are
