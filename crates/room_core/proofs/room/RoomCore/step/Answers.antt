use Rattle.std.specs.Box.{boxed_slice_items}
use Rattle.std.proofs.Common.{◌≡◌, ◌<◌, ◌≤◌, ◌∙◌, ℕ, false, ap, sym, subst, arith}
use Rattle.room_spec.specs.Rooms.{IsWithinLimits}
use Rattle.simulator.specs.declared.sweep.Ready.TheVariants as ready
use Rattle.room_core.specs.declared.reply.StepReply.TheVariants.{Stepped, Idle, OutOfTurns, Crashed, NoSimulator}
use Rattle.simulator.specs.Minds.{goal_at}
use Rattle.simulator.specs.Quiet.{HasNoWrite}
use Rattle.room_core.specs.Calls.{Step, CountsQuietTurns, RoomState, has_crashed, moved, ready_at, sweep_at}
use Rattle.room_core.proofs.fields.States.{idle_room}
use Rattle.room_core.proofs.settling.Alone.{IsUp}
use Rattle.room_core.proofs.fields.Turning.{of_one}
use Rattle.room_core.proofs.fields.FieldCalls.{absent_step, crashed_step, ready_step, step_by}
use Rattle.room_core.proofs.agreements.Lasting.{agreements_stay}
use Rattle.room_core.proofs.room.RoomCore.step.Goals as goal
use Rattle.room_core.proofs.room.RoomCore.step.Goals.{After-run_turn}

pub returns-then-i-m-clause-fields : goal.returns-then-i-m-clause-fields
returns-then-i-m-clause-fields c =
    let room : RoomState = c.args.self.now in
    let limits = subst (λ (r : RoomState). IsWithinLimits r.spec) c.self.view_is c.self.invariant.is_room.shape.limits in
    let count : c.m.result ≡ room.spec.simulators = c.m.ensures.value ∙ ap (λ (r : RoomState). r.spec.simulators) c.self.view_is in
    step_by room room NoSimulator c.args.i limits (absent_step room c.args.i (subst (λ (m : ℕ). m ≤ c.args.i) count c.if-i-m.true))

pub returns-then-is_crashed-clause-fields : goal.returns-then-is_crashed-clause-fields
returns-then-is_crashed-clause-fields c =
    let room : RoomState = c.args.self.now in
    let limits = subst (λ (r : RoomState). IsWithinLimits r.spec) c.self.view_is c.self.invariant.is_room.shape.limits in
    let count : c.m.result ≡ room.spec.simulators = c.m.ensures.value ∙ ap (λ (r : RoomState). r.spec.simulators) c.self.view_is in
    let below : c.args.i < room.spec.simulators = subst (λ (m : ℕ). c.args.i < m) count c.if-i-m.false in
    step_by room room Crashed c.args.i limits (crashed_step room c.args.i below (sym c.is_crashed.ensures ∙ c.if-is_crashed.true))

pub run_turn-requires : goal.run_turn-requires
run_turn-requires c =
    let room : RoomState = record { spec = c.self.inside.spec; words = c.self.inside.words; sweeps = boxed_slice_items c.self.inside.sweeps; crashed = c.self.inside.crashed.items } in
    let alive : has_crashed room c.args.i ≡ false = ap (λ (r : RoomState). has_crashed r c.args.i) c.self.view_is ∙ sym c.is_crashed.ensures ∙ c.if-is_crashed.false in
    let up : IsUp c.args.self.now c.args.i = subst (λ (r : RoomState). IsUp r c.args.i) c.self.view_is (record { shape = c.self.invariant.is_room.shape; below = omega arith; alive = alive }) in
    record { shape = up.shape; alive = record { below = up.below; alive = up.alive }; ready = sym c.ready.ensures ∙ c.in-Step.is; some = omega arith }

-- it has moved
moved_once : (c : After-run_turn) → c.run_turn.new.self ≡ moved c.args.self.now c.args.i
moved_once c =
    let room : RoomState = record { spec = c.self.inside.spec; words = c.self.inside.words; sweeps = boxed_slice_items c.self.inside.sweeps; crashed = c.self.inside.crashed.items } in
    let alive : has_crashed room c.args.i ≡ false = ap (λ (r : RoomState). has_crashed r c.args.i) c.self.view_is ∙ sym c.is_crashed.ensures ∙ c.if-is_crashed.false in
    let up : IsUp c.args.self.now c.args.i = subst (λ (r : RoomState). IsUp r c.args.i) c.self.view_is (record { shape = c.self.invariant.is_room.shape; below = omega arith; alive = alive }) in
    of_one c.args.self.now c.run_turn.new.self c.args.i c.run_turn.result up (sym c.ready.ensures ∙ c.in-Step.is) c.run_turn.ensures.room c.run_turn.ensures.most c.run_turn.ensures.some

pub returns-in-Step-clause-fields : goal.returns-in-Step-clause-fields
returns-in-Step-clause-fields c =
    let room : RoomState = c.args.self.now in
    let limits = subst (λ (r : RoomState). IsWithinLimits r.spec) c.self.view_is c.self.invariant.is_room.shape.limits in
    let count : c.m.result ≡ room.spec.simulators = c.m.ensures.value ∙ ap (λ (r : RoomState). r.spec.simulators) c.self.view_is in
    let below : c.args.i < room.spec.simulators = subst (λ (m : ℕ). c.args.i < m) count c.if-i-m.false in
    let to = ready_step room c.args.i ready.Step below (sym c.is_crashed.ensures ∙ c.if-is_crashed.false) (sym c.ready.ensures ∙ c.in-Step.is) in
    step_by room c.run_turn.new.self Stepped c.args.i limits (record { replied = to.replied; left = moved_once c ∙ to.left })

pub returns-in-Idle-clause-fields : goal.returns-in-Idle-clause-fields
returns-in-Idle-clause-fields c =
    let room : RoomState = c.args.self.now in
    let limits = subst (λ (r : RoomState). IsWithinLimits r.spec) c.self.view_is c.self.invariant.is_room.shape.limits in
    let count : c.m.result ≡ room.spec.simulators = c.m.ensures.value ∙ ap (λ (r : RoomState). r.spec.simulators) c.self.view_is in
    let below : c.args.i < room.spec.simulators = subst (λ (m : ℕ). c.args.i < m) count c.if-i-m.false in
    let to = ready_step room c.args.i ready.Idle below (sym c.is_crashed.ensures ∙ c.if-is_crashed.false) (sym c.ready.ensures ∙ c.in-Idle.is) in
    step_by room c.wake.new.self Idle c.args.i limits (record { replied = to.replied; left = c.wake.ensures ∙ to.left })

pub returns-in-OutOfTurns-clause-fields : goal.returns-in-OutOfTurns-clause-fields
returns-in-OutOfTurns-clause-fields c =
    let room : RoomState = c.args.self.now in
    let limits = subst (λ (r : RoomState). IsWithinLimits r.spec) c.self.view_is c.self.invariant.is_room.shape.limits in
    let count : c.m.result ≡ room.spec.simulators = c.m.ensures.value ∙ ap (λ (r : RoomState). r.spec.simulators) c.self.view_is in
    let below : c.args.i < room.spec.simulators = subst (λ (m : ℕ). c.args.i < m) count c.if-i-m.false in
    step_by room room OutOfTurns c.args.i limits (ready_step room c.args.i ready.OutOfTurns below (sym c.is_crashed.ensures ∙ c.if-is_crashed.false) (sym c.ready.ensures ∙ c.in-OutOfTurns.is))

pub returns-then-i-m-clause-agreement : goal.returns-then-i-m-clause-agreement
returns-then-i-m-clause-agreement c = λ fields are.
    let limits = subst (λ (r : RoomState). IsWithinLimits r.spec) c.self.view_is c.self.invariant.is_room.shape.limits in
    agreements_stay c.args.self.now fields (Step c.args.i) limits are

pub returns-then-is_crashed-clause-agreement : goal.returns-then-is_crashed-clause-agreement
returns-then-is_crashed-clause-agreement c = λ fields are.
    let limits = subst (λ (r : RoomState). IsWithinLimits r.spec) c.self.view_is c.self.invariant.is_room.shape.limits in
    agreements_stay c.args.self.now fields (Step c.args.i) limits are

pub returns-in-Step-clause-agreement : goal.returns-in-Step-clause-agreement
returns-in-Step-clause-agreement c = λ fields are.
    let limits = subst (λ (r : RoomState). IsWithinLimits r.spec) c.self.view_is c.self.invariant.is_room.shape.limits in
    agreements_stay c.args.self.now fields (Step c.args.i) limits are

pub returns-in-Idle-clause-agreement : goal.returns-in-Idle-clause-agreement
returns-in-Idle-clause-agreement c = λ fields are.
    let limits = subst (λ (r : RoomState). IsWithinLimits r.spec) c.self.view_is c.self.invariant.is_room.shape.limits in
    agreements_stay c.args.self.now fields (Step c.args.i) limits are

pub returns-in-OutOfTurns-clause-agreement : goal.returns-in-OutOfTurns-clause-agreement
returns-in-OutOfTurns-clause-agreement c = λ fields are.
    let limits = subst (λ (r : RoomState). IsWithinLimits r.spec) c.self.view_is c.self.invariant.is_room.shape.limits in
    agreements_stay c.args.self.now fields (Step c.args.i) limits are

pub returns-in-Idle-clause-waits : goal.returns-in-Idle-clause-waits
returns-in-Idle-clause-waits c = λ is process.
    let room : RoomState = c.args.self.now in
    let counts = subst CountsQuietTurns c.self.view_is c.self.invariant.quiet in
    let count : c.m.result ≡ room.spec.simulators = c.m.ensures.value ∙ ap (λ (r : RoomState). r.spec.simulators) c.self.view_is in
    let below : c.args.i < room.spec.simulators = subst (λ (m : ℕ). c.args.i < m) count c.if-i-m.false in
    let ready : ready_at room c.args.i ≡ ready.Idle = sym c.ready.ensures ∙ c.in-Idle.is in
    subst (λ (r : RoomState). HasNoWrite (goal_at (sweep_at r c.args.i).mind.goals process)) (sym c.wake.ensures) (idle_room room c.args.i process below counts ready)
