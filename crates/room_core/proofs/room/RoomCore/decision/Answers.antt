use Rattle.std.proofs.Common.{◌≡◌, ◌<◌, ◌≤◌, ◌∙◌, ℕ, ap, sym, subst, arith}
use Rattle.simulator.specs.Minds.{MindState}
use Rattle.room_core.specs.Agreements.{IsDecisionOf}
use Rattle.room_core.specs.Calls.{RoomState, configuration_of}
use Rattle.room_core.specs.Rooms.{IsRoom}
use Rattle.room_core.proofs.fields.FieldCalls.{has_fields}
use Rattle.room_core.proofs.settling.Decisions.{absent_decision, decision_of, same_decision, stays_over}
use Rattle.room_core.proofs.room.RoomCore.decision.Goals as goal

pub returns-then-i-m-clause-value : goal.returns-then-i-m-clause-value
returns-then-i-m-clause-value c =
    let room : RoomState = c.args.self.now in
    let was : IsRoom (configuration_of room) = subst (λ (r : RoomState). IsRoom (configuration_of r)) c.self.view_is c.self.invariant.is_room in
    let count : c.m.result ≡ room.spec.simulators = c.m.ensures.value ∙ ap (λ (r : RoomState). r.spec.simulators) c.self.view_is in
    sym (absent_decision room c.args.i was.shape (subst (λ (m : ℕ). m ≤ c.args.i) count c.if-i-m.true))

pub returns-then-i-m-clause-stored : goal.returns-then-i-m-clause-stored
returns-then-i-m-clause-stored c = λ fields are below.
    let count : c.m.result ≡ c.args.self.now.spec.simulators = c.m.ensures.value ∙ ap (λ (r : RoomState). r.spec.simulators) c.self.view_is in
    let above : c.args.self.now.spec.simulators ≤ c.args.i = subst (λ (m : ℕ). m ≤ c.args.i) count c.if-i-m.true in
    absurd (omega (arith, above, below))

pub returns-then-i-m-clause-stays : goal.returns-then-i-m-clause-stays
returns-then-i-m-clause-stays c = λ calls decision is. absurd cc

pub returns-clause-value : goal.returns-clause-value
returns-clause-value c = c.decision.ensures ∙ ap (λ (m : MindState). m.decision) c.mind.ensures.value

pub returns-clause-stored : goal.returns-clause-stored
returns-clause-stored c = λ fields are below.
    let room : RoomState = c.args.self.now in
    let was : IsRoom (configuration_of room) = subst (λ (r : RoomState). IsRoom (configuration_of r)) c.self.view_is c.self.invariant.is_room in
    let same = returns-clause-value c ∙ same_decision room fields was.shape.limits are c.args.i below in
    (same, subst (IsDecisionOf room.spec fields c.args.i) (sym same) (decision_of room fields was.shape.limits are c.args.i below))

pub returns-clause-stays : goal.returns-clause-stays
returns-clause-stays c = λ calls decision is.
    let room : RoomState = c.args.self.now in
    let was : IsRoom (configuration_of room) = subst (λ (r : RoomState). IsRoom (configuration_of r)) c.self.view_is c.self.invariant.is_room in
    let count : c.m.result ≡ room.spec.simulators = c.m.ensures.value ∙ ap (λ (r : RoomState). r.spec.simulators) c.self.view_is in
    let below : c.args.i < room.spec.simulators = subst (λ (m : ℕ). c.args.i < m) count c.if-i-m.false in
    let fields = has_fields room was in
    stays_over room fields.0 calls c.args.i decision was.shape.limits fields.1 below (sym (returns-clause-value c) ∙ is)
