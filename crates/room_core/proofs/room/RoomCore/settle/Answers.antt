use Rattle.std.proofs.Common.{sym, subst}
use Rattle.room_core.specs.Calls.{RoomState, Settle, configuration_of, room_kind}
use Rattle.room_core.specs.Rooms.{IsRoom}
use Rattle.room_core.specs.Settles.{Settles}
use Rattle.room_core.proofs.settling.Certified.{certified_for}
use Rattle.room_core.proofs.settling.CertifiedReductions.{most_for}
use Rattle.room_core.proofs.settling.EachDecides.{each_decides, each_settled, few_waiting, others_crash}
use Rattle.room_core.proofs.settling.Ending.{settled_for}
use Rattle.room_core.proofs.agreements.Lasting.{agreements_stay}
use Rattle.room_core.proofs.settling.Unbounded.{settles}
use Rattle.room_core.proofs.room.RoomCore.settle.Goals as goal

pub returns-clause-unbounded : goal.returns-clause-unbounded
returns-clause-unbounded c =
    let room : RoomState = c.args.self.now in
    let was : IsRoom (configuration_of room) = subst (λ (r : RoomState). IsRoom (configuration_of r)) c.self.view_is c.self.invariant.is_room in
    subst (Settles room_kind room) (sym c.settle_observed.ensures.room) (settles room was)

pub returns-clause-agreement : goal.returns-clause-agreement
returns-clause-agreement c = λ fields are.
    let was : IsRoom (configuration_of c.args.self.now) = subst (λ (r : RoomState). IsRoom (configuration_of r)) c.self.view_is c.self.invariant.is_room in
    agreements_stay c.args.self.now fields Settle was.shape.limits are

pub returns-clause-settled : goal.returns-clause-settled
returns-clause-settled c = λ fields are left j low.
    let was : IsRoom (configuration_of c.args.self.now) = subst (λ (r : RoomState). IsRoom (configuration_of r)) c.self.view_is c.self.invariant.is_room in
    settled_for c.args.self.now fields was.shape.limits are left j low

pub returns-clause-certified : goal.returns-clause-certified
returns-clause-certified c = λ fields are f certified ordinary two left j low.
    let was : IsRoom (configuration_of c.args.self.now) = subst (λ (r : RoomState). IsRoom (configuration_of r)) c.self.view_is c.self.invariant.is_room in
    certified_for c.args.self.now fields was.shape.limits are f certified ordinary two left j low

pub returns-clause-most : goal.returns-clause-most
returns-clause-most c = λ fields are kind f certified few two left.
    let was : IsRoom (configuration_of c.args.self.now) = subst (λ (r : RoomState). IsRoom (configuration_of r)) c.self.view_is c.self.invariant.is_room in
    most_for c.args.self.now fields was.shape.limits are kind f certified few two left

pub returns-clause-each : goal.returns-clause-each
returns-clause-each c = λ fields are left j low.
    let was : IsRoom (configuration_of c.args.self.now) = subst (λ (r : RoomState). IsRoom (configuration_of r)) c.self.view_is c.self.invariant.is_room in
    each_settled c.args.self.now fields was.shape.limits are left j low

pub returns-clause-few : goal.returns-clause-few
returns-clause-few c = λ fields are left.
    let was : IsRoom (configuration_of c.args.self.now) = subst (λ (r : RoomState). IsRoom (configuration_of r)) c.self.view_is c.self.invariant.is_room in
    few_waiting c.args.self.now fields was.shape.limits are left

pub returns-clause-decides : goal.returns-clause-decides
returns-clause-decides c = λ fields are f certified few left.
    let was : IsRoom (configuration_of c.args.self.now) = subst (λ (r : RoomState). IsRoom (configuration_of r)) c.self.view_is c.self.invariant.is_room in
    each_decides c.args.self.now fields was.shape.limits are left f certified few

pub returns-clause-others_crash : goal.returns-clause-others_crash
returns-clause-others_crash c = λ fields are f certified few left.
    let was : IsRoom (configuration_of c.args.self.now) = subst (λ (r : RoomState). IsRoom (configuration_of r)) c.self.view_is c.self.invariant.is_room in
    others_crash c.args.self.now fields was.shape.limits are left f certified few
