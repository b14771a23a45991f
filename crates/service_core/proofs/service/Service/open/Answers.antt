use Rattle.std.proofs.Common.{◌≡◌, ◌∙◌, List, ℕ, Some, cond, sym, ap, subst}
use Rattle.std.specs.Str.{bytes_eq}
use Rattle.room_spec.specs.Rooms.{RoomSpec}
use Rattle.room_core.specs.Calls.{RoomState, opening_state}
use Rattle.service_core.specs.Rooms.{Entries, HasOwnNames, room_at}
use Rattle.service_core.proofs.Lookups.{Changes, own_names}
use Rattle.service_core.proofs.service.Service.open.Goals as goal

opened_spec : (spec : RoomSpec) (one : RoomState) → Some (opening_state spec) ≡ Some one → one.spec.name ≡ spec.name
opened_spec spec one is = let same : opening_state spec ≡ one = cc in sym (ap (λ (r : RoomState). r.spec.name) same)

pub invariant_of-self : goal.invariant_of-self
invariant_of-self c = subst HasOwnNames (sym c.in_err-insert.ensures.err) c.self.invariant

-- the rooms after the call: those before it, and the new one under its name
changes : (c : goal.Joined-branch-4) → Changes c.self.inside.rooms.entries c.insert.new.self.entries c.args.spec.name (Some (opening_state c.args.spec))
changes c =
    let key : c.in_ok-name.name ≡ c.args.spec.name = c.in_ok-name.ensures.cases ∙ c.name.ensures in
    subst (λ (name : List ℕ). Changes c.self.inside.rooms.entries c.insert.new.self.entries name (Some (opening_state c.args.spec))) key
    (subst (λ (room : RoomState). Changes c.self.inside.rooms.entries c.insert.new.self.entries c.in_ok-name.name (Some room)) c.in_ok-room.ensures.room c.in_ok-insert.ensures.updates.0)

pub invariant_of-self-2 : goal.invariant_of-self-2
invariant_of-self-2 c = own_names c.self.inside.rooms.entries c.insert.new.self.entries c.args.spec.name (Some (opening_state c.args.spec)) (changes c) c.self.invariant (λ one is. opened_spec c.args.spec one is)

pub returns-clause-opened : goal.returns-clause-opened
returns-clause-opened c = λ name. changes c name ∙ ap (λ (entries : Entries). cond (bytes_eq c.args.spec.name name) (Some (opening_state c.args.spec)) (room_at entries name)) c.self.view_is
