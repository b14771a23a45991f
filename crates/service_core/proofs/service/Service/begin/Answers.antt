use Rattle.std.proofs.Common.{◌≡◌, ◌∙◌, List, ℕ, Option, Some, None, false, is_some, refl, sym, ap}
use Rattle.room_core.specs.Calls.{RoomState}
use Rattle.service_core.specs.Rooms.{Entries, room_at}
use Rattle.service_core.proofs.Applying.{begins_room}
use Rattle.service_core.proofs.service.Service.begin.Goals as goal

no_room : (found : Option RoomState) → is_some found ≡ false → found ≡ None
no_room None is = refl
no_room (Some room) is = absurd cc

pub returns-in-Ok : goal.returns-in-Ok
returns-in-Ok c =
    let none = no_room (room_at c.self.inside.rooms.entries c.name.result.now) (sym c.contains_key.ensures ∙ c.if-contains_key.false) in
    let free = ap (λ (entries : Entries). room_at entries c.args.spec.name) (sym c.self.view_is) ∙ ap (λ (name : List ℕ). room_at c.self.inside.rooms.entries name) (sym c.name.ensures) ∙ none in
    begins_room c.args.spec c.args.self.now c.open.new.self free c.in-Ok.ensures.opened
