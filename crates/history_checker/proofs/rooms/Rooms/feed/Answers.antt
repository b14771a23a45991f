use Rattle.std.proofs.Common.{◌∙◌, List, refl, sym, ap, subst}
use Rattle.history_checker.specs.Verdicts.{FedEvent, HasProcessed, RoomState, fed_to, has_room, specs_of}
use Rattle.history_checker.proofs.NamedRooms.{has_room-lookup, specs-with_room, IsKeyed-with_room, after-with_room}
use Rattle.history_checker.proofs.RoomLists.{spec_in}
use Rattle.history_checker.specs.Verdicts.{IsAfter}
use Rattle.history_checker.proofs.rooms.Rooms.feed.Goals as goal

pub returns-in_default-clause-known : goal.returns-in_default-clause-known
returns-in_default-clause-known c =
    let name = c.args.name.now in
    let unknown = c.in_default.ensures.found ∙ sym (has_room-lookup spec_in name c.self.inside.rooms.entries c.self.invariant) ∙ ap (λ (rooms : List RoomState). has_room name (specs_of rooms)) c.self.view_is in
    (λ e. absurd cc, λ e. unknown ∙ e)

pub returns-clause-known : goal.returns-clause-known
returns-clause-known c =
    let name = c.args.name.now in
    let known = c.in-Some.ensures.found ∙ sym (has_room-lookup spec_in name c.self.inside.rooms.entries c.self.invariant) ∙ ap (λ (rooms : List RoomState). has_room name (specs_of rooms)) c.self.view_is in
    (λ e. sym known, λ e. refl)

pub invariant_of-self : goal.invariant_of-self
invariant_of-self c =
    IsKeyed-with_room spec_in c.self.inside.rooms.entries c.in-Some.index c.index_mut-room.result.now c.feed.new.self c.index_mut-room.ensures.value c.feed.ensures.spec c.self.invariant

pub returns-clause-rooms : goal.returns-clause-rooms
returns-clause-rooms c =
    specs-with_room spec_in c.self.inside.rooms.entries c.in-Some.index c.index_mut-room.result.now c.feed.new.self c.index_mut-room.ensures.value c.feed.ensures.spec ∙ ap specs_of c.self.view_is

pub returns-clause-processed : goal.returns-clause-processed
returns-clause-processed c = λ fed processed.
    let room = c.index_mut-room.result.now in
    let one : FedEvent = record { name = c.args.name.now; event = c.args.event.now; line = c.args.line } in
    after-with_room spec_in IsAfter c.self.inside.rooms.entries c.in-Some.index room c.feed.new.self fed one c.self.invariant c.in-Some.ensures.unique (sym c.in-Some.ensures.index) c.index_mut-room.ensures.value
    c.feed.ensures.spec
    (c.feed.ensures.processed (fed_to room.spec.name fed) one refl refl)
    (subst (λ rooms. HasProcessed rooms fed) (sym c.self.view_is) processed)
