use Rattle.std.proofs.Common.{◌≡◌, ◌∙◌, ℕ, List, Some, true, refl, sym, ap, subst}
use Rattle.std.specs.List.{position}
use Rattle.std.specs.Str.{bytes_eq}
use Rattle.std.proofs.lemmas.Slice.Eq.{bytes_eq-Decides}
use Rattle.room_spec.specs.Names.{is_name}
use Rattle.history_checker.specs.Verdicts.{FedEvent, HasProcessed, RoomState, fed_to, has_room, specs_of}
use Rattle.history_checker.proofs.NamedRooms.{has_room-lookup, keys_in, own_name, specs-with_room, same-with_room, IsKeyed-with_room, after-with_room}
use Rattle.history_checker.proofs.RoomLists.{spec_in}
use Rattle.history_checker.specs.Verdicts.{IsAfter}
use Rattle.history_checker.proofs.SaidLines.{said_named, fault_named}
use Rattle.history_checker.proofs.rooms.Rooms.feed_line.Goals as goal

pub invariant_of-self : goal.invariant_of-self
invariant_of-self c =
    IsKeyed-with_room spec_in c.self.inside.rooms.entries c.in-Some.index c.index_mut-room.result.now c.feed_line.new.self c.index_mut-room.ensures.value c.feed_line.ensures.spec c.self.invariant

pub returns-clause-rooms : goal.returns-clause-rooms
returns-clause-rooms c =
    specs-with_room spec_in c.self.inside.rooms.entries c.in-Some.index c.index_mut-room.result.now c.feed_line.new.self c.index_mut-room.ensures.value c.feed_line.ensures.spec ∙ ap specs_of c.self.view_is

pub returns-in-Err-clause-err : goal.returns-in-Err-clause-err
returns-in-Err-clause-err c =
    same-with_room c.self.inside.rooms.entries c.in-Some.index c.index_mut-room.result.now c.feed_line.new.self c.index_mut-room.ensures.value c.in-Err.ensures.err ∙ c.self.view_is

pub returns-in-Err-clause-rooms : goal.returns-in-Err-clause-rooms
returns-in-Err-clause-rooms c =
    specs-with_room spec_in c.self.inside.rooms.entries c.in-Some.index c.index_mut-room.result.now c.feed_line.new.self c.index_mut-room.ensures.value c.feed_line.ensures.spec ∙ ap specs_of c.self.view_is

pub invariant_of-self-2 : goal.invariant_of-self-2
invariant_of-self-2 c =
    IsKeyed-with_room spec_in c.self.inside.rooms.entries c.in-Some.index c.index_mut-room.result.now c.feed_line.new.self c.index_mut-room.ensures.value c.feed_line.ensures.spec c.self.invariant

pub returns-clause-fed : goal.returns-clause-fed
returns-clause-fed c =
    let entries = c.self.inside.rooms.entries in
    let index = c.in-Some.index in
    let room = c.index_mut-room.result.now in
    let feeds = c.in_default-feed_line.ensures.fed in
    let name = c.args.line.now.name in
    let there = c.index_mut-room.ensures.value in
    let found : position (bytes_eq name) (keys_in entries) ≡ Some index = ap (λ (n : List ℕ). position (bytes_eq n) (keys_in entries)) (sym c.name-bytes.ensures) ∙ sym c.in-Some.ensures.index in
    let same : name ≡ room.spec.name = (bytes_eq-Decides name room.spec.name).0 (own_name spec_in name entries index room c.self.invariant found there) in
    let named : is_name name ≡ true = subst (λ (n : List ℕ). is_name n ≡ true) (ap (λ (r : RoomState). r.spec.name) c.room.view_is ∙ sym same) c.rounds.ensures.named in
    let known = c.in-Some.ensures.found ∙ sym (has_room-lookup spec_in c.name-bytes.result.now entries c.self.invariant) ∙ ap (λ (rooms : List RoomState). has_room c.name-bytes.result.now (specs_of rooms)) c.self.view_is in
    let one : FedEvent = record { name = name; event = feeds.event; line = c.args.number } in
    record {
      one = one;
      said = said_named c.args.line.now feeds.event named (sym feeds.said);
      known = ap (λ (n : List ℕ). has_room n (specs_of c.args.self.now)) (sym c.name-bytes.ensures) ∙ sym known;
      numbered = refl;
      processed = λ fed processed.
          after-with_room spec_in IsAfter entries index room c.feed_line.new.self fed one c.self.invariant c.in-Some.ensures.unique found there c.feed_line.ensures.spec
          (feeds.processed (fed_to room.spec.name fed) one refl refl)
          (subst (λ rooms. HasProcessed rooms fed) (sym c.self.view_is) processed);
    }

pub returns-in_default-clause-fault : goal.returns-in_default-clause-fault
returns-in_default-clause-fault c =
    let bytes = c.name-bytes.result.now in
    let unknown = c.in_default.ensures.found ∙ sym (has_room-lookup spec_in bytes c.self.inside.rooms.entries c.self.invariant) ∙ ap (λ (rooms : List RoomState). has_room bytes (specs_of rooms)) c.self.view_is in
    c.fault_of_stray.ensures (specs_of c.args.self.now) (ap (λ (n : List ℕ). has_room n (specs_of c.args.self.now)) (sym c.name-bytes.ensures) ∙ sym unknown)

pub returns-in-Err-clause-fault : goal.returns-in-Err-clause-fault
returns-in-Err-clause-fault c =
    let entries = c.self.inside.rooms.entries in
    let room = c.index_mut-room.result.now in
    let name = c.args.line.now.name in
    let found : position (bytes_eq name) (keys_in entries) ≡ Some c.in-Some.index = ap (λ (n : List ℕ). position (bytes_eq n) (keys_in entries)) (sym c.name-bytes.ensures) ∙ sym c.in-Some.ensures.index in
    let same : name ≡ room.spec.name = (bytes_eq-Decides name room.spec.name).0 (own_name spec_in name entries c.in-Some.index room c.self.invariant found c.index_mut-room.ensures.value) in
    let named : is_name name ≡ true = subst (λ (n : List ℕ). is_name n ≡ true) (ap (λ (r : RoomState). r.spec.name) c.room.view_is ∙ sym same) c.rounds.ensures.named in
    fault_named c.args.line.now c.in-Err.fault named (sym c.in-Err.ensures.fault)
