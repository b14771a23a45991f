use Rattle.std.proofs.Common.{◌≡◌, ◌∙◌, ◌++◌, ◌∷◌, [], sym, ap, subst}
use Rattle.std.specs.Str.{bytes_eq}
use Rattle.room_spec.specs.Rooms.{RoomSpec}
use Rattle.indexmap.proofs.CallerLemmas.{insert_entry-new}
use Rattle.history_checker.specs.Verdicts.{HasProcessed, IsKeyed, RoomState, has_room, specs_of, rooms_in}
use Rattle.history_checker.proofs.NamedRooms.{EntriesOf, none_there, IsKeyed-push, specs-push, after-push}
use Rattle.history_checker.proofs.RoomLists.{spec_in, nothing_processed}
use Rattle.history_checker.specs.Verdicts.{IsAfter}
use Rattle.history_checker.proofs.rooms.Rooms.push.Goals as goal

-- the entries after the call: those before it, and the room under its name
pushed : (c : goal.Joined-branch-4) → c.insert.new.self.entries ≡ c.self.inside.rooms.entries ++ (c.in_ok-room.room.spec.name, c.in_ok-room.room) ∷ []
pushed c =
    let entries = c.self.inside.rooms.entries in
    let key_is : c.in_ok-name.name ≡ c.in_ok-room.room.spec.name = c.in_ok-name.ensures.cases ∙ c.name.ensures ∙ sym (ap (λ (spec : RoomSpec). spec.name) c.in_ok-room.ensures.spec) in
    let fresh = none_there spec_in c.in_ok-name.name entries c.self.invariant (ap (λ rooms. has_room c.in_ok-name.name (specs_of rooms)) c.self.view_is ∙ ap (λ name. has_room name (specs_of c.args.self.now)) (c.in_ok-name.ensures.cases ∙ c.name.ensures) ∙ c.requires) in
    c.in_ok-insert.ensures.entries ∙ insert_entry-new bytes_eq c.self.inside.rooms c.in_ok-name.name c.in_ok-room.room fresh
    ∙ ap (λ key. entries ++ (key, c.in_ok-room.room) ∷ []) key_is

pub invariant_of-self-2 : goal.invariant_of-self-2
invariant_of-self-2 c = subst IsKeyed (sym (pushed c)) (IsKeyed-push spec_in c.self.inside.rooms.entries c.in_ok-room.room c.self.invariant)

pub returns-clause-added : goal.returns-clause-added
returns-clause-added c =
    let entries = c.self.inside.rooms.entries in
    ap (λ (es : (EntriesOf RoomState)). specs_of (rooms_in es)) (pushed c)
    ∙ specs-push spec_in entries c.in_ok-room.room.spec.name c.in_ok-room.room
    ∙ ap (λ rooms. specs_of rooms ++ c.in_ok-room.room.spec ∷ []) c.self.view_is
    ∙ ap (λ spec. specs_of c.args.self.now ++ spec ∷ []) c.in_ok-room.ensures.spec

pub returns-clause-processed : goal.returns-clause-processed
returns-clause-processed c = λ fed none processed.
    let room = c.in_ok-room.room in
    let P : EntriesOf RoomState → Type 0 = λ entries. HasProcessed (rooms_in entries) fed in
    subst P (sym (pushed c))
    (after-push spec_in IsAfter c.self.inside.rooms.entries room.spec.name room fed (subst (λ rooms. HasProcessed rooms fed) (sym c.self.view_is) processed)
    (nothing_processed room c.args.spec fed c.in_ok-room.ensures.spec none c.in_ok-room.ensures.processed))
