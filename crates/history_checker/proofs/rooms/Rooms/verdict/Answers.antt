use Rattle.std.proofs.Common.{◌≡◌, Some, List, sym, subst}
use Rattle.std.specs.Prelude.{slice_get}
use Rattle.history_checker.specs.Verdicts.{RoomState, HasProcessed, fed_to}
use Rattle.history_checker.proofs.NamedRooms.{after_there, value_there, spec_there}
use Rattle.history_checker.proofs.RoomLists.{spec_in}
use Rattle.history_checker.specs.Verdicts.{IsAfter}
use Rattle.history_checker.proofs.rooms.Rooms.verdict.Goals as goal

pub returns-in-Some : goal.returns-in-Some
returns-in-Some c = λ fed processed.
    let room = c.in-Some.room.now in
    let inside = value_there c.self.inside.rooms.entries c.args.index (c.in-Some.field-0-0.now, room) (sym c.in-Some.ensures.entry) in
    let there : slice_get c.args.self.now c.args.index ≡ Some room = subst (λ (rooms : List RoomState). slice_get rooms c.args.index ≡ Some room) c.self.view_is inside in
    rw (spec_there spec_in c.args.self.now c.args.index room there)
    (c.verdict.ensures (fed_to room.spec.name fed)
    (after_there spec_in IsAfter _ fed c.args.index room inside (subst (λ rooms. HasProcessed rooms fed) (sym c.self.view_is) processed)).0)
