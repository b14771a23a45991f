use Rattle.std.proofs.Common.{◌≡◌, Some, List, sym, subst}
use Rattle.std.specs.Prelude.{slice_get}
use Rattle.history_checker.specs.Verdicts.{RoomState, HasProcessed, fed_to}
use Rattle.history_checker.proofs.NamedRooms.{after_there, value_there, spec_there}
use Rattle.history_checker.proofs.RoomLists.{spec_in}
use Rattle.history_checker.specs.Verdicts.{IsAfter}
use Rattle.history_checker.proofs.rooms.Rooms.task_verdict.Goals as goal

pub returns : goal.returns
returns c = λ fed processed.
    let room = c.in_ok-room.room.now in
    let inside = value_there c.self.inside.rooms.entries c.args.index (c.in_ok-room.field-0-0.now, room) (sym c.in_ok-room.ensures.entry) in
    let there : slice_get c.args.self.now c.args.index ≡ Some room = subst (λ (rooms : List RoomState). slice_get rooms c.args.index ≡ Some room) c.self.view_is inside in
    rw (spec_there spec_in c.args.self.now c.args.index room there)
    (c.task_verdict.ensures (fed_to room.spec.name fed)
    (after_there spec_in IsAfter _ fed c.args.index room inside (subst (λ rooms. HasProcessed rooms fed) (sym c.self.view_is) processed)).1)
