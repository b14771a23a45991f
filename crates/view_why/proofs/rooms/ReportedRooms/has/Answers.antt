use Rattle.std.proofs.Common.{◌∙◌, List, sym, ap}
use Rattle.history_checker.specs.Verdicts.{has_room}
use Rattle.view_why.specs.Reported.{ReportedRoom, specs_of}
use Rattle.history_checker.proofs.CallerLemmas.{has_room-lookup}
use Rattle.view_why.proofs.RoomLists.{spec_in}
use Rattle.view_why.proofs.rooms.ReportedRooms.has.Goals as goal

pub returns : goal.returns
returns c =
    c.contains_key.ensures ∙ sym (has_room-lookup spec_in c.args.name.now c.self.inside.rooms.entries c.self.invariant) ∙ ap (λ (rooms : List ReportedRoom). has_room c.args.name.now (specs_of rooms)) c.self.view_is
