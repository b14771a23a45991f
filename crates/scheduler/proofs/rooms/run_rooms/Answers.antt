use Rattle.std.proofs.Common.{◌≡◌, List, IfOk, subst}
use Rattle.room_spec.specs.Rooms.{RoomSpec}
use Rattle.scheduler.specs.Results.{AddsRoomRuns}
use Rattle.scheduler.proofs.Ending.{runs_from_none}
use Rattle.scheduler.proofs.rooms.run_rooms.Goals as goal

pub returns-clause-rooms : goal.returns-clause-rooms
returns-clause-rooms g c =
    let result = c.run_opened.result in
    let adds = subst (λ (specs : List RoomSpec). IfOk result (λ all. AddsRoomRuns specs (λ results. c.new.result.items ≡ results) (λ results. all.items ≡ results))) c.in_ok-opened.ensures.rooms c.run_opened.ensures.rooms in
    runs_from_none c.args.specs.items result c.new.result c.new.ensures.items adds
