-- Rooms of the checker as rooms under their own names.
use Rattle.std.proofs.Common.{◌≡◌, List, [], ap, ◌∙◌}
use Rattle.room_spec.specs.Rooms.{RoomSpec}
use Rattle.history_checker.specs.Verdicts.{FedEvent, RoomState, HasProcessedOwn, fed_to}

abbrev pub spec_in : RoomState → RoomSpec
spec_in room = room.spec

-- a room that has processed nothing, where nothing was fed of it
pub nothing_processed : (room : RoomState) (spec : RoomSpec) (fed : List FedEvent) → room.spec ≡ spec → fed_to spec.name fed ≡ [] → HasProcessedOwn [] room → HasProcessedOwn fed room
nothing_processed room spec fed same none processed =
    let own : fed_to room.spec.name fed ≡ [] = ap (λ (s : RoomSpec). fed_to s.name fed) same ∙ none in
    rw own processed
