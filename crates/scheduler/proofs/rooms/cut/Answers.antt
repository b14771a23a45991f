use Rattle.scheduler.proofs.Ending.{cut_first, cut_last, cut_specs}
use Rattle.ruled_room.specs.Parts.{RoomName}
use Rattle.room_spec.specs.Rooms.{RoomSpec}
use Rattle.scheduler.proofs.rooms.cut.Goals as goal

abbrev spec_of : RoomName → RoomSpec
spec_of room = room.spec

pub returns-clause-first : goal.returns-clause-first
returns-clause-first c = cut_first c.args.stopped.now.rooms.items _ c.args.stopped.now.keepers.items _ c.args.count c.requires.count c.in_ok-rooms.ensures.items c.in_ok-keepers.ensures.items c.requires.kept c.requires.home

pub returns-clause-others : goal.returns-clause-others
returns-clause-others c = cut_last c.args.stopped.now.rooms.items _ c.args.stopped.now.keepers.items _ c.args.count c.requires.count c.in_ok-rooms.ensures.tail c.in_ok-keepers.ensures.tail c.requires.kept c.requires.home

pub returns-clause-specs : goal.returns-clause-specs
returns-clause-specs c = cut_specs spec_of c.args.stopped.now.rooms.items _ _ c.args.count c.in_ok-rooms.ensures.items c.in_ok-rooms.ensures.tail
