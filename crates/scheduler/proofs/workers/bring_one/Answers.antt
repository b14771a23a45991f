use Rattle.std.proofs.Common.{◌∙◌}
use Rattle.scheduler.proofs.Returning.{fewer_away, is_for, kept_by_all}
use Rattle.scheduler.proofs.Rounds.{room_at}
use Rattle.scheduler.proofs.workers.bring_one.Goals as goal

pub take_back-requires-clause-keeper : goal.take_back-requires-clause-keeper
take_back-requires-clause-keeper c =
    let for_it = is_for c.args.rooms.now c.args.keepers.now c.args.one c.index-keepers-place.result c.requires.kept c.requires.stopped in
    for_it.room ∙ room_at c.args.rooms.now c.args.one.place c.args.one.simulator.room c.index-rooms-place.result c.index-rooms-place.result c.requires.stopped.room c.index-rooms-place.is

pub take_back-requires-clause-simulator : goal.take_back-requires-clause-simulator
take_back-requires-clause-simulator c =
    room_at c.args.rooms.now c.args.one.place c.args.one.simulator.room c.index-rooms-place.result c.index-rooms-place.result c.requires.stopped.room c.index-rooms-place.is

pub returns-clause-kept : goal.returns-clause-kept
returns-clause-kept c = kept_by_all c.args.rooms.now c.args.keepers.now c.args.one c.take_back.new.self c.index-keepers-place.result c.requires.kept c.requires.stopped c.requires.away c.take_back.ensures

pub returns-clause-away : goal.returns-clause-away
returns-clause-away c = fewer_away c.args.rooms.now c.args.keepers.now c.args.one c.take_back.new.self c.index-keepers-place.result c.requires.kept c.requires.stopped c.requires.away c.take_back.ensures
