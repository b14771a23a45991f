use Rattle.std.proofs.Common.{◌<◌, ap, ◌∙◌, arith, rules}
use Rattle.room_spec.specs.Rooms.{RoomSpec, processes}
use Rattle.room_spec.specs.Sizes.{sizes_in}
use Rattle.room_spec.specs.Shapes.{sizes_of}
use Rattle.room_spec.proofs.CallerLemmas.{are_memory_words}
use Rattle.view_table.proofs.CallerLemmas.{few_words}
use Rattle.room_core.specs.Agreements.{shown_of}
use Rattle.ws_history.specs.Readings.{read_of}
use Rattle.ws_history.proofs.WordsRead.{view_fits}
use Rattle.ws_history.proofs.agreements.view_start.Goals as goal

pub index-requires : goal.index-requires
index-requires c =
    let some = (are_memory_words (sizes_of c.shape.result) c.shape.result.limits).some in
    let m = c.shape.ensures.m ∙ ap (λ (s : RoomSpec). s.simulators) c.spec.ensures.value in
    let n = c.shape.ensures.n ∙ ap processes c.spec.ensures.value in
    let rounds = c.shape.ensures.rounds ∙ ap (λ (s : RoomSpec). s.rounds) c.spec.ensures.value in
    (omega (arith, c.shown_of.ensures.below, m), omega (arith, c.requires.process, n), (c.requires.round.0, omega (arith, c.requires.round.1, rounds)), omega (arith, some))

pub returns-clause-value : goal.returns-clause-value
returns-clause-value c = search rules

pub returns-clause-fits : goal.returns-clause-fits
returns-clause-fits c =
    let room = c.args.room.now in
    let below : shown_of room.spec (read_of room) c.args.j c.args.k < room.spec.simulators = omega (arith, c.shown_of.ensures.value, c.shown_of.ensures.below) in
    let fits = view_fits (sizes_in room.spec) c.shape_of-shape.ensures.limits.shape (shown_of room.spec (read_of room) c.args.j c.args.k) c.args.j c.args.k below c.requires.process c.requires.round in
    omega (arith, fits, returns-clause-value c)

pub returns-clause-few : goal.returns-clause-few
returns-clause-few c = omega (arith, returns-clause-fits c, few_words (sizes_in c.args.room.now.spec) c.shape_of-shape.ensures.limits.shape)
