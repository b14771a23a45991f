use Rattle.std.proofs.Common.{◌<◌, arith, rules}
use Rattle.room_spec.specs.Sizes.{sizes_in}
use Rattle.room_spec.specs.Shapes.{sizes_of}
use Rattle.room_spec.proofs.CallerLemmas.{are_memory_words}
use Rattle.room_core.specs.Agreements.{shown_of}
use Rattle.room_search.specs.Ends.{fields_by}
use Rattle.room_search.proofs.WordsRead.{view_fits}
use Rattle.room_search.proofs.reading.view_start.Goals as goal

pub index-requires : goal.index-requires
index-requires c =
    let some = (are_memory_words (sizes_of c.shape.result) c.shape.result.limits).some in
    (omega (arith, c.shown_of.ensures.below, c.shape.ensures.m), omega (arith, c.requires.process, c.shape.ensures.n), (c.requires.round.0, omega (arith, c.requires.round.1, c.shape.ensures.rounds)), omega (arith, some))

pub returns-clause-value : goal.returns-clause-value
returns-clause-value c = search rules

pub returns-clause-fits : goal.returns-clause-fits
returns-clause-fits c =
    let spec = c.args.subject.now.spec.now in
    let shown = shown_of spec (fields_by spec c.args.words.now) c.args.j c.args.k in
    let below : shown < spec.simulators = omega (arith, c.shown_of.ensures.value, c.shown_of.ensures.below) in
    let fits = view_fits (sizes_in spec) c.shape.ensures.limits.shape shown c.args.j c.args.k below c.requires.process c.requires.round in
    omega (arith, fits, returns-clause-value c)
