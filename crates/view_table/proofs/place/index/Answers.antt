use Rattle.std.proofs.Common.{arith}
use Rattle.room_spec.specs.Sizes.{Sizes, memory_words}
use Rattle.room_spec.specs.Shapes.{sizes_of}
use Rattle.view_table.specs.declared.place.Place.TheVariants.{Levels, Value}
use Rattle.view_table.specs.Places.{pairs, views, words_of}
use Rattle.view_table.proofs.PlaceLemmas.{in_rows, in_words, within}
use Rattle.view_table.proofs.place.index.Goals as goal

pub returns-in-View-clause-within : goal.returns-in-View-clause-within
unfolding words_of
returns-in-View-clause-within c =
    let range = rw c.in-View.is at c.requires in
    let sizes : Sizes = sizes_of c.args.shape.now in
    let view = in_rows c.pair.result (pairs sizes) c.args.shape.now.rounds c.in-View.round c.pair.ensures.within range.2 in
    omega (arith, in_words c.in_round-agreement.result (views sizes) (memory_words sizes) c.in-View.word (omega (arith, c.in_round-agreement.ensures.value, view)) range.3)

pub returns-in-Levels-clause-within : goal.returns-in-Levels-clause-within
returns-in-Levels-clause-within c =
    rw c.levels.ensures (within (sizes_of c.args.shape.now) (Levels c.in-Levels.process c.in-Levels.round) (rw c.in-Levels.is at c.requires))

pub returns-in-Value-clause-within : goal.returns-in-Value-clause-within
returns-in-Value-clause-within c =
    rw c.value.ensures (within (sizes_of c.args.shape.now) (Value c.in-Value.simulator c.in-Value.process c.in-Value.round) (rw c.in-Value.is at c.requires))
