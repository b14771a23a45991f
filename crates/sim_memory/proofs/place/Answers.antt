use Rattle.std.proofs.Common.{sym, ◌∙◌, arith}
use Rattle.room_spec.specs.Sizes.{Sizes}
use Rattle.room_spec.specs.Shapes.{sizes_of}
use Rattle.room_spec.proofs.CallerLemmas.{are_memory_words}
use Rattle.sim_memory.proofs.Words.{one_word, place_inside, word_below}
use Rattle.sim_memory.proofs.place.Goals as goal

pub returns-then-memory_words-eq1-clause-word : goal.returns-then-memory_words-eq1-clause-word
returns-then-memory_words-eq1-clause-word c =
    sym (one_word (sizes_of c.args.shape.now) c.args.i c.args.p c.args.shape.now.limits (sym c.memory_words.ensures.value ∙ c.if-memory_words-eq1.true) c.requires.simulator c.requires.process).0

pub returns-then-memory_words-eq1-clause-value : goal.returns-then-memory_words-eq1-clause-value
returns-then-memory_words-eq1-clause-value c =
    sym (one_word (sizes_of c.args.shape.now) c.args.i c.args.p c.args.shape.now.limits (sym c.memory_words.ensures.value ∙ c.if-memory_words-eq1.true) c.requires.simulator c.requires.process).1

pub returns-then-memory_words-eq1-clause-within : goal.returns-then-memory_words-eq1-clause-within
returns-then-memory_words-eq1-clause-within c = let some = (are_memory_words (sizes_of c.args.shape.now) c.args.shape.now.limits).some in omega arith

pub returns-then-memory_words-eq1-clause-inside : goal.returns-then-memory_words-eq1-clause-inside
returns-then-memory_words-eq1-clause-inside c =
    let sizes : Sizes = sizes_of c.args.shape.now in
    omega (arith, place_inside sizes c.args.i c.args.p c.args.shape.now.limits, returns-then-memory_words-eq1-clause-value c)

pub returns-clause-within : goal.returns-clause-within
returns-clause-within c =
    let below = word_below (sizes_of c.args.shape.now) c.args.i c.args.p c.args.shape.now.limits c.requires.simulator c.requires.process in
    rw (c.fields_in_word-fields.ensures.value) below
