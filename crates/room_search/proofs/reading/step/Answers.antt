use Rattle.std.proofs.Common.{◌≤◌, length, sym, subst, ap, ◌∙◌, arith}
use Rattle.room_spec.specs.Sizes.{Sizes, memory_words, sizes_in}
use Rattle.sim_memory.specs.Steps.{step_in}
use Rattle.room_search.proofs.WordsRead.{memory_fits, memory_read}
use Rattle.room_search.proofs.reading.step.Goals as goal

pub step_of-requires-clause-words : goal.step_of-requires-clause-words
step_of-requires-clause-words c =
    let fits = memory_fits (sizes_in c.args.subject.now.spec.now) in
    subst (λ (sizes : Sizes). memory_words sizes ≤ length c.args.words.now) (sym c.shape.ensures.sizes) (omega (arith, fits, c.requires.words))

pub returns : goal.returns
returns c =
    let spec = c.args.subject.now.spec.now in
    c.step_of.ensures.value ∙ ap (λ (sizes : Sizes). step_in sizes c.args.words.now c.args.i c.args.p) c.shape.ensures.sizes
    ∙ memory_read (sizes_in spec) c.shape.ensures.limits.shape c.args.words.now c.args.i c.args.p c.requires.simulator c.requires.process
