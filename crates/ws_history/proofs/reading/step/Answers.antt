use Rattle.std.proofs.Common.{ℕ, List, ap, ◌∙◌}
use Rattle.room_spec.specs.Sizes.{Sizes, sizes_in}
use Rattle.sim_memory.specs.Steps.{step_in}
use Rattle.ws_history.specs.Readings.{read_of}
use Rattle.ws_history.proofs.WordsRead.{memory_read}
use Rattle.ws_history.proofs.reading.step.Goals as goal

pub returns-clause-value : goal.returns-clause-value
unfolding read_of
returns-clause-value c =
    let room = c.args.room.now in
    c.step_of.ensures.value
    ∙ ap (λ (sizes : Sizes). step_in sizes c.memory.result.now c.args.i c.args.p) (c.shape.ensures.sizes ∙ ap sizes_in c.spec.ensures.value)
    ∙ ap (λ (words : List ℕ). step_in (sizes_in room.spec) words c.args.i c.args.p) c.memory.ensures.value
    ∙ memory_read (sizes_in room.spec) c.memory.ensures.limits.shape room.words c.args.i c.args.p c.requires.simulator c.requires.process
