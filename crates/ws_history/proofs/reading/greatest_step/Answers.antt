use Rattle.std.proofs.Common.{ℕ, List, ap, ◌∙◌}
use Rattle.room_spec.specs.Rooms.{RoomSpec, processes}
use Rattle.room_spec.specs.Sizes.{Sizes, sizes_in}
use Rattle.room_spec.specs.Shapes.{sizes_of}
use Rattle.sim_memory.specs.Steps.{merged_of, step_in}
use Rattle.sim_memory.proofs.CallerLemmas.{merged_same}
use Rattle.ws_history.specs.Readings.{read_of}
use Rattle.ws_history.proofs.WordsRead.{memory_read}
use Rattle.ws_history.proofs.reading.greatest_step.Goals as goal

pub returns-clause-value : goal.returns-clause-value
unfolding read_of
returns-clause-value c =
    let room = c.args.room.now in
    c.merged.ensures.value
    ∙ ap (λ (m : ℕ). merged_of m (step_in (sizes_of c.shape.result) c.memory.result.now) c.args.p) (c.shape.ensures.m ∙ ap (λ (s : RoomSpec). s.simulators) c.spec.ensures.value)
    ∙ ap (λ (sizes : Sizes). merged_of room.spec.simulators (step_in sizes c.memory.result.now) c.args.p) (c.shape.ensures.sizes ∙ ap sizes_in c.spec.ensures.value)
    ∙ ap (λ (words : List ℕ). merged_of room.spec.simulators (step_in (sizes_in room.spec) words) c.args.p) c.memory.ensures.value
    ∙ merged_same room.spec.simulators (processes room.spec) _ _ c.args.p c.requires (memory_read (sizes_in room.spec) c.memory.ensures.limits.shape room.words)
