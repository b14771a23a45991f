use Rattle.std.proofs.Common.{ℕ, List, ap, ◌∙◌}
use Rattle.room_spec.specs.Rooms.{RoomSpec, processes}
use Rattle.room_spec.specs.Sizes.{sizes_in}
use Rattle.sim_memory.specs.Steps.{row_of, step_in}
use Rattle.sim_memory.proofs.CallerLemmas.{row_same}
use Rattle.ws_history.specs.Readings.{read_of}
use Rattle.ws_history.proofs.WordsRead.{memory_read}
use Rattle.ws_history.proofs.reading.greatest_steps.Goals as goal

pub returns-clause-value : goal.returns-clause-value
unfolding read_of
returns-clause-value c =
    let room = c.args.room.now in
    c.row_of.ensures.value
    ∙ ap (λ (s : RoomSpec). row_of s.simulators (processes s) (step_in (sizes_in s) c.memory.result.now)) c.spec.ensures.value
    ∙ ap (λ (words : List ℕ). row_of room.spec.simulators (processes room.spec) (step_in (sizes_in room.spec) words)) c.memory.ensures.value
    ∙ row_same room.spec.simulators (processes room.spec) _ _ (memory_read (sizes_in room.spec) c.memory.ensures.limits.shape room.words)
