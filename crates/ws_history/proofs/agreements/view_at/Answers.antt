use Rattle.std.proofs.Common.{◌-◌, ℕ, List, drop, length, ap, ◌∙◌, arith}
use Rattle.std.proofs.lemmas.List.{length-drop, take_all}
use Rattle.room_spec.specs.Rooms.{processes}
use Rattle.room_spec.specs.Sizes.{sizes_in}
use Rattle.sim_memory.specs.Steps.{row_of, step_in}
use Rattle.sim_memory.proofs.CallerLemmas.{row_same}
use Rattle.room_core.specs.Agreements.{shown_of}
use Rattle.ws_history.specs.Readings.{read_of, view_start}
use Rattle.ws_history.proofs.WordsRead.{view_read}
use Rattle.ws_history.proofs.agreements.view_at.Goals as goal

pub returns-clause-words : goal.returns-clause-words
returns-clause-words c =
    let words = c.words.result.now in
    let start = c.view_start.result in
    take_all (length words - start) (drop start words) (omega (arith, length-drop start words))
    ∙ ap (λ (at : ℕ). drop at words) c.view_start.ensures.value
    ∙ ap (λ (all : List ℕ). drop (view_start c.args.room.now c.args.j c.args.k) all) c.words.ensures.value

pub returns-clause-row : goal.returns-clause-row
unfolding read_of
returns-clause-row c =
    let room = c.args.room.now in
    ap (λ (words : List ℕ). row_of room.spec.simulators (processes room.spec) (step_in (sizes_in room.spec) words)) (returns-clause-words c)
    ∙ row_same room.spec.simulators (processes room.spec) _ _ (view_read (sizes_in room.spec) c.view_start.ensures.limits.shape room.words (shown_of room.spec (read_of room) c.args.j c.args.k) c.args.j c.args.k)
