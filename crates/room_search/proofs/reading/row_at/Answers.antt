use Rattle.std.proofs.Common.{◌-◌, ℕ, List, drop, length, ap, ◌∙◌, arith}
use Rattle.std.proofs.lemmas.List.{length-drop, take_all}
use Rattle.room_spec.specs.Rooms.{processes}
use Rattle.room_spec.specs.Sizes.{sizes_in}
use Rattle.sim_memory.specs.Steps.{row_of, step_in}
use Rattle.sim_memory.proofs.CallerLemmas.{row_same}
use Rattle.room_core.specs.Agreements.{shown_of}
use Rattle.room_search.specs.Ends.{fields_by}
use Rattle.room_search.proofs.WordsRead.{view_read}
use Rattle.room_search.proofs.reading.row_at.Goals as goal

pub returns-clause-value : goal.returns-clause-value
returns-clause-value c =
    let spec = c.args.subject.now.spec.now in
    let words = c.args.words.now in
    let start = c.view_start.result in
    c.row_of.ensures.value
    ∙ ap (λ (l : List ℕ). row_of spec.simulators (processes spec) (step_in (sizes_in spec) l)) (take_all (length words - start) (drop start words) (omega (arith, length-drop start words)) ∙ ap (λ (at : ℕ). drop at words) c.view_start.ensures.value)
    ∙ row_same spec.simulators (processes spec) _ _ (view_read (sizes_in spec) c.shape-shape.ensures.limits.shape words (shown_of spec (fields_by spec words) c.args.j c.args.k) c.args.j c.args.k)
