use Rattle.std.proofs.Common.{◌≡◌, ◌≤◌, ◌<◌, ◌∙◌, ℕ, List, length, take, get_or, sym, ap, subst, arith}
use Rattle.std.proofs.lemmas.List.{get_or-take, length-take-le}
use Rattle.std.proofs.lemmas.List.FromFn.{fill_by_all}
use Rattle.room_spec.specs.Rooms.{processes}
use Rattle.room_spec.specs.Sizes.{Sizes, sizes_in}
use Rattle.room_spec.specs.Shapes.{sizes_of}
use Rattle.sim_memory.specs.Steps.{merged_of, step_in}
use Rattle.room_search.proofs.Ranges.{row_low}
use Rattle.room_search.proofs.reading.row_of.Goals as goal

pub returns-clause-value : goal.returns-clause-value
returns-clause-value c =
    let spec = c.args.subject.now.spec.now in
    let words = c.args.words.now in
    let n = processes spec in
    let rounds = c.last_writes-last.result.rounds in
    let fits : n ≤ length rounds = omega arith in
    let entry : (p : ℕ) → p < n → get_or (take n rounds) p 0 ≡ merged_of spec.simulators (step_in (sizes_in spec) words) p =
    λ p below. get_or-take n rounds p 0 below
    ∙ c.last_writes-last.ensures.rounds p (omega (arith, c.shape.ensures.n, below))
    ∙ ap (λ (m : ℕ). merged_of m (step_in (sizes_of c.shape.result) words) p) c.shape.ensures.m
    ∙ ap (λ (sizes : Sizes). merged_of spec.simulators (step_in sizes words) p) c.shape.ensures.sizes in
    c.truncate.ensures.items
    ∙ ap (λ (l : List ℕ). take c.n.result l) c.from-row.ensures.0
    ∙ ap (λ (k : ℕ). take k rounds) c.n.ensures.value
    ∙ fill_by_all (λ (p : ℕ). merged_of spec.simulators (step_in (sizes_in spec) words) p) (take n rounds) n 0 (length-take-le n rounds fits) entry

pub returns-clause-range : goal.returns-clause-range
returns-clause-range c =
    let spec = c.args.subject.now.spec.now in
    let words = c.args.words.now in
    let low = row_low (sizes_in spec) words in
    λ p. subst (λ (l : List ℕ). get_or l p 0 ≤ spec.rounds) (sym (returns-clause-value c)) (low p)
