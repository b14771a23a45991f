use Rattle.std.proofs.Common.{arith, ◌∙◌, ℕ, false, ap}
use Rattle.room_spec.specs.Sizes.{Sizes}
use Rattle.room_spec.specs.Shapes.{sizes_of}
use Rattle.room_spec.proofs.CallerLemmas.{are_memory_words}
use Rattle.sim_memory.specs.Steps.{holder_of, merged_of, step_in}
use Rattle.simulator.proofs.snapshot.Snapshot.note.Goals as goal

pub note_last-requires : goal.note_last-requires
note_last-requires c = let few = (are_memory_words (sizes_of c.shape-shape.result) c.shape-shape.result.limits).few in omega (arith, few)

pub invariant_of-self : goal.invariant_of-self
invariant_of-self c =
    let shape = c.shape-shape.result in
    let sized : ℕ → Sizes = λ bits. record { n = shape.n; m = shape.m; bits = bits; rounds = shape.rounds; reduction = false } in
    let words = c.self.inside.words in
    λ p below. (
      c.note_last.ensures.holders p below ∙ ap (λ (bits : ℕ). holder_of shape.m (step_in (sized bits) words) p) shape.limits.width,
      c.note_last.ensures.rounds p below ∙ ap (λ (bits : ℕ). merged_of shape.m (step_in (sized bits) words) p) shape.limits.width,
      (c.note_last.ensures.range p below).0,
      (c.note_last.ensures.range p below).1,
    )
