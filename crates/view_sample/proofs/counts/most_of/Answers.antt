use Rattle.std.proofs.Common.{ℕ, ◌∙◌, max, ap, sym}
use Rattle.room_sample.specs.Samples.{Counted, counted_of}
use Rattle.view_sample.specs.Counts.{held_in, values_in}
use Rattle.view_sample.proofs.Taking.{most_more}
use Rattle.view_sample.proofs.counts.most_of.Goals as goal

pub loop-index-preserved : goal.loop-index-preserved
loop-index-preserved c =
    let one : Counted = counted_of (c.in-Some.states.now, c.in-Some.field-0-1.now) in
    let values = c.max-values.ensures ∙ ap (λ (n : ℕ). max n c.loop-index.values) (c.values_in.ensures ∙ ap values_in c.as_slice.ensures.value) in
    let held = c.max-held.ensures ∙ ap (λ (n : ℕ). max n c.loop-index.held) (c.held_in.ensures ∙ ap held_in c.as_slice-in-loop-index.ensures.value) in (
      most_more values_in c.args.outcomes.now c.loop-index.index one c.loop-index.values c.max-values.result c.loop-index.invariant.0 (sym c.in-Some.ensures) values,
      most_more held_in c.args.outcomes.now c.loop-index.index one c.loop-index.held c.max-held.result c.loop-index.invariant.1 (sym c.in-Some.ensures) held,
    )
