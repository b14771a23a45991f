use Rattle.std.proofs.Common.{ℕ, ◌+◌, ◌/◌, ◌≤◌, subst, sym, arith}
use Rattle.room_spec.specs.Sizes.{Sizes}
use Rattle.room_spec.specs.Shapes.{sizes_of}
use Rattle.sim_memory.proofs.Merging.{last_more}
use Rattle.sim_memory.proofs.WholeRows.{BeginsAt, begins_in_next, begins_in_same, few_bits, next_within, steps_from_row, word_within}
use Rattle.sim_memory.proofs.writes.in_words.Goals as goal
use Rattle.sim_memory.proofs.writes.in_words.Goals.{then-first-fields, else-first-fields}

pub row_at-row-requires-clause-within : goal.row_at-row-requires-clause-within
row_at-row-requires-clause-within c =
    let inside = word_within (sizes_of c.args.shape.now) c.args.words.now c.args.shape.now.limits c.args.bits c.loop-i.i c.loop-i.word c.loop-i.first c.requires.bits c.loop-i-test.true (record { place = c.loop-i.invariant.place; inside = c.loop-i.invariant.inside }) in
    omega (arith, inside, c.requires.words)

pub row_at-row-requires-clause-next : goal.row_at-row-requires-clause-next
row_at-row-requires-clause-next c more =
    let inside = next_within (sizes_of c.args.shape.now) c.args.words.now c.args.shape.now.limits c.args.bits c.loop-i.i c.loop-i.word c.loop-i.first c.requires.bits c.loop-i-test.true (record { place = c.loop-i.invariant.place; inside = c.loop-i.invariant.inside }) more in
    omega (arith, inside, c.requires.words)

pub loop-i-preserved : goal.loop-i-preserved
loop-i-preserved c =
    let sizes : Sizes = sizes_of c.args.shape.now in
    let limits = c.args.shape.now.limits in
    let begins : BeginsAt sizes c.args.bits c.loop-i.i c.loop-i.word c.loop-i.first = record { place = c.loop-i.invariant.place; inside = c.loop-i.invariant.inside } in
    let steps = steps_from_row sizes c.args.words.now limits c.args.bits c.loop-i.i c.loop-i.word c.loop-i.first c.row_at-row.result c.lowest_steps.result c.requires.bits begins (record { own = c.row_at-row.ensures.own; next = c.row_at-row.ensures.next }) c.lowest_steps.ensures.own c.lowest_steps.ensures.behind in
    let few : sizes.n ≤ 64 / c.args.bits = subst (λ (b : ℕ). sizes.n ≤ 64 / b) (sym c.requires.bits) (omega (arith, (few_bits sizes limits).2, limits.n_range.1)) in
    let next : BeginsAt sizes c.args.bits (c.loop-i.i + 1) c.if-first-fields.word c.if-first-fields.first = elim c.if-first-fields.branch as (λ _. BeginsAt sizes c.args.bits (c.loop-i.i + 1) c.if-first-fields.word c.if-first-fields.first) [
      | then-first-fields w ↦
          subst (λ (v : ℕ). BeginsAt sizes c.args.bits (c.loop-i.i + 1) v c.if-first-fields.first) (sym w.word-is)
          (subst (λ (f : ℕ). BeginsAt sizes c.args.bits (c.loop-i.i + 1) (c.loop-i.word + 1) f) (sym w.first-is) (begins_in_next sizes c.args.bits c.loop-i.i c.loop-i.word c.loop-i.first few begins w.if-first-fields.true))
      | else-first-fields w ↦
          subst (λ (v : ℕ). BeginsAt sizes c.args.bits (c.loop-i.i + 1) v c.if-first-fields.first) (sym w.word-is)
          (subst (λ (f : ℕ). BeginsAt sizes c.args.bits (c.loop-i.i + 1) c.loop-i.word f) (sym w.first-is) (begins_in_same sizes c.args.bits c.loop-i.i c.loop-i.word c.loop-i.first begins w.if-first-fields.false))
    ] in
    record {
      place = next.place;
      inside = next.inside;
      few = elim c.if-first-fields.branch as (λ _. c.if-first-fields.word ≤ c.loop-i.i + 1) [
        | then-first-fields w ↦ omega (arith, w.word-is, c.loop-i.invariant.few)
        | else-first-fields w ↦ omega (arith, w.word-is, c.loop-i.invariant.few)
      ];
      last = last_more sizes c.args.words.now c.loop-i.i c.loop-i.last.holders c.loop-i.last.rounds c.lowest_steps.result c.later-last.result.holders c.later-last.result.rounds limits.n_range.1 c.loop-i.invariant.last steps c.later-last.ensures.holders c.later-last.ensures.rounds;
    }
