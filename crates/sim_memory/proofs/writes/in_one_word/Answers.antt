use Rattle.std.proofs.Common.{◌≡◌, ◌*◌, ◌/◌, ◌^◌, ◌∙◌, get_or, ap, sym, arith}
use Rattle.room_spec.specs.Sizes.{Sizes}
use Rattle.room_spec.specs.Shapes.{sizes_of}
use Rattle.sim_memory.proofs.Merging.{all_of, last_more, none_of}
use Rattle.sim_memory.proofs.WholeRows.{next_row, no_more_rows, steps_in_row}
use native.Mathlib.Nat.{div-one}
use Rattle.sim_memory.proofs.writes.in_one_word.Goals as goal

pub loop-i-init : goal.loop-i-init
loop-i-init c =
    let sizes : Sizes = sizes_of c.args.shape.now in
    let limits = c.args.shape.now.limits in
    let none : 0 * sizes.n * c.args.bits ≡ 0 = omega arith in
    let one : sizes.n * c.args.bits ≡ 1 * sizes.n * c.args.bits = omega arith in
    record {
      some = omega arith;
      rest = c.above-rest.ensures ∙ ap (λ k. c.args.word / 2 ^ k) one;
      last = λ words is.
          let steps = steps_in_row sizes words limits c.requires.one c.args.bits 0 c.args.word c.lowest_steps.result c.requires.bits limits.m_range.0 (sym (ap (λ k. get_or words 0 0 / 2 ^ k) none ∙ div-one _ ∙ is)) c.lowest_steps.ensures.own c.lowest_steps.ensures.behind in
          last_more sizes words 0 c.none.result.holders c.none.result.rounds c.lowest_steps.result c.later-last.result.holders c.later-last.result.rounds limits.n_range.1 (none_of sizes words _ _ limits.n_range.1 c.none.ensures.holders c.none.ensures.rounds) steps c.later-last.ensures.holders c.later-last.ensures.rounds;
    }

pub returns-then-rest-eq0 : goal.returns-then-rest-eq0
returns-then-rest-eq0 c words is =
    let sizes : Sizes = sizes_of c.args.shape.now in
    no_more_rows sizes words c.args.shape.now.limits c.requires.one c.args.bits c.loop-i.i c.loop-i.rest c.loop-i.last.holders c.loop-i.last.rounds c.requires.bits (omega arith) (c.loop-i.invariant.rest ∙ sym (ap (λ w. w / 2 ^ (c.loop-i.i * sizes.n * c.args.bits)) is)) c.if-rest-eq0.true (c.loop-i.invariant.last words is)

pub loop-i-preserved : goal.loop-i-preserved
loop-i-preserved c =
    let sizes : Sizes = sizes_of c.args.shape.now in
    let limits = c.args.shape.now.limits in
    record {
      some = omega arith;
      rest = c.above-rest-in-loop-i.ensures ∙ ap (λ w. w / 2 ^ (sizes.n * c.args.bits)) c.loop-i.invariant.rest ∙ next_row c.args.word c.loop-i.i sizes.n c.args.bits;
      last = λ words is.
          let steps = steps_in_row sizes words limits c.requires.one c.args.bits c.loop-i.i c.loop-i.rest c.lowest_steps-in-loop-i.result c.requires.bits c.loop-i-test.true (c.loop-i.invariant.rest ∙ sym (ap (λ w. w / 2 ^ (c.loop-i.i * sizes.n * c.args.bits)) is)) c.lowest_steps-in-loop-i.ensures.own c.lowest_steps-in-loop-i.ensures.behind in
          last_more sizes words c.loop-i.i c.loop-i.last.holders c.loop-i.last.rounds c.lowest_steps-in-loop-i.result c.later-last-in-loop-i.result.holders c.later-last-in-loop-i.result.rounds limits.n_range.1 (c.loop-i.invariant.last words is) steps c.later-last-in-loop-i.ensures.holders c.later-last-in-loop-i.ensures.rounds;
    }

pub returns : goal.returns
returns c words is = all_of (sizes_of c.args.shape.now) words c.loop-i.i _ _ (c.loop-i.auto.i-end c.args.shape.now.limits.m_range.0) c.loop-i-test.false (c.loop-i.invariant.last words is)
