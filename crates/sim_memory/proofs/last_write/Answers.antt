use Rattle.std.proofs.Common.{◌≡◌, ◌+◌, ◌∙◌, ℕ, sym, subst, arith}
use Rattle.room_spec.specs.Sizes.{Sizes}
use Rattle.room_spec.specs.Shapes.{sizes_of}
use Rattle.sim_memory.specs.Steps.{IsHolder, step_in}
use Rattle.sim_memory.proofs.Columns.{IsLast, first_alone, kept, passed}
use Rattle.sim_memory.proofs.Greatest.{holder_is, holder_merged}
use Rattle.sim_memory.proofs.last_write.Goals.{then-step-greatest, else-step-greatest}
use Rattle.sim_memory.proofs.last_write.Goals as goal

pub loop-i-init : goal.loop-i-init
loop-i-init c = first_alone (sizes_of c.args.shape.now) c.args.words.now c.args.p _ c.step_of-greatest.ensures.value

pub loop-i-preserved : goal.loop-i-preserved
loop-i-preserved c =
    let sizes : Sizes = sizes_of c.args.shape.now in
    let step = c.step_of-step.ensures.value in
    elim c.if-step-greatest.branch as (λ _. IsLast sizes c.args.words.now c.args.p (c.loop-i.i + 1) c.if-step-greatest.holder c.if-step-greatest.greatest) [
      | then-step-greatest w ↦ let holder = w.holder-is in let greatest = w.greatest-is in rw (holder, greatest) (passed sizes c.args.words.now c.args.p c.loop-i.i _ _ _ c.loop-i.invariant step w.if-step-greatest.true)
      | else-step-greatest w ↦ let holder = w.holder-is in let greatest = w.greatest-is in rw (holder, greatest) (kept sizes c.args.words.now c.args.p c.loop-i.i _ _ _ c.loop-i.invariant step w.if-step-greatest.false)
    ]

pub returns-clause-holder : goal.returns-clause-holder
returns-clause-holder c =
    let all : c.loop-i.i ≡ c.args.shape.now.m = let some = c.args.shape.now.limits.m_range in omega arith in
    let P : ℕ → Type 0 = λ m. IsHolder m (step_in (sizes_of c.args.shape.now) c.args.words.now) c.args.p c.loop-i.holder in
    sym (holder_is c.args.shape.now.m (step_in (sizes_of c.args.shape.now) c.args.words.now) c.args.p c.loop-i.holder (subst P all c.loop-i.invariant.holds))

pub returns-clause-holds : goal.returns-clause-holds
returns-clause-holds c =
    let all : c.loop-i.i ≡ c.args.shape.now.m = let some = c.args.shape.now.limits.m_range in omega arith in
    let P : ℕ → Type 0 = λ m. IsHolder m (step_in (sizes_of c.args.shape.now) c.args.words.now) c.args.p c.loop-i.holder in
    subst P all c.loop-i.invariant.holds

pub returns-clause-merged : goal.returns-clause-merged
returns-clause-merged c =
    let all : c.loop-i.i ≡ c.args.shape.now.m = let some = c.args.shape.now.limits.m_range in omega arith in
    let P : ℕ → Type 0 = λ m. IsHolder m (step_in (sizes_of c.args.shape.now) c.args.words.now) c.args.p c.loop-i.holder in
    c.loop-i.invariant.step ∙ sym (holder_merged c.args.shape.now.m (step_in (sizes_of c.args.shape.now) c.args.words.now) c.args.p c.loop-i.holder (subst P all c.loop-i.invariant.holds))

pub returns-clause-range : goal.returns-clause-range
returns-clause-range c = let step = c.loop-i.invariant.step in omega arith
