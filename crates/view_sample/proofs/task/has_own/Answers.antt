use Rattle.std.proofs.Common.{◌≡◌, ◌∙◌, ℕ, ◌+◌, suc, Bool, ◌||◌, Option, take, sym, ap, ap₂, arith}
use Rattle.std.proofs.lemmas.List.{take_all}
use Rattle.view_sample.specs.Tasks.{is_this}
use Rattle.view_sample.proofs.OwnInputs.{among, few_own, one_more_own}
use Rattle.view_sample.proofs.task.has_own.Goals as goal

pub loop-i-preserved : goal.loop-i-preserved
loop-i-preserved c =
    let own = c.args.spec.now.own in
    let i = c.loop-i.i in
    let value = c.args.value in
    let next : suc i ≡ i + 1 = omega arith in
    ap₂ (λ (a b : Bool). a || b) c.loop-i.invariant (c.is_this-found.ensures ∙ ap (λ (o : Option ℕ). is_this o value) c.own.ensures) ∙ sym (one_more_own own value i) ∙ ap (λ (n : ℕ). among value (take n own)) next

pub returns : goal.returns
returns c =
    let spec = c.args.spec.now in
    let few = few_own spec.own spec.version spec.inputs spec.simulators c.shape.ensures.limits.own in
    let many = c.m-i-end.ensures.value in
    let done = c.loop-i-test.false in
    c.loop-i.invariant ∙ ap (among c.args.value) (take_all c.loop-i.i spec.own (omega (arith, few, many, done)))
