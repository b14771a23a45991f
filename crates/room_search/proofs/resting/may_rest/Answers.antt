use Rattle.std.proofs.Common.{sym, ap, ◌∙◌, arith}
use Rattle.std.proofs.lemmas.Bool.{true≢false}
use Rattle.room_search.specs.Resting.{waits}
use Rattle.room_search.proofs.resting.may_rest.Goals as goal

pub returns-then-not-may_wait : goal.returns-then-not-may_wait
returns-then-not-may_wait c = λ yes words says rests.
    let spec = c.args.subject.now.spec.now in
    let so = rests c.loop-j.j (omega (arith, c.loop-j-test.true, c.n-j-end.ensures.value)) in
    true≢false (sym so ∙ ap (waits spec words c.loop-j.j) (sym c.goal.ensures) ∙ c.may_wait.ensures c.if-not-may_wait.true words says)
