use Rattle.std.proofs.Common.{◌≡◌, ◌≤◌, ◌<◌, ℕ, subst, arith}
use Rattle.std.proofs.lemmas.Result.{err_from_is_err_and}
use Rattle.room_spec.specs.Rooms.{processes}
use Rattle.run_search.specs.Agreed.{agreed_count, AreAgreed}
use Rattle.run_search.specs.Limits.{AreTooMany}
use Rattle.run_search.proofs.Agreements.{agreed_more, agreed_of, complete, nodes_more, sound, too_many}
use Rattle.run_search.proofs.reduction.search_reduction.Goals as goal

pub returns-in_err-agreed-clause-beyond : goal.returns-in_err-agreed-clause-beyond
returns-in_err-agreed-clause-beyond g c =
    let within : c.loop-index.index < agreed_count c.args.spec.now = omega (arith, c.loop-index-test.true, c.count_agreed-index-end.ensures) in
    let p = err_from_is_err_and c.from_residual-in_err-agreed.result c.from_residual-in_err-agreed.ensures.1 in
    rw (p.1, p.2)
    (λ is. too_many c.args.spec.now c.args.crashes c.loop-index.index c.loop-index.left c.args.limit c.loop-index.all.items within c.loop-index.invariant.agreed c.loop-index.invariant.left
    (subst (λ room. AreTooMany room c.loop-index.left) c.in_ok-room.ensures (c.in_err-agreed.ensures.beyond is)))

pub loop-index-preserved : goal.loop-index-preserved
loop-index-preserved g c =
    let own = c.in_ok-agreed.ensures in
    let one = agreed_of c.args.spec.now c.args.crashes c.loop-index.index c.in_ok-agreed.agreed c.in_ok-room.room own.room c.in_ok-room.ensures own.complete own.sound own.nodes own.found in
    record {
      agreed = rw c.in_ok-push.ensures.items (agreed_more c.args.spec.now c.args.crashes c.loop-index.index c.loop-index.all.items c.in_ok-agreed.agreed c.loop-index.invariant.agreed one);
      left = rw c.in_ok-push.ensures.items (omega (arith, nodes_more c.loop-index.all.items c.in_ok-agreed.agreed, c.nodes.ensures, own.few, c.loop-index.invariant.left));
    }

pub returns-clause-complete : goal.returns-clause-complete
returns-clause-complete g c =
    let some : 1 ≤ processes c.args.spec.now = omega (arith, c.n.ensures.value, c.n.ensures.range.0) in
    let all : c.loop-index.index ≡ agreed_count c.args.spec.now = omega (arith, c.loop-index-test.false, c.count_agreed-index-end.ensures, c.loop-index.auto.index-end) in
    complete c.args.spec.now c.args.crashes c.loop-index.all.items some (subst (λ (n : ℕ). AreAgreed c.args.spec.now c.args.crashes n c.loop-index.all.items) all c.loop-index.invariant.agreed)

pub returns-clause-sound : goal.returns-clause-sound
returns-clause-sound g c =
    let some : 1 ≤ processes c.args.spec.now = omega (arith, c.n.ensures.value, c.n.ensures.range.0) in
    let all : c.loop-index.index ≡ agreed_count c.args.spec.now = omega (arith, c.loop-index-test.false, c.count_agreed-index-end.ensures, c.loop-index.auto.index-end) in
    sound c.args.spec.now c.args.crashes c.loop-index.all.items some (subst (λ (n : ℕ). AreAgreed c.args.spec.now c.args.crashes n c.loop-index.all.items) all c.loop-index.invariant.agreed)
