use Rattle.std.proofs.Common.{◌≤◌, length, map, take, List, ap, arith, rules, subst, sym}
use Rattle.room_sample.specs.Shown.{AreShown, shown_of}
use Rattle.room_sample.specs.declared.examples.Example.{Example}
use Rattle.room_sample.proofs.ShownOutcomes.{shows_all, shows_so_far}
use Rattle.room_sample.proofs.examples.examples_of.Goals as goal

pub returns-in-Err-clause-shown : goal.returns-in-Err-clause-shown
returns-in-Err-clause-shown c =
    let few : c.loop-index.index ≤ length c.args.outcomes.now = search (arith, rules) in
    subst (λ (items : List Example). AreShown c.args.showing.now.spec.now c.args.showing.now.plan.now.crashes c.args.showing.now.scripts (take (length items) c.args.outcomes.now) (map shown_of items)) (sym c.in-Err.ensures.err)
    (shows_so_far c.args.showing.now.spec.now c.args.showing.now.plan.now.crashes c.args.showing.now.scripts c.args.outcomes.now c.loop-index.index c.loop-index.made.examples.items c.loop-index.invariant few)

pub returns-in-Err-clause-few : goal.returns-in-Err-clause-few
returns-in-Err-clause-few c =
    let few : c.loop-index.index ≤ length c.args.outcomes.now = search (arith, rules) in
    let all = shows_all c.args.showing.now.spec.now c.args.showing.now.plan.now.crashes c.args.showing.now.scripts c.args.outcomes.now c.loop-index.index c.loop-index.made.examples.items c.loop-index.invariant few in
    let same = ap (λ (items : List Example). length items) c.in-Err.ensures.err in
    let less = c.loop-index-test.true in
    let most = c.min-index-end.ensures in
    let count = c.len.ensures in
    omega (arith, all, same, less, most, count)

pub returns-clause-shown : goal.returns-clause-shown
returns-clause-shown c =
    let few : c.loop-index.index ≤ length c.args.outcomes.now = search (arith, rules) in
    shows_so_far c.args.showing.now.spec.now c.args.showing.now.plan.now.crashes c.args.showing.now.scripts c.args.outcomes.now c.loop-index.index c.loop-index.made.examples.items c.loop-index.invariant few

pub returns-clause-few : goal.returns-clause-few
returns-clause-few c =
    let few : c.loop-index.index ≤ length c.args.outcomes.now = search (arith, rules) in
    let all = shows_all c.args.showing.now.spec.now c.args.showing.now.plan.now.crashes c.args.showing.now.scripts c.args.outcomes.now c.loop-index.index c.loop-index.made.examples.items c.loop-index.invariant few in
    let most = c.min-index-end.ensures in
    let count = c.len.ensures in
    let end = c.loop-index.auto.index-end in
    omega (arith, all, most, count, end)

pub returns-clause-whole : goal.returns-clause-whole
returns-clause-whole c =
    let few : c.loop-index.index ≤ length c.args.outcomes.now = search (arith, rules) in
    let all = shows_all c.args.showing.now.spec.now c.args.showing.now.plan.now.crashes c.args.showing.now.scripts c.args.outcomes.now c.loop-index.index c.loop-index.made.examples.items c.loop-index.invariant few in
    let most = c.min-index-end.ensures in
    let count = c.len.ensures in
    let end = c.loop-index.auto.index-end in
    let last = c.loop-index-test.false in
    omega (arith, all, most, count, end, last)
