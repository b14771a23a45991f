use Rattle.std.proofs.Common.{◌≡◌, ℕ, arith, subst}
use Rattle.room_core.specs.Calls.{configuration_of}
use Rattle.room_search.specs.Taking.{HaveCrashed}
use Rattle.room_search.proofs.Noting.{have_crashed_more}
use Rattle.room_search.proofs.choice.fewest_crashed.Goals as goal

pub loop-i-preserved : goal.loop-i-preserved
loop-i-preserved c =
    let source = c.args.source.now in
    let before = c.loop-i.invariant in
    let one = c.one_unless-count.ensures in
    let few = before.few in
    record {
      least = have_crashed_more source.subject.now.spec.now (configuration_of source.subject.now.start.now) source.explored.now.moves.table.keys c.args.node.now c.loop-i.i c.loop-i.count c.one_unless-count.result c.is_alive_in.result c.is_alive_in.ensures one.none one.few before.least;
      few = let most = one.few in omega (arith, few, most);
    }

pub returns : goal.returns
returns c =
    let source = c.args.source.now in
    let spec = source.subject.now.spec.now in
    let all : c.loop-i.i ≡ spec.simulators = omega (arith, c.loop-i-test.false, c.m-i-end.ensures.value, c.loop-i.auto.i-end) in
    subst (λ (k : ℕ). HaveCrashed spec (configuration_of source.subject.now.start.now) source.explored.now.moves.table.keys c.args.node.now k c.loop-i.count) all c.loop-i.invariant.least
