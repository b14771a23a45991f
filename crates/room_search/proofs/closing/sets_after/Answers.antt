use Rattle.std.proofs.Common.{◌≡◌, ℕ, map, subst, ap, ◌∙◌, arith}
use Rattle.std.proofs.lemmas.List.{map_push}
use Rattle.room_search.specs.Nodes.{AreSetsAfter}
use Rattle.room_search.proofs.Moving.{goes_not, goes_on}
use Rattle.room_search.proofs.Sets.{longer, node_grown, sets_more, sets_none}
use Rattle.room_search.proofs.closing.sets_after.Goals as goal

pub loop-i-init : goal.loop-i-init
loop-i-init c = record {
  on = goes_not c.args.subject.now.spec.now c.args.moves.now c.requires.moves;
  sets = sets_none c.args.subject.now.spec.now c.args.moves.now.table.keys c.args.node.now c.args.arrival.simulator c.args.arrival.number (map (λ set. set.items) c.new-sets.result.items) (ap (map (λ set. set.items)) c.new-sets.ensures.items);
}

pub set_after-requires-clause-moves : goal.set_after-requires-clause-moves
set_after-requires-clause-moves c = c.loop-i.invariant.on.are

pub set_after-requires-clause-node : goal.set_after-requires-clause-node
set_after-requires-clause-node c = node_grown c.args.subject.now.spec.now c.args.moves.now.table.keys c.loop-i.moves.table.keys c.args.node.now c.loop-i.invariant.on.table c.requires.node

pub set_after-requires-clause-said : goal.set_after-requires-clause-said
set_after-requires-clause-said c = let more = longer c.args.moves.now.said.keys c.loop-i.moves.said.keys c.loop-i.invariant.on.said in omega (arith, more, c.requires.said)

pub set_after-requires-clause-number : goal.set_after-requires-clause-number
set_after-requires-clause-number c = let more = longer c.args.moves.now.table.keys c.loop-i.moves.table.keys c.loop-i.invariant.on.table in omega (arith, more, c.requires.number)

pub loop-i-preserved : goal.loop-i-preserved
loop-i-preserved c = record {
  on = goes_on c.args.subject.now.spec.now c.args.moves.now c.loop-i.moves c.set_after.new.moves c.loop-i.invariant.on c.in_ok-set.ensures.moves;
  sets = sets_more c.args.subject.now.spec.now c.loop-i.moves.table.keys c.set_after.new.moves.table.keys c.args.node.now c.args.arrival.simulator c.args.arrival.number c.loop-i.i (map (λ set. set.items) c.loop-i.sets.items) _ c.in_ok-set.set.items
      (ap (map (λ set. set.items)) c.in_ok-push.ensures.items ∙ map_push (λ set. set.items) c.loop-i.sets.items c.in_ok-set.set)
      c.in_ok-set.ensures.moves.table c.in_ok-set.ensures.numbers c.in_ok-set.ensures.own c.in_ok-set.ensures.other c.loop-i.invariant.sets;
}

pub returns-clause-moves : goal.returns-clause-moves
returns-clause-moves c = c.loop-i.invariant.on

pub returns-clause-sets : goal.returns-clause-sets
returns-clause-sets c =
    let all : c.loop-i.i ≡ c.args.subject.now.spec.now.simulators = omega (arith, c.loop-i-test.false, c.loop-i.auto.i-end, c.m-i-end.ensures.value) in
    subst (λ (count : ℕ). AreSetsAfter c.args.subject.now.spec.now c.loop-i.moves.table.keys c.args.node.now c.args.arrival.simulator c.args.arrival.number count (map (λ set. set.items) c.loop-i.sets.items)) all c.loop-i.invariant.sets
