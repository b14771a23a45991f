use Rattle.std.proofs.Common.{ℕ, List, length, sym, ◌∙◌, subst, arith}
use Rattle.std.proofs.lemmas.Option.{same_Some}
use Rattle.room_core.specs.Calls.{configuration_of}
use Rattle.room_search.specs.Steps.{AreWords}
use Rattle.room_search.specs.Taking.{AreFoundFrom, IsTaken}
use Rattle.room_search.proofs.Noting.{never_taken}
use Rattle.room_search.proofs.Searching.{node_lent}
use Rattle.room_search.proofs.taking.Taking.take.Goals as goal

pub take_from-requires-clause-node : goal.take_from-requires-clause-node
take_from-requires-clause-node c =
    let source = c.args.source.now in
    let explored = source.explored.now in
    let node = c.in-Some.node.now in
    let here = node_lent source.subject.now.spec.now explored.moves.table.keys explored.nodes.items c.deref.result.now c.args.index node c.requires.searched.nodes c.deref.ensures.value c.in-Some.ensures.lookup.0 c.in-Some.ensures.lookup.1 in
    c.requires.searched.nodes c.args.index node here

pub take_from-requires-clause-said : goal.take_from-requires-clause-said
take_from-requires-clause-said c = subst (AreWords c.args.source.now.subject.now.spec.now) (sym c.in_ok-none.ensures.said) (take_from-requires-clause-node c).words

pub returns-clause-taken : goal.returns-clause-taken
returns-clause-taken c = λ yes node there.
    let source = c.args.source.now in
    let spec = source.subject.now.spec.now in
    let start = configuration_of source.subject.now.start.now in
    let explored = source.explored.now in
    let table = explored.moves.table.keys in
    let one = c.in-Some.node.now in
    let none = c.in_ok-none.none in
    let outcomes = c.take_from.new.self.outcomes.items in
    let here = node_lent spec table explored.nodes.items c.deref.result.now c.args.index one c.requires.searched.nodes c.deref.ensures.value c.in-Some.ensures.lookup.0 c.in-Some.ensures.lookup.1 in
    let first = c.in_ok-none.ensures.numbers in
    let found = c.in_ok-all.ensures.taken yes spec.simulators (omega (arith, first)) in
    subst (IsTaken spec start source.crashes table outcomes) (same_Some one node (sym here ∙ there))
    (subst (λ (k : ℕ). AreFoundFrom spec start table outcomes one k spec.simulators source.crashes one.said) first
    (subst (λ (left : ℕ). AreFoundFrom spec start table outcomes one (length none.numbers.items) spec.simulators left one.said) c.in_ok-none.ensures.left
    (subst (λ (said : List ℕ). AreFoundFrom spec start table outcomes one (length none.numbers.items) spec.simulators none.left said) c.in_ok-none.ensures.said found)))

pub fewest_crashed-requires-clause-node : goal.fewest_crashed-requires-clause-node
fewest_crashed-requires-clause-node c =
    let source = c.args.source.now in
    let explored = source.explored.now in
    let node = c.in-Some.node.now in
    let here = node_lent source.subject.now.spec.now explored.moves.table.keys explored.nodes.items c.deref.result.now c.args.index node c.requires.searched.nodes c.deref.ensures.value c.in-Some.ensures.lookup.0 c.in-Some.ensures.lookup.1 in
    c.requires.searched.nodes c.args.index node here

pub returns-then-fewest_crashed-source-clause-taken : goal.returns-then-fewest_crashed-source-clause-taken
returns-then-fewest_crashed-source-clause-taken c = λ yes node there.
    let source = c.args.source.now in
    let spec = source.subject.now.spec.now in
    let start = configuration_of source.subject.now.start.now in
    let explored = source.explored.now in
    let table = explored.moves.table.keys in
    let one = c.in-Some.node.now in
    let outcomes = c.args.self.now.outcomes.items in
    let here = node_lent spec table explored.nodes.items c.deref.result.now c.args.index one c.requires.searched.nodes c.deref.ensures.value c.in-Some.ensures.lookup.0 c.in-Some.ensures.lookup.1 in
    subst (IsTaken spec start source.crashes table outcomes) (same_Some one node (sym here ∙ there))
    (never_taken spec start source.crashes table outcomes one c.fewest_crashed.result c.fewest_crashed.ensures (omega (arith, c.if-fewest_crashed-source.true)))
