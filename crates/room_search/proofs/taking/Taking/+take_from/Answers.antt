use Rattle.std.proofs.Common.{◌≡◌, ◌+◌, ℕ, List, length, ap, subst, arith}
use Rattle.std.specs.Prelude.{IfSome, MatchOption, Option}
use Rattle.room_core.specs.Calls.{configuration_of}
use Rattle.room_search.specs.declared.choice.Choice.{Choice}
use Rattle.room_search.specs.Taking.{AreFoundFrom, IsChosen, IsNoChoice}
use Rattle.room_search.proofs.Alike.{before_alike, before_first, before_more, before_none}
use Rattle.room_search.proofs.Noting.{from_all, from_none}
use Rattle.room_search.proofs.taking.Taking.+take_from.Goals as goal

pub returns-then-is_whole-clause-taken : goal.returns-then-is_whole-clause-taken
returns-then-is_whole-clause-taken t c = λ yes count sum.
    let source = c.args.source.now in
    let spec = source.subject.now.spec.now in
    let start = configuration_of source.subject.now.start.now in
    let table = source.explored.now.moves.table.keys in
    let choice = c.args.choice.now in
    let first = length choice.numbers.items in
    let outcomes = c.take_one.new.self.outcomes.items in
    let none : 0 ≡ count = omega (arith, sum, c.if-is_whole.ensures) in
    subst (λ (k : ℕ). AreFoundFrom spec start table outcomes c.args.node.now first k choice.left choice.said.items) none
    (from_none spec start table outcomes c.args.node.now first choice.left choice.said.items (c.in_ok-found.ensures.taken yes))

pub returns-clause-taken : goal.returns-clause-taken
returns-clause-taken t c = λ yes count sum.
    let source = c.args.source.now in
    let spec = source.subject.now.spec.now in
    let start = configuration_of source.subject.now.start.now in
    let choice = c.args.choice.now in
    from_all spec start source.explored.now.moves.table.keys c.loop-place.self.outcomes.items c.args.node.now (length choice.numbers.items) count choice.left choice.said.items (λ none. c.if-is_whole.ensures (omega (arith, sum, none)))
    (λ rest is place below.
    let long = ap (λ (l : List ℕ). length l) c.next_set-place-end.ensures in
    (c.loop-place.invariant.found yes rest (omega (arith, sum, is))).each place (omega (arith, below, long, c.loop-place-test.false)))

pub loop-place-preserved : goal.loop-place-preserved
loop-place-preserved t c =
    let source = c.args.source.now in
    let spec = source.subject.now.spec.now in
    let start = configuration_of source.subject.now.start.now in
    let table = source.explored.now.moves.table.keys in
    let choice = c.args.choice.now in
    let node = c.args.node.now in
    let before = c.loop-place.invariant in
    let next = c.in-Some.next in
    record {
      taking = c.in_ok-found-2.ensures.taking;
      grown = λ one there. c.in_ok-found-2.ensures.grown one (before.grown one there);
      found = λ yes count sum.
          let both = c.are_both-all.ensures yes in
          let long : length next.numbers.items ≡ length choice.numbers.items + 1 = subst (λ (o : Option Choice). IfSome o (λ one. length one.numbers.items ≡ length choice.numbers.items + 1)) c.in-Some.is c.in_ok-chosen.ensures.count in
          before_more spec start table c.loop-place.self.outcomes.items c.take_from.new.self.outcomes.items node choice next c.in_ok-premise.premise count c.loop-place.before.keys c.add.new.premises.keys c.loop-place.place
          c.in_ok-found-2.ensures.grown (record { said = c.in_ok-premise.ensures.said; left = c.in_ok-premise.ensures.left }) c.in_ok-add.ensures
          (λ local is. subst (λ (o : Option Choice). MatchOption o (IsNoChoice spec start node local choice) (IsChosen spec start node local choice)) c.in-Some.is (c.in_ok-chosen.ensures.chosen local is)) long
          (c.in_ok-found-2.ensures.taken both.1 count (omega (arith, long, sum))) (before.found both.0 count sum);
    }

pub loop-place-init : goal.loop-place-init
loop-place-init t c =
    let source = c.args.source.now in
    record {
      taking = c.requires.taking;
      grown = λ one there. there;
      found = λ yes count sum. before_first source.subject.now.spec.now (configuration_of source.subject.now.start.now) source.explored.now.moves.table.keys c.args.self.now.outcomes.items c.args.node.now c.args.choice.now count c.new-before.result.keys c.new-before.ensures.empty;
    }

pub loop-place-preserved-in_default : goal.loop-place-preserved-in_default
loop-place-preserved-in_default t c =
    let source = c.args.source.now in
    let spec = source.subject.now.spec.now in
    let start = configuration_of source.subject.now.start.now in
    let choice = c.args.choice.now in
    let node = c.args.node.now in
    let before = c.loop-place.invariant in
    record {
      taking = before.taking;
      grown = before.grown;
      found = λ yes count sum. before_none spec start source.explored.now.moves.table.keys c.loop-place.self.outcomes.items node choice count c.loop-place.before.keys c.loop-place.place
          (λ local is. subst (λ (o : Option Choice). MatchOption o (IsNoChoice spec start node local choice) (IsChosen spec start node local choice)) c.in_default.is (c.in_ok-chosen.ensures.chosen local is)) (before.found yes count sum);
    }

pub loop-place-preserved-then-has : goal.loop-place-preserved-then-has
loop-place-preserved-then-has t c =
    let source = c.args.source.now in
    let spec = source.subject.now.spec.now in
    let start = configuration_of source.subject.now.start.now in
    let choice = c.args.choice.now in
    let node = c.args.node.now in
    let before = c.loop-place.invariant in
    record {
      taking = before.taking;
      grown = before.grown;
      found = λ yes count sum. before_alike spec start source.explored.now.moves.table.keys c.loop-place.self.outcomes.items node choice c.in-Some.next c.in_ok-premise.premise count c.loop-place.before.keys c.loop-place.place
          (record { said = c.in_ok-premise.ensures.said; left = c.in_ok-premise.ensures.left }) (c.has.ensures c.if-has.true)
          (λ local is. subst (λ (o : Option Choice). MatchOption o (IsNoChoice spec start node local choice) (IsChosen spec start node local choice)) c.in-Some.is (c.in_ok-chosen.ensures.chosen local is)) (before.found yes count sum);
    }
