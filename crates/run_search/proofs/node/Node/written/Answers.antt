use Rattle.std.proofs.Common.{List, Some, None, length, get_or, sym, subst, ap, ◌∙◌, arith}
use Rattle.run_search.specs.declared.local_state.LocalState.{LocalState}
use Rattle.run_search.specs.Nodes.{Moves}
use Rattle.run_search.specs.States.{blank}
use Rattle.run_search.proofs.Closing.{moved_within}
use Rattle.run_search.proofs.Gathering.{local_read, moved_read, none_written, within_read}
use Rattle.run_search.proofs.node.Node.written.Goals as goal

pub moved-requires-clause-rounds : goal.moved-requires-clause-rounds
moved-requires-clause-rounds c =
    let is = c.set.ensures in
    let long = ap (λ (l : List LocalState). length l) is in
    within_read c.args.spec.now c.args.self.now c.args.place.process c.args.place.index c.set.result.now c.requires.whole c.requires.process is (omega (arith, long, c.requires.there))

pub returns-then-not-changes-clause-changes : goal.returns-then-not-changes-clause-changes
returns-then-not-changes-clause-changes c = λ local there next changes.
    let here = local_read c.args.self.now c.args.place.process c.args.place.index c.set.result.now local c.set.ensures there in
    changes.other
    (c.if-not-changes.ensures c.args.spec.now c.args.self.now.row c.args.place.process next (subst (λ (l : LocalState). Moves c.args.spec.now c.args.self.now.row c.args.place.process l next) (sym here) changes.moves)
    ∙ ap (λ (l : LocalState). l.last) here)

pub returns-in_default-clause-changes : goal.returns-in_default-clause-changes
returns-in_default-clause-changes c = λ local there.
    let is = c.set.ensures in
    none_written c.args.spec.now c.args.self.now c.args.place.process local
    (moved_read c.args.spec.now c.row.result.now.items c.args.self.now c.args.place.process c.args.place.index c.set.result.now local None c.row.ensures is there c.in_default.ensures)

pub returns-clause-changes : goal.returns-clause-changes
returns-clause-changes c = λ local there.
    let is = c.set.ensures in
    let here = local_read c.args.self.now c.args.place.process c.args.place.index c.set.result.now local is there in
    record {
      moves = sym (moved_read c.args.spec.now c.row.result.now.items c.args.self.now c.args.place.process c.args.place.index c.set.result.now local (Some c.in-Some.new) c.row.ensures is there c.in-Some.ensures);
      other = λ same. c.if-not-changes.ensures c.args.spec.now c.row.result.now.items c.args.place.process c.in-Some.new (sym c.in-Some.ensures) (same ∙ ap (λ (l : LocalState). l.last) (sym here));
    }

pub returns-clause-rounds : goal.returns-clause-rounds
returns-clause-rounds c =
    let is = c.set.ensures in
    let long = ap (λ (l : List LocalState). length l) is in
    moved_within c.args.spec.now c.row.result.now.items c.args.place.process (get_or c.set.result.now c.args.place.index blank) c.in-Some.new
    (within_read c.args.spec.now c.args.self.now c.args.place.process c.args.place.index c.set.result.now c.requires.whole c.requires.process is (omega (arith, long, c.requires.there))) (sym c.in-Some.ensures)
