use Rattle.std.proofs.Common.{subst, ap, ◌∙◌, arith}
use Rattle.run_search.specs.Nodes.{GoesAlone}
use Rattle.run_search.specs.States.{blank}
use Rattle.std.proofs.lemmas.Option.{get_or_from_slice_get}
use Rattle.std.proofs.lemmas.Option.{slice_get-get_or}
use Rattle.std.proofs.Common.{Some, sym}
use Rattle.run_search.proofs.node.come_from.Goals as goal

pub unreachable-requires : goal.unreachable-requires
unreachable-requires c =
    let come = c.requires.come in
    let read = get_or_from_slice_get c.args.set.now come.1.0 come.0 blank (slice_get-get_or c.args.set.now come.1.0 come.0 come.1.1 ∙ ap Some come.1.2) in
    c.loop-local.invariant come.1.0 (let inside = come.1.1 in omega (arith, inside, c.loop-local-test.false)) come.2
    (subst (λ l. GoesAlone c.args.spec.now c.args.row.now.items c.args.p come.2 l c.args.to) (sym read) come.3)
