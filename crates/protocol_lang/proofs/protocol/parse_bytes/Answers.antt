use Rattle.std.proofs.Common.{Ok, Err}
use Rattle.std.proofs.lemmas.Result.{err_from_is_err_and}
use Rattle.protocol_lang.proofs.Whens.{local}
use Rattle.protocol_lang.proofs.Causes.{first_fault}
use Rattle.protocol_lang.proofs.Sound.{found}
use Rattle.protocol_lang.proofs.Only.{read_as}
use Rattle.protocol_lang.proofs.protocol.parse_bytes.Goals as goal

pub returns-in_err-tree-clause-local : goal.returns-in_err-tree-clause-local
returns-in_err-tree-clause-local c =
    let p = err_from_is_err_and c.from_residual.result c.from_residual.ensures.1 in
    rw (p.1, p.2) (local c.args.text.now (Err c.in_err-tree.field-0.0) c.in_err-tree.ensures)

pub returns-in_err-tree-clause-first : goal.returns-in_err-tree-clause-first
returns-in_err-tree-clause-first c =
    let p = err_from_is_err_and c.from_residual.result c.from_residual.ensures.1 in
    rw (p.1, p.2) (first_fault c.args.text.now (Err c.in_err-tree.field-0.0) c.in_err-tree.ensures)

pub returns-clause-sound : goal.returns-clause-sound
returns-clause-sound c = found c.args.text.now (Ok c.in_ok-tree.tree) c.in_ok-tree.ensures

pub returns-in_err-tree-clause-complete : goal.returns-in_err-tree-clause-complete
returns-in_err-tree-clause-complete c =
    let p = err_from_is_err_and c.from_residual.result c.from_residual.ensures.1 in
    λ tree text. rw (p.1, p.2) (read_as c.args.text.now (Err c.in_err-tree.field-0.0) c.in_err-tree.ensures tree text)

pub returns-clause-complete : goal.returns-clause-complete
returns-clause-complete c = read_as c.args.text.now (Ok c.in_ok-tree.tree) c.in_ok-tree.ensures

pub invariant_of-result : goal.invariant_of-result
invariant_of-result c = (c.args.text.now, found c.args.text.now (Ok c.in_ok-tree.tree) c.in_ok-tree.ensures)
