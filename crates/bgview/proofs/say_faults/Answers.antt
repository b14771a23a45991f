use Rattle.std.proofs.Common.{List, ℕ, None, Some, map, subst}
use Rattle.clap.specs.Words.{found_of, subcommand_rows_of}
use Rattle.bgview.specs.Faults.{AreFaultsSaid}
use Rattle.bgview.proofs.Finding.{codes_found}
use Rattle.bgview.proofs.say_faults.Goals as goal

pub returns-in_default-get_strs : goal.returns-in_default-get_strs
returns-in_default-get_strs g c =
    let text = c.fault_io-in_default-get_strs.ensures.text in
    let are = codes_found (subcommand_rows_of c.args.matches.now) (found_of c.in-Some.inner.now) None c.in_default-get_strs.ensures c.in-Some.ensures.rows in
    (text.0, subst (λ (texts : List (List ℕ)). AreFaultsSaid texts c.fault_io-in_default-get_strs.result text.0) are text.1, text.2)

pub returns : goal.returns
returns g c =
    let text = c.fault_io-2.ensures.text in
    let are =
    codes_found (subcommand_rows_of c.args.matches.now) (found_of c.in-Some.inner.now) (Some (map (λ t. t.now) c.in-Some-get_strs.codes.now)) c.in-Some-get_strs.ensures c.in-Some.ensures.rows in
    (text.0, subst (λ (texts : List (List ℕ)). AreFaultsSaid texts c.fault_io-2.result text.0) are text.1, text.2)
