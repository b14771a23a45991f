use Rattle.std.proofs.Common.{List, ℕ, None, Some, map, subst}
use Rattle.clap.specs.Words.{found_of, subcommand_rows_of}
use Rattle.program_io.specs.Named.{Writes}
use Rattle.bgview.specs.Endings.{IsSumDone}
use Rattle.bgview.specs.Sums.{inputs_of}
use Rattle.bgview.proofs.Finding.{files_found}
use Rattle.bgview.proofs.sum_files.Goals as goal

pub returns-in_default-get_strs : goal.returns-in_default-get_strs
returns-in_default-get_strs g c =
    let done = c.sum_named-in_default-get_strs in
    let writes : Writes = record { before = g.W.Write.contents c.args.writer.now.inner; after = g.W.Write.contents done.new.writer.inner } in
    let are = files_found (subcommand_rows_of c.args.matches.now) (found_of c.in-Some.inner.now) None c.in_default-get_strs.ensures c.in-Some.ensures.rows in
    subst (λ (names : List (List ℕ)). IsSumDone c.args.form.now names (inputs_of (g.I.Inputs.standard_bytes c.args.system.now.inputs.now) (g.I.Inputs.file_bytes c.args.system.now.inputs.now) names) done.result done.new.aside.notes writes)
    are done.ensures

pub returns : goal.returns
returns g c =
    let done = c.sum_named-2 in
    let writes : Writes = record { before = g.W.Write.contents c.args.writer.now.inner; after = g.W.Write.contents done.new.writer.inner } in
    let are =
    files_found (subcommand_rows_of c.args.matches.now) (found_of c.in-Some.inner.now) (Some (map (λ t. t.now) c.in-Some-get_strs.names.now)) c.in-Some-get_strs.ensures c.in-Some.ensures.rows in
    subst (λ (names : List (List ℕ)). IsSumDone c.args.form.now names (inputs_of (g.I.Inputs.standard_bytes c.args.system.now.inputs.now) (g.I.Inputs.file_bytes c.args.system.now.inputs.now) names) done.result done.new.aside.notes writes)
    are done.ensures
