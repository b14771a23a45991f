use Rattle.std.proofs.Common.{◌≡◌, ◌∙◌, ℕ, List, Option, ap, sym, subst, option_map}
use Rattle.clap.specs.Words.{found_of, subcommand_rows_of}
use Rattle.bgsim_command_line.specs.CommandLine.{IsWorkers, workers_among}
use Rattle.bgsim_command_line.specs.declared.words.Mode.TheVariants.{Run}
use Rattle.bgsim_command_line.proofs.FileWords.{file_found, workers_found}
use Rattle.bgsim_command_line.proofs.command_line.line_in.Goals as goal

pub returns-in-Some-clause-file : goal.returns-in-Some-clause-file
returns-in-Some-clause-file c =
    let is : option_map (λ file. file.now) c.with_workers.result.file ≡ option_map (λ file. file.now) c.get_str.result =
    ap (λ line. option_map (λ file. file.now) line.file) c.with_workers.ensures ∙ ap (λ line. option_map (λ file. file.now) line.file) c.of.ensures in
    is ∙ file_found (subcommand_rows_of c.args.matches.now) (found_of c.in-Some.inner.now) _ c.get_str.ensures c.in-Some.ensures.rows

pub returns-in-Some-clause-workers : goal.returns-in-Some-clause-workers
returns-in-Some-clause-workers c = λ run.
    let mode : c.of-mode.result ≡ Run = sym (ap (λ line. line.command) c.with_workers.ensures ∙ ap (λ line. line.command) c.of.ensures) ∙ run in
    let rows = subcommand_rows_of c.args.matches.now in
    subst (λ (workers : ℕ). IsWorkers (workers_among rows) workers) (sym (ap (λ line. line.workers) c.with_workers.ensures))
    (subst (λ (text : Option (List ℕ)). IsWorkers text c.workers_for.result) (workers_found rows (found_of c.in-Some.inner.now) c.in-Some.ensures.rows) (c.workers_for.ensures.run mode))
