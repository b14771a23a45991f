use Rattle.std.proofs.Common.{◌≡◌, ◌∙◌, List, ℕ, Option, rules, ap, subst}
use Rattle.program_io.specs.Errors.{Errors}
use Rattle.program_io.specs.Named.{Writes}
use Rattle.bgview_command_line.specs.CommandLine.{bgview_app, mode_among}
use Rattle.bgview_command_line.specs.declared.words.Mode.{Mode}
use Rattle.bgview.specs.Endings.{Found, IsEnding, done, named_by, refused}
use Rattle.bgview.specs.Said.{IsEndSaid}
use Rattle.bgview.proofs.status.Goals as goal

pub returns-in-Ok-clause-value : goal.returns-in-Ok-clause-value
returns-in-Ok-clause-value g c =
    let writes : Writes = record { before = g.W.Write.contents c.args.writer.now.inner; after = g.W.Write.contents c.end-ended.new.writer.inner } in
    let errors : Errors = record { before = g.E.Write.contents c.args.errors.now.inner; after = g.E.Write.contents c.say_end.new.errors.inner; failed = c.say_end.new.errors.failed } in
    done c.end-ended.result c.end-ended.new.aside.notes c.in-Ok.ensures.kinds
    (subst (λ (found : Found). IsEnding found (named_by (g.I.Inputs.standard_bytes c.args.system.now.inputs.now) (g.I.Inputs.file_bytes c.args.system.now.inputs.now) found) c.end-ended.result c.end-ended.new.aside.notes writes)
    c.in-Ok.ensures.sound c.end-ended.ensures)
    (subst (λ (mode : Mode). IsEndSaid mode c.end-ended.result c.end-ended.new.aside.notes errors) (c.line_in-mode.ensures.command ∙ ap mode_among c.in-Ok.ensures.sound)
    (subst (λ (notes : List ℕ). IsEndSaid c.line_in-mode.result.command c.end-ended.result notes errors) c.as_bytes.ensures c.say_end.ensures))
    c.status.ensures

pub returns-in-Err-clause-value : goal.returns-in-Err-clause-value
returns-in-Err-clause-value g c = refused _ c.words_status.ensures.0 c.in-Err.ensures.kinds (search rules) c.words_status.ensures.1
