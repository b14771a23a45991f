use Rattle.std.proofs.Common.{◌≡◌, ◌++◌, sym, subst}
use Rattle.std.specs.Prelude.{Result, codes}
use Rattle.program_io.specs.Errors.{fault_line}
use Rattle.program_io.proofs.CallerLemmas.{said_if}
use Rattle.room_files.specs.declared.outcome.Outcome.{Outcome}
use Rattle.bgview.specs.Said.{IsEndOf, fault_words, unread_text}
use Rattle.bgview.specs.declared.fault.ViewFault.{ViewFault}
use Rattle.bgview.proofs.said.say_end.Goals as goal

pub returns-in-Err : goal.returns-in-Err
returns-in-Err g c =
    subst
    (λ (ending : Result Outcome ViewFault). IsEndOf c.args.mode ending c.args.ended.now.unread c.args.notes.now (record { before = g.E.Write.contents c.args.errors.now.inner; after = g.E.Write.contents c.say_failure.new.errors.inner; failed = c.say_failure.new.errors.failed }))
    (sym c.in-Err.is)
    (said_if c.say_failure.result _ _ (fault_line (codes "bgview: ") (fault_words c.in-Err.fault) ++ (c.args.notes.now ++ unread_text c.args.ended.now.unread)) _ _ c.requires c.say_failure.ensures.failed c.say_failure.ensures.said)
