use Rattle.std.proofs.Common.{◌≡◌, sym, subst}
use Rattle.std.specs.Prelude.{Result, codes}
use Rattle.program_io.specs.Errors.{fault_line}
use Rattle.program_io.proofs.CallerLemmas.{said_if}
use Rattle.room_files.specs.declared.outcome.Outcome.{Outcome}
use Rattle.bgsim_console.specs.Said.{IsEndSaid, fault_words}
use Rattle.bgsim_console.specs.declared.fault.IoFault.{IoFault}
use Rattle.bgsim_console.proofs.said.say_end.Goals as goal

pub returns-in-Err : goal.returns-in-Err
returns-in-Err g c =
    subst
    (λ (ending : Result Outcome IoFault). IsEndSaid ending (record { before = g.E.Write.contents c.args.errors.now.inner; after = g.E.Write.contents c.say_fault.new.errors.inner; failed = c.say_fault.new.errors.failed }))
    (sym c.in-Err.is)
    (said_if c.say_fault.result _ _ (fault_line (codes "bgsim: ") (fault_words c.in-Err.fault)) _ _ c.requires c.say_fault.ensures.failed c.say_fault.ensures.said)
