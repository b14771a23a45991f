use Rattle.std.proofs.Common.{◌∙◌, ℕ, sym, ap}
use Rattle.transcript.specs.declared.event.Event.TheVariants.{Write}
use Rattle.history_checker.proofs.room.Room.follow.Goals as goal

pub returns-in-Write-clause-processed : goal.returns-in-Write-clause-processed
returns-in-Write-clause-processed c = λ fed one event line stands.
    c.follow_write.ensures.processed fed one (event ∙ c.in-Write.is ∙ ap (λ (p : ℕ). Write p c.in-Write.v) (sym c.from.ensures)) line stands
