use Rattle.std.proofs.Common.{◌∙◌, ℕ, Ok, sym, ap}
use Rattle.transcript.specs.declared.event.Event.TheVariants.{Write}
use Rattle.history_checker.proofs.SaidLines.{says_write}
use Rattle.history_checker.proofs.room.Room.feed_line.Goals as goal

pub returns-in_ok-v-in-Write-clause-fed : goal.returns-in_ok-v-in-Write-clause-fed
returns-in_ok-v-in-Write-clause-fed c = record {
  event = Write c.from.result c.in_ok-v-in-Write.v;
  said = says_write c.args.line.now c.in_ok-v-in-Write.v (sym c.word.ensures ∙ c.in-Write.is) c.in_ok-v-in-Write.ensures ∙ ap (λ (p : ℕ). Ok (Write p c.in_ok-v-in-Write.v)) (sym (c.from.ensures ∙ c.process.ensures));
  processed = c.feed_write.ensures.processed;
}
