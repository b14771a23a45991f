use Rattle.std.proofs.Common.{rules}
use Rattle.step_words.specs.Sights.{entry_text, shown_in}
use Rattle.step_words.proofs.Behind.{one_text_more}
use Rattle.step_words.proofs.sight.write_counts.Goals as goal

pub loop-process-preserved : goal.loop-process-preserved
loop-process-preserved c =
    one_text_more (λ process. entry_text (shown_in c.args.spec.now c.args.words.now process)) c.args.output.now c.loop-process.output c.write_entry.new.output c.loop-process.process c.loop-process.invariant (search rules)
