use Rattle.std.proofs.Common.{ap, slice_index_or}
use Rattle.std.proofs.lemmas.List.{get_or_default}
use Rattle.run_search.specs.declared.ended.Ended.TheVariants.{Stopped}
use Rattle.report_text.proofs.CallerLemmas.{one_text_more}
use Rattle.view_open.specs.Texts.{end_text}
use Rattle.view_open.proofs.text.write_ends.Goals as goal

pub loop-process-preserved : goal.loop-process-preserved
loop-process-preserved c =
    one_text_more (λ p. end_text p (slice_index_or c.args.ends.now p Stopped)) c.args.output.now c.loop-process.output c.write_end.new.output _ c.loop-process.process c.loop-process.invariant
    c.in_ok-write_end.ensures
    (ap (end_text c.loop-process.process) (get_or_default c.args.ends.now c.loop-process.process _ Stopped c.loop-process-test.true))
