use Rattle.std.proofs.Common.{None, ap, slice_index_or}
use Rattle.std.proofs.lemmas.List.{get_or_default}
use Rattle.view_grade.specs.Keeping.{decider_words}
use Rattle.view_grade.proofs.Watching.{number_more}
use Rattle.view_grade.proofs.kept_text.write_deciders.Goals as goal

pub loop-process-preserved : goal.loop-process-preserved
loop-process-preserved c =
    number_more (λ p. decider_words p (slice_index_or c.args.decisions.now p None)) c.args.output.now c.loop-process.output c.write_decider.new.output _ c.loop-process.process c.loop-process.invariant
    c.in_ok-write_decider.ensures
    (ap (decider_words c.loop-process.process) (get_or_default c.args.decisions.now c.loop-process.process _ None c.loop-process-test.true))
