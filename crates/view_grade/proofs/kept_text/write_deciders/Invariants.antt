use Rattle.std.proofs.Common.{◌≡◌, ◌++◌, None, map, slice_index_or}
use Rattle.std.specs.List.{concat, range_with_len}
use Rattle.view_grade.specs.Keeping.{decider_words}
use Rattle.view_grade.proofs.kept_text.write_deciders.Given as goal

abbrev pub invariant-loop-process : goal.invariant-loop-process
invariant-loop-process l = l.output ≡ l.initial.output ++ concat (map (λ p. decider_words p (slice_index_or l.decisions p None)) (range_with_len 0 l.process))
