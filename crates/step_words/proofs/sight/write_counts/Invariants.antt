use Rattle.std.proofs.Common.{◌≡◌, ◌++◌, map}
use Rattle.std.specs.List.{concat, range_with_len}
use Rattle.step_words.specs.Sights.{entry_text, shown_in}
use Rattle.step_words.proofs.sight.write_counts.Given as goal

abbrev pub invariant-loop-process : goal.invariant-loop-process
invariant-loop-process l = l.output ≡ l.initial.output ++ concat (map (λ process. entry_text (shown_in l.spec l.words process)) (range_with_len 0 l.process))
