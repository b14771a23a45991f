use Rattle.std.proofs.Common.{◌≡◌, ◌++◌, map, slice_index_or}
use Rattle.std.specs.List.{concat, range_with_len}
use Rattle.run_search.specs.declared.ended.Ended.TheVariants.{Stopped}
use Rattle.view_open.specs.Texts.{end_text}
use Rattle.view_open.proofs.text.write_ends.Given as goal

abbrev pub invariant-loop-process : goal.invariant-loop-process
invariant-loop-process l = l.output ≡ l.initial.output ++ concat (map (λ p. end_text p (slice_index_or l.ends p Stopped)) (range_with_len 0 l.process))
