use Rattle.std.proofs.Common.{◌≡◌, ◌+◌, ◌++◌, [], length, map}
use Rattle.view_sum.specs.Files.{AreNumbered, lines_in}
use Rattle.view_sum.specs.Reading.{read_text}
use Rattle.view_sum.specs.Samples.{sample_of}
use Rattle.view_sum.proofs.reading.read_file.Given as goal

abbrev pub decreases-loop-first : goal.decreases-loop-first
decreases-loop-first l = length l.rest

-- the lines that were read, and those that are left, are the file; the next line has this number
abbrev pub invariant-loop-first : goal.invariant-loop-first
invariant-loop-first l =
    (read_text l.reading ++ l.rest ≡ l.fn.file)
    × AreNumbered [] (map sample_of l.reading.parts.items) (map (λ part. part.line) l.reading.parts.items)
    × (l.line ≡ lines_in (read_text l.reading) + 1)
