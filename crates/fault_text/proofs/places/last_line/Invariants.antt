use Rattle.std.proofs.Common.{◌≡◌, length}
use Rattle.fault_text.specs.Lines.{last_line}
use Rattle.fault_text.proofs.places.last_line.Given as goal

-- the last line is among those that are left
abbrev pub invariant-loop-later : goal.invariant-loop-later
invariant-loop-later l = last_line l.rest ≡ last_line l.text

abbrev pub decreases-loop-later : goal.decreases-loop-later
decreases-loop-later l = length l.rest
