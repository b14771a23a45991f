use Rattle.std.proofs.Common.{◌-◌, ◌≤◌, length}
use Rattle.protocol_lang.proofs.Onward.{IsAt}
use Rattle.protocol_lang.proofs.parser.read.Given as goal

abbrev pub invariant-loop-parser : goal.invariant-loop-parser
invariant-loop-parser l = IsAt l.text l.from l.parser × (length l.text ≤ 4096)

abbrev pub decreases-loop-parser : goal.decreases-loop-parser
decreases-loop-parser l = length l.text - l.from
