use Rattle.std.proofs.Common.{◌≡◌, ◌++◌, length}
use Rattle.std.specs.List.{flat_map}
use Rattle.picture_shapes.specs.Attributes.{escaped_byte}
use Rattle.picture_shapes.proofs.attributes.write_escaped.Given as goal

-- with what is left, all of the words
abbrev pub invariant-loop-byte : goal.invariant-loop-byte
invariant-loop-byte l = l.output ++ flat_map escaped_byte l.rest ≡ l.initial.output ++ flat_map escaped_byte l.words

abbrev pub decreases-loop-byte : goal.decreases-loop-byte
decreases-loop-byte l = length l.rest
