use Rattle.std.proofs.Common.{◌≡◌, length}
use Rattle.std.specs.Option.{option_copied}
use Rattle.room_spec.specs.Texts.{pieces_of}
use Rattle.input_vectors.specs.Values.{is_comma, values_from, values_in}
use Rattle.input_vectors.proofs.values.read_values.Given as goal

abbrev pub invariant-loop-rest : goal.invariant-loop-rest
invariant-loop-rest l = values_from l.values.items (pieces_of is_comma (option_copied l.rest)) ≡ values_in l.text

abbrev pub decreases-loop-rest : goal.decreases-loop-rest
decreases-loop-rest l = length (pieces_of is_comma (option_copied l.rest))
