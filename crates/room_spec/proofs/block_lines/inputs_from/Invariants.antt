use Rattle.std.proofs.Common.{◌≡◌, ◌≤◌, true, length}
use Rattle.std.specs.Option.{option_copied}
use Rattle.std.specs.List.{list_all}
use Rattle.room_spec.specs.Texts.{is_space, fields_of, pieces_of}
use Rattle.room_spec.specs.Rooms.{is_value}
use Rattle.room_spec.specs.Blocks.{numbers_of, inputs_of, up_to_values}
use Rattle.room_spec.proofs.Inputs.{outcome}
use Rattle.room_spec.proofs.block_lines.inputs_from.Given as goal

abbrev pub invariant-loop-rest : goal.invariant-loop-rest
invariant-loop-rest l = record {
  few : length l.values.items ≤ l.most;
  values : list_all is_value l.values.items ≡ true;
  so_far : outcome l.most l.fits l.values.items (numbers_of (pieces_of is_space (option_copied l.rest))) ≡ up_to_values l.most (inputs_of (fields_of l.line));
}

abbrev pub decreases-loop-rest : goal.decreases-loop-rest
decreases-loop-rest l = length (pieces_of is_space (option_copied l.rest))
