use Rattle.std.proofs.Common.{◌≡◌, true, take}
use Rattle.std.specs.List.{list_all}
use Rattle.room_spec.specs.Rooms.{is_value}
use Rattle.room_spec.proofs.spec.inputs_in.Given as goal

abbrev pub invariant-loop-i : goal.invariant-loop-i
invariant-loop-i l = record { copied : l.inputs.items ≡ take l.i l.values; small : list_all is_value l.inputs.items ≡ true }
