use Rattle.std.proofs.Common.{◌≡◌, ◌≤◌, ◌+◌, length}
use Rattle.std.specs.Option.{option_copied}
use Rattle.room_spec.specs.Texts.{pieces_of, is_space, fields_of}
use Rattle.transcript.specs.Lines.{entries_in}
use Rattle.transcript.proofs.Rows.{with_front}
use Rattle.transcript.proofs.event_line.read_entries.Given as goal

abbrev pub invariant-loop-rest : goal.invariant-loop-rest
invariant-loop-rest l = record {
  room : length l.row.items + length (pieces_of is_space (option_copied l.rest)) ≤ 16;
  so_far : with_front l.row.items (entries_in (pieces_of is_space (option_copied l.rest))) ≡ entries_in (fields_of l.fields);
}

abbrev pub decreases-loop-rest : goal.decreases-loop-rest
decreases-loop-rest l = length (pieces_of is_space (option_copied l.rest))
