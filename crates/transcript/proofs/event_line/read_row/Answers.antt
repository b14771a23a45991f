use Rattle.std.proofs.Common.{arith}
use Rattle.std.proofs.lemmas.List.Splits.{length-slice_split}
use Rattle.room_spec.specs.Texts.{is_space}
use Rattle.transcript.proofs.Rows.{row_long, row_short}
use Rattle.transcript.proofs.event_line.read_row.Goals as goal

pub returns-then-spaces-ge-MAX_PROCESSES : goal.returns-then-spaces-ge-MAX_PROCESSES
returns-then-spaces-ge-MAX_PROCESSES c = row_long c.args.fields.now (omega (arith, c.spaces.ensures))

pub read_entries-requires : goal.read_entries-requires
read_entries-requires c = omega (arith, c.spaces.ensures, length-slice_split is_space c.args.fields.now)

pub returns : goal.returns
returns c = rw (row_short c.args.fields.now (omega (arith, c.spaces.ensures))) c.read_entries.ensures
