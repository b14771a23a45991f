use Rattle.view_transcript.specs.Transcripts.{IsBlockFrom}
use Rattle.room_files.specs.BlockLists.{whole_block}
use Rattle.view_transcript.proofs.Writing.{HaveWritten}
use Rattle.view_transcript.proofs.text.write_blocks.Given as goal

abbrev pub invariant-loop-index : goal.invariant-loop-index
invariant-loop-index l = HaveWritten (IsBlockFrom l.service) whole_block l.rooms.entries l.index l.initial.output l.output
