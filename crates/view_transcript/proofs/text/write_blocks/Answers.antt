use Rattle.std.proofs.Common.{sym}
use Rattle.view_transcript.proofs.Writing.{block_more}
use Rattle.view_transcript.proofs.text.write_blocks.Goals as goal

pub loop-index-preserved : goal.loop-index-preserved
loop-index-preserved c =
    block_more c.args.service.now c.args.rooms.now.entries c.loop-index.index (c.in-Some.name.now, c.in-Some.kept.now) c.args.output.now c.loop-index.output c.write_block_of.new.output
    c.loop-index.invariant (sym c.in-Some.ensures.entry) c.in_ok-write_block_of.ensures
