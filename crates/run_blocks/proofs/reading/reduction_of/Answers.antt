use Rattle.room_spec.specs.Blocks.{reduction_block_in}
use Rattle.run_blocks.proofs.ReadingBlocks.{or_said}
use Rattle.run_blocks.proofs.RoomBlocks.{reduction_is}
use Rattle.run_blocks.proofs.reading.reduction_of.Goals as goal

pub returns-in-Ok-clause-says : goal.returns-in-Ok-clause-says
returns-in-Ok-clause-says c =
    let block = c.args.block.now in
    (reduction_is block c.requires.0 c.in-Ok.spec c.in-Ok.field-0-1 c.requires.1 (or_said _ c.in-Ok.spec c.in-Ok.field-0-1 (reduction_block_in block) c.in-Ok.ensures.exact) c.in-Ok.ensures.sound).0

pub returns-in-Ok-clause-block : goal.returns-in-Ok-clause-block
returns-in-Ok-clause-block c =
    let block = c.args.block.now in
    (reduction_is block c.requires.0 c.in-Ok.spec c.in-Ok.field-0-1 c.requires.1 (or_said _ c.in-Ok.spec c.in-Ok.field-0-1 (reduction_block_in block) c.in-Ok.ensures.exact) c.in-Ok.ensures.sound).1
