use Rattle.std.proofs.Common.{Bool, subst}
use Rattle.room_spec.specs.Blocks.{MayLackAtBy, OrMemory, before_end, body_len}
use Rattle.room_files.specs.Kinds.{room_in_lines, text_in_lines}
use Rattle.room_files.proofs.kinds.read_by.Goals as goal

pub returns-then-reads_reduction : goal.returns-then-reads_reduction
returns-then-reads_reduction c =
    let block = c.args.block.now in
    subst (λ (b : Bool). OrMemory (MayLackAtBy (text_in_lines b) block) c.read_reduction.result (before_end (room_in_lines b) block (body_len block))) c.if-reads_reduction.ensures c.read_reduction.ensures.exact
