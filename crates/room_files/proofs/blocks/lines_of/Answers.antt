use Rattle.std.proofs.Common.{ℕ, ◌≤◌, length, subst, sym}
use Rattle.room_files.proofs.BlockEnds.{few_lines, lines_counted}
use Rattle.room_files.proofs.blocks.lines_of.Goals as goal

pub returns-clause-value : goal.returns-clause-value
returns-clause-value c = sym (lines_counted c.args.block.now c.lines.result c.lines.ensures.whole c.lines.ensures.lines)

pub returns-clause-within : goal.returns-clause-within
returns-clause-within c =
    subst (λ (n : ℕ). n ≤ length c.args.block.now) (lines_counted c.args.block.now c.lines.result c.lines.ensures.whole c.lines.ensures.lines) (few_lines c.args.block.now)
