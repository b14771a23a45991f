use Rattle.std.proofs.Common.{◌∙◌}
use Rattle.fault_text.proofs.Passing.{passed_more}
use Rattle.fault_text.proofs.refusals.go_past.Goals as goal

pub returns-else-lines-passed : goal.returns-else-lines-passed
returns-else-lines-passed c = c.lines_after-else-lines-passed.ensures ∙ passed_more c.args.passed c.args.lines c.args.rest.now c.args.input.now c.if-lines-passed.false c.requires
