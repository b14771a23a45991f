use Rattle.std.proofs.Common.{rules}
use Rattle.step_words.specs.Lines.{operation_width}
use Rattle.step_words.specs.Names.{operation_text}
use Rattle.step_words.proofs.Behind.{pad_behind}
use Rattle.step_words.proofs.step.write_padded_operation.Goals as goal

pub returns : goal.returns
returns c = pad_behind c.pad.result c.args.output.now c.write_operation.new.output c.pad.new.output (operation_text c.args.spec.now c.args.step.now) operation_width c.in_ok-write_operation.ensures (search rules)
