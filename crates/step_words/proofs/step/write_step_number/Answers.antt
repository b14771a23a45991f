use Rattle.std.proofs.Common.{decimal, rules}
use Rattle.step_words.specs.Lines.{number_width}
use Rattle.step_words.proofs.Behind.{pad_behind}
use Rattle.step_words.proofs.step.write_step_number.Goals as goal

pub returns : goal.returns
returns c = pad_behind c.pad.result c.args.output.now c.write_digits.new.output c.pad.new.output (decimal c.args.number) number_width c.in_ok-write_digits.ensures (search rules)
