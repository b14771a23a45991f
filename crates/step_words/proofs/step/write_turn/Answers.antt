use Rattle.std.proofs.Common.{rules}
use Rattle.step_words.specs.Lines.{turn_text, turn_width}
use Rattle.step_words.proofs.Behind.{pad_behind}
use Rattle.step_words.proofs.step.write_turn.Goals as goal

pub returns : goal.returns
returns c = pad_behind c.pad.result c.args.output.now c.write_turn_name.new.output c.pad.new.output (turn_text c.args.step.now c.args.same_turn) turn_width c.in_ok-write_turn_name.ensures (search rules)
