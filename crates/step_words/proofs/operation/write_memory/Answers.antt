use Rattle.std.proofs.Common.{codes}
use Rattle.step_words.specs.Names.{word_text}
use Rattle.step_words.proofs.Behind.{put_behind}
use Rattle.step_words.proofs.operation.write_memory.Goals as goal

pub returns : goal.returns
returns c = put_behind c.write_word.result c.args.output.now c.put.new.self c.write_word.new.output (codes "the step numbers") (word_text c.args.spec.now c.args.word) c.in_ok-put.ensures.text c.write_word.ensures
