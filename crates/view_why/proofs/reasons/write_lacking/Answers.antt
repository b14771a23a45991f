use Rattle.std.proofs.Common.{codes}
use Rattle.view_why.specs.Words.{written_words, process_words}
use Rattle.view_why.proofs.Behind.{put_behind}
use Rattle.view_why.proofs.reasons.write_lacking.Goals as goal

pub returns : goal.returns
returns c =
    put_behind c.write_written.result c.args.output.now c.write_of_process.new.output c.write_written.new.output (process_words (codes ", but process") c.args.process (codes " had written ")) (written_words c.args.written c.args.earlier)
    c.in_ok-write_of_process.ensures c.write_written.ensures
