use Rattle.std.proofs.Common.{codes}
use Rattle.view_why.specs.Words.{entry_words, process_words}
use Rattle.view_why.proofs.Behind.{put_behind}
use Rattle.view_why.proofs.reasons.write_shown.Goals as goal

pub returns : goal.returns
returns c =
    put_behind c.write_entry.result c.args.output.now c.write_of_process.new.output c.write_entry.new.output (process_words (codes "entry") c.args.process (codes " of the snapshot is ")) (entry_words c.args.shown)
    c.in_ok-write_of_process.ensures c.write_entry.ensures
