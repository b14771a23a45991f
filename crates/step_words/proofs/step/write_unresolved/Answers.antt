use Rattle.std.proofs.Common.{codes, rules}
use Rattle.step_words.specs.Pieces.{behind, between}
use Rattle.step_words.proofs.Behind.{put_behind}
use Rattle.step_words.proofs.step.write_unresolved.Goals as goal

pub returns : goal.returns
returns c =
    put_behind c.write_between.result c.args.output.now c.write_number.new.output c.write_between.new.output (behind (codes "quiet: the agreement of process") c.args.process) (between (codes ", round") c.args.round (codes " is not resolved"))
    c.in_ok-write_number.ensures (search rules)
