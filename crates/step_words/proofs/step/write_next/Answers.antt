use Rattle.std.proofs.Common.{codes, rules}
use Rattle.step_words.specs.Pieces.{behind, between}
use Rattle.step_words.proofs.Behind.{put_behind}
use Rattle.step_words.proofs.step.write_next.Goals as goal

pub returns : goal.returns
returns c =
    put_behind c.write_between.result c.args.output.now c.write_number.new.output c.write_between.new.output (behind (codes "useful: process") c.args.process) (between (codes " writes") c.args.value (codes " next"))
    c.in_ok-write_number.ensures (search rules)
