use Rattle.std.proofs.Common.{◌++◌, codes}
use Rattle.step_words.specs.Pieces.{behind}
use Rattle.step_words.proofs.Behind.{put_behind}
use Rattle.step_words.proofs.step.write_input.Goals as goal

pub returns : goal.returns
returns c =
    let input = behind (codes " has the input") c.args.input in
    let owner = behind (codes " of simulator") c.args.simulator in
    let last = put_behind c.write_number-3.result c.write_number.new.output c.write_number-2.new.output c.write_number-3.new.output input owner c.in_ok-write_number-2.ensures c.write_number-3.ensures in
    put_behind c.write_number-3.result c.args.output.now c.write_number.new.output c.write_number-3.new.output (behind (codes "useful: process") c.args.process) (input ++ owner) c.in_ok-write_number.ensures last
