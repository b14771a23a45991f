use Rattle.std.proofs.Common.{◌≡◌, ℕ, ◌++◌, codes, subst}
use Rattle.std.specs.Prelude.{OnOk}
use Rattle.step_words.specs.Pieces.{behind, between}
use Rattle.step_words.proofs.Behind.{put_behind}
use Rattle.step_words.proofs.step.write_proposal.Goals as goal

pub returns : goal.returns
returns c =
    let last = subst (λ (n : ℕ). OnOk c.write_between.result (c.write_between.new.output ≡ c.write_number.new.output ++ between (codes " proposes the input") n (codes " next"))) c.from.ensures c.write_between.ensures in
    put_behind c.write_between.result c.args.output.now c.write_number.new.output c.write_between.new.output (behind (codes "useful: process") c.args.process) (between (codes " proposes the input") c.args.value (codes " next"))
    c.in_ok-write_number.ensures last
