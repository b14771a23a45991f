use Rattle.std.proofs.Common.{◌≡◌, ℕ, ◌-◌, ◌∷◌, ◌++◌, codes, decimal, subst}
use Rattle.std.specs.Prelude.{OnOk}
use Rattle.step_words.specs.Pieces.{between}
use Rattle.step_words.proofs.Behind.{put_behind}
use Rattle.step_words.proofs.sight.write_withdrawn.Goals as goal

pub returns : goal.returns
returns c =
    let last = subst (λ (n : ℕ). OnOk c.write_between.result (c.write_between.new.output ≡ c.put_spaced_number.new.self ++ between (codes " to") n (codes ": withdrawn"))) c.saturating_sub-lower.ensures c.write_between.ensures in
    put_behind c.write_between.result c.args.output.now c.put_spaced_number.new.self c.write_between.new.output (32 ∷ decimal c.args.level) (between (codes " to") (c.args.level - 1) (codes ": withdrawn")) c.in_ok-put_spaced_number.ensures.text last
