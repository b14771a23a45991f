use Rattle.std.proofs.Common.{◌≡◌, ◌+◌, ◌-◌, ◌/◌, ◌^◌, ◌∙◌, ap, arith}
use Rattle.std.proofs.lemmas.Nat.{shr-shr}
use Rattle.sim_memory.proofs.writes.above.Goals as goal

pub returns : goal.returns
returns c =
    let e : c.args.width - 1 + 1 ≡ c.args.width = omega arith in
    shr-shr c.args.word (c.args.width - 1) 1 ∙ ap (λ k. c.args.word / 2 ^ k) e
