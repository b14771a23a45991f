use Rattle.std.proofs.Common.{◌≡◌, ◌≤◌, ◌∙◌, ℕ, ◌-◌, List, ◌++◌, ap, length, max, replicate, rules, subst, arith}
use Rattle.std.specs.Prelude.{OnOk}
use Rattle.std.proofs.lemmas.List.{take-replicate}
use Rattle.step_words.proofs.pieces.pad.Goals as goal

pub returns : goal.returns
returns c =
    let missing : c.max-missing.result ≡ max (c.args.width - (length c.args.output.now - c.args.from)) 1 = search rules in
    let few : c.max-missing.result ≤ 48 = omega (arith, missing, c.requires.width) in
    subst (λ (more : List ℕ). OnOk c.put.result (c.put.new.self ≡ c.args.output.now ++ more)) (take-replicate c.max-missing.result 48 32 few ∙ ap (λ (n : ℕ). replicate n 32) missing) c.put.ensures.text
