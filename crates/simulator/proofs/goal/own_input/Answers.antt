use Rattle.std.proofs.Common.{◌∙◌, ℕ, Option, ap, sym}
use Rattle.std.specs.Prelude.{unwrap_or}
use Rattle.std.proofs.lemmas.Option.{unwrap_or-slice_get}
use Rattle.simulator.proofs.goal.own_input.Goals as goal

pub returns-in-None : goal.returns-in-None
returns-in-None c = ap (λ (o : Option ℕ). unwrap_or o 0) (sym c.in-None.is ∙ c.own.ensures) ∙ unwrap_or-slice_get c.args.spec.now.own c.args.i 0
