use Rattle.std.proofs.lemmas.Nat.{one_shl}
use Rattle.std.proofs.Common.{◌∙◌, ℕ, ap}
use Rattle.level_cells.specs.Fields.{field_of}
use Rattle.level_cells.proofs.FieldLemmas.{one_alone}
use Rattle.level_cells.proofs.bits.one_at.Goals as goal

pub returns-clause-alone : goal.returns-clause-alone
returns-clause-alone c = λ other width apart.
    ap (λ (word : ℕ). field_of word other width) (one_shl c.args.at 64 c.requires) ∙ one_alone c.args.at other width apart
