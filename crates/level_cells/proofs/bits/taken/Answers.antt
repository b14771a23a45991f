use Rattle.std.proofs.Common.{◌-◌, ◌∙◌, ℕ, ap}
use Rattle.level_cells.specs.Fields.{field_of}
use Rattle.level_cells.proofs.FieldLemmas.{taken_field, taken_others}
use Rattle.level_cells.proofs.bits.taken.Goals as goal

pub returns-clause-field : goal.returns-clause-field
returns-clause-field c =
    ap (λ (one : ℕ). field_of (c.args.word - one) c.args.at c.args.width) c.one_at.ensures.value ∙ taken_field c.args.word c.args.at c.args.width c.requires.some

pub returns-clause-others : goal.returns-clause-others
returns-clause-others c = λ other width apart.
    ap (λ (one : ℕ). field_of (c.args.word - one) other width) c.one_at.ensures.value ∙ taken_others c.args.word c.args.at c.args.width c.requires.some other width apart
