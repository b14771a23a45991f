use Rattle.std.proofs.Common.{◌+◌, ◌∙◌, ℕ, ap, arith}
use Rattle.level_cells.specs.Fields.{field_of}
use Rattle.level_cells.proofs.FieldLemmas.{added_field, added_others, added_fits}
use Rattle.level_cells.proofs.bits.added.Goals as goal

pub overflow_add-result : goal.overflow_add-result
overflow_add-result c = omega (arith, added_fits 64 c.args.word c.args.at c.args.width c.requires.inside c.ranges.word.fits c.requires.room)

pub returns-clause-field : goal.returns-clause-field
returns-clause-field c =
    ap (λ (one : ℕ). field_of (c.args.word + one) c.args.at c.args.width) c.one_at.ensures.value ∙ added_field c.args.word c.args.at c.args.width c.requires.room

pub returns-clause-others : goal.returns-clause-others
returns-clause-others c = λ other width apart.
    ap (λ (one : ℕ). field_of (c.args.word + one) other width) c.one_at.ensures.value ∙ added_others c.args.word c.args.at c.args.width c.requires.room other width apart
