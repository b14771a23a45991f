use Rattle.std.proofs.Common.{◌≡◌, ◌∙◌, true, Option, Some, None, ap}
use Rattle.std.specs.Prelude.{IsSomeAnd}
use Rattle.clap.specs.Words.{Rule, new_rule}
use Rattle.clap.specs.Walk.{rule_of}
use Rattle.clap.specs.declared.builder.range.ValueRange.{ValueRange}
use Rattle.bgview_command_line.proofs.command_line.many_values.Goals as goal

some_is : (found : Option ValueRange) (range : ValueRange) → IsSomeAnd found (λ r. r ≡ range) → found ≡ Some range
some_is None range is = absurd is
some_is (Some r) range is = ap Some is

pub returns-clause-rule : goal.returns-clause-rule
returns-clause-rule c =
    let arg = c.num_args.result in
    let plain : rule_of c.required.result ≡ record (new_rule c.args.name.now) { required = true } =
    ap rule_of c.required.ensures ∙ ap (λ (rule : Rule). record rule { required = true }) (ap rule_of c.help.ensures ∙ c.new.ensures.rule) in
    ap rule_of c.num_args.ensures.0 ∙ ap (λ (r : Rule). record r { range = arg.num_vals }) plain
    ∙ ap (λ (found : Option ValueRange). record (new_rule c.args.name.now) { required = true; range = found }) (some_is arg.num_vals _ c.num_args.ensures.1)
