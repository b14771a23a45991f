-- Two protocols and their printed texts.
use Rattle.std.proofs.Common.{arith, ◌≡◌, [], ◌∷◌, refl}
use Rattle.std.specs.Prelude.{codes}
use Rattle.std.proofs.lemmas.Fmt.{decimal_digit}
use Rattle.protocol_lang.specs.Trees.{Number, Named, Operating, Tree}
use Rattle.protocol_lang.specs.Printing.{printed}
use Rattle.protocol_lang.specs.declared.tree.Name.TheVariants.{Input, Id, N, Mine, Count, Min}
use Rattle.protocol_lang.specs.declared.tree.Operator.TheVariants.{Add, Subtract, Multiply}
use Rattle.protocol_lang.specs.declared.tree.Comparator.TheVariants.{Equal, GreaterOrEqual}
use Rattle.protocol_lang.specs.declared.tree.Kind.TheVariants.{Write, Decide}

abbrev two_action_rules : Tree
two_action_rules = record { first = Named Input; rules = []; last = record { kind = Decide; value = Named Min } }

two_action_rules_printed : printed two_action_rules ≡ codes "first input;else decide min;"
two_action_rules_printed = refl

abbrev whole : Tree
whole = record {
  first = Operating Subtract (Operating Multiply (Operating Add (Named Input) (Number 1)) (Number 2)) (Operating Subtract (Number 3) (Named Id));
  rules = record {
    conditions = record { left = Named Count; comparator = GreaterOrEqual; right = Operating Subtract (Named N) (Number 1) } ∷ record { left = Named Mine; comparator = Equal; right = Number 0 } ∷ [];
    action_rule = record { kind = Decide; value = Named Min };
  } ∷ [];
  last = record { kind = Write; value = Named Mine };
}

whole_printed : printed whole ≡ codes "first(input+1)*2-(3-id);when count>=n-1and mine==0decide min;else write mine;"
whole_printed = rw (decimal_digit 0 (omega arith), decimal_digit 1 (omega arith), decimal_digit 2 (omega arith), decimal_digit 3 (omega arith)) refl
