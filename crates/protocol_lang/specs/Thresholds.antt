-- The protocol by which each process waits for all but f processes, and decides the least value that it sees.
use Rattle.std.specs.Prelude.{ℕ, min, List, [], ◌∷◌, Option, unwrap_or}
use Rattle.std.specs.List.{reduce}
use Rattle.protocol_lang.specs.Meaning.{present}
use Rattle.protocol_lang.specs.Trees.{Expression, Number, Named, Operating, ComparisonOf, ActionRuleOf, Tree}
use Rattle.protocol_lang.specs.declared.tree.Name.TheVariants as names
use Rattle.protocol_lang.specs.declared.tree.Operator.TheVariants as operators
use Rattle.protocol_lang.specs.declared.tree.Comparator.TheVariants as comparators
use Rattle.protocol_lang.specs.declared.tree.Kind.TheVariants as kinds

-- `count >= n - f`
abbrev pub sees_all_but : ℕ → ComparisonOf Expression
sees_all_but f = record { left = Named names.Count; comparator = comparators.GreaterOrEqual; right = Operating operators.Subtract (Named names.N) (Number f) }

-- `decide min`
abbrev pub decides_least : ActionRuleOf Expression
decides_least = record { kind = kinds.Decide; value = Named names.Min }

-- `write mine`
abbrev pub writes_own : ActionRuleOf Expression
writes_own = record { kind = kinds.Write; value = Named names.Mine }

-- `first input; when count >= n - f decide min; else write mine;`
abbrev pub waits_for_all_but : ℕ → Tree
waits_for_all_but f = record {
  first = Named names.Input;
  rules = record { conditions = sees_all_but f ∷ []; action_rule = decides_least } ∷ [];
  last = writes_own;
}

-- the least value of a view
abbrev pub least_of : List (Option ℕ) → ℕ
least_of view = unwrap_or (reduce min (present view)) 0
