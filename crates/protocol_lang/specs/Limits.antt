-- What keeps a protocol's values at most the greatest.
use Rattle.std.specs.Prelude.{◌≡◌, ◌≤◌, ℕ, Bool, true, ◌&&◌, Option, IfSome, nat_le}
use Rattle.std.specs.List.{list_all}
use Rattle.protocol_lang.specs.Numbers.{greatest}
use Rattle.protocol_lang.specs.Trees.{Expression, Number, Named, Calling, Operating, ComparisonOf, RuleOf, Tree}
use Rattle.protocol_lang.specs.declared.meaning.Action.{Action}
use Rattle.protocol_lang.specs.declared.meaning.Action.TheVariants.{Write, Decide}

-- ---- numerals

abbrev pub is_small : Expression → Bool
is_small (Number value) = nat_le value greatest
is_small (Named name) = true
is_small (Calling function argument) = is_small argument
is_small (Operating operator left right) = is_small left && is_small right

abbrev pub is_small_comparison : ComparisonOf Expression → Bool
is_small_comparison comparison = is_small comparison.left && is_small comparison.right

abbrev pub is_small_rule : RuleOf Expression → Bool
is_small_rule rule = list_all is_small_comparison rule.conditions && is_small rule.action_rule.value

-- each numeral of the tree is at most the greatest value
pub record HasSmallNumerals (tree : Tree) : Type 0 where
  pub first : is_small tree.first ≡ true
  pub rules : list_all is_small_rule tree.rules ≡ true
  pub last : is_small tree.last.value ≡ true

-- ---- values

-- an entry of a view: nothing, or at most the greatest value
abbrev pub IsEntry : Option ℕ → Type 0
IsEntry entry = IfSome entry (λ value. value ≤ greatest)

-- the value that an action writes or decides
abbrev pub action_value : Action → ℕ
action_value (Write value) = value
action_value (Decide value) = value
