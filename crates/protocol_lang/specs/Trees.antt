-- What a text of the language says, as a tree.
use Rattle.std.specs.Prelude.{ℕ, Bool, true, false, List}
use Rattle.protocol_lang.specs.declared.tree.Name.{Name}
use Rattle.protocol_lang.specs.declared.tree.Call.{Call}
use Rattle.protocol_lang.specs.declared.tree.Operator.{Operator}
use Rattle.protocol_lang.specs.declared.tree.Operator.TheVariants.{Add, Subtract}
use Rattle.protocol_lang.specs.declared.tree.Comparator.{Comparator}
use Rattle.protocol_lang.specs.declared.tree.Kind.{Kind}

-- ---- expressions

-- whether the operator makes a sum or difference; the others are stronger
abbrev pub is_sum : Operator → Bool
is_sum Add = true
is_sum Subtract = true
is_sum operator = false

-- an expression, with the operands of each operator
pub data Expression : Type 0 where
  Number : (value : ℕ) → Expression
  Named : (name : Name) → Expression
  Calling : (call : Call) (argument : Expression) → Expression
  Operating : (operator : Operator) (left right : Expression) → Expression

-- ---- whole texts, in which an expression is an A

pub record ComparisonOf (A : Type 0) : Type 0 where
  pub left : A
  pub comparator : Comparator
  pub right : A

pub record ActionRuleOf (A : Type 0) : Type 0 where
  pub kind : Kind
  pub value : A

-- its action holds where all of its conditions do
pub record RuleOf (A : Type 0) : Type 0 where
  pub conditions : List (ComparisonOf A)
  pub action_rule : ActionRuleOf A

-- the first value, the rules in order, and the action that holds if no rule does
pub record TreeOf (A : Type 0) : Type 0 where
  pub first : A
  pub rules : List (RuleOf A)
  pub last : ActionRuleOf A

abbrev pub Tree : Type 0
Tree = TreeOf Expression
