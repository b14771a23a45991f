-- Protocols of which something is certain.
use Rattle.std.specs.Prelude.{Bool, true, false, ◌&&◌, List}
use Rattle.std.specs.List.{list_all}
use Rattle.protocol_lang.specs.Trees.{Expression, RuleOf, Tree}
use Rattle.protocol_lang.specs.declared.tree.Kind.{Kind}
use Rattle.protocol_lang.specs.declared.tree.Kind.TheVariants.{Write, Decide}

-- the same protocol with other rules
abbrev pub with_rules : Tree → List (RuleOf Expression) → Tree
with_rules tree rules = record { first = tree.first; rules = rules; last = tree.last }

abbrev pub is_write : Kind → Bool
is_write Write = true
is_write Decide = false

-- no rule decides, nor does the last action
abbrev pub never_decides : Tree → Bool
never_decides tree = list_all (λ rule. is_write rule.action_rule.kind) tree.rules && is_write tree.last.kind
