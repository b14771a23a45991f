-- What stands before the expression that is being read.
use Rattle.std.proofs.Common.{arith, ◌≡◌, ◌+◌, ◌<◌, ◌≤◌, true, false, List, [], ◌∷◌, ◌++◌, length, Result, Ok, refl, sym, subst}
use Rattle.std.specs.List.{flat_map, list_all}
use Rattle.std.proofs.lemmas.List.{append-nil}
use Rattle.protocol_lang.specs.Trees.{ComparisonOf, RuleOf}
use Rattle.protocol_lang.specs.Grammar.{Written, call_word, comparator_symbol, kind_word, expression_tokens, conditions_tokens, rule_tokens, tree_tokens, is_expression, needs_no_view, is_comparison, is_rule, IsFormed}
use Rattle.protocol_lang.specs.Reading.{State, outermost, opening, is_first, begun, tree_read}
use Rattle.protocol_lang.specs.declared.token.Token.{Token}
use Rattle.protocol_lang.specs.declared.token.Token.TheVariants as tokens
use Rattle.protocol_lang.specs.declared.token.Word.{Word}
use Rattle.protocol_lang.specs.declared.token.Word.TheVariants as words
use Rattle.protocol_lang.specs.declared.token.Symbol.TheVariants as symbols
use Rattle.protocol_lang.specs.declared.state.Expected.{Expected}
use Rattle.protocol_lang.specs.declared.state.Expected.TheVariants as next
use Rattle.protocol_lang.specs.declared.state.Part.{Part}
use Rattle.protocol_lang.specs.declared.state.Part.TheVariants as parts
use Rattle.protocol_lang.specs.declared.state.Level.{Level}
use Rattle.protocol_lang.specs.declared.state.Refusal.{Refusal}
use Rattle.protocol_lang.specs.declared.tree.Operator.{Operator}
use Rattle.protocol_lang.proofs.Carrying.{writings}
use Rattle.protocol_lang.proofs.Holding.{SumWaits, ProductWaits, Outer, Wanting, Having}

-- ---- what stands before the expression that is being read

abbrev pub begun_tokens : Written → List (RuleOf Written) → List Token
begun_tokens first rules = tokens.Word words.First ∷ (expression_tokens first ++ tokens.Symbol symbols.Semicolon ∷ flat_map rule_tokens rules)

-- the conditions, and what leads to the next one
abbrev pub conditions_open : List (ComparisonOf Written) → List Token
conditions_open [] = tokens.Word words.When ∷ []
conditions_open (comparison ∷ more) = conditions_tokens words.When (comparison ∷ more) ++ tokens.Word words.And ∷ []

abbrev pub header : Part → Written → List (RuleOf Written) → List (ComparisonOf Written) → Written → List Token
header parts.First first rules conditions left = tokens.Word words.First ∷ []
header parts.Left first rules conditions left = begun_tokens first rules ++ conditions_open conditions
header (parts.Right comparator) first rules conditions left = begun_tokens first rules ++ (conditions_open conditions ++ (expression_tokens left ++ tokens.Symbol (comparator_symbol comparator) ∷ []))
header (parts.ActionRule kind) first rules conditions left = begun_tokens first rules ++ (conditions_tokens words.When conditions ++ tokens.Word (kind_word kind) ∷ [])
header (parts.Last kind) first rules conditions left = begun_tokens first rules ++ (tokens.Word words.Else ∷ tokens.Word (kind_word kind) ∷ [])

pub record Past (first : Written) (rules : List (RuleOf Written)) : Type 0 where
  pub first_is : is_expression first ≡ true
  pub view : needs_no_view first ≡ true
  pub rules_are : list_all is_rule rules ≡ true
  pub most : length rules ≤ 32

abbrev pub Progress : Part → Written → List (RuleOf Written) → List (ComparisonOf Written) → Written → Type 0
Progress parts.First first rules conditions left = (rules ≡ []) × (conditions ≡ [])
Progress parts.Left first rules conditions left = Past first rules × (length rules < 32) × (list_all is_comparison conditions ≡ true) × (length conditions ≤ 7)
Progress (parts.Right comparator) first rules conditions left = Past first rules × (length rules < 32) × (list_all is_comparison conditions ≡ true) × (length conditions ≤ 7) × (is_expression left ≡ true)
Progress (parts.ActionRule kind) first rules conditions left = Past first rules × (length rules < 32) × (list_all is_comparison conditions ≡ true) × (1 ≤ length conditions) × (length conditions ≤ 8)
Progress (parts.Last kind) first rules conditions left = Past first rules

pub record Between (s : State Written) : Type 0 where
  pub past : Past s.first s.rules
  pub none_open : s.outer ≡ []
  pub level_is : s.level ≡ outermost
  pub none_waits : s.stack ≡ []
  pub no_conditions : s.conditions ≡ []

-- ---- what was read, wherever reading stands

abbrev pub HoldsAt : Expected → State Written → List Token → Type 0
HoldsAt next.First s all = (s ≡ opening writings) × (all ≡ [])
HoldsAt next.Operand s all = Wanting s (header s.part s.first s.rules s.conditions s.left) all × Progress s.part s.first s.rules s.conditions s.left
HoldsAt (next.Open function) s all =
    (before : List Token) × (all ≡ before ++ tokens.Word (call_word function) ∷ []) × Wanting s (header s.part s.first s.rules s.conditions s.left) before × Progress s.part s.first s.rules s.conditions s.left × (is_first s.part ≡ false)
HoldsAt next.Operator s all = Having s (header s.part s.first s.rules s.conditions s.left) all × Progress s.part s.first s.rules s.conditions s.left
HoldsAt next.Rule s all = (all ≡ begun_tokens s.first s.rules) × Between s
HoldsAt next.Last s all = (all ≡ begun_tokens s.first s.rules ++ tokens.Word words.Else ∷ []) × Between s
HoldsAt next.End s all = (all ≡ tree_tokens (tree_read writings s)) × IsFormed (tree_read writings s)

abbrev pub Holds : State Written → List Token → Type 0
Holds s all = HoldsAt s.expected s all

abbrev pub done_with : State Written → Result (State Written) Refusal
done_with s = Ok s

done_is : (x y : State Written) → done_with x ≡ done_with y → x ≡ y
done_is x y e = cc

pub holds_as : (x s : State Written) (all : List Token) → done_with x ≡ done_with s → Holds x all → Holds s all
holds_as x s all e holds = subst (λ t. Holds t all) (done_is x s e) holds

-- a state that has just begun an expression
pub fresh : (s : State Written) (head : List Token) → s.outer ≡ [] → s.level ≡ outermost → s.stack ≡ [] → Wanting s head head
fresh s head none level stack = record {
  top = [];
  below = [];
  rest = [];
  sum_tokens = [];
  product_tokens = [];
  outer_tokens = head;
  sums = subst (λ (l : Level). SumWaits s.part (length s.outer) l.sum [] []) (sym level) (refl, refl);
  products = subst (λ (l : Level). ProductWaits s.part (length s.outer) l.product [] []) (sym level) (refl, refl);
  outer = subst (λ o. Outer s.part head o s.level.opener [] head) (sym none) (refl, refl);
  stack_is = stack;
  tokens_are = sym (append-nil head);
  room = rw none (omega arith);
}
