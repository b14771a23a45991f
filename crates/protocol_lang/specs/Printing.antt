-- How a protocol is printed: the shortest text that says it.
use Rattle.std.specs.Prelude.{ℕ, Bool, true, false, not, ◌&&◌, ◌||◌, List, [], ◌∷◌, ◌++◌, map, if◌then◌else◌}
use Rattle.std.specs.Fmt.{decimal}
use Rattle.protocol_lang.specs.Tokens.{word_spelling, symbol_spelling}
use Rattle.protocol_lang.specs.Trees as trees
use Rattle.protocol_lang.specs.Trees.{Expression, is_sum, ComparisonOf, ActionRuleOf, RuleOf, TreeOf, Tree}
use Rattle.protocol_lang.specs.Formulas.{Operands}
use Rattle.protocol_lang.specs.Grammar.{Written, Number, Named, Calling, Operating, Group, is_term, is_factor, word_for, call_word, operator_symbol, enclosed_tokens, tree_tokens}
use Rattle.protocol_lang.specs.declared.token.Token.{Token}
use Rattle.protocol_lang.specs.declared.token.Token.TheVariants as tokens
use Rattle.protocol_lang.specs.declared.tree.Operator.{Operator}

-- ---- parentheses where the grammar needs them, and nowhere else

abbrev pub grouped_unless : Bool → Written → Written
grouped_unless true written = written
grouped_unless false written = Group written

-- a product takes no sum on its left without parentheses
abbrev pub stands_left : Operator → Bool → Bool
stands_left operator term = is_sum operator || term

-- and on its right no product; a sum takes no sum on its right
abbrev pub stands_right : Operator → Bool → Bool → Bool
stands_right operator term factor = if is_sum operator then term else factor

abbrev pub on_left : Operator → Written → Written
on_left operator written = grouped_unless (stands_left operator (is_term written)) written

abbrev pub on_right : Operator → Written → Written
on_right operator written = grouped_unless (stands_right operator (is_term written) (is_factor written)) written

abbrev pub shortest : Expression → Written
shortest (trees.Number value) = Number value
shortest (trees.Named name) = Named name
shortest (trees.Calling function argument) = Calling function (shortest argument)
shortest (trees.Operating operator left right) = Operating operator (on_left operator (shortest left)) (on_right operator (shortest right))

abbrev pub shortest_comparison : ComparisonOf Expression → ComparisonOf Written
shortest_comparison comparison = record { left = shortest comparison.left; comparator = comparison.comparator; right = shortest comparison.right }

abbrev pub shortest_action_rule : ActionRuleOf Expression → ActionRuleOf Written
shortest_action_rule action_rule = record { kind = action_rule.kind; value = shortest action_rule.value }

abbrev pub shortest_rule : RuleOf Expression → RuleOf Written
shortest_rule rule = record { conditions = map shortest_comparison rule.conditions; action_rule = shortest_action_rule rule.action_rule }

abbrev pub shortest_tree : Tree → TreeOf Written
shortest_tree tree = record { first = shortest tree.first; rules = map shortest_rule tree.rules; last = shortest_action_rule tree.last }

-- ---- the bytes

abbrev pub is_word : Token → Bool
is_word (tokens.Word word) = true
is_word token = false

abbrev pub spelling : Token → List ℕ
spelling (tokens.Word word) = word_spelling word
spelling (tokens.Number number) = decimal number
spelling (tokens.Symbol symbol) = symbol_spelling symbol
spelling tokens.End = []

-- one space between two words, and nothing between other tokens
abbrev pub gap : Bool → Token → List ℕ
gap behind_word token = if behind_word && is_word token then 32 ∷ [] else []

-- the bytes of tokens, after a word or after something else
abbrev pub spelled_behind : Bool → List Token → List ℕ
spelled_behind behind_word [] = []
spelled_behind behind_word (token ∷ more) = gap behind_word token ++ (spelling token ++ spelled_behind (is_word token) more)

abbrev pub printed : Tree → List ℕ
printed tree = spelled_behind false (tree_tokens (shortest_tree tree))

-- ---- an expression's tokens, made of those of its parts

-- the tokens, and where they may be without parentheses
pub record Piece : Type 0 where
  pub tokens : List Token
  pub is_term : Bool
  pub is_factor : Bool

abbrev pub enclosed_unless : Bool → List Token → List Token
enclosed_unless true inner = inner
enclosed_unless false inner = enclosed_tokens inner

abbrev pub factor : List Token → Piece
factor all = record { tokens = all; is_term = true; is_factor = true }

abbrev pub joined : Operator → Piece → Piece → Piece
joined operator left right = record {
  tokens = enclosed_unless (stands_left operator left.is_term) left.tokens ++ tokens.Symbol (operator_symbol operator) ∷ enclosed_unless (stands_right operator right.is_term right.is_factor) right.tokens;
  is_term = not (is_sum operator);
  is_factor = false;
}

abbrev pub pieces : Operands Piece
pieces = record {
  number = λ value. factor (tokens.Number value ∷ []);
  named = λ name. factor (tokens.Word (word_for name) ∷ []);
  calling = λ function argument. factor (tokens.Word (call_word function) ∷ enclosed_tokens argument.tokens);
  operating = joined;
  group = λ inner. inner;
}
