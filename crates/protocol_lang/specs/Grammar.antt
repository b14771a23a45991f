-- The grammar of the language, apart from how a text is read.
use Rattle.std.specs.Prelude.{◌≡◌, ℕ, suc, ◌+◌, ◌≤◌, Bool, true, false, not, ◌&&◌, max, List, [], ◌∷◌, ◌++◌, length, map, nat_le, ◌==◌, if◌then◌else◌}
use Rattle.std.specs.List.{flat_map, list_all}
use Rattle.std.specs.Fmt.{decimal}
use Rattle.protocol_lang.specs.Numbers.{greatest, is_digit}
use Rattle.protocol_lang.specs.Tokens.{is_blank, is_letter, word_spelling, symbol_spelling, reads_view}
use Rattle.protocol_lang.specs.Trees as trees
use Rattle.protocol_lang.specs.Trees.{Expression, is_sum, ComparisonOf, ActionRuleOf, RuleOf, TreeOf, Tree}
use Rattle.protocol_lang.specs.declared.token.Word.{Word}
use Rattle.protocol_lang.specs.declared.token.Word.TheVariants as words
use Rattle.protocol_lang.specs.declared.token.Symbol.{Symbol}
use Rattle.protocol_lang.specs.declared.token.Symbol.TheVariants as symbols
use Rattle.protocol_lang.specs.declared.token.Token.{Token}
use Rattle.protocol_lang.specs.declared.token.Token.TheVariants as tokens
use Rattle.protocol_lang.specs.declared.tree.Name.{Name}
use Rattle.protocol_lang.specs.declared.tree.Name.TheVariants as names
use Rattle.protocol_lang.specs.declared.tree.Call.{Call}
use Rattle.protocol_lang.specs.declared.tree.Call.TheVariants as calls
use Rattle.protocol_lang.specs.declared.tree.Operator.{Operator}
use Rattle.protocol_lang.specs.declared.tree.Operator.TheVariants as operators
use Rattle.protocol_lang.specs.declared.tree.Comparator.{Comparator}
use Rattle.protocol_lang.specs.declared.tree.Comparator.TheVariants as comparators
use Rattle.protocol_lang.specs.declared.tree.Kind.{Kind}
use Rattle.protocol_lang.specs.declared.tree.Kind.TheVariants as kinds
use Rattle.protocol_lang.specs.declared.parser.TheConstants.{MAX_CONDITIONS, MAX_OPEN, MAX_RULES, MAX_TEXT}

-- ---- expressions as they are written

-- an expression with its parentheses
pub data Written : Type 0 where
  Number : (value : ℕ) → Written
  Named : (name : Name) → Written
  Calling : (function : Call) (argument : Written) → Written
  Operating : (operator : Operator) (left right : Written) → Written
  Group : (inner : Written) → Written

-- what it says
abbrev pub expression_of : Written → Expression
expression_of (Number value) = trees.Number value
expression_of (Named name) = trees.Named name
expression_of (Calling function argument) = trees.Calling function (expression_of argument)
expression_of (Operating operator left right) = trees.Operating operator (expression_of left) (expression_of right)
expression_of (Group inner) = expression_of inner

abbrev pub word_for : Name → Word
word_for names.Input = words.Input
word_for names.Id = words.Id
word_for names.N = words.N
word_for names.Round = words.Round
word_for names.Mine = words.Mine
word_for names.Count = words.Count
word_for names.Min = words.Min
word_for names.Max = words.Max

abbrev pub call_word : Call → Word
call_word calls.Cell = words.Cell
call_word calls.Seen = words.Seen
call_word calls.Equal = words.Equal

abbrev pub operator_symbol : Operator → Symbol
operator_symbol operators.Add = symbols.Plus
operator_symbol operators.Subtract = symbols.Minus
operator_symbol operators.Multiply = symbols.Times
operator_symbol operators.Divide = symbols.Divide
operator_symbol operators.Remainder = symbols.Remainder

abbrev pub enclosed_tokens : List Token → List Token
enclosed_tokens inner = tokens.Symbol symbols.Open ∷ (inner ++ tokens.Symbol symbols.Close ∷ [])

abbrev pub expression_tokens : Written → List Token
expression_tokens (Number value) = tokens.Number value ∷ []
expression_tokens (Named name) = tokens.Word (word_for name) ∷ []
expression_tokens (Calling function argument) = tokens.Word (call_word function) ∷ enclosed_tokens (expression_tokens argument)
expression_tokens (Operating operator left right) = expression_tokens left ++ tokens.Symbol (operator_symbol operator) ∷ expression_tokens right
expression_tokens (Group inner) = enclosed_tokens (expression_tokens inner)

-- a sum or difference can be an operand of a product, or the right operand of another sum, in parentheses alone
abbrev pub is_term : Written → Bool
is_term (Operating operator left right) = not (is_sum operator)
is_term written = true

-- and so can a product on the right of another
abbrev pub is_factor : Written → Bool
is_factor (Operating operator left right) = false
is_factor written = true

abbrev pub may_join : Operator → Written → Written → Bool
may_join operator left right = if is_sum operator then is_term right else is_term left && is_factor right

-- the parentheses group as the tree says: without them a chain groups from the left, and products before sums
abbrev pub is_formed : Written → Bool
is_formed (Number value) = true
is_formed (Named name) = true
is_formed (Calling function argument) = is_formed argument
is_formed (Operating operator left right) = may_join operator left right && (is_formed left && is_formed right)
is_formed (Group inner) = is_formed inner

-- how many parentheses are open at once
abbrev pub depth_of : Written → ℕ
depth_of (Number value) = 0
depth_of (Named name) = 0
depth_of (Calling function argument) = suc (depth_of argument)
depth_of (Operating operator left right) = max (depth_of left) (depth_of right)
depth_of (Group inner) = suc (depth_of inner)

abbrev pub is_expression : Written → Bool
is_expression written = is_formed written && nat_le (depth_of written) MAX_OPEN

-- it asks for nothing that comes from the view
abbrev pub needs_no_view : Written → Bool
needs_no_view (Number value) = true
needs_no_view (Named name) = not (reads_view name)
needs_no_view (Calling function argument) = false
needs_no_view (Operating operator left right) = needs_no_view left && needs_no_view right
needs_no_view (Group inner) = needs_no_view inner

-- ---- rules and whole texts as they are written

abbrev pub comparator_symbol : Comparator → Symbol
comparator_symbol comparators.Equal = symbols.Equal
comparator_symbol comparators.NotEqual = symbols.NotEqual
comparator_symbol comparators.Less = symbols.Less
comparator_symbol comparators.LessOrEqual = symbols.LessOrEqual
comparator_symbol comparators.Greater = symbols.Greater
comparator_symbol comparators.GreaterOrEqual = symbols.GreaterOrEqual

abbrev pub kind_word : Kind → Word
kind_word kinds.Write = words.Write
kind_word kinds.Decide = words.Decide

abbrev pub comparison_tokens : ComparisonOf Written → List Token
comparison_tokens comparison = expression_tokens comparison.left ++ tokens.Symbol (comparator_symbol comparison.comparator) ∷ expression_tokens comparison.right

-- `when` or `and` before each
abbrev pub conditions_tokens : Word → List (ComparisonOf Written) → List Token
conditions_tokens word [] = []
conditions_tokens word (comparison ∷ more) = tokens.Word word ∷ (comparison_tokens comparison ++ conditions_tokens words.And more)

abbrev pub action_rule_tokens : ActionRuleOf Written → List Token
action_rule_tokens action_rule = tokens.Word (kind_word action_rule.kind) ∷ (expression_tokens action_rule.value ++ tokens.Symbol symbols.Semicolon ∷ [])

abbrev pub rule_tokens : RuleOf Written → List Token
rule_tokens rule = conditions_tokens words.When rule.conditions ++ action_rule_tokens rule.action_rule

-- "first" E ";" { "when" C action ";" } "else" action ";"
abbrev pub tree_tokens : TreeOf Written → List Token
tree_tokens tree =
    tokens.Word words.First ∷ (expression_tokens tree.first ++ tokens.Symbol symbols.Semicolon ∷ (flat_map rule_tokens tree.rules ++ tokens.Word words.Else ∷ action_rule_tokens tree.last))

abbrev pub is_comparison : ComparisonOf Written → Bool
is_comparison comparison = is_expression comparison.left && is_expression comparison.right

abbrev pub is_rule : RuleOf Written → Bool
is_rule rule = nat_le 1 (length rule.conditions) && nat_le (length rule.conditions) MAX_CONDITIONS && list_all is_comparison rule.conditions && is_expression rule.action_rule.value

-- the text keeps to the grammar and to its limits
pub record IsFormed (tree : TreeOf Written) : Type 0 where
  pub first : is_expression tree.first ≡ true
  pub no_view_in_first : needs_no_view tree.first ≡ true
  pub most_rules : length tree.rules ≤ MAX_RULES
  pub rules : list_all is_rule tree.rules ≡ true
  pub last : is_expression tree.last.value ≡ true

-- what it says
abbrev pub comparison_of : ComparisonOf Written → ComparisonOf Expression
comparison_of comparison = record { left = expression_of comparison.left; comparator = comparison.comparator; right = expression_of comparison.right }

abbrev pub action_rule_of : ActionRuleOf Written → ActionRuleOf Expression
action_rule_of action_rule = record { kind = action_rule.kind; value = expression_of action_rule.value }

abbrev pub rule_of : RuleOf Written → RuleOf Expression
rule_of rule = record { conditions = map comparison_of rule.conditions; action_rule = action_rule_of rule.action_rule }

abbrev pub tree_of : TreeOf Written → Tree
tree_of tree = record { first = expression_of tree.first; rules = map rule_of tree.rules; last = action_rule_of tree.last }

-- ---- the bytes of tokens

abbrev pub IsSpelled : Token → List ℕ → Type 0
IsSpelled (tokens.Word word) bytes = bytes ≡ word_spelling word
IsSpelled (tokens.Number number) bytes = (bytes ≡ decimal number) × (number ≤ greatest)
IsSpelled (tokens.Symbol symbol) bytes = bytes ≡ symbol_spelling symbol
IsSpelled tokens.End bytes = ⊥

-- whether a byte right after the token would make it a longer one
abbrev pub goes_on : Token → ℕ → Bool
goes_on (tokens.Word word) byte = is_letter byte
goes_on (tokens.Number number) byte = is_digit byte
goes_on (tokens.Symbol symbols.Less) byte = byte == 61
goes_on (tokens.Symbol symbols.Greater) byte = byte == 61
goes_on token byte = false

-- what comes before the text ends there: the text's first byte, if it has one, would not make it longer
abbrev pub EndsBefore : (ℕ → Bool) → List ℕ → Type 0
EndsBefore longer [] = Unit {0}
EndsBefore longer (byte ∷ bytes) = longer byte ≡ false

-- the text is these tokens, with any blanks before, between and after them, each token the longest that fits
abbrev pub Spells : List Token → List ℕ → Type 0
Spells [] text = list_all is_blank text ≡ true
Spells (token ∷ more) text =
    (blanks : List ℕ) × (spelled : List ℕ) × (rest : List ℕ) × (text ≡ blanks ++ (spelled ++ rest)) × (list_all is_blank blanks ≡ true)
    × IsSpelled token spelled × EndsBefore (goes_on token) rest × Spells more rest

-- ---- texts

-- the text is one of the language, and says the tree
pub record IsText (text : List ℕ) (tree : Tree) : Type 0 where
  pub written : TreeOf Written
  pub says : tree_of written ≡ tree
  pub formed : IsFormed written
  pub short : length text ≤ MAX_TEXT
  pub spelled : Spells (tree_tokens written) text
