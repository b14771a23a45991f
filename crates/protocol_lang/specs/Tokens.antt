-- The tokens of the language, and how each is spelled.
use Rattle.std.specs.Prelude.{ℕ, Bool, true, false, ◌&&◌, ◌||◌, List, [], ◌∷◌, ◌++◌, length, take, Option, Some, None, nat_le, ◌==◌, codes}
use Rattle.std.specs.List.{find}
use Rattle.std.specs.Str.{bytes_eq}
use Rattle.protocol_lang.specs.declared.token.Word.{Word}
use Rattle.protocol_lang.specs.declared.token.Word.TheVariants.{First, When, And, Write, Decide, Else, Input, Id, N, Round, Mine, Count, Min, Max, Cell, Seen, Equal}
use Rattle.protocol_lang.specs.declared.token.Symbol.{Symbol}
use Rattle.protocol_lang.specs.declared.token.Token.{Token}
use Rattle.protocol_lang.specs.declared.token.Token.TheVariants as tokens
use Rattle.protocol_lang.specs.declared.tree.Name.{Name}
use Rattle.protocol_lang.specs.declared.tree.Call.{Call}
use Rattle.protocol_lang.specs.declared.tree.Call.TheVariants as calls
use Rattle.protocol_lang.specs.declared.tree.Operator.{Operator}
use Rattle.protocol_lang.specs.declared.tree.Operator.TheVariants as operators
use Rattle.protocol_lang.specs.declared.tree.Comparator.{Comparator}
use Rattle.protocol_lang.specs.declared.tree.Comparator.TheVariants as comparators
use Rattle.protocol_lang.specs.declared.tree.Kind.{Kind}
use Rattle.protocol_lang.specs.declared.tree.Kind.TheVariants as kinds
use Rattle.protocol_lang.specs.declared.tree.Name.TheVariants as names
use Rattle.protocol_lang.specs.declared.token.Symbol.TheVariants as symbols

abbrev pub is_blank : ℕ → Bool
is_blank byte = byte == 32 || byte == 10

abbrev pub is_letter : ℕ → Bool
is_letter byte = nat_le 97 byte && nat_le byte 122

abbrev pub word_spelling : Word → List ℕ
word_spelling First = codes "first"
word_spelling When = codes "when"
word_spelling And = codes "and"
word_spelling Write = codes "write"
word_spelling Decide = codes "decide"
word_spelling Else = codes "else"
word_spelling Input = codes "input"
word_spelling Id = codes "id"
word_spelling N = codes "n"
word_spelling Round = codes "round"
word_spelling Mine = codes "mine"
word_spelling Count = codes "count"
word_spelling Min = codes "min"
word_spelling Max = codes "max"
word_spelling Cell = codes "cell"
word_spelling Seen = codes "seen"
word_spelling Equal = codes "equal"

-- the words of rules, and those of expressions
abbrev pub keywords : List Word
keywords = First ∷ When ∷ And ∷ Write ∷ Decide ∷ Else ∷ []

abbrev pub operands : List Word
operands = Input ∷ Id ∷ N ∷ Round ∷ Mine ∷ Count ∷ Min ∷ Max ∷ Cell ∷ Seen ∷ Equal ∷ []

abbrev pub words : List Word
words = keywords ++ operands

-- the word among some that is spelled so
abbrev pub spelled_among : List Word → List ℕ → Option Word
spelled_among some letters = find (λ word. bytes_eq letters (word_spelling word)) some

abbrev pub word_of : List ℕ → Option Word
word_of letters = spelled_among words letters

abbrev pub symbol_spelling : Symbol → List ℕ
symbol_spelling symbols.Semicolon = codes ";"
symbol_spelling symbols.Open = codes "("
symbol_spelling symbols.Close = codes ")"
symbol_spelling symbols.Plus = codes "+"
symbol_spelling symbols.Minus = codes "-"
symbol_spelling symbols.Times = codes "*"
symbol_spelling symbols.Divide = codes "/"
symbol_spelling symbols.Remainder = codes "%"
symbol_spelling symbols.Equal = codes "=="
symbol_spelling symbols.NotEqual = codes "!="
symbol_spelling symbols.Less = codes "<"
symbol_spelling symbols.LessOrEqual = codes "<="
symbol_spelling symbols.Greater = codes ">"
symbol_spelling symbols.GreaterOrEqual = codes ">="

-- every symbol, a longer one before the one that begins it
abbrev pub all_symbols : List Symbol
all_symbols = symbols.Semicolon ∷ symbols.Open ∷ symbols.Close ∷ symbols.Plus ∷ symbols.Minus ∷ symbols.Times ∷ symbols.Divide ∷ symbols.Remainder ∷ symbols.Equal ∷ symbols.NotEqual ∷ symbols.LessOrEqual ∷ symbols.Less ∷ symbols.GreaterOrEqual ∷ symbols.Greater ∷ []

-- the longest symbol at the front of a text
abbrev pub symbol_of : List ℕ → Option Symbol
symbol_of text = find (λ symbol. bytes_eq (take (length (symbol_spelling symbol)) text) (symbol_spelling symbol)) all_symbols

-- the names among the words
abbrev pub name_of : Word → Option Name
name_of Input = Some names.Input
name_of Id = Some names.Id
name_of N = Some names.N
name_of Round = Some names.Round
name_of Mine = Some names.Mine
name_of Count = Some names.Count
name_of Min = Some names.Min
name_of Max = Some names.Max
name_of word = None

-- whether a name's value comes from the view, which is not there before the first write
abbrev pub reads_view : Name → Bool
reads_view names.Input = false
reads_view names.Id = false
reads_view names.N = false
reads_view names.Round = true
reads_view names.Mine = true
reads_view names.Count = true
reads_view names.Min = true
reads_view names.Max = true

-- the calls among the words
abbrev pub call_of : Word → Option Call
call_of Cell = Some calls.Cell
call_of Seen = Some calls.Seen
call_of Equal = Some calls.Equal
call_of word = None

-- the operators among the tokens
abbrev pub operator_of : Token → Option Operator
operator_of (tokens.Symbol symbols.Plus) = Some operators.Add
operator_of (tokens.Symbol symbols.Minus) = Some operators.Subtract
operator_of (tokens.Symbol symbols.Times) = Some operators.Multiply
operator_of (tokens.Symbol symbols.Divide) = Some operators.Divide
operator_of (tokens.Symbol symbols.Remainder) = Some operators.Remainder
operator_of token = None

-- the comparators among the tokens
abbrev pub comparator_of : Token → Option Comparator
comparator_of (tokens.Symbol symbols.Equal) = Some comparators.Equal
comparator_of (tokens.Symbol symbols.NotEqual) = Some comparators.NotEqual
comparator_of (tokens.Symbol symbols.Less) = Some comparators.Less
comparator_of (tokens.Symbol symbols.LessOrEqual) = Some comparators.LessOrEqual
comparator_of (tokens.Symbol symbols.Greater) = Some comparators.Greater
comparator_of (tokens.Symbol symbols.GreaterOrEqual) = Some comparators.GreaterOrEqual
comparator_of token = None

-- `write` and `decide`
abbrev pub kind_of : Token → Option Kind
kind_of (tokens.Word Write) = Some kinds.Write
kind_of (tokens.Word Decide) = Some kinds.Decide
kind_of token = None

abbrev pub is_end : Token → Bool
is_end tokens.End = true
is_end token = false
