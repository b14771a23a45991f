-- How a text is read: token by token from the left, up to the first fault.
use Rattle.std.specs.Prelude.{◌≡◌, ℕ, zero, suc, ◌+◌, ◌-◌, ◌≤◌, Bool, true, false, ⊤, List, [], ◌∷◌, ◌++◌, length, drop, Option, Some, None, Result, Ok, Err, IsOk, nat_le, nat_lt, if◌then◌else◌}
use Rattle.std.specs.List.{prefix_len, take_while}
use Rattle.protocol_lang.specs.Results.{◌>>=◌}
use Rattle.protocol_lang.specs.Numbers.{greatest, is_digit, number_of}
use Rattle.protocol_lang.specs.Tokens.{is_blank, is_letter, word_of, symbol_spelling, symbol_of, name_of, call_of, operator_of, comparator_of, kind_of, is_end, reads_view}
use Rattle.protocol_lang.specs.Stacks.{pushed}
use Rattle.protocol_lang.specs.Trees.{Expression, is_sum, ComparisonOf, RuleOf, TreeOf, Tree}
use Rattle.protocol_lang.specs.Formulas.{Operands, trees, most_waiting, with_operator, after, last_of}
use Rattle.protocol_lang.specs.declared.token.Word.{Word}
use Rattle.protocol_lang.specs.declared.token.Word.TheVariants as words
use Rattle.protocol_lang.specs.declared.token.Symbol.{Symbol}
use Rattle.protocol_lang.specs.declared.token.Symbol.TheVariants as symbols
use Rattle.protocol_lang.specs.declared.token.Token.{Token}
use Rattle.protocol_lang.specs.declared.token.Token.TheVariants as tokens
use Rattle.protocol_lang.specs.declared.lexer.Placed.{Placed}
use Rattle.protocol_lang.specs.declared.parser.TheConstants.{MAX_CONDITIONS, MAX_OPEN, MAX_RULES, MAX_TEXT}
use Rattle.protocol_lang.specs.declared.state.Expected.{Expected}
use Rattle.protocol_lang.specs.declared.state.Expected.TheVariants as next
use Rattle.protocol_lang.specs.declared.state.Part.{Part}
use Rattle.protocol_lang.specs.declared.state.Part.TheVariants as parts
use Rattle.protocol_lang.specs.declared.state.Opener.{Opener}
use Rattle.protocol_lang.specs.declared.state.Opener.TheVariants as openers
use Rattle.protocol_lang.specs.declared.state.Level.{Level}
use Rattle.protocol_lang.specs.declared.state.Refusal.{Refusal}
use Rattle.protocol_lang.specs.declared.state.Refusal.TheVariants as refusals
use Rattle.protocol_lang.specs.declared.draft.Instruction.{Instruction}
use Rattle.protocol_lang.specs.declared.draft.Instruction.TheVariants as instructions
use Rattle.protocol_lang.specs.declared.fault.ParseFault.{ParseFault}
use Rattle.protocol_lang.specs.declared.fault.ParseFault.TheVariants.{TooLong, BadToken, Unexpected, TooDeep, TooManyRules, ViewInFirst, NumberTooLarge, OutOfMemory}
use Rattle.protocol_lang.specs.declared.tree.Name.{Name}
use Rattle.protocol_lang.specs.declared.tree.Call.{Call}
use Rattle.protocol_lang.specs.declared.tree.Operator.{Operator}
use Rattle.protocol_lang.specs.declared.tree.Comparator.{Comparator}
use Rattle.protocol_lang.specs.declared.tree.Kind.{Kind}
use Rattle.protocol_lang.specs.declared.tree.Kind.TheVariants as kinds

-- ---- tokens

abbrev pub word_token : ℕ → Option Word → Result Token ParseFault
word_token at (Some word) = Ok (tokens.Word word)
word_token at None = Err (BadToken at)

abbrev pub number_token : ℕ → Option ℕ → Result Token ParseFault
number_token at (Some number) = if nat_le number greatest then Ok (tokens.Number number) else Err (NumberTooLarge at)
number_token at None = Err (BadToken at)

abbrev pub symbol_token : ℕ → Option Symbol → Result Token ParseFault
symbol_token at (Some symbol) = Ok (tokens.Symbol symbol)
symbol_token at None = Err (BadToken at)

-- the token at the front of a text that doesn't begin with a blank; its place is `at`
abbrev pub token_at : ℕ → List ℕ → Result Token ParseFault
token_at at [] = Ok tokens.End
token_at at (byte ∷ bytes) =
    if is_letter byte then word_token at (word_of (take_while is_letter (byte ∷ bytes)))
    else if is_digit byte then number_token at (number_of (take_while is_digit (byte ∷ bytes)))
    else symbol_token at (symbol_of (byte ∷ bytes))

abbrev pub symbol_extent : Option Symbol → ℕ
symbol_extent (Some symbol) = length (symbol_spelling symbol)
symbol_extent None = 1

-- how many bytes belong together at the front: the longest token that fits, or what is none
abbrev pub extent_of : List ℕ → ℕ
extent_of [] = 0
extent_of (byte ∷ bytes) =
    if is_letter byte then prefix_len is_letter (byte ∷ bytes)
    else if is_digit byte then prefix_len is_digit (byte ∷ bytes)
    else symbol_extent (symbol_of (byte ∷ bytes))

abbrev pub token_and_extent : ℕ → List ℕ → Result (Token × ℕ) ParseFault
token_and_extent at text = token_at at text >>= λ token. Ok (token, extent_of text)

-- the place of the first byte that is no blank, from a place on
abbrev pub past_blanks : List ℕ → ℕ → ℕ
past_blanks text from = from + prefix_len is_blank (drop from text)

abbrev pub placed_at : ℕ → Token × ℕ → Result Placed ParseFault
placed_at at read = Ok (record { at = at; token = read.0; end = at + read.1 })

-- the next token from a place on
unfoldable pub next_token : List ℕ → ℕ → Result Placed ParseFault
next_token text from = token_and_extent (past_blanks text from) (drop (past_blanks text from) text) >>= placed_at (past_blanks text from)

-- ---- what may come next

-- The state of reading in a text, in which an expression is an A: what may come next, and to which part of the text
-- it belongs; the levels of open parentheses, the innermost first, and the operands that wait; and what was read.
pub record State (A : Type 0) : Type 0 where
  pub expected : Expected
  pub part : Part
  pub level : Level
  pub outer : List Level
  pub stack : List A
  pub left : A
  pub conditions : List (ComparisonOf A)
  pub rules : List (RuleOf A)
  pub first : A

abbrev pub outermost : Level
outermost = record { opener = openers.Group; sum = None; product = None }

abbrev pub opening : {A : Type 0} → Operands A → State A
opening made = record { expected = next.First; part = parts.First; level = outermost; outer = []; stack = []; left = last_of made []; conditions = []; rules = []; first = last_of made [] }

-- an operator that waits gets its right operand
abbrev pub with_waiting : {A : Type 0} → Operands A → Option Operator → List A → List A
with_waiting made None stack = stack
with_waiting made (Some operator) stack = with_operator made operator stack

-- after an operand, which a product takes at once
abbrev pub behind_operand : {A : Type 0} → Operands A → State A → State A
behind_operand made s = record s { expected = next.Operator; level = record s.level { product = None }; stack = with_waiting made s.level.product s.stack }

abbrev pub with_operand : {A : Type 0} → Operands A → Instruction → State A → State A
with_operand made instruction s = behind_operand made (record s { stack = after made s.stack instruction })

-- ---- operands

abbrev pub is_hidden : Part → Name → Bool
is_hidden parts.First name = reads_view name
is_hidden part name = false

abbrev pub is_first : Part → Bool
is_first parts.First = true
is_first part = false

abbrev pub opened : {A : Type 0} → Opener → State A → Result (State A) Refusal
opened opener s =
    if nat_lt (length s.outer) MAX_OPEN then Ok (record s { expected = next.Operand; level = record { opener = opener; sum = None; product = None }; outer = s.level ∷ s.outer })
    else Err refusals.TooDeep

abbrev pub word_operand : {A : Type 0} → Operands A → State A → Option Name → Option Call → Result (State A) Refusal
word_operand made s (Some name) function = if is_hidden s.part name then Err refusals.ViewInFirst else Ok (with_operand made (instructions.Name name) s)
word_operand made s None (Some function) = if is_first s.part then Err refusals.ViewInFirst else Ok (record s { expected = next.Open function })
word_operand made s None None = Err refusals.Unexpected

abbrev pub operand : {A : Type 0} → Operands A → State A → Token → Result (State A) Refusal
operand made s (tokens.Number number) = Ok (with_operand made (instructions.Number number) s)
operand made s (tokens.Word word) = word_operand made s (name_of word) (call_of word)
operand made s (tokens.Symbol symbols.Open) = opened openers.Group s
operand made s token = Err refusals.Unexpected

abbrev pub call_opened : {A : Type 0} → Call → State A → Token → Result (State A) Refusal
call_opened function s (tokens.Symbol symbols.Open) = opened (openers.Call function) s
call_opened function s token = Err refusals.Unexpected

-- ---- after an operand

abbrev pub with_infix : {A : Type 0} → Operands A → Operator → State A → State A
with_infix made operator s =
    if is_sum operator then record s { expected = next.Operand; level = record s.level { sum = Some operator }; stack = with_waiting made s.level.sum s.stack }
    else record s { expected = next.Operand; level = record s.level { product = Some operator } }

abbrev pub enclosed : {A : Type 0} → Operands A → Opener → List A → List A
enclosed made opener [] = []
enclosed made openers.Group (x ∷ stack) = made.group x ∷ stack
enclosed made (openers.Call function) (x ∷ stack) = pushed most_waiting (made.calling function x) stack

abbrev pub closed : {A : Type 0} → Operands A → State A → List Level → Result (State A) Refusal
closed made s [] = Err refusals.Unexpected
closed made s (level ∷ outer) = Ok (behind_operand made (record s { level = level; outer = outer; stack = enclosed made s.level.opener (with_waiting made s.level.sum s.stack) }))

-- the whole expression
abbrev pub value_read : {A : Type 0} → Operands A → State A → A
value_read made s = last_of made (with_waiting made s.level.sum s.stack)

-- the place before a new expression
abbrev pub cleared : {A : Type 0} → State A → State A
cleared s = record s { level = outermost; stack = [] }

abbrev pub first_ended : {A : Type 0} → Operands A → State A → Token → Result (State A) Refusal
first_ended made s (tokens.Symbol symbols.Semicolon) = Ok (record (cleared s) { expected = next.Rule; first = value_read made s })
first_ended made s token = Err refusals.Unexpected

abbrev pub left_ended : {A : Type 0} → Operands A → State A → Option Comparator → Result (State A) Refusal
left_ended made s (Some comparator) = Ok (record (cleared s) { expected = next.Operand; part = parts.Right comparator; left = value_read made s })
left_ended made s None = Err refusals.Unexpected

abbrev pub compared_with : {A : Type 0} → Operands A → Comparator → Part → State A → State A
compared_with made comparator part s = record (cleared s) { expected = next.Operand; part = part; left = last_of made []; conditions = s.conditions ++ record { left = s.left; comparator = comparator; right = value_read made s } ∷ [] }

abbrev pub right_ended : {A : Type 0} → Operands A → Comparator → State A → Token → Option Kind → Result (State A) Refusal
right_ended made comparator s token (Some kind) = Ok (compared_with made comparator (parts.ActionRule kind) s)
right_ended made comparator s (tokens.Word words.And) None = if nat_lt (length s.conditions) (MAX_CONDITIONS - 1) then Ok (compared_with made comparator parts.Left s) else Err refusals.Unexpected
right_ended made comparator s token None = Err refusals.Unexpected

abbrev pub action_rule_ended : {A : Type 0} → Operands A → Kind → State A → Token → Result (State A) Refusal
action_rule_ended made kind s (tokens.Symbol symbols.Semicolon) =
    Ok (record (cleared s) { expected = next.Rule; conditions = []; rules = s.rules ++ record { conditions = s.conditions; action_rule = record { kind = kind; value = value_read made s } } ∷ [] })
action_rule_ended made kind s token = Err refusals.Unexpected

abbrev pub last_ended : {A : Type 0} → State A → Token → Result (State A) Refusal
last_ended s (tokens.Symbol symbols.Semicolon) = Ok (record s { expected = next.End })
last_ended s token = Err refusals.Unexpected

abbrev pub ended : {A : Type 0} → Operands A → Part → State A → Token → Result (State A) Refusal
ended made parts.First s token = first_ended made s token
ended made parts.Left s token = left_ended made s (comparator_of token)
ended made (parts.Right comparator) s token = right_ended made comparator s token (kind_of token)
ended made (parts.ActionRule kind) s token = action_rule_ended made kind s token
ended made (parts.Last kind) s token = last_ended s token

abbrev pub in_outermost : {A : Type 0} → Operands A → State A → List Level → Token → Result (State A) Refusal
in_outermost made s [] token = ended made s.part s token
in_outermost made s (level ∷ outer) token = Err refusals.Unexpected

abbrev pub behind : {A : Type 0} → Operands A → State A → Token → Option Operator → Result (State A) Refusal
behind made s token (Some operator) = Ok (with_infix made operator s)
behind made s (tokens.Symbol symbols.Close) None = closed made s s.outer
behind made s token None = in_outermost made s s.outer token

-- ---- rules

abbrev pub begun : {A : Type 0} → State A → Token → Result (State A) Refusal
begun s (tokens.Word words.First) = Ok (record s { expected = next.Operand })
begun s token = Err refusals.Unexpected

abbrev pub rule : {A : Type 0} → State A → Token → Result (State A) Refusal
rule s (tokens.Word words.When) = if nat_lt (length s.rules) MAX_RULES then Ok (record s { expected = next.Operand; part = parts.Left }) else Err refusals.TooManyRules
rule s (tokens.Word words.Else) = Ok (record s { expected = next.Last })
rule s token = Err refusals.Unexpected

abbrev pub last : {A : Type 0} → State A → Option Kind → Result (State A) Refusal
last s (Some kind) = Ok (record s { expected = next.Operand; part = parts.Last kind })
last s None = Err refusals.Unexpected

abbrev pub ending : {A : Type 0} → State A → Token → Result (State A) Refusal
ending s tokens.End = Ok s
ending s token = Err refusals.Unexpected

-- ---- one token, and all of them

abbrev pub step_at : {A : Type 0} → Expected → Operands A → State A → Token → Result (State A) Refusal
step_at next.First made s token = begun s token
step_at next.Operand made s token = operand made s token
step_at (next.Open function) made s token = call_opened function s token
step_at next.Operator made s token = behind made s token (operator_of token)
step_at next.Rule made s token = rule s token
step_at next.Last made s token = last s (kind_of token)
step_at next.End made s token = ending s token

-- what follows a token, or why it is not allowed there
abbrev pub step : {A : Type 0} → Operands A → State A → Token → Result (State A) Refusal
step made s token = step_at s.expected made s token

-- the fault of a token at this place
abbrev pub fault_at : ℕ → Refusal → ParseFault
fault_at at refusals.Unexpected = Unexpected at
fault_at at refusals.TooDeep = TooDeep at
fault_at at refusals.TooManyRules = TooManyRules
fault_at at refusals.ViewInFirst = ViewInFirst at
fault_at at refusals.OutOfMemory = OutOfMemory

abbrev pub refused_at : {A : Type 0} → ℕ → Result (State A) Refusal → Result (State A) ParseFault
refused_at at (Ok s) = Ok s
refused_at at (Err refusal) = Err (fault_at at refusal)

-- what follows the next token from a place on, and the place after it unless it is the text's end
unfoldable pub one_token : {A : Type 0} → Operands A → List ℕ → ℕ → State A → Result (State A × Option ℕ) ParseFault
one_token made text from s =
    next_token text from
    >>= λ placed. refused_at placed.at (step made s placed.token)
    >>= λ s'. Ok (s', if is_end placed.token then None else Some placed.end)

abbrev pub onward : {A : Type 0} → (ℕ → State A → Result (State A) ParseFault) → State A × Option ℕ → Result (State A) ParseFault
onward run (s, None) = Ok s
onward run (s, Some end) = run end s

-- what follows the tokens from a place on, of which there are fewer than `most`
unfoldable pub run : {A : Type 0} → Operands A → ℕ → List ℕ → ℕ → State A → Result (State A) ParseFault
run made zero text from s = Err TooLong
run made (suc most) text from s = one_token made text from s >>= onward (run made most text)

abbrev pub last_kind : Part → Kind
last_kind (parts.Last kind) = kind
last_kind part = kinds.Write

-- what was read of a whole text
abbrev pub tree_read : {A : Type 0} → Operands A → State A → TreeOf A
tree_read made s = record { first = s.first; rules = s.rules; last = record { kind = last_kind s.part; value = value_read made s } }

-- more than the tokens of any text
abbrev pub most_tokens : ℕ
most_tokens = MAX_TEXT + 1

-- what a whole text says, or its first fault
unfoldable pub reading : List ℕ → Result Tree ParseFault
reading text = if nat_lt MAX_TEXT (length text) then Err TooLong else run trees most_tokens text 0 (opening trees) >>= λ s. Ok (tree_read trees s)

-- ---- what a function returned

-- a step ended so, or an allocation for a token failed that has no fault
abbrev pub Ends : {A : Type 0} → Result (State A) Refusal → Result ⊤ Refusal → State A → Type 0
Ends wanted (Ok done) s = wanted ≡ Ok s
Ends wanted (Err refusals.OutOfMemory) s = IsOk wanted
Ends wanted (Err refusal) s = wanted ≡ Err refusal

-- a token was taken so, or an allocation for one that has no fault failed
abbrev pub Takes : {A : Type 0} → Result (State A × Option ℕ) ParseFault → Result (Option ℕ) ParseFault → State A → Type 0
Takes wanted (Ok end) s = wanted ≡ Ok (s, end)
Takes wanted (Err OutOfMemory) s = IsOk wanted
Takes wanted (Err fault) s = wanted ≡ Err fault

-- reading reaches a place in this state, and no token before that place has a fault
pub data Reaches (text : List ℕ) : ℕ → State Expression → Type 0 where
  at_start : Reaches text 0 (opening trees)
  one_further : (from end : ℕ) (s s' : State Expression) → Reaches text from s → one_token trees text from s ≡ Ok (s', Some end) → Reaches text end s'

-- where an allocation may fail: at a token that has no fault, after others that have none
pub record MayLackMemory (text : List ℕ) : Type 0 where
  pub short : length text ≤ MAX_TEXT
  pub from : ℕ
  pub state : State Expression
  pub reached : Reaches text from state
  pub taken : IsOk (one_token trees text from state)

-- what the text says, or an allocation failed
abbrev pub IsReading : List ℕ → Result Tree ParseFault → Type 0
IsReading text (Ok tree) = reading text ≡ Ok tree
IsReading text (Err OutOfMemory) = MayLackMemory text
IsReading text (Err fault) = reading text ≡ Err fault

-- this tree was read, or an allocation failed
abbrev pub IsReadAs : Tree → Result Tree ParseFault → Type 0
IsReadAs tree (Ok read) = read ≡ tree
IsReadAs tree (Err OutOfMemory) = ⊤
IsReadAs tree (Err fault) = ⊥
