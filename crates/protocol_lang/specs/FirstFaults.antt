-- What each fault of a text says, in the words of the grammar, and which fault is the first.
use Rattle.std.specs.Prelude.{◌≡◌, ◌⊎◌, ⊤, ℕ, ◌+◌, ◌<◌, ◌≤◌, Bool, true, false, List, [], ◌∷◌, ◌++◌, length, take, drop, Option, Some, None, IfSome, Ok, Err}
use Rattle.std.specs.List.{count_by}
use Rattle.protocol_lang.specs.Tokens.{reads_view}
use Rattle.protocol_lang.specs.Trees.{TreeOf}
use Rattle.protocol_lang.specs.Reading.{extent_of, past_blanks, next_token, reading}
use Rattle.protocol_lang.specs.declared.token.Word.{Word}
use Rattle.protocol_lang.specs.declared.token.Word.TheVariants as words
use Rattle.protocol_lang.specs.declared.token.Symbol.{Symbol}
use Rattle.protocol_lang.specs.declared.token.Symbol.TheVariants as symbols
use Rattle.protocol_lang.specs.declared.token.Token.{Token}
use Rattle.protocol_lang.specs.declared.lexer.Placed.{Placed}
use Rattle.protocol_lang.specs.declared.token.Token.TheVariants as tokens
use Rattle.protocol_lang.specs.declared.fault.ParseFault.{ParseFault}
use Rattle.protocol_lang.specs.declared.fault.ParseFault.TheVariants.{TooLong, BadToken, Unexpected, TooDeep, TooManyRules, ViewInFirst, NumberTooLarge, OutOfMemory}
use Rattle.protocol_lang.specs.declared.tree.Name.{Name}
use Rattle.protocol_lang.specs.declared.tree.Call.{Call}
use Rattle.protocol_lang.specs.Grammar.{IsFormed, Written, call_word, tree_tokens, word_for}
use Rattle.protocol_lang.specs.declared.parser.TheConstants.{MAX_OPEN, MAX_RULES, MAX_TEXT}

abbrev pub place_of : ParseFault → Option ℕ
place_of TooLong = None
place_of (BadToken at) = Some at
place_of (Unexpected at) = Some at
place_of (TooDeep at) = Some at
place_of TooManyRules = None
place_of (ViewInFirst at) = Some at
place_of (NumberTooLarge at) = Some at
place_of OutOfMemory = None

-- the other text has the same bytes up to the end of the token at this place, and that token ends there in both
pub record SameThrough (text other : List ℕ) (at : ℕ) : Type 0 where
  pub short : length other ≤ MAX_TEXT
  pub bytes : take (at + extent_of (drop at text)) other ≡ take (at + extent_of (drop at text)) text
  pub token_end : extent_of (drop at other) ≡ extent_of (drop at text)

-- the fault rests on the bytes up to the end of the token at this place alone
abbrev pub RestsOn : List ℕ → ℕ → ParseFault → Type 0
RestsOn text at fault = (other : List ℕ) → SameThrough text other at → reading other ≡ Err fault

-- these are the text's tokens from the one place up to the other
abbrev pub AreTokens : List ℕ → ℕ → List Token → ℕ → Type 0
AreTokens text from [] to = from ≡ to
AreTokens text from (token ∷ more) to = (read : Placed) × (next_token text from ≡ Ok read) × (read.token ≡ token) × AreTokens text read.end more to

abbrev pub is_when : Token → Bool
is_when (tokens.Word words.When) = true
is_when token = false

-- the token at this place is the text's 33rd `when`
pub record IsRuleTooMany (text : List ℕ) (at : ℕ) : Type 0 where
  pub before : List Token
  pub from : ℕ
  pub tokens : AreTokens text 0 before from
  pub rules : count_by is_when before ≡ MAX_RULES
  pub read : Placed
  pub token : next_token text from ≡ Ok read
  pub when : is_when read.token ≡ true
  pub place : read.at ≡ at

-- the fault rests on the bytes up to the end of its token alone; TooManyRules is that of the 33rd `when`
abbrev pub IsLocal : List ℕ → ParseFault → Type 0
IsLocal text TooManyRules = (at : ℕ) × IsRuleTooMany text at × RestsOn text at TooManyRules
IsLocal text fault = IfSome (place_of fault) (λ at. RestsOn text at fault)

-- ---- why a token is the first fault

-- the tokens begin a text of the language
abbrev pub Begins : List Token → Type 0
Begins before = (written : TreeOf Written) × IsFormed written × (more : List Token) × (tree_tokens written ≡ before ++ more)

-- the token can follow these in some text of the language, or that text can end there
abbrev pub CanFollow : List Token → Token → Type 0
CanFollow before tokens.End = (written : TreeOf Written) × IsFormed written × (tree_tokens written ≡ before)
CanFollow before token = Begins (before ++ token ∷ [])

abbrev pub is_open : Token → Bool
is_open (tokens.Symbol symbols.Open) = true
is_open token = false

abbrev pub is_close : Token → Bool
is_close (tokens.Symbol symbols.Close) = true
is_close token = false

abbrev pub is_semicolon : Token → Bool
is_semicolon (tokens.Symbol symbols.Semicolon) = true
is_semicolon token = false

-- it is a word for what the view shows
abbrev pub AsksForView : Token → Type 0
AsksForView token = ((name : Name) × (token ≡ tokens.Word (word_for name)) × (reads_view name ≡ true)) ⊎ ((function : Call) × (token ≡ tokens.Word (call_word function)))

-- an operand can follow these
abbrev pub WantOperand : List Token → Type 0
WantOperand before = CanFollow before (tokens.Number 0)

-- the last of these is the word of a call, which is where an operand can be
abbrev pub EndInCall : List Token → Type 0
EndInCall before = (front : List Token) × (function : Call) × (before ≡ front ++ tokens.Word (call_word function) ∷ []) × WantOperand front

-- The tokens begin a text of the language. The word of a call may be the last of them if no room is left for its
-- parenthesis.
abbrev pub AreBegun : List Token → Type 0
AreBegun before = Begins before ⊎ EndInCall before

-- a parenthesis can follow these, but for the depth
abbrev pub WantOpen : List Token → Type 0
WantOpen before = WantOperand before ⊎ EndInCall before

-- The token at this place can't follow those before it, which begin a text of the language; and that is so for this reason.
pub record IsOutOfPlace (text : List ℕ) (at : ℕ) (Reason : List Token → Token → Type 0) : Type 0 where
  pub before : List Token
  pub from : ℕ
  pub tokens : AreTokens text 0 before from
  pub begins : AreBegun before
  pub read : Placed
  pub token : next_token text from ≡ Ok read
  pub place : read.at ≡ at
  pub never : CanFollow before read.token → ⊥
  pub reason : Reason before read.token

-- What is at this place is no token, for this fault of its own, and the tokens before it begin a text of the language.
pub record IsNoToken (text : List ℕ) (at : ℕ) (fault : ParseFault) : Type 0 where
  pub before : List Token
  pub from : ℕ
  pub tokens : AreTokens text 0 before from
  pub begins : AreBegun before
  pub place : past_blanks text from ≡ at
  pub none : next_token text from ≡ Err fault

-- 32 parentheses are open, and a further one could be opened but for that
abbrev pub IsTooDeep : List Token → Token → Type 0
IsTooDeep before token = (is_open token ≡ true) × (count_by is_open before ≡ count_by is_close before + MAX_OPEN) × WantOpen before

-- 32 rules were begun, and this would begin one more
abbrev pub IsRuleMore : List Token → Token → Type 0
IsRuleMore before token = (is_when token ≡ true) × (count_by is_when before ≡ MAX_RULES)

-- an operand is wanted in the first expression, and this one asks for the view
abbrev pub IsViewBefore : List Token → Token → Type 0
IsViewBefore before token = AsksForView token × (count_by is_semicolon before ≡ 0) × WantOperand before

-- Why the text is refused: the first token that can't follow those before it, or is none.
abbrev pub IsFirstFault : List ℕ → ParseFault → Type 0
IsFirstFault text TooLong = MAX_TEXT < length text
IsFirstFault text (BadToken at) = IsNoToken text at (BadToken at)
IsFirstFault text (NumberTooLarge at) = IsNoToken text at (NumberTooLarge at)
IsFirstFault text (Unexpected at) = IsOutOfPlace text at (λ before token. ⊤)
IsFirstFault text (TooDeep at) = IsOutOfPlace text at IsTooDeep
IsFirstFault text TooManyRules = (at : ℕ) × IsOutOfPlace text at IsRuleMore
IsFirstFault text (ViewInFirst at) = IsOutOfPlace text at IsViewBefore
IsFirstFault text OutOfMemory = ⊤
