-- What could follow a part of a protocol's text.
use Rattle.std.specs.Prelude.{ℕ, suc, ◌==◌, Bool, true, false, List, [], ◌∷◌, ◌++◌, length, map, Option, Some, None, Result, Ok, Err, nat_lt, codes, if◌then◌else◌}
use Rattle.std.specs.List.{flat_map, list_any}
use Rattle.std.specs.Str.{bytes_eq}
use Rattle.protocol_lang.specs.FirstFaults.{place_of}
use Rattle.protocol_lang.specs.Reading.{reading}
use Rattle.protocol_lang.specs.declared.fault.ParseFault.{ParseFault}
use Rattle.protocol_lang.specs.declared.protocol.Protocol.{Protocol}
use Rattle.protocol_lang.specs.declared.token.Symbol.{Symbol}
use Rattle.protocol_lang.specs.declared.token.Symbol.TheVariants.{Semicolon, Open, Close, Plus, Minus, Times, Divide, Remainder, Equal, NotEqual, Less, LessOrEqual, Greater, GreaterOrEqual}
use Rattle.protocol_lang.specs.Tokens.{symbol_spelling, word_spelling, words}
use Rattle.fault_text.specs.Lines.{indented}
use Rattle.fault_text.specs.declared.choices.TheConstants.{COMPARISON, LAST_RULE}

-- a fault is at a place, and that is after this one
abbrev pub is_fault_after : ℕ → Option ℕ → Bool
is_fault_after place None = false
is_fault_after place (Some at) = nat_lt place at

abbrev pub is_taken : ℕ → Result Protocol ParseFault → Bool
is_taken place (Ok protocol) = true
is_taken place (Err fault) = is_fault_after place (place_of fault)

-- a token can follow these bytes of a protocol's text: put there, after a space, it has no fault, nor has what comes before
abbrev pub can_stand : List ℕ → List ℕ → Bool
can_stand before token = is_taken (suc (length before)) (reading (before ++ 32 ∷ token))

-- 0 represents all numbers
abbrev pub choice_words : List ℕ → List ℕ
choice_words token = if bytes_eq token (codes "0") then codes " NUMBER" else codes " " ++ token

abbrev pub choice_if : List ℕ → List ℕ → List ℕ
choice_if before token = if can_stand before token then choice_words token else []

-- the symbols in the order in which they are said
abbrev pub said_symbols : List Symbol
said_symbols = Open ∷ Close ∷ Semicolon ∷ Plus ∷ Minus ∷ Times ∷ Divide ∷ Remainder ∷ Equal ∷ NotEqual ∷ Less ∷ LessOrEqual ∷ Greater ∷ GreaterOrEqual ∷ []

-- the tokens of the language: its words, a number for all numbers, and its symbols
abbrev pub language_tokens : List (List ℕ)
language_tokens = map word_spelling words ++ codes "0" ∷ map symbol_spelling said_symbols

-- a token with this spelling is among them
abbrev pub is_tried : List ℕ → Bool
is_tried spelling = list_any (bytes_eq spelling) language_tokens

-- the tokens that are allowed there
unfoldable pub choices : List ℕ → List ℕ
choices before = flat_map (choice_if before) language_tokens

abbrev pub choices_words : List ℕ → List ℕ
choices_words words = if length words == 0 then codes "nothing could stand there" else codes "what could stand there:" ++ words

abbrev pub choices_note : List ℕ → List ℕ
choices_note before = choices_words (choices before)

-- ---- what may help there

abbrev pub is_whole : Result Protocol ParseFault → Bool
is_whole (Ok protocol) = true
is_whole (Err fault) = false

-- only the end can follow a whole protocol
abbrev pub last_rule_hint : List ℕ → List ℕ
last_rule_hint before = if is_whole (reading before) then indented LAST_RULE.now else []

-- the sign of a comparison can follow, so a condition lacks it
abbrev pub comparison_hint : List ℕ → List ℕ
comparison_hint before = if can_stand before (codes "==") then indented COMPARISON.now else []
