use Rattle.std.proofs.Common.{◌≡◌, true, refl}
use Rattle.protocol_lang.specs.Tokens.{symbol_spelling, word_spelling}
use Rattle.protocol_lang.specs.declared.token.Symbol.{Symbol}
use Rattle.protocol_lang.specs.declared.token.Symbol.TheVariants as symbols
use Rattle.protocol_lang.specs.declared.token.Word.{Word}
use Rattle.protocol_lang.specs.declared.token.Word.TheVariants as words
use Rattle.fault_text.specs.Choices.{is_tried}
use Rattle.fault_text.proofs.laws.each_token_is_tried.Goals as goal

word_tried : (word : Word) → is_tried (word_spelling word) ≡ true
word_tried words.First = refl
word_tried words.When = refl
word_tried words.And = refl
word_tried words.Write = refl
word_tried words.Decide = refl
word_tried words.Else = refl
word_tried words.Input = refl
word_tried words.Id = refl
word_tried words.N = refl
word_tried words.Round = refl
word_tried words.Mine = refl
word_tried words.Count = refl
word_tried words.Min = refl
word_tried words.Max = refl
word_tried words.Cell = refl
word_tried words.Seen = refl
word_tried words.Equal = refl

symbol_tried : (symbol : Symbol) → is_tried (symbol_spelling symbol) ≡ true
symbol_tried symbols.Semicolon = refl
symbol_tried symbols.Open = refl
symbol_tried symbols.Close = refl
symbol_tried symbols.Plus = refl
symbol_tried symbols.Minus = refl
symbol_tried symbols.Times = refl
symbol_tried symbols.Divide = refl
symbol_tried symbols.Remainder = refl
symbol_tried symbols.Equal = refl
symbol_tried symbols.NotEqual = refl
symbol_tried symbols.Less = refl
symbol_tried symbols.LessOrEqual = refl
symbol_tried symbols.Greater = refl
symbol_tried symbols.GreaterOrEqual = refl

pub returns-clause-words : goal.returns-clause-words
returns-clause-words c = word_tried

pub returns-clause-symbols : goal.returns-clause-symbols
returns-clause-symbols c = symbol_tried
