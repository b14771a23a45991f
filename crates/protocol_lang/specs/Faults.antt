-- The numbers of the faults of a protocol's text, and what they say.
use Rattle.std.specs.Prelude.{ℕ, List, codes}
use Rattle.protocol_lang.specs.declared.fault.ParseFault.{ParseFault}
use Rattle.protocol_lang.specs.declared.fault.ParseFault.TheVariants.{TooLong, BadToken, Unexpected, TooDeep, TooManyRules, ViewInFirst, NumberTooLarge, OutOfMemory}

abbrev pub code_of : ParseFault → ℕ
code_of TooLong = 1
code_of (BadToken at) = 2
code_of (Unexpected at) = 3
code_of (TooDeep at) = 4
code_of TooManyRules = 5
code_of (ViewInFirst at) = 6
code_of (NumberTooLarge at) = 7
code_of OutOfMemory = 8

unfoldable pub sentence_of : ParseFault → List ℕ
sentence_of TooLong = codes "the protocol's text has more than 4096 bytes"
sentence_of (BadToken at) = codes "not a token: an unknown word, a byte that begins no token, or a number with a leading zero"
sentence_of (Unexpected at) = codes "the token is not allowed here, or the text ends too early"
sentence_of (TooDeep at) = codes "more than 32 parentheses are open at once"
sentence_of TooManyRules = codes "more than 32 rules begin with `when`"
sentence_of (ViewInFirst at) = codes "the expression after `first` uses a word that needs a snapshot"
sentence_of (NumberTooLarge at) = codes "the number is above 4294967295"
sentence_of OutOfMemory = codes "out of memory"
