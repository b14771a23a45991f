use Rattle.std.proofs.Common.{◌≡◌, ◌++◌, drop, false}
use Rattle.std.specs.Prelude.{string_bytes}
use Rattle.protocol_lang.specs.Printing.{spelled_behind}
use Rattle.protocol_lang.proofs.spelling.spell.Given as goal

abbrev pub invariant-loop-token : goal.invariant-loop-token
invariant-loop-token l = string_bytes l.text ++ spelled_behind l.behind_word (drop l.token-index l.tokens) ≡ spelled_behind false l.tokens
