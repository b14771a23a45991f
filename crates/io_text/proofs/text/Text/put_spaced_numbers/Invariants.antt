use Rattle.std.proofs.Common.{◌≡◌, ◌++◌, take}
use Rattle.io_text.specs.Numbers.{numbers_text}
use Rattle.io_text.proofs.text.Text.put_spaced_numbers.Given as goal

abbrev pub invariant-loop-number : goal.invariant-loop-number
invariant-loop-number l = l.self ≡ l.initial.self ++ numbers_text (take l.number-index l.numbers)
