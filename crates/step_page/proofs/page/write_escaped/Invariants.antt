use Rattle.std.proofs.Common.{◌≡◌, ◌++◌, take}
use Rattle.step_page.specs.Pages.{escaped}
use Rattle.step_page.proofs.page.write_escaped.Given as goal

abbrev pub invariant-loop-byte : goal.invariant-loop-byte
invariant-loop-byte l = l.output ≡ l.initial.output ++ escaped (take l.byte-index l.text)
