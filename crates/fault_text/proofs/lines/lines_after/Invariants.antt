use Rattle.std.proofs.Common.{◌≡◌, ◌-◌}
use Rattle.fault_text.specs.Lines.{lines_after}
use Rattle.fault_text.proofs.lines.lines_after.Given as goal

-- the lines that are left stand behind those that were passed
abbrev pub invariant-loop : goal.invariant-loop
invariant-loop l = lines_after (l.lines - l.counter) l.rest ≡ lines_after l.lines l.text
