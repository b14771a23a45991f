use Rattle.std.proofs.Common.{◌≡◌, ◌+◌, ◌≤◌, ℕ, List, length}
use Rattle.script_play.specs.Script.{Entry, script_from}
use Rattle.script_play.proofs.Scripts.{behind}
use Rattle.script_play.proofs.script.judge_unplayed.Given as goal

-- what is left asks for the rest
abbrev pub invariant-loop-entry : goal.invariant-loop-entry
invariant-loop-entry l =
    (l.number + length l.rest ≤ 16777217)
    × ((all : ℕ) → length l.text ≤ all → (most : ℕ) × (before : List Entry) × (length l.rest ≤ most) × (script_from all l.first l.text ≡ behind before (script_from most l.number l.rest)))

abbrev pub decreases-loop-entry : goal.decreases-loop-entry
decreases-loop-entry l = length l.rest
