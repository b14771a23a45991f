use Rattle.std.proofs.Common.{◌≡◌, ◌++◌, take}
use Rattle.view_outcomes.specs.Shown.{outcomes_shown}
use Rattle.view_outcomes.proofs.shown.show_outcomes.Given as goal

abbrev pub invariant-loop-one : goal.invariant-loop-one
invariant-loop-one l = l.output ≡ l.initial.output ++ outcomes_shown l.room.search.now.form l.room.spec.now.name l.room.block.now (take l.one-index l.shown)
