use Rattle.std.proofs.Common.{◌≡◌, ◌++◌, take}
use Rattle.view_rooms.specs.Texts.{outcome_texts}
use Rattle.view_rooms.proofs.text.write_outcomes.Given as goal

abbrev pub invariant-loop-one : goal.invariant-loop-one
invariant-loop-one l = l.output ≡ l.initial.output ++ outcome_texts l.brief l.name l.block (take l.one-index l.all)
