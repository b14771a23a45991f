use Rattle.std.proofs.Common.{◌≡◌, ◌++◌, map, take}
use Rattle.std.specs.List.{flat_map}
use Rattle.room_sample.specs.Shown.{shown_of}
use Rattle.view_sample.specs.Texts.{outcome_text}
use Rattle.view_sample.proofs.text.write_outcomes.Given as goal

abbrev pub invariant-loop-one : goal.invariant-loop-one
invariant-loop-one l = l.output ≡ l.initial.output ++ flat_map (outcome_text l.brief l.name l.block) (map shown_of (take l.one-index l.shown))
