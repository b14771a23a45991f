use Rattle.std.proofs.Common.{◌≡◌, map, take}
use Rattle.run_search.specs.Outcomes.{Ends}
use Rattle.room_search.specs.Reaching.{outcome_of}
use Rattle.view_open.proofs.searching.all_ends.Given as goal

abbrev pub invariant-loop-one : goal.invariant-loop-one
invariant-loop-one l = map (λ (ends : Ends). ends.items) l.all.items ≡ map outcome_of (take l.one-index l.outcomes)
