use Rattle.std.proofs.Common.{◌≡◌, take}
use Rattle.std.specs.List.{sum_by}
use Rattle.view_sum.proofs.listed.schedules_in.Given as goal

-- how many schedules led to those so far
abbrev pub invariant-loop-one : goal.invariant-loop-one
invariant-loop-one l = sum_by (λ one. one.times) (take l.one-index l.outcomes) ≡ l.schedules
