use Rattle.std.proofs.Common.{◌≡◌, map}
use Rattle.serde_json.specs.View.{items_of, view}
use Rattle.view_sum.specs.Fields.{each_in, stretch_at}
use Rattle.view_sum.proofs.ItemReading.{items_from, with_rest}
use Rattle.view_sum.proofs.lines.stretches_of.Given as goal

-- the stretches so far, and what the others say
abbrev pub invariant-loop-one : goal.invariant-loop-one
invariant-loop-one l = with_rest stretch_at l.schedule.items (items_from l.one-index l.values) ≡ each_in stretch_at (items_of (map view l.values))
