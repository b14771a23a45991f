use Rattle.std.proofs.Common.{◌≡◌, length, map}
use Rattle.serde_json.specs.View.{items_of, view}
use Rattle.view_sum.specs.Fields.{each_in, state_at}
use Rattle.view_sum.proofs.ItemReading.{items_from, with_rest}
use Rattle.view_sum.proofs.lines.states_of.Given as goal

-- the states so far, and what the others say
abbrev pub invariant-loop-one : goal.invariant-loop-one
invariant-loop-one l = (with_rest state_at l.states.items (items_from l.one-index l.values) ≡ each_in state_at (items_of (map view l.values))) × (length l.states.items ≡ l.one-index)
