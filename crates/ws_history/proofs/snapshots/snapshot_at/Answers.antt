use Rattle.std.proofs.Common.{◌≤◌, List, ℕ, get_or, ap, sym, subst, arith}
use Rattle.room_spec.specs.Rooms.{RoomSpec}
use Rattle.ws_history.proofs.snapshots.snapshot_at.Goals as goal

pub sum-requires-clause-range : goal.sum-requires-clause-range
sum-requires-clause-range c =
    λ p. let low : get_or c.row_of-row.result.items p 0 ≤ 15 = omega (arith, c.row_of-row.ensures.range p, ap (λ (s : RoomSpec). s.rounds) c.spec.ensures.value) in
    subst (λ (l : List ℕ). get_or l p 0 ≤ 15) (sym c.as_slice.ensures.value) low
