use Rattle.std.proofs.Common.{List, subst}
use Rattle.std.specs.List.Sorted.{IsPermutation}
use Rattle.ws_history.specs.declared.snapshots.Agreed.{Agreed}
use Rattle.ws_history.proofs.Ordering.{sorted_is}
use Rattle.ws_history.proofs.RoomFields.{apart_in}
use Rattle.ws_history.proofs.snapshots.in_order.Goals as goal

pub returns : goal.returns
returns c =
    let room = c.args.room.now in
    let at = c.shape_of-shape.ensures.fields in
    sorted_is room _ (apart_in room at.0 c.shape_of-shape.ensures.limits at.1)
    (subst (λ (l : List Agreed). IsPermutation l c.sort_unstable.new.self.items) c.in_ok-agreed.ensures c.sort_unstable.ensures.permutation)
    c.sort_unstable.ensures.sorted
