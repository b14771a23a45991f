use Rattle.std.proofs.Common.{◌≡◌, ◌∙◌, length, sym, subst}
use Rattle.std.specs.Prelude.{IfSome}
use Rattle.std.proofs.lemmas.List.{with_items_is}
use Rattle.room_spec.specs.Rooms.{RoomSpec}
use Rattle.history_checker.proofs.Showing.{lasts_silent}
use Rattle.history_checker.proofs.room.Room.open.Goals as goal

pub invariant_of-result : goal.invariant_of-result
invariant_of-result c =
    let len : length c.open.new.processes ≡ c.in_ok-processes.processes.len = c.open.auto.processes ∙ c.deref_mut.ensures.len in (
      rw (with_items_is c.in_ok-processes.processes c.open.new.processes len, lasts_silent c.args.spec c.open.new.processes c.open.ensures, ← c.n-2.ensures.value) c.in_ok-row.ensures,
      subst (λ (spec : RoomSpec). IfSome c.in_ok-task.task (λ task. task.value.spec ≡ spec)) (sym c.in_ok-kept.ensures) c.in_ok-task.ensures.spec,
    )
