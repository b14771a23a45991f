use Rattle.std.proofs.Common.{List, subst, sym, ap, ◌∙◌, ◌+◌, ◌≤◌, arith}
use Rattle.room_core.specs.Calls.{RoomState, opening_state, room_after_settle}
use Rattle.room_sample.specs.Drawn.{IsScheduled}
use Rattle.room_sample.specs.Schedules.{IsSchedule, crashes_in, settled_by}
use Rattle.room_sample.specs.Ways.{way_of}
use Rattle.room_sample.specs.declared.stretch.Stretch.{Stretch}
use Rattle.room_sample.proofs.Schedules.{opened}
use Rattle.room_sample.proofs.run.settled_after.Goals as goal

pub loop-stretch-preserved : goal.loop-stretch-preserved
loop-stretch-preserved c = λ spec crashes so. c.in_ok-follow.ensures spec crashes (c.loop-stretch.invariant spec crashes so)

pub returns : goal.returns
returns c =
    let so = c.loop-stretch.invariant c.args.spec c.args.crashes (subst (IsScheduled c.args.spec c.args.crashes) (sym c.in_ok-scheduled.ensures) (opened c.args.spec c.args.crashes)) in
    let schedule = c.settle.ensures.schedule in
    record {
      may_come = subst (IsSchedule (opening_state c.args.spec)) (sym schedule) so.may_come;
      few = subst (λ (s : List Stretch). crashes_in s ≤ c.args.crashes) (sym schedule) (let few = so.few in omega (arith, few));
      room_is = c.settle.ensures.room ∙ ap room_after_settle (sym so.leads) ∙ ap (λ (s : List Stretch). settled_by c.args.spec s) (sym schedule);
    }
