use Rattle.std.proofs.Common.{◌∙◌, sym, ap, refl, arith}
use Rattle.room_core.specs.Calls.{room_after_settle}
use Rattle.room_search.proofs.Scheduling.{sets_out}
use Rattle.room_search.proofs.running.settled_from.Goals as goal

pub returns : goal.returns
returns c =
    let so = c.loop-stretch.invariant c.args.start c.args.crashes (sets_out c.args.start c.args.crashes _ refl c.new.ensures.items refl) in
    let few = so.few in
    record { may_come = so.may_come; few = omega (arith, few); room_is = c.settle.ensures.room ∙ ap room_after_settle (sym so.leads) }
