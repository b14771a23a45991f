use Rattle.std.proofs.Common.{◌+◌, ◌-◌, ◌∙◌, sym, ap}
use Rattle.room_core.specs.Calls.{RoomState}
use Rattle.service_core.specs.Rooms.{room_stepped}
use Rattle.room_search.proofs.OneByOne.{stepped_once, stopped_once}
use Rattle.room_search.proofs.beginning.step.Goals as goal

pub returns-then-not-takes_step : goal.returns-then-not-takes_step
returns-then-not-takes_step c =
    c.takes_step.ensures.room ∙ sym (stopped_once c.loop.room c.args.i c.args.count c.loop.counter c.loop-test.true (sym c.takes_step.ensures.reply ∙ c.if-not-takes_step.true)) ∙ c.loop.invariant

pub loop-preserved : goal.loop-preserved
loop-preserved c =
    ap (λ (r : RoomState). room_stepped r c.args.i (c.args.count - (c.loop.counter + 1))) c.takes_step.ensures.room
    ∙ sym (stepped_once c.loop.room c.args.i c.args.count c.loop.counter c.loop-test.true (sym c.takes_step.ensures.reply ∙ c.if-not-takes_step.false)) ∙ c.loop.invariant
