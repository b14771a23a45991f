use Rattle.std.proofs.Common.{◌∙◌, ◌≤◌, ◌/◌, length, arith, rules}
use Rattle.view_sample.proofs.RoomTexts.{half_left}
use Rattle.view_sample.proofs.rooms.write_most.Goals as goal

pub loop-shown-preserved : goal.loop-shown-preserved
loop-shown-preserved c =
    let less : c.len.result / 2 ≤ length c.loop-shown.shown.items = search (arith, rules) in (
      search rules,
      half_left c.args.shown.items c.loop-shown.shown.items c.shrink_to_fit.new.self.items (c.len.result / 2) less c.loop-shown.invariant.1 (c.shrink_to_fit.ensures.items ∙ c.truncate.ensures.items),
    )
