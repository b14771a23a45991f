use Rattle.std.proofs.Common.{List, ap, arith}
use Rattle.std.specs.List.{sum_by}
use Rattle.room_sample.specs.Samples.{Counted}
use Rattle.view_sample.proofs.Alike.{grouped_few}
use Rattle.view_sample.proofs.Coming.{reported_came}
use Rattle.view_sample.proofs.RoomTexts.{fewer_reported, on_err_weaker}
use Rattle.view_sample.proofs.rooms.write_counted.Goals as goal

pub write_listed-requires-clause-came : goal.write_listed-requires-clause-came
write_listed-requires-clause-came c = reported_came c.args.room.now.plan.now c.args.room.now.spec.now c.args.outcomes c.in_ok-outcomes.outcomes c.requires.sample c.in_ok-outcomes.ensures

pub write_listed-requires-clause-few : goal.write_listed-requires-clause-few
write_listed-requires-clause-few c =
    let total = c.requires.sample.total in
    let few = grouped_few c.args.room.now.plan.now.group c.args.outcomes in
    let are = ap (λ (all : List Counted). sum_by (λ (one : Counted). one.times) all) c.in_ok-outcomes.ensures in
    omega (arith, total, few, are)

pub write_chosen-requires-clause-came : goal.write_chosen-requires-clause-came
write_chosen-requires-clause-came c = reported_came c.args.room.now.plan.now c.args.room.now.spec.now c.args.outcomes c.in_ok-outcomes.outcomes c.requires.sample c.in_ok-outcomes.ensures

pub returns-in-None-clause-cut : goal.returns-in-None-clause-cut
returns-in-None-clause-cut c =
    on_err_weaker c.write_listed.result
    (λ fewer. fewer_reported c.args.room.now.plan.now c.args.room.now.spec.now c.args.room.now.block.now c.args.outcomes c.in_ok-outcomes.outcomes c.args.output.now c.write_listed.new.output c.requires.says c.requires.sample c.requires.among c.in_ok-outcomes.ensures c.in-None.is fewer)
    c.write_listed.ensures.cut
