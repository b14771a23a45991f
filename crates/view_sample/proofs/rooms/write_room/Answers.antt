use Rattle.std.proofs.Common.{◌≡◌, ◌∙◌, ◌++◌, List, OnOk, ℕ, subst, sym}
use Rattle.room_spec.specs.Rooms.{RoomSpec}
use Rattle.view_sample.specs.Rooms.{AddsCut, IsSampleText}
use Rattle.view_sample.proofs.RoomTexts.{all_run, cut_again, cut_sample, of_said, on_err, own_room, whole_cut}
use Rattle.view_sample.proofs.rooms.write_room.Goals as goal

pub write_counted-requires-clause-says : goal.write_counted-requires-clause-says
write_counted-requires-clause-says g c = own_room c.args.block.now c.in-Ok.spec c.in-Ok.field-0-1 (sym c.in_ok-spec.ensures.read ∙ c.in-Ok.is) c.requires.block

pub write_counted-requires-clause-sample : goal.write_counted-requires-clause-sample
write_counted-requires-clause-sample g c = cut_sample c.in-Ok.spec c.args.plan.now c.sample-outcomes.result.schedules c.args.plan.now.top c.sample-outcomes.result.outcomes c.sample-outcomes.ensures.sample

pub returns-clause-whole : goal.returns-clause-whole
returns-clause-whole g c = λ said says.
    let own = own_room c.args.block.now c.in-Ok.spec c.in-Ok.field-0-1 (sym c.in_ok-spec.ensures.read ∙ c.in-Ok.is) c.requires.block in
    let all = subst (λ r. OnOk r (c.sample-outcomes.result.schedules ≡ c.args.plan.now.schedules)) c.in_ok-ending-2.was c.sample-outcomes.ensures.whole in
    of_said (λ (room : RoomSpec). (text : List ℕ) × IsSampleText c.args.plan.now room c.in_ok-well.well text × (c.write_counted.new.output ≡ c.args.output.now ++ text)) c.args.block.now c.in-Ok.spec said own says
    (all_run c.args.plan.now c.in-Ok.spec c.sample-outcomes.result.schedules c.in_ok-well.well c.args.output.now c.write_counted.new.output all c.in_ok-well.ensures.whole)

pub returns-in_err-well-clause-cut : goal.returns-in_err-well-clause-cut
returns-in_err-well-clause-cut g c =
    let own = own_room c.args.block.now c.in-Ok.spec c.in-Ok.field-0-1 (sym c.in_ok-spec.ensures.read ∙ c.in-Ok.is) c.requires.block in
    on_err c.from_residual-in_err-well.result
    (λ said says. of_said (λ (room : RoomSpec). AddsCut c.args.plan.now room c.args.output.now c.write_counted.new.output) c.args.block.now c.in-Ok.spec said own says
    (cut_again c.args.plan.now c.in-Ok.spec c.sample-outcomes.result.schedules c.args.output.now c.write_counted.new.output c.sample-outcomes.ensures.few c.in_err-well.ensures.cut))

pub returns-in_err-ending-2-clause-cut : goal.returns-in_err-ending-2-clause-cut
returns-in_err-ending-2-clause-cut g c =
    let own = own_room c.args.block.now c.in-Ok.spec c.in-Ok.field-0-1 (sym c.in_ok-spec.ensures.read ∙ c.in-Ok.is) c.requires.block in
    on_err c.from_residual-in_err-ending-2.result
    (λ said says. of_said (λ (room : RoomSpec). AddsCut c.args.plan.now room c.args.output.now c.write_counted.new.output) c.args.block.now c.in-Ok.spec said own says
    (whole_cut c.args.plan.now c.in-Ok.spec c.sample-outcomes.result.schedules c.in_ok-well.well c.args.output.now c.write_counted.new.output c.sample-outcomes.ensures.few c.in_ok-well.ensures.whole))
