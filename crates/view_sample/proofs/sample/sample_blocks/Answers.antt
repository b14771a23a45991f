use Rattle.std.proofs.Common.{◌≡◌, ◌∙◌, subst}
use Rattle.room_files.specs.Blocks.{Setup}
use Rattle.room_files.specs.Inputs.{all_blocks}
use Rattle.room_files.specs.declared.kinds.Kinds.TheVariants.{All}
use Rattle.view_sample.specs.Sample.{IsSampleOr}
use Rattle.view_sample.proofs.Answering.{answered}
use Rattle.view_sample.proofs.sample.sample_blocks.Goals as goal

pub returns : goal.returns
returns g c =
    let read : Setup = record { rooms = c.rooms.inside.rooms.rooms; refused = c.rooms.inside.refused; line = c.rooms.inside.line } in
    let whole : read ≡ all_blocks All c.args.input.now = c.rooms.view_is ∙ c.in_ok-rooms.ensures.read in
    subst (λ (setup : Setup). IsSampleOr c.args.plan.now setup c.ending_of-ending.result c.write_last.new.output) whole
    (answered c.args.plan.now read c.is_empty-is_accepted.result c.write_samples-samples.result c.ending_of-ending.result c.head_of-output.result c.write_samples-samples.new.output c.write_last.new.output c.head_of-output.ensures
    c.is_empty-is_accepted.ensures c.write_samples-samples.ensures.samples c.write_samples-samples.ensures.cut c.in_ok-write_last.ensures c.ending_of-ending.ensures.ok c.ending_of-ending.ensures.err)
