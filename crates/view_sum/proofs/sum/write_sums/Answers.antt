use Rattle.std.proofs.Common.{map}
use Rattle.view_sum.specs.Files.{parts_of}
use Rattle.view_sum.specs.Samples.{sample_of}
use Rattle.view_sum.proofs.Summing.{one_written}
use Rattle.view_sum.proofs.sum.write_sums.Goals as goal

pub loop-room-preserved : goal.loop-room-preserved
loop-room-preserved c =
    one_written (map parts_of c.args.files.now) c.args.form.now c.loop-room.room c.loop-room.output c.write_total.new.output c.loop-room.have_held c.is_held-have_held.result (sample_of c.in_ok-total.total) c.loop-room.invariant c.in_ok-total.ensures.sum c.in_ok-write_total.ensures c.is_held-have_held.ensures
