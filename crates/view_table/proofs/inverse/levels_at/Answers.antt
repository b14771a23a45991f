use Rattle.room_spec.specs.Shapes.{sizes_of}
use Rattle.view_table.proofs.PlaceLemmas.{in_levels}
use Rattle.view_table.proofs.inverse.levels_at.Goals as goal

pub returns : goal.returns
returns c = in_levels (sizes_of c.args.shape.now) c.args.at c.requires
