use Rattle.picture_shapes.proofs.WellFormed.{well_formed}
use Rattle.picture_shapes.proofs.laws.pictures_are_well_formed.Goals as goal

pub returns : goal.returns
returns c = well_formed
