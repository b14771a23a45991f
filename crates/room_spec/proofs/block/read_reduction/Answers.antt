use Rattle.room_spec.proofs.Memory.{reduction_found_or, reduction_only_or, reduction_local_or, reduction_of_text_or, reduction_first_or}
use Rattle.room_spec.proofs.block.read_reduction.Goals as goal

pub returns-clause-sound : goal.returns-clause-sound
returns-clause-sound c = reduction_found_or c.args.text.now c.read_reduction_front.result c.read_reduction_front.ensures.exact

pub returns-clause-complete : goal.returns-clause-complete
returns-clause-complete c = reduction_only_or c.args.text.now c.read_reduction_front.result c.read_reduction_front.ensures.exact

pub returns-clause-local : goal.returns-clause-local
returns-clause-local c = reduction_local_or c.args.text.now c.read_reduction_front.result c.read_reduction_front.ensures.exact

pub returns-clause-of_text : goal.returns-clause-of_text
returns-clause-of_text c = reduction_of_text_or c.args.text.now c.read_reduction_front.result c.read_reduction_front.ensures.exact

pub returns-clause-first : goal.returns-clause-first
returns-clause-first c = reduction_first_or c.args.text.now c.read_reduction_front.result c.read_reduction_front.ensures.exact
