use Rattle.room_warnings.proofs.Certain.{never}
use Rattle.room_warnings.proofs.laws.without_decide_no_process_decides.Goals as goal

pub returns : goal.returns
returns c = never
