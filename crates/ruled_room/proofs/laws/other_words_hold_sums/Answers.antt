use Rattle.ruled_room.proofs.Storing.{holds_sum}
use Rattle.ruled_room.proofs.laws.other_words_hold_sums.Goals as goal

pub returns : goal.returns
returns c = holds_sum
