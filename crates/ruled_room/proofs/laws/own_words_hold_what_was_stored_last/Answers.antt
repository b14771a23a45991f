use Rattle.ruled_room.proofs.Storing.{holds_last_stored}
use Rattle.ruled_room.proofs.laws.own_words_hold_what_was_stored_last.Goals as goal

pub returns : goal.returns
returns c = holds_last_stored
