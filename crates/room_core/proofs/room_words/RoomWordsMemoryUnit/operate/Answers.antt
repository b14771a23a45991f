use Rattle.simulator.proofs.CallerLemmas.{within}
use Rattle.room_core.proofs.room_words.RoomWordsMemoryUnit.operate.Goals as goal

pub perform-requires : goal.perform-requires
perform-requires c =
    let spec = c.requires.0 in
    let mind = c.requires.1 in
    rw (c.deref_mut.ensures.value, c.self.view_is, c.requires.2, c.requires.5) (within spec mind c.requires.3)
