use Rattle.std.proofs.Common.{◌≤◌, ◌∙◌, ℕ, List, length, get_or, ap, subst, sym}
use Rattle.room_spec.specs.Rooms.{processes}
use Rattle.sim_memory.proofs.CallerLemmas.{row_length}
use Rattle.ws_history.proofs.RoomFields.{low_rows}
use Rattle.ws_history.proofs.histories.row_in.Goals as goal

pub returns-clause-value : goal.returns-clause-value
returns-clause-value c = c.as_slice.ensures.value ∙ c.requires.row

pub returns-clause-count : goal.returns-clause-count
returns-clause-count c =
    let room = c.args.room.now in
    ap length (c.as_slice.ensures.value ∙ c.requires.row) ∙ row_length room.spec.simulators (processes room.spec) _

pub returns-clause-range : goal.returns-clause-range
returns-clause-range c =
    let room = c.args.room.now in
    let s = c.args.snapshot.now in
    λ p. subst (λ (l : List ℕ). get_or l p 0 ≤ room.spec.rounds) (sym (c.as_slice.ensures.value ∙ c.requires.row)) (low_rows room s.process s.round p)
