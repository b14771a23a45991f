use Rattle.std.proofs.Common.{◌∙◌, ℕ, ap}
use Rattle.std.specs.Prelude.{replicate}
use Rattle.view_table.specs.Places.{words_of}
use Rattle.room_core.proofs.room.RoomCore.fresh.Goals as goal

pub opening-requires-clause-words : goal.opening-requires-clause-words
opening-requires-clause-words c =
    let count = c.words.ensures.value ∙ ap words_of c.shape.ensures.sizes in
    c.in_ok-words.ensures.items_if_clones_equal (λ y same. same) ∙ ap (λ (n : ℕ). replicate n 0) count
