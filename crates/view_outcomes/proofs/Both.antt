-- What is written of two tasks, one after the other.
use Rattle.std.proofs.Common.{◌≡◌, ◌∙◌, ℕ, Bool, ◌&&◌, List, ◌++◌, refl, ap}
use Rattle.std.proofs.lemmas.List.{append_assoc}
use Rattle.protocol_lang.specs.Trees.{Tree}
use Rattle.room_spec.specs.Rooms.{RoomSpec}
use Rattle.view_outcomes.specs.Keeping.{IsDecisionsText, IsKeepingText, IsOwnTaskText}
use Rattle.view_outcomes.specs.declared.search.Search.{Search}

pub both_reported : (lines : List Tree) (search : Search) (spec : RoomSpec) (block : List ℕ) (one other : Bool) (before middle after : List ℕ) → (text : List ℕ) × IsOwnTaskText search spec spec.task block one text × (middle ≡ before ++ text)
    → (text : List ℕ) × IsDecisionsText lines search spec block other text × (after ≡ middle ++ text) → (text : List ℕ) × IsKeepingText lines search spec block (one && other) text × (after ≡ before ++ text)
both_reported lines search spec block one other before middle after own rest = (
  own.0 ++ rest.0,
  record { own = own.0; rest = rest.0; one = one; other = other; own_is = own.1; rest_is = rest.1; text_is = refl; well_is = refl },
  rest.2 ∙ ap (λ (front : List ℕ). front ++ rest.0) own.2 ∙ append_assoc before own.0 rest.0,
)
