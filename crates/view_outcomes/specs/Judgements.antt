-- What is written of a room whose task alone is judged.
use Rattle.std.specs.Prelude.{◌≡◌, ◌⊎◌, ℕ, Bool, true, false, List, None}
use Rattle.room_spec.specs.Rooms.{RoomSpec}
use Rattle.run_search.specs.declared.judging.Judgement.{Judgement}
use Rattle.run_search.specs.declared.judging.Judgement.TheVariants.{Kept, Broken}
use Rattle.run_search.specs.Judging.{AreTooManyKept, IsJudged}
use Rattle.view_outcomes.specs.declared.search.Search.{Search}
use Rattle.view_outcomes.specs.Shown.{judgement_in, taskless_in, unjudged_in}

-- each run keeps the task
abbrev pub is_kept : Judgement → Bool
is_kept (Kept nodes) = true
is_kept (Broken events) = false

-- the room has no task, and the text says so
pub record IsTasklessText (search : Search) (spec : RoomSpec) (well : Bool) (text : List ℕ) : Type 0 where
  pub none : spec.task ≡ None
  pub text_is : text ≡ taskless_in search.form spec search.nodes
  pub well_is : well ≡ true

-- the text says that each run keeps the room's task, and how many nodes stand for the states of all runs; or it shows a run that breaks it
pub record IsJudgedText (search : Search) (spec : RoomSpec) (block : List ℕ) (well : Bool) (text : List ℕ) : Type 0 where
  pub judgement : Judgement
  pub judged : IsJudged spec search.nodes judgement
  pub text_is : text ≡ judgement_in search.form spec block search.nodes judgement
  pub well_is : well ≡ is_kept judgement

-- the text says that there are more nodes than the limit, and that no run to the states of those that were found breaks the task, and so it is
pub record IsUnjudgedText (search : Search) (spec : RoomSpec) (well : Bool) (text : List ℕ) : Type 0 where
  pub kept : AreTooManyKept spec search.nodes
  pub text_is : text ≡ unjudged_in search.form spec search.nodes
  pub well_is : well ≡ false

-- what is written of a room whose task alone is judged
abbrev pub IsTaskText : Search → RoomSpec → List ℕ → Bool → List ℕ → Type 0
IsTaskText search spec block well text = IsTasklessText search spec well text ⊎ (IsJudgedText search spec block well text ⊎ IsUnjudgedText search spec well text)
