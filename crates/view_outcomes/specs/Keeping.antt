-- What is written of a room whose runs are judged by a task of one's own.
use Rattle.std.specs.Prelude.{◌≡◌, ◌⊎◌, ℕ, Bool, true, false, ◌&&◌, List, [], ◌++◌, Option, Some, None}
use Rattle.protocol_lang.specs.Trees.{Tree}
use Rattle.room_spec.specs.Rooms.{RoomSpec}
use Rattle.run_search.specs.Limits.{AreTooMany}
use Rattle.decision_tasks.specs.Tasks.{IsDecisionJudged}
use Rattle.decision_tasks.specs.declared.judging.DecisionJudgement.{DecisionJudgement}
use Rattle.decision_tasks.specs.declared.judging.DecisionJudgement.TheVariants.{Kept, Broken}
use Rattle.view_outcomes.specs.declared.search.Search.{Search}
use Rattle.view_outcomes.specs.Judgements.{IsTaskText}
use Rattle.view_outcomes.specs.Shown.{decisions_in, unsearched_in}

-- each run keeps the task
abbrev pub are_kept : DecisionJudgement → Bool
are_kept (Kept nodes) = true
are_kept (Broken break) = false

-- the text says that each run keeps the task, and how many nodes stand for the states of all runs; or it shows a run that breaks it
pub record IsKeptText (lines : List Tree) (search : Search) (spec : RoomSpec) (block : List ℕ) (well : Bool) (text : List ℕ) : Type 0 where
  pub judgement : DecisionJudgement
  pub judged : IsDecisionJudged lines spec search.nodes judgement
  pub text_is : text ≡ decisions_in search.form spec block search.nodes judgement
  pub well_is : well ≡ are_kept judgement

-- the text says that there are more nodes than the limit, and so it is
pub record IsUnsearchedText (search : Search) (spec : RoomSpec) (well : Bool) (text : List ℕ) : Type 0 where
  pub many : AreTooMany spec search.nodes
  pub text_is : text ≡ unsearched_in search.form spec search.nodes
  pub well_is : well ≡ false

-- what is written of whether runs keep a task of one's own
abbrev pub IsDecisionsText : List Tree → Search → RoomSpec → List ℕ → Bool → List ℕ → Type 0
IsDecisionsText lines search spec block well text = IsKeptText lines search spec block well text ⊎ IsUnsearchedText search spec well text

-- what is written of the room's own task: nothing, if it has none
abbrev pub IsOwnTaskText : Search → RoomSpec → Option ℕ → List ℕ → Bool → List ℕ → Type 0
IsOwnTaskText search spec None block well text = (well ≡ true) × (text ≡ [])
IsOwnTaskText search spec (Some most) block well text = IsTaskText search spec block well text

-- what is written of a room whose runs are judged by a task of one's own: of its own task first
pub record IsKeepingText (lines : List Tree) (search : Search) (spec : RoomSpec) (block : List ℕ) (well : Bool) (text : List ℕ) : Type 0 where
  pub own : List ℕ
  pub rest : List ℕ
  pub one : Bool
  pub other : Bool
  pub own_is : IsOwnTaskText search spec spec.task block one own
  pub rest_is : IsDecisionsText lines search spec block other rest
  pub text_is : text ≡ own ++ rest
  pub well_is : well ≡ (one && other)
