-- What is written of a room whose task is judged with all vectors of some values in place of its inputs.
use Rattle.std.specs.Prelude.{◌≡◌, ◌⊎◌, ◌<◌, ◌≤◌, ℕ, ◌==◌, Bool, false, List, ◌++◌}
use Rattle.std.specs.List.{concat}
use Rattle.room_spec.specs.Rooms.{RoomSpec, processes, with_inputs}
use Rattle.run_search.specs.declared.judging.Judgement.{Judgement}
use Rattle.run_search.specs.Judging.{AreTooManyKept, IsJudged}
use Rattle.view_outcomes.specs.declared.search.Search.{Search}
use Rattle.view_outcomes.specs.Judgements.{IsTasklessText, is_kept}
use Rattle.view_outcomes.specs.Shown.{too_many_in, vector_in, vector_unjudged_in, vectors_in}
use Rattle.input_vectors.specs.Judged.{AreVectorTexts}
use Rattle.input_vectors.specs.Vectors.{most_vectors, vector_count, vectors}
use Rattle.run_blocks.specs.Blocks.{room_block}

-- The text says that each run of the room with these inputs keeps its task, and how many nodes stand for the states of all runs; or that one breaks it.
pub record IsVectorJudged (search : Search) (spec : RoomSpec) (block : List ℕ) (inputs : List ℕ) (kept : Bool) (text : List ℕ) : Type 0 where
  pub judgement : Judgement
  pub judged : IsJudged (with_inputs spec inputs) search.nodes judgement
  pub text_is : text ≡ vector_in search.form search.brief (with_inputs spec inputs) (room_block spec block inputs) inputs search.nodes judgement
  pub kept_is : kept ≡ is_kept judgement

-- the text says that the room with these inputs has more nodes than the limit, and that no run to the states of those that were found breaks the task, and so it is
pub record IsVectorUnjudged (search : Search) (spec : RoomSpec) (inputs : List ℕ) (kept : Bool) (text : List ℕ) : Type 0 where
  pub so_far : AreTooManyKept (with_inputs spec inputs) search.nodes
  pub text_is : text ≡ vector_unjudged_in search.form (with_inputs spec inputs) inputs search.nodes
  pub kept_is : kept ≡ false

-- what is written of a vector, and whether each run keeps the task with it
abbrev pub IsVectorText : Search → RoomSpec → List ℕ → List ℕ → Bool → List ℕ → Type 0
IsVectorText search spec block inputs kept text = IsVectorJudged search spec block inputs kept text ⊎ IsVectorUnjudged search spec inputs kept text

-- A text for each vector of these values, and a line that says with how many each run keeps the task. All is well if it is with each.
pub record IsVectorsText (search : Search) (values : List ℕ) (spec : RoomSpec) (block : List ℕ) (well : Bool) (text : List ℕ) : Type 0 where
  pub few : vector_count values (processes spec) ≤ most_vectors
  pub kept : ℕ
  pub texts : List (List ℕ)
  pub each : AreVectorTexts (IsVectorText search spec block) (vectors values (processes spec)) kept texts
  pub text_is : text ≡ concat texts ++ vectors_in search.form spec search.nodes values kept (vector_count values (processes spec))
  pub well_is : well ≡ (kept == vector_count values (processes spec))

-- the text says that there are more vectors than are judged, and so it is
pub record IsTooManyText (search : Search) (values : List ℕ) (spec : RoomSpec) (well : Bool) (text : List ℕ) : Type 0 where
  pub many : most_vectors < vector_count values (processes spec)
  pub text_is : text ≡ too_many_in search.form spec search.nodes values
  pub well_is : well ≡ false

-- what is written of a room whose task is judged with all vectors of these values; of a room without a task what is written if it is judged with its own inputs
abbrev pub IsInputsText : Search → List ℕ → RoomSpec → List ℕ → Bool → List ℕ → Type 0
IsInputsText search values spec block well text = IsTasklessText search spec well text ⊎ (IsVectorsText search values spec block well text ⊎ IsTooManyText search values spec well text)
