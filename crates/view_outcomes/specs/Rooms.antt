-- What is written of the rooms of a file: what is asked for, of each.
use Rattle.std.specs.Prelude.{◌≡◌, ◌⊎◌, ℕ, ◌-◌, ◌≤◌, ◌==◌, Bool, true, false, not, ◌&&◌, List, [], ◌∷◌, ◌++◌, length, Option, Some, None, is_none, is_some, option_map, Ok}
use Rattle.std.specs.List.{concat}
use Rattle.room_files.specs.Kinds.{block_of}
use Rattle.room_files.specs.declared.kinds.Kinds.TheVariants.{All}
use Rattle.room_spec.specs.Rooms.{RoomSpec, is_reduction, processes, with_inputs}
use Rattle.run_blocks.specs.Blocks.{room_block}
use Rattle.run_search.specs.Agreed.{own_values}
use Rattle.run_search.specs.Judging.{HasNodes}
use Rattle.run_search.specs.Limits.{AreTooMany}
use Rattle.view_outcomes.specs.declared.listing.AllOutcomes.{AllOutcomes}
use Rattle.view_outcomes.specs.declared.listing.Listed.{Listed}
use Rattle.view_outcomes.specs.declared.search.Asked.{Asked}
use Rattle.view_outcomes.specs.declared.search.Asked.TheVariants.{Outcomes, First, Outcome, Task, Inputs, Keeps}
use Rattle.view_outcomes.specs.declared.search.Search.{Search}
use Rattle.input_vectors.specs.Judged.{AreVectorTexts}
use Rattle.input_vectors.specs.Vectors.{most_vectors, vector_count, vectors}
use Rattle.view_outcomes.specs.AllInputs.{IsInputsText, IsTooManyText}
use Rattle.view_outcomes.specs.Asked.{has_inputs}
use Rattle.view_outcomes.specs.Forms.{is_brief_alone}
use Rattle.view_outcomes.specs.Judgements.{IsTaskText}
use Rattle.view_outcomes.specs.Keeping.{IsKeepingText}
use Rattle.view_outcomes.specs.Listing.{AreInOrder, IsTaskOfRuns, chosen}
use Rattle.view_outcomes.specs.Shown.{agreed_in, alone_in, found_shown, head_in, unfinished_in}

-- all processes but one may stop, if the number is not said
abbrev pub crashes_for : RoomSpec → Option ℕ → ℕ
crashes_for spec None = processes spec - 1
crashes_for spec (Some crashes) = crashes

-- The text shows the outcomes, all or the first ones, and says how many there are, how many nodes stand for the states of all runs, and whether each run keeps the room's task.
pub record IsFoundText (search : Search) (spec : RoomSpec) (block : List ℕ) (well : Bool) (text : List ℕ) : Type 0 where
  pub all : AllOutcomes
  pub outcomes : AreInOrder spec (crashes_for spec search.crashes) search.brief all.listed.items
  pub nodes : HasNodes spec search.nodes all.nodes
  pub task : IsTaskOfRuns spec (option_map (λ events. events.items) all.breaking)
  pub well_is : well ≡ is_none all.breaking
  pub text_is : text ≡ found_shown search spec block (crashes_for spec search.crashes) all

-- the text says that there are more nodes than the limit, and so it is
pub record IsUnfinishedText (search : Search) (spec : RoomSpec) (well : Bool) (text : List ℕ) : Type 0 where
  pub many : AreTooMany spec search.nodes
  pub text_is : text ≡ unfinished_in search.form spec (crashes_for spec search.crashes) search.nodes
  pub well_is : well ≡ false

-- what is written of a room whose outcomes are listed
pub record IsListText (search : Search) (spec : RoomSpec) (block : List ℕ) (well : Bool) (text : List ℕ) : Type 0 where
  pub rest : List ℕ
  pub rest_is : IsFoundText search spec block well rest ⊎ IsUnfinishedText search spec well rest
  pub text_is : text ≡ head_in search.form spec.name (crashes_for spec search.crashes) ++ rest

-- The text is the transcript of the outcome of this number in the list of all outcomes, or says how many there are; all is well if there is that outcome.
pub record IsChosenText (number : ℕ) (search : Search) (spec : RoomSpec) (block : List ℕ) (well : Bool) (text : List ℕ) : Type 0 where
  pub all : List Listed
  pub outcomes : AreInOrder spec (crashes_for spec search.crashes) (is_brief_alone search.form search.brief) all
  pub well_is : well ≡ is_some (chosen number all)
  pub text_is : text ≡ alone_in search.form spec.name block number all

-- the text is what is written of a room with more nodes than the limit whose outcomes are listed, and so it is
pub record IsUnlistedText (search : Search) (spec : RoomSpec) (well : Bool) (text : List ℕ) : Type 0 where
  pub rest : List ℕ
  pub rest_is : IsUnfinishedText search spec well rest
  pub text_is : text ≡ head_in search.form spec.name (crashes_for spec search.crashes) ++ rest

-- what is written of a room of which one outcome is shown
abbrev pub IsAloneText : ℕ → Search → RoomSpec → List ℕ → Bool → List ℕ → Type 0
IsAloneText number search spec block well text = IsChosenText number search spec block well text ⊎ IsUnlistedText search spec well text

-- ---- what is asked for

-- what is asked for: all outcomes, the first ones, or one; whether each run keeps the task, with which inputs each does, or whether each keeps a task of one's own
abbrev pub IsTextFor : Asked → Search → RoomSpec → List ℕ → Bool → List ℕ → Type 0
IsTextFor Outcomes search spec block well text = IsListText search spec block well text
IsTextFor (First number) search spec block well text = IsListText search spec block well text
IsTextFor (Outcome number) search spec block well text = IsAloneText number search spec block well text
IsTextFor Task search spec block well text = IsTaskText search spec block well text
IsTextFor (Inputs values) search spec block well text = IsInputsText search values.now spec block well text
IsTextFor (Keeps task) search spec block well text = IsKeepingText task.now search spec block well text

-- ---- reductions

-- all vectors of the own inputs of a reduction's simulators
abbrev pub agreed_vectors : RoomSpec → List (List ℕ)
agreed_vectors spec = vectors (own_values spec) (processes spec)

-- what is written of one of them: a line that says the inputs, and what is written of the ordinary room that has them
pub record IsAgreedText (search : Search) (spec : RoomSpec) (block : List ℕ) (inputs : List ℕ) (well : Bool) (text : List ℕ) : Type 0 where
  pub rest : List ℕ
  pub rest_is : IsTextFor search.asked search (with_inputs spec inputs) (room_block spec block inputs) well rest
  pub text_is : text ≡ agreed_in search.form spec.name inputs ++ rest

-- A text for each of them, in order. All is well if it is from each.
pub record AreAgreedTexts (search : Search) (spec : RoomSpec) (block : List ℕ) (well : Bool) (text : List ℕ) : Type 0 where
  pub few : vector_count (own_values spec) (processes spec) ≤ most_vectors
  pub kept : ℕ
  pub texts : List (List ℕ)
  pub each : AreVectorTexts (IsAgreedText search spec block) (agreed_vectors spec) kept texts
  pub text_is : text ≡ concat texts
  pub well_is : well ≡ (kept == vector_count (own_values spec) (processes spec))

-- what is written of a reduction, whose simulators agree on the inputs; or that there are too many vectors
abbrev pub IsReductionText : Search → RoomSpec → List ℕ → Bool → List ℕ → Type 0
IsReductionText search spec block well text = AreAgreedTexts search spec block well text ⊎ IsTooManyText search (own_values spec) spec well text

-- ---- rooms

-- the room is a reduction, and its inputs are not given
abbrev pub are_agreed : Asked → RoomSpec → Bool
are_agreed asked spec = is_reduction spec && not (has_inputs asked)

-- what is written of a room, by whether its simulators agree on the inputs
abbrev pub IsTextBy : Bool → Search → RoomSpec → List ℕ → Bool → List ℕ → Type 0
IsTextBy true search spec block well text = IsReductionText search spec block well text
IsTextBy false search spec block well text = IsTextFor search.asked search spec block well text

-- what is written of a room, with a block that says the room
pub record IsRoomAnswer (search : Search) (spec : RoomSpec) (well : Bool) (text : List ℕ) : Type 0 where
  pub block : List ℕ
  pub says : block_of All block ≡ Ok (spec, length block)
  pub text_is : IsTextBy (are_agreed search.asked spec) search spec block well text

-- a text for each room, in order; all is well if it is for each
abbrev pub AreRoomAnswers : Search → List RoomSpec → Bool → List (List ℕ) → Type 0
AreRoomAnswers search [] well [] = well ≡ true
AreRoomAnswers search (spec ∷ specs) well (text ∷ texts) = (one others : Bool) × IsRoomAnswer search spec one text × AreRoomAnswers search specs others texts × (well ≡ (one && others))
AreRoomAnswers search [] well (text ∷ texts) = ⊥
AreRoomAnswers search (spec ∷ specs) well [] = ⊥

-- a text for each room was added
pub record AddsOutcomes (search : Search) (specs : List RoomSpec) (well : Bool) (before after : List ℕ) : Type 0 where
  pub texts : List (List ℕ)
  pub each_room : AreRoomAnswers search specs well texts
  pub after_is : after ≡ before ++ concat texts
