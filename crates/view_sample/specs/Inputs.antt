-- What is written of rooms that are sampled with all vectors of some values in place of their inputs.
use Rattle.std.specs.Prelude.{◌≡◌, ◌⊎◌, ◌<◌, ◌≤◌, ℕ, ◌==◌, not, Bool, true, false, List, ◌++◌, length, Option, Some, None, IfSome, Ok, codes, if◌then◌else◌}
use Rattle.std.specs.List.{concat}
use Rattle.serde_json.specs.Data.{Data, member, no_members, null, number, object, string, unsigned}
use Rattle.json_lines.specs.Lines.{json_line}
use Rattle.json_lines.specs.Values.{entry_data, numbers_data}
use Rattle.input_vectors.specs.Judged.{AreVectorTexts}
use Rattle.input_vectors.specs.Lines.{too_many_line, vector_words, vectors_line}
use Rattle.input_vectors.specs.Vectors.{most_vectors, vector_count, vectors}
use Rattle.run_blocks.specs.Blocks.{room_block}
use Rattle.room_files.specs.Kinds.{block_of}
use Rattle.room_files.specs.declared.kinds.Kinds.TheVariants.{All}
use Rattle.room_spec.specs.Rooms.{RoomSpec, processes, with_inputs}
use Rattle.room_files.specs.Inputs.{all_blocks}
use Rattle.room_files.specs.declared.outcome.Outcome.{Outcome}
use Rattle.room_sample.specs.Samples.{AreAmongAll, Counted, IsSample}
use Rattle.room_sample.specs.Shown.{IsShownIf, Shown}
use Rattle.room_sample.specs.declared.sampling.Plan.{Plan}
use Rattle.view_sample.specs.Json.{schedule_unless}
use Rattle.view_sample.specs.EachRoom.{IsRoomsOutput}
use Rattle.view_sample.specs.Leads.{HasScript}
use Rattle.view_sample.specs.Tasks.{first_broken, times_broken}
use Rattle.view_sample.specs.TaskTexts.{has_held, verdict_text}

-- ---- a vector, which the room has as its inputs

-- the number of the first schedule that broke the task, and a schedule that does
abbrev pub broken_data : Bool → Option Shown → Data
broken_data brief None = null
broken_data brief (Some one) = object (member (codes "number") (number (unsigned one.first)) (member (codes "schedule") (schedule_unless brief one.schedule) no_members))

-- the room, its inputs, the plan of its sample, and by how many schedules it breaks its task
abbrev pub vector_data : RoomSpec → Plan → List ℕ → List Counted → Option Shown → Data
vector_data spec plan inputs outcomes broken =
    object (member (codes "crashes") (number (unsigned plan.crashes)) (member (codes "first") (broken_data plan.brief broken) (member (codes "from") (number (unsigned plan.from))
    (member (codes "inputs") (numbers_data inputs) (member (codes "room") (string spec.name) (member (codes "schedules") (number (unsigned plan.schedules))
    (member (codes "seed") (number (unsigned plan.seed)) (member (codes "task_broken") (number (unsigned (times_broken spec outcomes))) no_members))))))))

abbrev pub vector_in : Plan → RoomSpec → List ℕ → List ℕ → List Counted → Option Shown → List ℕ
vector_in plan spec block inputs outcomes broken =
    if plan.json then json_line (vector_data spec plan inputs outcomes broken) else verdict_text (vector_words spec.name inputs) spec.name block plan (times_broken spec outcomes) broken

-- The text says by how many schedules of a sample the room with these inputs breaks its task, with a script that does, unless scripts are left out; the task is kept if it is by none.
pub record IsVectorText (plan : Plan) (spec : RoomSpec) (block : List ℕ) (inputs : List ℕ) (kept : Bool) (text : List ℕ) : Type 0 where
  pub outcomes : List Counted
  pub sample : IsSample (with_inputs spec inputs) plan outcomes
  pub among : AreAmongAll (with_inputs spec inputs) outcomes
  pub broken : Option Shown
  pub broken_is : IsShownIf (with_inputs spec inputs) plan.crashes (not plan.brief) (first_broken (with_inputs spec inputs) outcomes) broken
  -- the script leads to the outcome that breaks it
  pub script : plan.brief ≡ false → IfSome broken (HasScript spec.name (room_block spec block inputs))
  pub kept_is : kept ≡ has_held (with_inputs spec inputs) outcomes
  pub text_is : text ≡ vector_in plan (with_inputs spec inputs) (room_block spec block inputs) inputs outcomes broken

-- ---- a room

-- for how many of how many vectors the task is kept; `null` for what isn't known
abbrev pub room_vectors_data : List ℕ → List ℕ → Option ℕ → Option ℕ → Data
room_vectors_data name values kept count = object (member (codes "kept") (entry_data kept) (member (codes "room") (string name) (member (codes "values") (numbers_data values) (member (codes "vectors") (entry_data count) no_members))))

abbrev pub kept_in_samples : List ℕ → ℕ → ℕ → List ℕ
kept_in_samples name kept count = vectors_line name (codes " task held in all schedules for") kept count

abbrev pub vectors_in : Plan → List ℕ → List ℕ → ℕ → ℕ → List ℕ
vectors_in plan name values kept count = if plan.json then json_line (room_vectors_data name values (Some kept) (Some count)) else kept_in_samples name kept count

abbrev pub too_many_in : Plan → List ℕ → List ℕ → List ℕ
too_many_in plan name values = if plan.json then json_line (room_vectors_data name values None None) else too_many_line name (length values)

abbrev pub taskless_in : Plan → List ℕ → List ℕ → List ℕ
taskless_in plan name values = if plan.json then json_line (room_vectors_data name values None (Some 0)) else name ++ codes " has no task\n"

-- A text for each vector of these values, and a line that says for how many the task is kept. All is well if it is for each.
pub record IsVectorsText (plan : Plan) (values : List ℕ) (spec : RoomSpec) (block : List ℕ) (well : Bool) (text : List ℕ) : Type 0 where
  pub few : vector_count values (processes spec) ≤ most_vectors
  pub kept : ℕ
  pub texts : List (List ℕ)
  pub each : AreVectorTexts (IsVectorText plan spec block) (vectors values (processes spec)) kept texts
  pub text_is : text ≡ concat texts ++ vectors_in plan spec.name values kept (vector_count values (processes spec))
  pub well_is : well ≡ (kept == vector_count values (processes spec))

-- there are more vectors than are judged
pub record IsTooManyText (plan : Plan) (values : List ℕ) (spec : RoomSpec) (well : Bool) (text : List ℕ) : Type 0 where
  pub many : most_vectors < vector_count values (processes spec)
  pub text_is : text ≡ too_many_in plan spec.name values
  pub well_is : well ≡ false

-- there is no task to judge
pub record IsTasklessText (plan : Plan) (values : List ℕ) (spec : RoomSpec) (well : Bool) (text : List ℕ) : Type 0 where
  pub none : spec.task ≡ None
  pub text_is : text ≡ taskless_in plan spec.name values
  pub well_is : well ≡ true

abbrev pub IsJudgedText : Plan → List ℕ → RoomSpec → List ℕ → Bool → List ℕ → Type 0
IsJudgedText plan values spec block well text = IsTasklessText plan values spec well text ⊎ (IsVectorsText plan values spec block well text ⊎ IsTooManyText plan values spec well text)

-- what is written of a room, with a block that says it
pub record IsInputsText (plan : Plan) (values : List ℕ) (spec : RoomSpec) (well : Bool) (text : List ℕ) : Type 0 where
  pub block : List ℕ
  pub says : block_of All block ≡ Ok (spec, length block)
  pub judged : IsJudgedText plan values spec block well text

-- The lines of the refused blocks, what is written of each room, and that these are samples; or this as JSON, and nothing else. All is well if no block was refused, and with each vector each schedule keeps the task.
abbrev pub IsInputsSample : List ℕ → Plan → List ℕ → Outcome → List ℕ → Type 0
IsInputsSample values plan input outcome output = IsRoomsOutput (IsInputsText plan values) plan (all_blocks All input) outcome output
