-- What is written of a room, as text or as JSON: two writings of the same answer.
use Rattle.std.specs.Prelude.{ℕ, ◌-◌, ◌==◌, min, Bool, false, List, [], ◌++◌, length, take, Option, Some, None, if◌then◌else◌}
use Rattle.std.specs.List.{flat_map}
use Rattle.json_lines.specs.Lines.{json_line}
use Rattle.room_spec.specs.Rooms.{RoomSpec}
use Rattle.run_search.specs.declared.judging.Judgement.{Judgement}
use Rattle.decision_tasks.specs.declared.judging.DecisionJudgement.{DecisionJudgement}
use Rattle.view_outcomes.specs.declared.listing.AllOutcomes.{AllOutcomes}
use Rattle.view_outcomes.specs.declared.listing.Listed.{Listed}
use Rattle.view_outcomes.specs.declared.search.Form.{Form}
use Rattle.view_outcomes.specs.declared.search.Form.TheVariants.{Text, Json}
use Rattle.view_outcomes.specs.declared.search.Search.{Search}
use Rattle.view_outcomes.specs.Asked.{top_of}
use Rattle.view_outcomes.specs.Json.{agreed_data, alone_data, decisions_data, found_data, judgement_data, outcome_data, too_many_data, unfinished_data, unjudged_data, unsearched_data, vectors_data}
use Rattle.view_outcomes.specs.Texts.{advice, alone_text, common_text, head_line, judgement_text, more_line, outcome_text, taskless_line, unfinished_line, unjudged_text}
use Rattle.view_outcomes.specs.Listing.{chosen}
use Rattle.view_outcomes.specs.KeptTexts.{kept_text, unsearched_text}
use Rattle.input_vectors.specs.Lines.{too_many_line}
use Rattle.view_outcomes.specs.VectorTexts.{agreed_line, vector_text, vector_unjudged_line, kept_in_runs}

-- ---- all outcomes

-- JSON says at the end how many processes stop
abbrev pub head_in : Form → List ℕ → ℕ → List ℕ
head_in Text name crashes = head_line name crashes
head_in Json name crashes = []

abbrev pub outcome_in : Form → List ℕ → List ℕ → Listed → List ℕ
outcome_in Text name block one = outcome_text name block one
outcome_in Json name block one = json_line (outcome_data name one)

-- these outcomes, in order
abbrev pub outcomes_shown : Form → List ℕ → List ℕ → List Listed → List ℕ
outcomes_shown form name block shown = flat_map (outcome_in form name block) shown

-- how many outcomes are shown
abbrev pub shown_count : Option ℕ → ℕ → ℕ
shown_count None count = count
shown_count (Some top) count = min top count

-- how many more there are; JSON says only how many there are
abbrev pub more_in : Form → List ℕ → ℕ → List ℕ
more_in Text name more = if more == 0 then [] else more_line name more
more_in Json name more = []

-- the first outcomes, as many as are shown, and how many more there are
abbrev pub listed_shown : Form → List ℕ → List ℕ → Option ℕ → List Listed → List ℕ
listed_shown form name block top all =
    outcomes_shown form name block (take (shown_count top (length all)) all) ++ more_in form name (length all - shown_count top (length all))

-- what they have in common, and whether each run keeps the room's task
abbrev pub common_in : Form → RoomSpec → List ℕ → ℕ → ℕ → AllOutcomes → List ℕ
common_in Text spec block crashes limit all = common_text spec block all
common_in Json spec block crashes limit all = json_line (found_data spec crashes limit all)

abbrev pub found_shown : Search → RoomSpec → List ℕ → ℕ → AllOutcomes → List ℕ
found_shown search spec block crashes all = listed_shown search.form spec.name block (top_of search.asked) all.listed.items ++ common_in search.form spec block crashes search.nodes all

abbrev pub unfinished_in : Form → RoomSpec → ℕ → ℕ → List ℕ
unfinished_in Text spec crashes limit = unfinished_line limit advice
unfinished_in Json spec crashes limit = json_line (unfinished_data spec crashes limit)

-- ---- a single outcome

-- the transcript of the outcome of this number, if there is one; in JSON, that outcome
abbrev pub alone_in : Form → List ℕ → List ℕ → ℕ → List Listed → List ℕ
alone_in Text name block number all = alone_text name block number (length all) (chosen number all)
alone_in Json name block number all = json_line (alone_data name number (length all) (chosen number all))

-- ---- only the task

abbrev pub taskless_in : Form → RoomSpec → ℕ → List ℕ
taskless_in Text spec limit = taskless_line spec.name
taskless_in Json spec limit = json_line (unjudged_data spec limit)

abbrev pub judgement_in : Form → RoomSpec → List ℕ → ℕ → Judgement → List ℕ
judgement_in Text spec block limit judgement = judgement_text spec.name block judgement
judgement_in Json spec block limit judgement = json_line (judgement_data false spec limit judgement)

abbrev pub unjudged_in : Form → RoomSpec → ℕ → List ℕ
unjudged_in Text spec limit = unjudged_text spec.name limit
unjudged_in Json spec limit = json_line (unjudged_data spec limit)

-- ---- all vectors of inputs

-- of a room with these inputs, as its block says
abbrev pub vector_in : Form → Bool → RoomSpec → List ℕ → List ℕ → ℕ → Judgement → List ℕ
vector_in Text brief spec block inputs limit judgement = vector_text brief spec.name inputs block judgement
vector_in Json brief spec block inputs limit judgement = json_line (judgement_data brief spec limit judgement)

abbrev pub vector_unjudged_in : Form → RoomSpec → List ℕ → ℕ → List ℕ
vector_unjudged_in Text spec inputs limit = vector_unjudged_line spec.name inputs limit
vector_unjudged_in Json spec inputs limit = json_line (unjudged_data spec limit)

abbrev pub vectors_in : Form → RoomSpec → ℕ → List ℕ → ℕ → ℕ → List ℕ
vectors_in Text spec limit values kept count = kept_in_runs spec.name kept count
vectors_in Json spec limit values kept count = json_line (vectors_data spec limit values kept count)

abbrev pub too_many_in : Form → RoomSpec → ℕ → List ℕ → List ℕ
too_many_in Text spec limit values = too_many_line spec.name (length values)
too_many_in Json spec limit values = json_line (too_many_data spec limit values)

-- what is said of a reduction from these inputs begins so
abbrev pub agreed_in : Form → List ℕ → List ℕ → List ℕ
agreed_in Text name inputs = agreed_line name inputs
agreed_in Json name inputs = json_line (agreed_data name inputs)

-- ---- a task of one's own

abbrev pub decisions_in : Form → RoomSpec → List ℕ → ℕ → DecisionJudgement → List ℕ
decisions_in Text spec block limit judgement = kept_text spec.name block judgement
decisions_in Json spec block limit judgement = json_line (decisions_data spec limit judgement)

abbrev pub unsearched_in : Form → RoomSpec → ℕ → List ℕ
unsearched_in Text spec limit = unsearched_text spec.name limit
unsearched_in Json spec limit = json_line (unsearched_data spec limit)
