-- Rooms that are sampled, and what is written of each.
use Rattle.std.specs.Prelude.{◌≡◌, ◌≤◌, ◌⊎◌, ℕ, ◌-◌, take, Bool, true, false, not, ◌&&◌, ◌||◌, Option, None, Some, is_some, slice_get, List, [], ◌∷◌, ◌++◌, length, Ok, IfSome, IsPermutation}
use Rattle.std.specs.List.{All, concat}
use Rattle.room_files.specs.Kinds.{block_of}
use Rattle.room_files.specs.declared.kinds.Kinds.TheVariants as kinds
use Rattle.room_spec.specs.Rooms.{RoomSpec}
use Rattle.view_sample.specs.Leads.{HasScript}
use Rattle.room_sample.specs.Groups.{grouped_if}
use Rattle.room_sample.specs.Samples.{AreAmongAll, AreMostFirst, Counted, IsSample}
use Rattle.room_sample.specs.Shown.{AreShown, IsShownIf, Shown}
use Rattle.view_sample.specs.Json.{alone_line, outcome_lines, room_line}
use Rattle.view_sample.specs.Tasks.{first_broken}
use Rattle.view_sample.specs.TaskTexts.{has_held, task_text}
use Rattle.view_sample.specs.Texts.{alone_text, sample_text, shown_count}
use Rattle.room_sample.specs.declared.sampling.Plan.{Plan}

-- the outcomes that are shown, in this order, as text or as JSON
abbrev pub shown_text : Bool → Plan → List ℕ → List ℕ → List Counted → List Shown → List ℕ
shown_text false plan name block outcomes shown = sample_text name block plan outcomes shown
shown_text true plan name block outcomes shown = outcome_lines name plan.brief shown

-- what is said of its task, with a script that breaks it; in JSON, of the room as a whole
abbrev pub end_text : Bool → Plan → RoomSpec → List ℕ → List Counted → Option Shown → List ℕ
end_text false plan spec block outcomes broken = task_text spec block plan outcomes broken
end_text true plan spec block outcomes broken = room_line spec plan outcomes

-- the script of the outcome of this number; in JSON, that outcome
abbrev pub alone_shown : Bool → Plan → List ℕ → List ℕ → ℕ → ℕ → Option Shown → List ℕ
alone_shown false plan name block count number shown = alone_text name block count number shown
alone_shown true plan name block count number shown = alone_line name plan.brief count number shown

-- a script of an outcome that breaks the task is shown
abbrev pub shows_breaking : Plan → Bool
shows_breaking plan = not plan.brief && not plan.json

-- the schedule of the only outcome that is shown: left out in brief JSON
abbrev pub shows_alone : Plan → Bool
shows_alone plan = not plan.brief || not plan.json

-- The text shows the outcomes of a room, those first that came most often, and each with a short script that leads to it. It then says in how many
-- schedules the room's task was broken, with a script that leads to the first outcome that breaks it; all is well if none broke it.
pub record IsListed (plan : Plan) (spec : RoomSpec) (block : List ℕ) (outcomes : List Counted) (well : Bool) (text : List ℕ) : Type 0 where
  pub ordered : List Counted
  pub all_ordered : IsPermutation outcomes ordered
  pub most_first : AreMostFirst plan.from ordered
  pub shown : List Shown
  pub are_shown : AreShown spec plan.crashes (not plan.brief) (take (shown_count plan.top (length ordered)) ordered) shown
  -- the script of each outcome leads to it
  pub scripts : plan.brief ≡ false → All (HasScript spec.name block) shown
  pub broken : Option Shown
  pub broken_is : IsShownIf spec plan.crashes (shows_breaking plan) (first_broken spec outcomes) broken
  pub breaking : shows_breaking plan ≡ true → IfSome broken (HasScript spec.name block)
  pub well_is : well ≡ has_held spec outcomes
  pub text_is : text ≡ shown_text plan.json plan spec.name block ordered shown ++ end_text plan.json plan spec block outcomes broken

-- The text is the script of the outcome of this number among those of a room, in the same order; all is well if there is that outcome.
pub record IsChosen (number : ℕ) (plan : Plan) (spec : RoomSpec) (block : List ℕ) (outcomes : List Counted) (well : Bool) (text : List ℕ) : Type 0 where
  pub ordered : List Counted
  pub all_ordered : IsPermutation outcomes ordered
  pub most_first : AreMostFirst plan.from ordered
  pub shown : Option Shown
  pub is_shown : IsShownIf spec plan.crashes (shows_alone plan) (slice_get ordered (number - 1)) shown
  pub script : shows_alone plan ≡ true → IfSome shown (HasScript spec.name block)
  pub well_is : well ≡ is_some (slice_get ordered (number - 1))
  pub text_is : text ≡ alone_shown plan.json plan spec.name block (length ordered) number shown

-- what is written of a room: its outcomes, and its task; or a single outcome
abbrev pub IsReported : Option ℕ → Plan → RoomSpec → List ℕ → List Counted → Bool → List ℕ → Type 0
IsReported None plan spec block outcomes well text = IsListed plan spec block outcomes well text
IsReported (Some number) plan spec block outcomes well text = IsChosen number plan spec block outcomes well text

-- The text shows a sample of the room, in groups if they are asked for: each outcome is among the outcomes of all runs of the room's protocol. The block
-- says the room.
pub record IsSampleText (plan : Plan) (spec : RoomSpec) (well : Bool) (text : List ℕ) : Type 0 where
  pub block : List ℕ
  pub says : block_of kinds.All block ≡ Ok (spec, length block)
  pub outcomes : List Counted
  pub sample : IsSample spec plan outcomes
  pub among : AreAmongAll spec outcomes
  pub reported : IsReported plan.outcome plan spec block (grouped_if plan.group outcomes) well text

-- a text for each room, in order; all is well if it is for each
abbrev pub AreSampleTexts : Plan → List RoomSpec → Bool → List (List ℕ) → Type 0
AreSampleTexts plan [] well [] = well ≡ true
AreSampleTexts plan (spec ∷ specs) well (text ∷ texts) = (one others : Bool) × IsSampleText plan spec one text × AreSampleTexts plan specs others texts × (well ≡ (one && others))
AreSampleTexts plan [] well (text ∷ texts) = ⊥
AreSampleTexts plan (spec ∷ specs) well [] = ⊥

-- a text for each room was added
pub record AddsSamples (plan : Plan) (specs : List RoomSpec) (well : Bool) (before after : List ℕ) : Type 0 where
  pub texts : List (List ℕ)
  pub each_room : AreSampleTexts plan specs well texts
  pub after_is : after ≡ before ++ concat texts

-- ---- if an allocation fails

-- the plan with this many schedules, by which this many outcomes are shown at most
abbrev pub cut_plan : Plan → ℕ → Option ℕ → Plan
cut_plan plan schedules top = record {
  schedules = schedules;
  crashes = plan.crashes;
  seed = plan.seed;
  from = plan.from;
  workers = plan.workers;
  group = plan.group;
  brief = plan.brief;
  top = top;
  json = plan.json;
  outcome = plan.outcome;
}

-- no more outcomes are shown than by the other
abbrev pub ShowsNoMore : Option ℕ → Option ℕ → Type 0
ShowsNoMore top other = (count : ℕ) → shown_count top count ≤ shown_count other count

-- The text shows a sample of the room by no more schedules than the plan has, and no more of its outcomes.
pub record IsCutText (plan : Plan) (spec : RoomSpec) (text : List ℕ) : Type 0 where
  pub schedules : ℕ
  pub top : Option ℕ
  pub fewer : schedules ≤ plan.schedules
  pub shows : ShowsNoMore top plan.top
  pub well : Bool
  pub is_sample : IsSampleText (cut_plan plan schedules top) spec well text

-- nothing was added, or such a text
abbrev pub AddsCut : Plan → RoomSpec → List ℕ → List ℕ → Type 0
AddsCut plan spec before after = (after ≡ before) ⊎ ((text : List ℕ) × IsCutText plan spec text × (after ≡ before ++ text))

-- nothing was added, or these outcomes, of which no more are shown
abbrev pub ListsFewer : Plan → RoomSpec → List ℕ → List Counted → List ℕ → List ℕ → Type 0
ListsFewer plan spec block outcomes before after =
    (after ≡ before) ⊎ ((top : Option ℕ) × (well : Bool) × (text : List ℕ) × ShowsNoMore top plan.top × IsListed (cut_plan plan plan.schedules top) spec block outcomes well text × (after ≡ before ++ text))

-- The texts of the first rooms were added, and what there was memory for of the next one.
pub record AddsFirst (plan : Plan) (specs : List RoomSpec) (before after : List ℕ) : Type 0 where
  pub count : ℕ
  pub next : RoomSpec
  pub there : slice_get specs count ≡ Some next
  pub well : Bool
  pub reported : List ℕ
  pub first : AddsSamples plan (take count specs) well before reported
  pub rest : AddsCut plan next reported after
