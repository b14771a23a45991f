-- What is said of rooms whose runs are judged by a task of one's own.
use Rattle.std.specs.Prelude.{◌≡◌, ◌⊎◌, ℕ, Bool, true, false, ◌&&◌, List, [], ◌∷◌, ◌++◌, length, map, codes, decimal, Option, Some, Ok, slice_get, slice_index_or, None}
use Rattle.std.specs.List.{concat, range_with_len}
use Rattle.serde_json.specs.Data.{Data, member, no_members, null, number, object, string, unsigned}
use Rattle.json_lines.specs.Lines.{json_line}
use Rattle.json_lines.specs.Values.{event_data, row_data}
use Rattle.protocol_lang.specs.Trees.{Tree}
use Rattle.room_spec.specs.Rooms.{is_reduction}
use Rattle.transcript.specs.Grammar.{event_line}
use Rattle.transcript.specs.Runs.{IsRun}
use Rattle.transcript.specs.Tasks.{KeepsOwnTask}
use Rattle.transcript.specs.declared.event.Event.{Event}
use Rattle.history_checker.specs.Verdicts.{FedEvent}
use Rattle.decision_tasks.specs.Tasks.{IsFirstBroken, KeepsDecisions}
use Rattle.decision_tasks.specs.declared.history.Moment.{Moment}
use Rattle.room_files.specs.Blocks.{Setup}
use Rattle.room_files.specs.Inputs.{input_says}
use Rattle.room_files.specs.Verdicts.{outcome_if}
use Rattle.room_files.specs.declared.outcome.Outcome.{Outcome}
use Rattle.room_files.specs.declared.outcome.Outcome.TheVariants.{AllWell, SomeRefused}
use Rattle.room_files.specs.declared.kinds.Kinds.TheVariants.{All}
use Rattle.fault_text.specs.Lines.{indented_all}
use Rattle.view_why.specs.Reported.{ReportedRoom}
use Rattle.view_why.specs.Why.{IsExplanation, reported_of}
use Rattle.view_why.specs.Words.{process_words}
use Rattle.view_why.specs.declared.reported.Disallowed.{Disallowed}

-- ---- what breaks the task

-- after the event on this line, and after none before it, what was decided is not what the task allows
pub record IsDisallowed (lines : List Tree) (reported : ReportedRoom) (one : Disallowed) : Type 0 where
  pub first : IsFirstBroken lines reported.spec reported.events one.moment
  pub line : slice_get reported.lines one.moment.at ≡ Some one.line

-- ---- in words

-- what a process has decided, if it has
abbrev pub decider_words : ℕ → Option ℕ → List ℕ
decider_words p None = []
decider_words p (Some v) = process_words (codes "process") p [] ++ process_words (codes " decided") v (codes "; ")

abbrev pub deciders_words : List (Option ℕ) → List ℕ
deciders_words decisions = concat (map (λ p. decider_words p (slice_index_or decisions p None)) (range_with_len 0 (length decisions)))

abbrev pub refused_words : ℕ → ℕ → List ℕ
refused_words p v = process_words (codes "no line allows that process") p (codes " decided") ++ process_words [] v []

-- what each process has decided, and which of this no line allows
abbrev pub moment_words : Moment → List ℕ
moment_words moment = deciders_words moment.decisions.items ++ refused_words moment.process moment.value

abbrev pub disallowed_line : List ℕ → ℕ → List ℕ
disallowed_line name line = (name ++ codes " decisions broken: line") ++ ((32 ∷ decimal line) ++ codes "\n")

-- ---- as JSON

abbrev pub moment_data : Event → Disallowed → Data
moment_data event one =
    object (member (codes "decided") (row_data one.moment.decisions.items) (member (codes "event") (event_data event) (member (codes "line") (number (unsigned one.line))
    (member (codes "process") (number (unsigned one.moment.process)) (member (codes "value") (number (unsigned one.moment.value)) no_members)))))

abbrev pub broken_data : Data → Data
broken_data broken = object (member (codes "break") broken no_members)

-- what breaks the task, or `null` for nothing
abbrev pub decisions_data : List ℕ → Data → Data
decisions_data name broken = object (member (codes "decisions") (broken_data broken) (member (codes "room") (string name) no_members))

-- ---- a room

abbrev pub allowed_in : Bool → List ℕ → List ℕ
allowed_in false name = name ++ codes " decisions are allowed\n"
allowed_in true name = json_line (decisions_data name null)

abbrev pub disallowed_in : Bool → List ℕ → Event → Disallowed → List ℕ
disallowed_in false name event one = disallowed_line name one.line ++ indented_all (event_line name event ∷ moment_words one.moment ∷ [])
disallowed_in true name event one = json_line (decisions_data name (moment_data event one))

-- the room's run keeps the task, and the text says so
pub record IsAllowedText (json : Bool) (lines : List Tree) (reported : ReportedRoom) (kept : Bool) (text : List ℕ) : Type 0 where
  pub keeps : KeepsDecisions lines reported.spec reported.events
  pub text_is : text ≡ allowed_in json reported.spec.name
  pub kept_is : kept ≡ true

-- it breaks the task, and the text says where
pub record IsDisallowedText (json : Bool) (lines : List Tree) (reported : ReportedRoom) (kept : Bool) (text : List ℕ) : Type 0 where
  pub one : Disallowed
  pub breaks : IsDisallowed lines reported one
  pub event : Event
  pub there : slice_get reported.events one.moment.at ≡ Some event
  pub text_is : text ≡ disallowed_in json reported.spec.name event one
  pub kept_is : kept ≡ false

-- the room is an ordinary one, and its events are a run that keeps its own task
abbrev pub IsWellRoom : ReportedRoom → Type 0
IsWellRoom reported = (is_reduction reported.spec ≡ false) × IsRun reported.spec reported.events × KeepsOwnTask reported.spec reported.events

-- of any other room nothing is said
pub record IsNoText (reported : ReportedRoom) (kept : Bool) (text : List ℕ) : Type 0 where
  pub other : IsWellRoom reported → ⊥
  pub text_is : text ≡ []
  pub kept_is : kept ≡ true

-- what is said of a room's decisions: whether the task is kept, and if not, the first line at which it is not
abbrev pub IsDecisionsText : Bool → List Tree → ReportedRoom → Bool → List ℕ → Type 0
IsDecisionsText json lines reported kept text = (IsWellRoom reported × (IsAllowedText json lines reported kept text ⊎ IsDisallowedText json lines reported kept text)) ⊎ IsNoText reported kept text

-- ---- all rooms

-- a text for each room, in order; the task is kept if it is in each
abbrev pub AreDecisionsTexts : Bool → List Tree → List ReportedRoom → Bool → List (List ℕ) → Type 0
AreDecisionsTexts json lines [] kept [] = kept ≡ true
AreDecisionsTexts json lines (reported ∷ rooms) kept (text ∷ texts) = (one others : Bool) × IsDecisionsText json lines reported one text × AreDecisionsTexts json lines rooms others texts × (kept ≡ (one && others))
AreDecisionsTexts json lines [] kept (text ∷ texts) = ⊥
AreDecisionsTexts json lines (reported ∷ rooms) kept [] = ⊥

-- a text for each room was added
pub record AddsDecisions (json : Bool) (lines : List Tree) (rooms : List ReportedRoom) (kept : Bool) (before after : List ℕ) : Type 0 where
  pub texts : List (List ℕ)
  pub each_room : AreDecisionsTexts json lines rooms kept texts
  pub after_is : after ≡ before ++ concat texts

-- the outcome with that of the task
abbrev pub with_kept : Outcome → Bool → Outcome
with_kept AllWell kept = outcome_if kept
with_kept SomeRefused kept = SomeRefused

-- What `why` says of an input, and then of each ordinary room whose events are a run that keeps its own task whether the run keeps this one.
pub record IsKeptExplanation (json : Bool) (lines : List Tree) (input : List ℕ) (outcome : Outcome) (output : List ℕ) : Type 0 where
  pub setup : Setup
  pub fed : List FedEvent
  pub says : input_says All input ≡ Ok (setup, fed)
  pub first : List ℕ
  pub first_outcome : Outcome
  pub explained : IsExplanation json input setup.rooms setup.refused fed first_outcome first
  pub kept : Bool
  pub decisions : AddsDecisions json lines (map (λ room. reported_of room fed) setup.rooms) kept first output
  pub outcome_is : outcome ≡ with_kept first_outcome kept
