-- Whether a report satisfies a goal.
use Rattle.std.specs.Prelude.{ℕ, ◌==◌, Bool, true, false, not, ◌&&◌, ◌||◌, List, length, Option, Some, None, if◌then◌else◌, slice_get}
use Rattle.std.specs.List.{fold, list_any}
use Rattle.ws_history.specs.declared.states.Report.{Report}
use Rattle.ws_history.specs.declared.states.ProcessState.{ProcessState}
use Rattle.ws_history.specs.declared.states.ProcessState.TheVariants as states
use Rattle.view_grade.specs.declared.goal.Fact.{Fact}
use Rattle.view_grade.specs.declared.goal.Fact.TheVariants.{Decided, Spent, Held, Going, Input, Crashed, SimulatorDecided, History}
use Rattle.view_grade.specs.declared.goal.Joint.{Joint}
use Rattle.view_grade.specs.declared.goal.Joint.TheVariants.{And, Or}
use Rattle.view_grade.specs.declared.goal.Claim.{Claim}

-- a report, and what each simulator of its room had decided and which input each process had when it was made, by their numbers
pub record ReportedParts : Type 0 where
  pub report : Report
  pub decisions : List (Option ℕ)
  pub inputs : List (Option ℕ)

abbrev pub state_of : Report → ℕ → Option ProcessState
state_of report process = slice_get report.states.items process

abbrev pub has_decided : ℕ → Option ProcessState → Bool
has_decided value (Some (states.Decided decided)) = decided == value
has_decided value state = false

abbrev pub is_spent : Option ProcessState → Bool
is_spent (Some states.Spent) = true
is_spent state = false

abbrev pub is_held : Option ProcessState → Bool
is_held (Some (states.Held simulator)) = true
is_held state = false

abbrev pub is_going : Option ProcessState → Bool
is_going (Some states.Going) = true
is_going state = false

-- what a simulator had decided, if there is such a simulator
abbrev pub decision_of : ReportedParts → ℕ → Option (Option ℕ)
decision_of reported simulator = slice_get reported.decisions simulator

abbrev pub is_decision : ℕ → Option (Option ℕ) → Bool
is_decision value (Some (Some decision)) = decision == value
is_decision value (Some None) = false
is_decision value None = false

-- the input that a process had, if there is such a process
abbrev pub reported_input : ReportedParts → ℕ → Option (Option ℕ)
reported_input reported process = slice_get reported.inputs process

-- whether this is the input, or there was none yet
abbrev pub is_input : Option ℕ → Option (Option ℕ) → Bool
is_input input None = false
is_input None (Some None) = true
is_input None (Some (Some value)) = false
is_input (Some value) (Some None) = false
is_input (Some value) (Some (Some input)) = input == value

abbrev pub is_fact : ReportedParts → Fact → Bool
is_fact reported (Decided process value) = has_decided value (state_of reported.report process)
is_fact reported (Spent process) = is_spent (state_of reported.report process)
is_fact reported (Held process) = is_held (state_of reported.report process)
is_fact reported (Going process) = is_going (state_of reported.report process)
is_fact reported (Input process input) = is_input input (reported_input reported process)
is_fact reported (Crashed simulator) = list_any (λ crashed. crashed == simulator) reported.report.crashed.items
is_fact reported (SimulatorDecided simulator value) = is_decision value (decision_of reported simulator)
is_fact reported (History events) = length reported.report.history == events

abbrev pub holds : ReportedParts → Claim → Bool
holds reported claim = if claim.negated then not (is_fact reported claim.fact) else is_fact reported claim.fact

-- ---- claims joined by `and` and `or`, of which `and` binds more strongly

-- whether all claims of an earlier alternative hold, and all of the last one
pub record Joined : Type 0 where
  pub earlier : Bool
  pub last : Bool

abbrev pub joined_by : Joint → Joined → Bool → Joined
joined_by And joined claim = record { earlier = joined.earlier; last = joined.last && claim }
joined_by Or joined claim = record { earlier = joined.earlier || joined.last; last = claim }

abbrev pub joined_with : ReportedParts → Joined → Claim → Joined
joined_with reported joined claim = joined_by claim.joint joined (holds reported claim)

abbrev pub joined : ReportedParts → List Claim → Joined
joined reported claims = fold (joined_with reported) (record { earlier = false; last = false }) claims

-- all claims of some alternative hold
abbrev pub satisfies : ReportedParts → List Claim → Bool
satisfies reported claims = (joined reported claims).earlier || (joined reported claims).last
