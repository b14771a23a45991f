-- Verdicts on a room, by what a transcript tells of it.
use Rattle.std.proofs.Common.{◌≡◌, ◌↔◌, ◌∙◌, ℕ, ◌<◌, List, length, Option, Some, None, refl, sym, subst, arith}
use Rattle.std.specs.Prelude.{slice_get, Result, Ok, Err, IsOk, IfErr, IfSome}
use Rattle.std.specs.Option.{option_map}
use Rattle.std.proofs.lemmas.Option.{slice_get-map, slice_get_within}
use Rattle.transcript.specs.declared.event.Event.{Event}
use Rattle.transcript.specs.Tasks.{IsFirstExcess, KeepsOwnTask, KeepsTask}
use Rattle.history_checker.specs.Verdicts.{ExceedsOn, FedEvent, IsTaskAnswer}
use Rattle.view_why.specs.Reported.{IsExcess, IsReported, ReportedRoom, judged_room, lines_of}
use Rattle.view_why.specs.Why.{task_verdict_of}
use Rattle.view_why.specs.declared.reported.Excess.{Excess}

-- an event that was fed on a line
pub record IsFedOn (fed : List FedEvent) (at line : ℕ) : Type 0 where
  pub one : FedEvent
  pub there : slice_get fed at ≡ Some one
  pub line_is : one.line ≡ line

fed_on : (fed : List FedEvent) (at line : ℕ) (found : Option FedEvent) → slice_get fed at ≡ found → option_map (λ (one : FedEvent). one.line) found ≡ Some line → IsFedOn fed at line
fed_on fed at line None there is = absurd cc
fed_on fed at line (Some one) there is = record { one = one; there = there; line_is = cc }

pub fed_at : (fed : List FedEvent) (at line : ℕ) → slice_get (lines_of fed) at ≡ Some line → IsFedOn fed at line
fed_at fed at line is = fed_on fed at line (slice_get fed at) refl (sym (slice_get-map (λ (one : FedEvent). one.line) fed at) ∙ is)

pub excess_within : (reported : ReportedRoom) (most at : ℕ) → length reported.lines ≡ length reported.events → IsFirstExcess (judged_room reported.spec) most reported.events at → at < length reported.lines
excess_within reported most at same is = omega (arith, same, slice_get_within reported.events at is.event is.there)

-- the decision that the task doesn't allow stands on that line
exceeds : (reported : ReportedRoom) (fed : List FedEvent) (most at line : ℕ) → IsReported fed reported → IsFirstExcess (judged_room reported.spec) most reported.events at → slice_get reported.lines at ≡ Some line → ExceedsOn (judged_room reported.spec) most fed line
exceeds reported fed most at line is excess there =
    let on = fed_at fed at line (subst (λ (lines : List ℕ). slice_get lines at ≡ Some line) is.1 there) in
    record { place = at; first = subst (λ (events : List Event). IsFirstExcess (judged_room reported.spec) most events at) is.0 excess; one = on.one; there = on.there; line_is = on.line_is }

answer_by : (reported : ReportedRoom) (fed : List FedEvent) (task : Option ℕ) (excess : Result (Unit {0}) Excess) → reported.spec.task ≡ task → IsReported fed reported → (IsOk excess → IfSome task (λ most. KeepsTask (judged_room reported.spec) most reported.events)) → IfErr excess (IsExcess reported)
    → IsTaskAnswer (judged_room reported.spec) fed (task_verdict_of task excess)
answer_by reported fed None excess task is keeps exceeds_it = task
answer_by reported fed (Some most) (Ok kept) task is keeps exceeds_it = (most, task, subst (λ (events : List Event). KeepsTask (judged_room reported.spec) most events) is.0 (keeps refl))
answer_by reported fed (Some most) (Err excess) task is keeps exceeds_it = (excess.most, exceeds_it.task, exceeds reported fed excess.most excess.at excess.line is exceeds_it.first exceeds_it.line)

-- the answer on a room's task, by where its decisions exceed it
pub task_answer : (reported : ReportedRoom) (fed : List FedEvent) (excess : Result (Unit {0}) Excess) → IsReported fed reported → IsOk excess ↔ KeepsOwnTask (judged_room reported.spec) reported.events → IfErr excess (IsExcess reported)
    → IsTaskAnswer (judged_room reported.spec) fed (task_verdict_of reported.spec.task excess)
task_answer reported fed excess is keeps exceeds_it = answer_by reported fed reported.spec.task excess refl is keeps.0 exceeds_it

same_some : (a b : ℕ) → ◌≡◌ {A = Option ℕ} (Some a) (Some b) → a ≡ b
same_some a b e = cc

-- the excess of a task that allows this many values
pub excess_is : (reported : ReportedRoom) (most at line : ℕ) → Some most ≡ reported.spec.task → (n : ℕ) × (reported.spec.task ≡ Some n) × IsFirstExcess (judged_room reported.spec) n reported.events at → slice_get reported.lines at ≡ Some line
    → IsExcess reported (record { at = at; line = line; most = most })
excess_is reported most at line is one there = record {
  task = sym is;
  first = subst (λ (n : ℕ). IsFirstExcess (judged_room reported.spec) n reported.events at) (sym (same_some most one.0 (is ∙ one.1))) one.2;
  line = there;
}
