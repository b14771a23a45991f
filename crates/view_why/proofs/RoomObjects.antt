-- The objects of rooms say what breaks their runs and tasks.
use Rattle.std.proofs.Common.{◌≡◌, ℕ, List, Option, Some, None, refl, sym, ap, subst}
use Rattle.std.specs.Prelude.{Result, Ok, Err, IfOk, slice_get}
use Rattle.std.specs.declared.alloc.AllocError.{AllocError}
use Rattle.serde_json.specs.Data.{Data, null}
use Rattle.serde_json.specs.View.{view}
use Rattle.serde_json.specs.declared.value.Value.{Value}
use Rattle.transcript.specs.declared.event.Event.{Event}
use Rattle.view_why.specs.Json.{IsBreakData, IsExcessData, break_data, excess_data, kept_data, room_data, task_data}
use Rattle.view_why.specs.Reported.{AreDecidedBefore, IsExcess, IsLineBreak, ReportedRoom, given_inputs}
use Rattle.view_why.specs.Why.{IsRoomData, IsTaskData, task_verdict_of, verdict_of}
use Rattle.view_why.specs.declared.reported.Decision.{Decision}
use Rattle.view_why.specs.declared.reported.Excess.{Excess}
use Rattle.view_why.specs.declared.reported.LineBreak.{LineBreak}

-- a value was made, or an allocation failed
abbrev pub Made : Type 0
Made = Result Value AllocError

-- what holds of a value's data
holds_of : (P : Data → Type 0) (d : Data) (result : Made) → P d → IfOk result (λ value. view value ≡ d) → IfOk result (λ value. P (view value))
holds_of P d (Ok value) holds is = subst P (sym is) holds
holds_of P d (Err fault) holds is = tt

pub break_of : (reported : ReportedRoom) (own : List ℕ) (broken : LineBreak) (event : Event) (result : Made) → IsLineBreak reported broken → own ≡ reported.spec.own → slice_get reported.events broken.at ≡ Some event → IfOk result (λ value. view value ≡ break_data own event broken)
    → IfOk result (λ value. IsBreakData reported broken.line (view value))
break_of reported own broken event result breaks own_is there is =
    holds_of (IsBreakData reported broken.line) (break_data own event broken) result
    (record { broken = broken; breaks = breaks; line_is = refl; event = event; there = there; is = ap (λ (inputs : List ℕ). break_data inputs event broken) own_is }) is

pub excess_of : (reported : ReportedRoom) (inputs : List ℕ) (excess : Excess) (event : Event) (before : List Decision) (result : Made) → IsExcess reported excess → inputs ≡ given_inputs reported.spec → slice_get reported.events excess.at ≡ Some event → AreDecidedBefore reported excess.at before
    → IfOk result (λ value. view value ≡ excess_data inputs excess.line event before) → IfOk result (λ value. IsExcessData reported excess.line (view value))
excess_of reported inputs excess event before result exceeds own there decided is =
    holds_of (IsExcessData reported excess.line) (excess_data inputs excess.line event before) result
    (record { excess = excess; exceeds = exceeds; line_is = refl; event = event; there = there; before = before; decided = decided; is = ap (λ (i : List ℕ). excess_data i excess.line event before) own }) is

kept_by : (reported : ReportedRoom) (task : Option ℕ) (it : Data) → it ≡ kept_data reported.spec.task → IsTaskData reported (task_verdict_of task (Ok tt)) it
kept_by reported None it is = is
kept_by reported (Some most) it is = is

pub kept_of : (reported : ReportedRoom) (task : Option ℕ) (result : Made) → task ≡ reported.spec.task → IfOk result (λ value. view value ≡ kept_data task) → IfOk result (λ value. IsTaskData reported (task_verdict_of reported.spec.task (Ok tt)) (view value))
kept_of reported task result own is = holds_of (IsTaskData reported (task_verdict_of reported.spec.task (Ok tt))) (kept_data task) result (kept_by reported reported.spec.task (kept_data task) (ap kept_data own)) is

pub broken_of : (reported : ReportedRoom) (one : Excess) (why : Data) (result : Made) → IsExcess reported one → IsExcessData reported one.line why → IfOk result (λ value. view value ≡ task_data one.most why)
    → IfOk result (λ value. IsTaskData reported (task_verdict_of reported.spec.task (Err one)) (view value))
broken_of reported one why result exceeds is made =
    holds_of (IsTaskData reported (task_verdict_of reported.spec.task (Err one))) (task_data one.most why) result
    (subst (λ (task : Option ℕ). IsTaskData reported (task_verdict_of task (Err one)) (task_data one.most why)) (sym exceeds.task) (one.most, exceeds.task, why, is, refl)) made

pub run_of : (reported : ReportedRoom) (excess : Result (Unit {0}) Excess) (name : List ℕ) (task : Data) (result : Made) → name ≡ reported.spec.name → IsTaskData reported (task_verdict_of reported.spec.task excess) task
    → IfOk result (λ value. view value ≡ room_data name null task) → IfOk result (λ value. IsRoomData reported (verdict_of (Ok tt)) (task_verdict_of reported.spec.task excess) (view value))
run_of reported excess name task result own is made =
    holds_of (IsRoomData reported (verdict_of (Ok tt)) (task_verdict_of reported.spec.task excess)) (room_data name null task) result (task, is, ap (λ (n : List ℕ). room_data n null task) own) made

pub no_run_of : (reported : ReportedRoom) (broken : LineBreak) (excess : Result (Unit {0}) Excess) (name : List ℕ) (why : Data) (result : Made) → name ≡ reported.spec.name → IsBreakData reported broken.line why
    → IfOk result (λ value. view value ≡ room_data name why null) → IfOk result (λ value. IsRoomData reported (verdict_of (Err broken)) (task_verdict_of reported.spec.task excess) (view value))
no_run_of reported broken excess name why result own is made =
    holds_of (IsRoomData reported (verdict_of (Err broken)) (task_verdict_of reported.spec.task excess)) (room_data name why null) result (why, is, ap (λ (n : List ℕ). room_data n why null) own) made
