-- Rooms that are runs and keep their tasks.
use Rattle.std.proofs.Common.{◌≡◌, ◌∙◌, ◌+◌, ◌&&◌, ℕ, Bool, true, false, List, [], ◌++◌, Option, Some, None, refl, sym, ap, subst}
use Rattle.std.specs.Prelude.{IfSome, slice_get}
use Rattle.std.proofs.lemmas.List.{append-nil, append_assoc}
use Rattle.std.proofs.lemmas.Option.{get_or_from_slice_get, slice_get_within}
use Rattle.room_spec.specs.Rooms.{RoomSpec, is_reduction}
use Rattle.history_checker.specs.Verdicts.{FedEvent, IsTaskAnswer, IsVerdict, fed_to}
use Rattle.history_checker.specs.declared.verdict.Verdict.{Verdict}
use Rattle.history_checker.specs.declared.verdict.Verdict.TheVariants.{Run, Broken}
use Rattle.history_checker.specs.declared.verdict.TaskVerdict.{TaskVerdict}
use Rattle.history_checker.specs.declared.verdict.TaskVerdict.TheVariants as tasks
use Rattle.room_files.specs.Reports.{task_line, verdict_line}
use Rattle.room_files.specs.Verdicts.{is_well}
use Rattle.view_why.specs.Reported.{ReportedRoom}
use Rattle.view_why.specs.Why.{AreOrdinary, IsReasonFor, IsRoomSaid}
use Rattle.view_why.specs.Verdicts.{IsVerdictBy}
use Rattle.view_why.proofs.Explaining.{SoFar, one_more}
use Rattle.view_why.proofs.Owning.{judged_as_is}

-- one of rooms of which none is a reduction
pub one_ordinary : (rooms : List RoomSpec) (index : ℕ) (spec : RoomSpec) → AreOrdinary rooms → slice_get rooms index ≡ Some spec → is_reduction spec ≡ false
one_ordinary rooms index spec ordinary there = subst (λ (room : RoomSpec). is_reduction room ≡ false) (get_or_from_slice_get rooms index spec spec there) (ordinary index spec (slice_get_within rooms index spec there))

-- of a room that is a run and keeps its task there is nothing to explain
nothing_to_say : (reported : ReportedRoom) (verdict : Verdict) (task : Option TaskVerdict) → is_well verdict task ≡ true → IsReasonFor reported verdict task []
nothing_to_say reported Run None well = refl
nothing_to_say reported Run (Some tasks.Holds) well = refl
nothing_to_say reported Run (Some (tasks.Broken line)) well = absurd cc
nothing_to_say reported (Broken line) task well = absurd cc

-- what is written of it
pub run_said : (spec : RoomSpec) (fed : List FedEvent) (verdict : Verdict) (task : Option TaskVerdict) (name old new : List ℕ) → is_well verdict task ≡ true → is_reduction spec ≡ false → IsVerdict spec fed verdict → IsTaskAnswer spec fed task → name ≡ spec.name
    → new ≡ (old ++ verdict_line name verdict) ++ task_line name verdict task → IsRoomSaid false spec fed old new true
run_said spec fed verdict task name old new well ordinary judged answered named written = record {
  one = record { judged = record { room = spec; verdict = verdict; task = task }; notes = [] };
  room = refl;
  verdict = subst (λ (reduction : Bool). IsVerdictBy reduction spec fed verdict) (sym ordinary) judged;
  task = subst (λ (room : RoomSpec). IsTaskAnswer room fed task) (sym (judged_as_is spec ordinary)) answered;
  because = nothing_to_say _ verdict task well;
  written = written ∙ append_assoc old (verdict_line name verdict) (task_line name verdict task) ∙ ap (λ (n : List ℕ). old ++ (verdict_line n verdict ++ task_line n verdict task)) named
      ∙ ap (λ (line : List ℕ). old ++ line) (sym (append-nil (verdict_line spec.name verdict ++ task_line spec.name verdict task)));
  well_is = sym well;
}

and_true : (b : Bool) → (b && true) ≡ b
and_true true = refl
and_true false = refl

-- one such room more
pub one_run_more : (rooms : List RoomSpec) (start refused : List ℕ) (fed : List FedEvent) (count : ℕ) (output : List ℕ) (well : Bool) (room : RoomSpec) (output_now : List ℕ)
    → SoFar false rooms start refused fed count output well → slice_get rooms count ≡ Some room → IsRoomSaid false room (fed_to room.name fed) output output_now true → SoFar false rooms start refused fed (count + 1) output_now well
one_run_more rooms start refused fed count output well room output_now so_far there said =
    subst (SoFar false rooms start refused fed (count + 1) output_now) (and_true well) (one_more false rooms start refused fed count output well room output_now true so_far there said)

-- what holds of an answer by one thing holds of it by another that follows
pub found_still : {A : Type 0} (P Q : A → Type 0) (found : Option A) → ((one : A) → P one → Q one) → IfSome found P → IfSome found Q
found_still P Q None follows is = is
found_still P Q (Some one) follows is = follows one is
