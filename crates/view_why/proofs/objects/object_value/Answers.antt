use Rattle.std.proofs.Common.{◌≡◌, ◌∙◌, ap, subst, sym}
use Rattle.std.specs.Prelude.{IfOk, Result}
use Rattle.serde_json.specs.View.{view}
use Rattle.view_why.specs.Reported.{ReportedRoom}
use Rattle.view_why.specs.Why.{IsRoomData, task_verdict_of, verdict_of}
use Rattle.view_why.specs.declared.reported.LineBreak.{LineBreak}
use Rattle.view_why.proofs.RoomObjects.{no_run_of}
use Rattle.view_why.proofs.objects.object_value.Goals as goal

pub returns-in_ok-why-in-Err : goal.returns-in_ok-why-in-Err
returns-in_ok-why-in-Err c =
    let reported = c.args.reported.now in
    let name : c.as_str-name.result.now ≡ reported.spec.name = c.as_str-name.ensures.text ∙ c.name.ensures ∙ ap (λ (room : ReportedRoom). room.spec.name) c.reported.view_is in
    subst (λ (reason : Result (Unit {0}) LineBreak). IfOk c.broken_room.result (λ value. IsRoomData reported (verdict_of reason) (task_verdict_of reported.spec.task c.args.excess) (view value))) (sym c.in-Err.is)
    (no_run_of reported c.in-Err.broken c.args.excess c.as_str-name.result.now (view c.in_ok-why-in-Err.why) c.broken_room.result name c.in_ok-why-in-Err.ensures c.broken_room.ensures)
