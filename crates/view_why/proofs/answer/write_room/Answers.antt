use Rattle.std.proofs.Common.{◌∙◌, ap, ap₂, refl, subst}
use Rattle.room_files.specs.Verdicts.{is_well}
use Rattle.view_why.specs.Reported.{ReportedRoom}
use Rattle.view_why.specs.Why.{IsReasonIn, task_verdict_of, verdict_of}
use Rattle.view_why.proofs.Explaining.{is_verdict, reported_is}
use Rattle.view_why.proofs.Reporting.{task_answer}
use Rattle.view_why.proofs.answer.write_room.Goals as goal

pub returns : goal.returns
returns c = λ fed is.
    let reported = c.args.reported.now in
    let reason = c.why-reason.result in
    let excess = c.in_ok-excess.excess in
    let verdict = verdict_of reason in
    let task = task_verdict_of reported.spec.task excess in
    let said = c.in_ok-write_said.ensures in
    record {
      one = record { judged = record { room = reported.spec; verdict = verdict; task = task }; notes = said.0 };
      room = refl;
      verdict = is_verdict reported fed reason is c.why-reason.ensures.run.0 (λ broken breaks. (c.why-reason.ensures.first broken).0 breaks);
      task = task_answer reported fed excess is c.in_ok-excess.ensures.keeps c.in_ok-excess.ensures.first;
      because = subst (λ (room : ReportedRoom). IsReasonIn c.args.json room verdict task said.0) (reported_is reported fed is) said.1;
      written = said.2;
      well_is = c.is_well.ensures ∙ ap₂ is_well c.verdict_of-verdict.ensures (c.task_verdict_of-task.ensures ∙ ap (λ (room : ReportedRoom). task_verdict_of room.spec.task excess) c.reported.view_is);
    }
