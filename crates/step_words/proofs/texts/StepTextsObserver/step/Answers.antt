use Rattle.std.proofs.Common.{◌≡◌, ◌≢◌, ◌∙◌, Option, false, subst, sym}
use Rattle.std.specs.Prelude.{MatchOption}
use Rattle.room_spec.specs.Rooms.{RoomSpec, IsWithinLimits}
use Rattle.room_core.specs.Calls.{RoomState, step_reply}
use Rattle.room_core.specs.Reading.{AreFieldsOf}
use Rattle.room_core.specs.declared.reply.StepReply.TheVariants.{Stepped}
use Rattle.room_steps.specs.Steps.{IsStepOf}
use Rattle.room_steps.specs.declared.step.AtomicStep.{AtomicStep}
use Rattle.step_words.specs.Reported.{Reporting, agreement_for, asked_of, with_step}
use Rattle.step_words.proofs.Within.{reported_within}
use Rattle.step_words.proofs.texts.StepTextsObserver.step.Goals as goal

pub note-requires : goal.note-requires
note-requires c =
    let room = c.args.room.now in
    let limits = subst IsWithinLimits c.spec.ensures.value c.shape-shape.ensures.limits in
    let was = subst (λ (taken : Option AtomicStep). MatchOption taken (step_reply room c.args.i ≢ Stepped) (λ step. (step_reply room c.args.i ≡ Stepped) × IsStepOf room c.args.i step)) c.in-Some.is c.take_step-reply.ensures.step in
    (reported_within room c.take_step-reply.new.room c.spec-in-Some.result.now c.args.i c.in-Some.step limits c.spec.ensures.run c.take_step-reply.ensures.room c.spec-in-Some.ensures.value was.0 was.1).1

pub returns-in-Some-clause-seen : goal.returns-in-Some-clause-seen
returns-in-Some-clause-seen c = λ stepped.
    let room = c.args.room.now in
    let limits = subst IsWithinLimits c.spec.ensures.value c.shape-shape.ensures.limits in
    let was = subst (λ (taken : Option AtomicStep). MatchOption taken (step_reply room c.args.i ≢ Stepped) (λ step. (step_reply room c.args.i ≡ Stepped) × IsStepOf room c.args.i step)) c.in-Some.is c.take_step-reply.ensures.step in
    let same = (reported_within room c.take_step-reply.new.room c.spec-in-Some.result.now c.args.i c.in-Some.step limits c.spec.ensures.run c.take_step-reply.ensures.room c.spec-in-Some.ensures.value was.0 was.1).0 in
    record {
      step = c.in-Some.step;
      is = was.1;
      consequence = record { effect = c.effect.result; unreadable = c.asked_of.result; agreement = c.agreement_for.result };
      effect = λ one. c.effect.ensures room one c.of-start.ensures was.0 c.take_step-reply.ensures.room;
      unreadable = λ fields are.
          subst (λ (spec : RoomSpec). c.asked_of.result ≡ asked_of spec fields c.in-Some.step.process c.in-Some.step.end) (sym c.spec-in-Some.ensures.value ∙ same)
          (c.asked_of.ensures fields (subst (λ (after : RoomState). AreFieldsOf after fields) (sym c.take_step-reply.ensures.room) are));
      agreement = λ fields are.
          subst (λ (spec : RoomSpec). c.agreement_for.result ≡ agreement_for c.args.self.now.json spec fields c.in-Some.step.place) (sym c.spec-in-Some.ensures.value ∙ same)
          (subst (λ (self : Reporting). c.agreement_for.result ≡ agreement_for self.json c.take_step-reply.new.room.spec fields c.in-Some.step.place) c.self.view_is
          (c.agreement_for.ensures fields (subst (λ (after : RoomState). AreFieldsOf after fields) (sym c.take_step-reply.ensures.room) are)));
      number = c.next_number-number.result;
      numbered = c.next_number-number.ensures;
      reported = subst (λ (spec : RoomSpec). c.note.new.self.ran_out ≡ false → c.note.new.self ≡ with_step c.args.self.now spec c.next_number-number.result c.in-Some.step (record { effect = c.effect.result; unreadable = c.asked_of.result; agreement = c.agreement_for.result })) same c.note.ensures;
    }
