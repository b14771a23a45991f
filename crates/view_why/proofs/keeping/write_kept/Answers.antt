use Rattle.std.proofs.Common.{◌≡◌, ◌∙◌, ◌++◌, ◌∷◌, [], List, ap, subst, sym}
use Rattle.std.proofs.lemmas.List.{append-nil, append_assoc}
use Rattle.view_why.specs.Keeping.{AddsDecisions}
use Rattle.view_why.specs.Reported.{ReportedRoom}
use Rattle.view_why.proofs.KeptRooms.{no_texts, one_text_more}
use Rattle.view_why.proofs.keeping.write_kept.Goals as goal

pub loop-reported-init : goal.loop-reported-init
loop-reported-init c = (tt, tt, [], sym (c.into_iter-reported-iterator.ensures.into_iter_gives ∙ c.iter-reported-items.ensures), no_texts c.args.json c.args.task.now c.args.output.now)

pub loop-reported-preserved : goal.loop-reported-preserved
loop-reported-preserved c =
    let done = c.loop-reported.invariant.2 in
    let room = c.in-Some.reported.now in
    let split = c.loop-reported.invariant.3 ∙ ap (λ (left : List ReportedRoom). done ++ left) c.in-Some.ensures.steps in (
      tt,
      tt,
      done ++ room ∷ [],
      split ∙ sym (append_assoc done (room ∷ []) c.next.new.self),
      one_text_more c.args.json c.args.task.now done room c.loop-reported.kept c.in_ok-kept.field-0 c.args.output.now c.loop-reported.output c.write_decisions.new.output c.loop-reported.invariant.4 c.in_ok-kept.ensures,
    )

pub returns : goal.returns
returns c =
    let done = c.loop-reported.invariant.2 in
    let all : c.args.rooms.now ≡ done = c.loop-reported.invariant.3 ∙ ap (λ (left : List ReportedRoom). done ++ left) c.in-None.ensures.steps.0 ∙ append-nil done in
    subst (λ (rooms : List ReportedRoom). AddsDecisions c.args.json c.args.task.now rooms c.loop-reported.kept c.args.output.now c.loop-reported.output) (sym all) c.loop-reported.invariant.4
