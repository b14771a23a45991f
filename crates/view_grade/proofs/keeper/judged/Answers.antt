use Rattle.std.proofs.Common.{List, subst}
use Rattle.transcript.specs.declared.event.Event.{Event}
use Rattle.view_grade.specs.Keeping.{IsKeptTo}
use Rattle.view_grade.proofs.Watching.{kept_to}
use Rattle.view_grade.proofs.keeper.judged.Goals as goal

pub returns : goal.returns
returns c = record {
  events = c.in_ok-events.events.items;
  history = λ fields are. c.in_ok-events.ensures.fields fields are;
  run = c.in_ok-events.ensures.of_room;
  kept = subst (λ (e : List Event). IsKeptTo c.args.task.now c.args.room.now.spec e c.first_broken.result) c.as_slice.ensures.value
      (kept_to c.args.task.now c.args.room.now.spec c.spec.result.now c.as_slice.result.now c.first_broken.result c.spec.ensures.value c.first_broken.ensures.none c.first_broken.ensures.some);
}
