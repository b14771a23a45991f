use Rattle.std.proofs.Common.{refl, true, false}
use Rattle.sample_breaks.proofs.Breaking.{is_kept, is_not, none_broken, some_broken}
use Rattle.sample_breaks.proofs.breaks.broken_by.Goals as goal

pub returns-in-None : goal.returns-in-None
returns-in-None c =
    let settled = c.in_ok-room.field-0 in
    let events = c.in_ok-events.events.items in (
      record { number = c.args.number; schedule = settled.schedule.items; kept = true },
      record {
        number_is = refl;
        room = settled.room;
        settled = c.in_ok-room.ensures;
        events = events;
        history = λ fields are. c.in_ok-events.ensures.fields fields are;
        is_run = c.in_ok-events.ensures.of_room;
        kept_is = is_kept _ (none_broken c.args.judging.now.task.now settled.room.spec c.spec.result.now events c.as_slice.result.now c.first_broken.result c.spec.ensures.value c.as_slice.ensures.value c.in-None.is c.first_broken.ensures.none);
      },
      refl,
    )

pub returns : goal.returns
returns c =
    let settled = c.in_ok-room.field-0 in
    let events = c.in_ok-events.events.items in (
      record { number = c.args.number; schedule = settled.schedule.items; kept = false },
      record {
        number_is = refl;
        room = settled.room;
        settled = c.in_ok-room.ensures;
        events = events;
        history = λ fields are. c.in_ok-events.ensures.fields fields are;
        is_run = c.in_ok-events.ensures.of_room;
        kept_is = is_not _ (some_broken c.args.judging.now.task.now settled.room.spec c.spec.result.now events c.as_slice.result.now c.first_broken.result _ c.spec.ensures.value c.as_slice.ensures.value c.in-Some.is c.first_broken.ensures.some);
      },
      refl,
    )
