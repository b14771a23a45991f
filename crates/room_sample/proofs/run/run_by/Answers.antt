use Rattle.std.proofs.Common.{List, ◌∙◌, ap, subst, sym}
use Rattle.room_core.specs.Calls.{RoomState}
use Rattle.room_core.specs.Reading.{AreFieldsOf}
use Rattle.ws_history.specs.Reports.{states_of}
use Rattle.room_sample.specs.Schedules.{IsOutcome}
use Rattle.room_sample.specs.declared.stretch.Stretch.{Stretch}
use Rattle.room_sample.proofs.run.run_by.Goals as goal

pub returns : goal.returns
returns c =
    let settled = c.in_ok-settled.ensures in
    subst (λ (s : List Stretch). IsOutcome c.args.spec c.args.crashes s c.run.result.states.items) (sym c.run.ensures.schedule) (record {
      may_come = settled.may_come;
      few = settled.few;
      reported = λ fields are.
          c.run.ensures.states fields (subst (λ (room : RoomState). AreFieldsOf room fields) (sym settled.room_is) are)
          ∙ ap (λ (room : RoomState). states_of room.spec fields) settled.room_is;
    })
