use Rattle.std.proofs.Common.{◌∙◌, ℕ, List, ap, map, subst}
use Rattle.room_spec.specs.Rooms.{RoomSpec}
use Rattle.view_why.specs.Keeping.{AddsDecisions}
use Rattle.view_why.specs.Reported.{ReportedRoom, specs_of}
use Rattle.view_why.specs.Why.{IsExplanation, reported_of}
use Rattle.view_why.proofs.KeptRooms.{own_rooms}
use Rattle.view_why.proofs.answer.explain_kept.Goals as goal

pub returns-clause-output : goal.returns-clause-output
returns-clause-output c =
    let json = c.args.json in
    let input = c.args.input.now in
    let rooms = c.in_ok-rooms.rooms in
    let heard = c.in_ok-rooms.ensures.reported in
    let setup = heard.setup in
    let fed = heard.fed in
    let outcome = c.in_ok-output.field-0.outcome in
    let first = c.in_ok-output.field-0.output in
    let own = own_rooms rooms fed heard.reported ∙ ap (λ (specs : List RoomSpec). map (λ (room : RoomSpec). reported_of room fed) specs) heard.rooms_are in
    record {
      setup = setup;
      fed = fed;
      says = heard.says;
      first = first;
      first_outcome = outcome;
      explained =
          subst (λ (specs : List RoomSpec). IsExplanation json input specs setup.refused fed outcome first) heard.rooms_are
          (subst (λ (refused : List ℕ). IsExplanation json input (specs_of rooms) refused fed outcome first) heard.refused_are (c.in_ok-output.ensures fed heard.reported));
      kept = c.in_ok-kept.kept;
      decisions = subst (λ (all : List ReportedRoom). AddsDecisions json c.args.task.now all c.in_ok-kept.kept first c.write_kept.new.output) own c.in_ok-kept.ensures;
      outcome_is = c.with_kept.ensures;
    }
