use Rattle.std.proofs.Common.{◌≡◌, ◌∙◌, List, Option, Some, ap, sym, subst}
use Rattle.ws_history.specs.Inputs.{IsRoomRun}
use Rattle.room_core.specs.Agreements.{run_spec}
use Rattle.transcript.specs.Runs.{IsRun}
use Rattle.transcript.specs.declared.event.Event.{Event}
use Rattle.ws_history.specs.Linearizations.{LackAtMostASnapshot, events_of}
use Rattle.ws_history.specs.Notes.{Notes}
use Rattle.ws_history.specs.Sources.{history_of}
use Rattle.view_transcript.specs.Transcripts.{AreByNotes, KeptRoom}
use Rattle.view_transcript.proofs.kept.Kept.events_in.Goals as goal

pub returns : goal.returns
returns c =
    let room = c.args.room.now in
    let held : c.args.self.now.notes ≡ Some c.in-Some.points = ap (λ (kept : KeptRoom). kept.notes) (sym c.self.view_is) ∙ c.in-Some.is in
    let events_are = c.in_ok-events.ensures in
    subst (λ (notes : Option Notes). AreByNotes room notes c.in_ok-events.events.items) (sym held)
    (λ schedule are. record {
      legal = are.legal;
      leads = are.leads;
      timed = c.in_ok-timed.timed.entries;
      at_steps = c.in_ok-timed.ensures.at_steps schedule are;
      events_are = events_are;
      run = λ fields of. subst (IsRun (run_spec room.spec fields)) (sym events_are) (c.in_ok-timed.ensures.run schedule fields are of);
      own = subst (IsRoomRun room.spec) (sym events_are) (c.in_ok-timed.ensures.of_room schedule are);
      same = λ fields of p low. subst (λ (events : List Event). LackAtMostASnapshot p (events_of p (history_of room.spec fields)) (events_of p events)) (sym events_are) (c.in_ok-timed.ensures.same schedule fields are of p low);
    })
