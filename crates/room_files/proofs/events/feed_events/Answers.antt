use Rattle.std.proofs.Common.{◌≡◌, ◌∙◌, ◌++◌, ◌∷◌, [], List, Ok, arith, ap, subst}
use Rattle.std.proofs.lemmas.Result.{err_from_is_err_and}
use Rattle.room_spec.specs.Rooms.{RoomSpec}
use Rattle.transcript.specs.Lines.{line_in}
use Rattle.history_checker.specs.Verdicts.{FedEvent}
use Rattle.room_files.specs.Lines.{text_lines}
use Rattle.room_files.specs.Blocks.{IsFaultOr}
use Rattle.room_files.specs.Inputs.{of_known_room, fed_from}
use Rattle.room_files.proofs.Feeding.{fed_step, fed_end, fault_fed}
use Rattle.room_files.proofs.events.feed_events.Goals as goal

pub returns-in_err-feed_line-clause-err : goal.returns-in_err-feed_line-clause-err
returns-in_err-feed_line-clause-err g c =
    let fed = c.loop-text.invariant.0 in
    let rooms = g.R.TakesEvents.specs c.args.rooms.now in
    let line = c.loop-text.line in
    let text = c.in-Some.text.now in
    let texts = text_lines c.in-Some.later.now in
    let p = err_from_is_err_and c.from_residual.result c.from_residual.ensures.1 in
    let bad = subst (λ (rs : List RoomSpec). IsFaultOr (g.R.TakesEvents.takes_memory rs) (of_known_room rs line (line_in text)) c.in_err-feed_line.field-0.0) c.loop-text.invariant.3 c.in_err-feed_line.ensures.err in
    rw (p.1, p.2) (fault_fed (g.R.TakesEvents.takes_memory rooms) rooms fed line text texts _ c.in_err-feed_line.field-0.0 (c.loop-text.invariant.1 ∙ ap (fed_from rooms fed line) c.in-Some.ensures.lines) bad)

pub loop-text-preserved : goal.loop-text-preserved
loop-text-preserved g c =
    let fed = c.loop-text.invariant.0 in
    let rooms = g.R.TakesEvents.specs c.args.rooms.now in
    let line = c.loop-text.line in
    let text = c.in-Some.text.now in
    let later = c.in-Some.later.now in
    let same : g.R.TakesEvents.specs c.loop-text.rooms ≡ rooms = c.loop-text.invariant.3 in
    let one : FedEvent = c.in_ok-feed_line.ensures.fed.0 in
    let known : of_known_room rooms line (line_in text) ≡ Ok one = subst (λ (rs : List RoomSpec). of_known_room rs line (line_in text) ≡ Ok one) same c.in_ok-feed_line.ensures.fed.1 in
    let fits = c.loop-text.invariant.4 in
    let shorter = c.in-Some.ensures.shorter in (
      fed ++ one ∷ [],
      c.loop-text.invariant.1 ∙ ap (fed_from rooms fed line) c.in-Some.ensures.lines ∙ fed_step rooms fed line text (text_lines later) one known,
      c.in_ok-feed_line.ensures.fed.2 fed c.loop-text.invariant.2,
      c.in_ok-feed_line.ensures.rooms ∙ same,
      omega arith,
    )

pub returns-clause-fed : goal.returns-clause-fed
returns-clause-fed g c =
    let fed = c.loop-text.invariant.0 in
    let rooms = g.R.TakesEvents.specs c.args.rooms.now in
    (fed, c.loop-text.invariant.1 ∙ ap (fed_from rooms fed c.loop-text.line) c.in_default.ensures.lines ∙ fed_end rooms fed c.loop-text.line, c.loop-text.invariant.2)
