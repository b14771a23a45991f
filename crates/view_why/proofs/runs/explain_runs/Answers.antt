use Rattle.std.proofs.Common.{◌≡◌, ◌∙◌, [], List, Ok, ap, false, subst, sym}
use Rattle.std.specs.List.{flat_map}
use Rattle.room_spec.specs.Rooms.{RoomSpec}
use Rattle.history_checker.specs.Verdicts.{specs_of}
use Rattle.room_files.specs.Blocks.{Setup}
use Rattle.room_files.specs.Inputs.{blocks_in, fed_from}
use Rattle.room_files.specs.Lines.{text_lines}
use Rattle.room_files.specs.declared.kinds.Kinds.TheVariants.{All}
use Rattle.fault_text.specs.Refusals.{refusal_line}
use Rattle.view_why.specs.Why.{IsExplanation}
use Rattle.view_why.proofs.Explaining.{says}
use Rattle.view_why.proofs.Running.{found_still}
use Rattle.view_why.proofs.runs.explain_runs.Goals as goal

pub returns-clause-output : goal.returns-clause-output
returns-clause-output c =
    let setup : Setup = record { rooms = specs_of c.setup.inside.rooms; refused = flat_map refusal_line c.setup.inside.refused; line = c.setup.inside.line } in
    let transcript = c.in_ok-setup.transcript.now in
    let fed = c.in_ok-feed_events.ensures.fed in
    let own : specs_of c.into_rooms-rooms.result ≡ specs_of c.setup.inside.rooms = ap specs_of c.into_rooms-rooms.ensures in
    found_still _ _ c.in_ok-answer_of_runs.field-0 (λ answer is. (
      setup,
      fed.0,
      says (blocks_in All c.args.input.now) setup transcript fed.0 (c.in_ok-setup.ensures.read ∙ ap (λ (s : Setup). Ok (s, transcript)) (sym c.setup.view_is))
          (subst (λ (rooms : List RoomSpec). fed_from rooms [] setup.line (text_lines transcript) ≡ Ok fed.0) own fed.1),
      subst (λ (rooms : List RoomSpec). IsExplanation false c.args.input.now rooms setup.refused fed.0 answer.outcome answer.output) (c.in_ok-feed_events.ensures.rooms ∙ own) (is fed.0 fed.2),
    )) c.in_ok-answer_of_runs.ensures
