use Rattle.std.proofs.Common.{◌∙◌, ◌++◌, true, ℕ, List, Result, Ok, ap, refl, subst, sym}
use Rattle.std.specs.List.{flat_map}
use Rattle.room_files.specs.Blocks.{Setup}
use Rattle.room_files.specs.Faults.{FaultAt}
use Rattle.fault_text.specs.Refusals.{refusal_line}
use Rattle.file_faults.specs.Events.{OpenedParts, events_said}
use Rattle.file_faults.specs.Files.{AreObjectsAfter, AreTranscriptObjects, refusal_objects}
use Rattle.file_faults.proofs.files.transcript_objects.Goals as goal

pub returns-in_ok-write_event_faults-in-Ok : goal.returns-in_ok-write_event_faults-in-Ok
unfolding AreTranscriptObjects
returns-in_ok-write_event_faults-in-Ok c =
    let input = c.args.input.now in
    let transcript = c.in-Ok.transcript.now in
    let refusals = c.setup.inside.refused in
    let setup : Setup = record { rooms = c.setup.inside.rooms; refused = flat_map refusal_line refusals; line = c.setup.inside.line } in
    let said = refusal_objects input refusals in
    let opened : OpenedParts = record { rooms = setup.rooms; input = input; refused = refusals } in
    let events = events_said true opened setup.line transcript in
    let read = c.in-Ok.ensures.read ∙ ap (λ (s : Setup). Ok (s, transcript)) (sym c.setup.view_is) in
    subst (λ (r : Result (Setup × List ℕ) FaultAt). AreObjectsAfter input r c.write_event_faults.new.output) (sym read) (
      refusals,
      refl,
      c.in_ok-write_event_faults-in-Ok.ensures ∙ ap (λ (o : OpenedParts). c.write_refusals.new.output ++ events_said true o setup.line transcript) c.of-opened.ensures ∙ ap (λ t. t ++ events) (c.in_ok-write_refusals-in-Ok.ensures ∙ ap (λ t. t ++ said) c.new-output.ensures),
    )
