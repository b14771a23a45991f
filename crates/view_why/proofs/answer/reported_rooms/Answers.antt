use Rattle.std.proofs.Common.{◌∙◌, Ok, ap, refl, sym}
use Rattle.room_files.specs.Blocks.{Setup}
use Rattle.room_files.specs.Inputs.{blocks_in}
use Rattle.room_files.specs.declared.kinds.Kinds.TheVariants.{All}
use Rattle.std.specs.List.{flat_map}
use Rattle.fault_text.specs.Refusals.{refusal_line}
use Rattle.view_why.specs.Reported.{specs_of}
use Rattle.std.proofs.lemmas.Result.{err_from_is_err_and}
use Rattle.view_why.proofs.Explaining.{says}
use Rattle.view_why.proofs.Hearing.{events_fault}
use Rattle.view_why.proofs.answer.reported_rooms.Goals as goal

pub returns-clause-reported : goal.returns-clause-reported
returns-clause-reported c =
    let setup : Setup = record { rooms = specs_of c.setup.inside.rooms; refused = flat_map refusal_line c.setup.inside.refused; line = c.setup.inside.line } in
    let transcript = c.in_ok-setup.transcript.now in
    let reported = c.in_ok-feed_events.ensures.fed in
    record {
      setup = setup;
      fed = reported.0;
      says = says (blocks_in All c.args.input.now) setup transcript reported.0 (c.in_ok-setup.ensures.read ∙ ap (λ (s : Setup). Ok (s, transcript)) (sym c.setup.view_is)) reported.1;
      rooms_are = c.in_ok-feed_events.ensures.rooms;
      refused_are = refl;
      reported = reported.2;
    }

pub returns-in_err-feed_events-clause-err : goal.returns-in_err-feed_events-clause-err
returns-in_err-feed_events-clause-err c =
    let setup : Setup = record { rooms = specs_of c.setup.inside.rooms; refused = flat_map refusal_line c.setup.inside.refused; line = c.setup.inside.line } in
    let transcript = c.in_ok-setup.transcript.now in
    let p = err_from_is_err_and c.from_residual-in_err-feed_events.result c.from_residual-in_err-feed_events.ensures.1 in
    rw (p.1, p.2)
    (events_fault c.args.input.now setup transcript c.in_err-feed_events.field-0.0 (c.in_ok-setup.ensures.read ∙ ap (λ (s : Setup). Ok (s, transcript)) (sym c.setup.view_is)) c.in_err-feed_events.ensures.err)
