use Rattle.view_transcript.proofs.Looking.{where_ok}
use Rattle.view_transcript.proofs.Writing.{transcript_is}
use Rattle.view_transcript.proofs.text.write_rooms.Goals as goal

pub returns : goal.returns
returns c =
    where_ok c.write_all_events.result _ _
    (λ events. transcript_is c.args.service.now c.args.rooms.now.entries c.args.output.now c.write_blocks.new.output c.put.new.self c.write_all_events.new.output c.in_ok-write_blocks.ensures c.in_ok-put.ensures.text events)
    c.write_all_events.ensures
