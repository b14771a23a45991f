use Rattle.view_transcript.specs.Transcripts.{KeptRooms}
use Rattle.view_transcript.specs.declared.transcriber.Transcriber.{Transcriber}
use Rattle.view_transcript.proofs.Noting.{all_noted}
use Rattle.view_transcript.proofs.Writing.{rooms_written}
use Rattle.view_transcript.proofs.transcribing.transcribe.Goals as goal

abbrev kept_by : Transcriber → KeptRooms
kept_by transcriber = transcriber.rooms.entries

pub returns-clause-text : goal.returns-clause-text
returns-clause-text c =
    let play = c.in_ok-service.ensures.played in
    let played = c.in_ok-service.field-0 in
    let text = c.in_ok-output.ensures in
    record {
      entries = play.entries;
      asked = play.asked;
      all = play.all;
      each_entry = play.each_entry;
      replies = play.replies;
      rooms = text.0;
      are_rooms = rooms_written play.all played.service (kept_by played.follower) text.0 (all_noted kept_by c.new.result play.all played.service played.follower c.new.ensures play.followed) text.1;
      output_is = text.2;
      ending_is = play.ending_is;
    }
