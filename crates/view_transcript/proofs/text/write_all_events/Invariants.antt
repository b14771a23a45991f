use Rattle.view_transcript.specs.Transcripts.{AreEventsFrom}
use Rattle.view_transcript.proofs.Writing.{HaveWritten, named_lines}
use Rattle.view_transcript.proofs.text.write_all_events.Given as goal

abbrev pub invariant-loop-index : goal.invariant-loop-index
invariant-loop-index l = HaveWritten (AreEventsFrom l.service) named_lines l.rooms.entries l.index l.initial.output l.output
