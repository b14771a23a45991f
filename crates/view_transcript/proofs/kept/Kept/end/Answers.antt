use Rattle.view_transcript.proofs.kept.Kept.end.Goals as goal

pub returns : goal.returns
returns c = (record { block = c.in_ok-block.block.items; events = c.in_ok-events.events.items }, c.in_ok-events.ensures, c.in_ok-block.ensures, c.keep.ensures)
