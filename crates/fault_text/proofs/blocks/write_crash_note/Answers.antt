use Rattle.fault_text.proofs.blocks.write_crash_note.Goals as goal

pub returns : goal.returns
returns c = c.write_quoted.ensures
