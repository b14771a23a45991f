use Rattle.fault_text.proofs.hints.write_no_word.Goals as goal

pub returns : goal.returns
returns c = c.write_quoted.ensures
