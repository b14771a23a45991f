use Rattle.fault_text.proofs.hints.write_near_word.Goals as goal

pub returns : goal.returns
returns c = c.write_quoted.ensures
