use Rattle.fault_text.proofs.blocks.+program_from.Given as goal

abbrev pub decreases-program_from : goal.decreases-program_from
decreases-program_from l = l.most
