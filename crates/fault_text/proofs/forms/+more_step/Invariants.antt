use Rattle.fault_text.proofs.forms.+more_step.Given as goal

abbrev pub decreases-more_step : goal.decreases-more_step
decreases-more_step l = l.most
