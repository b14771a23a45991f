-- What is written of whether runs keep a task of one's own.
use Rattle.std.specs.Prelude.{ℕ, List, ◌∷◌, ◌++◌, codes, decimal}
use Rattle.decision_tasks.specs.declared.judging.DecisionJudgement.{DecisionJudgement}
use Rattle.decision_tasks.specs.declared.judging.DecisionJudgement.TheVariants.{Kept, Broken}
use Rattle.view_outcomes.specs.Texts.{advice, all_runs_line, transcript_text, unfinished_line}

abbrev pub decider_text : List ℕ → ℕ → List ℕ
decider_text name process = (name ++ codes " process") ++ ((32 ∷ decimal process) ++ codes " decided")

abbrev pub refused_value_text : ℕ → List ℕ
refused_value_text value = (32 ∷ decimal value) ++ codes ", which no line allows, in this run:\n"

-- how many nodes stand for the states of all runs; or a run that breaks the task
abbrev pub kept_text : List ℕ → List ℕ → DecisionJudgement → List ℕ
kept_text name block (Kept nodes) = (name ++ codes " decisions are allowed in every run\n") ++ all_runs_line nodes
kept_text name block (Broken break) = decider_text name break.process ++ (refused_value_text break.value ++ transcript_text name block break.events.items)

abbrev pub unsearched_text : List ℕ → ℕ → List ℕ
unsearched_text name limit = (name ++ codes " decisions: ") ++ unfinished_line limit advice
