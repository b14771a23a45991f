-- The lines that say what the checker found of a room.
use Rattle.std.specs.Prelude.{ℕ, List, [], ◌++◌, Option, Some, codes, decimal}
use Rattle.history_checker.specs.declared.verdict.Verdict.{Verdict}
use Rattle.history_checker.specs.declared.verdict.Verdict.TheVariants.{Run, Broken}
use Rattle.history_checker.specs.declared.verdict.TaskVerdict.{TaskVerdict}
use Rattle.history_checker.specs.declared.verdict.TaskVerdict.TheVariants as tasks

abbrev pub verdict_line : List ℕ → Verdict → List ℕ
verdict_line name Run = name ++ codes " is a run\n"
verdict_line name (Broken line) = name ++ (codes " is not a run: line " ++ (decimal line ++ codes "\n"))

-- of a room that is no run nothing is said of its task
abbrev pub task_line : List ℕ → Verdict → Option TaskVerdict → List ℕ
task_line name Run (Some tasks.Holds) = name ++ codes " task holds\n"
task_line name Run (Some (tasks.Broken line)) = name ++ (codes " task broken: line " ++ (decimal line ++ codes "\n"))
task_line name verdict task = []
