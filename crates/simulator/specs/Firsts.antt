-- Which processes a simulator's sweep has reached.
use Rattle.std.specs.Prelude.{◌≤◌, List, [], ◌∷◌, ⊤}
use Rattle.std.specs.List.{AllByRecursion}
use Rattle.simulator.specs.declared.goal.Goal.{Goal}
use Rattle.simulator.specs.declared.goal.Goal.TheVariants.{Write, Ask, Propose, AskInput, Done, Spent}

-- a turn on the process has ended
abbrev pub IsVisited : Goal → Type 0
IsVisited (Write round value) = 2 ≤ round
IsVisited (Ask round) = ⊤
IsVisited (Propose value) = ⊥
IsVisited AskInput = ⊤
IsVisited Done = ⊤
IsVisited Spent = ⊤

-- no goal after one that was visited is one that wasn't
abbrev pub AreVisitedLast : List Goal → Type 0
AreVisitedLast [] = ⊤
AreVisitedLast (goal ∷ goals) = (IsVisited goal → AllByRecursion IsVisited goals) × AreVisitedLast goals
