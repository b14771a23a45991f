-- What a simulator's quiet count says of its processes.
use Rattle.std.specs.Prelude.{ℕ, List, ◌++◌, take, drop, reverse, ⊤}
use Rattle.std.specs.List.{AllByRecursion, filter}
use Rattle.simulator.specs.declared.goal.Goal.{Goal}
use Rattle.simulator.specs.declared.goal.Goal.TheVariants.{Write, Ask, Propose, AskInput}
use Rattle.simulator.specs.Minds.{MindOf, is_unfinished}

abbrev pub IsAsk : Goal → Type 0
IsAsk (Ask round) = ⊤
IsAsk AskInput = ⊤
IsAsk goal = ⊥

-- it is an ask, or nothing is left to do: no value is to be stored
abbrev pub HasNoWrite : Goal → Type 0
HasNoWrite (Write round value) = ⊥
HasNoWrite (Propose value) = ⊥
HasNoWrite goal = ⊤

-- the unfinished goals in the order in which the sweep reaches them: from its place on, going round
abbrev pub unfinished_from : List Goal → ℕ → List Goal
unfinished_from goals sweep = filter is_unfinished (drop sweep goals ++ take sweep goals)

-- going back from the end, the first `count` goals are asks, or all if there are fewer
abbrev pub AreAsksAtTheEnd : List Goal → ℕ → Type 0
AreAsksAtTheEnd goals count = AllByRecursion IsAsk (take count (reverse goals))

-- Going back from the sweep's place, the first `quiet` unfinished goals are asks: it has asked for each of them in vain.
abbrev pub IsQuietCount : {S : Type 0} → MindOf S → ℕ → Type 0
IsQuietCount mind quiet = AreAsksAtTheEnd (unfinished_from mind.goals mind.process) quiet
