-- What is asked of each room.
use Rattle.std.specs.Prelude.{◌≡◌, ℕ, Bool, true, false, List, Option, Some, None, Ok}
use Rattle.decision_tasks.specs.Tasks.{task_in}
use Rattle.input_vectors.specs.Values.{values_in}
use Rattle.view_outcomes.specs.declared.search.Asked.{Asked}
use Rattle.view_outcomes.specs.declared.search.Asked.TheVariants.{Outcomes, First, Outcome, Task, Inputs, Keeps}

-- what is asked of each room is with which inputs of these values it keeps its task
abbrev pub AreInputsAsked : List ℕ → Asked → Type 0
AreInputsAsked text (Inputs values) = values_in text ≡ Ok values.now
AreInputsAsked text (Keeps task) = ⊥
AreInputsAsked text Task = ⊥
AreInputsAsked text Outcomes = ⊥
AreInputsAsked text (First number) = ⊥
AreInputsAsked text (Outcome number) = ⊥

-- what is asked of each room is whether it keeps this task
abbrev pub IsTaskAsked : List ℕ → Asked → Type 0
IsTaskAsked text (Keeps task) = task_in text ≡ Ok task.now
IsTaskAsked text (Inputs values) = ⊥
IsTaskAsked text Task = ⊥
IsTaskAsked text Outcomes = ⊥
IsTaskAsked text (First number) = ⊥
IsTaskAsked text (Outcome number) = ⊥

-- how many outcomes are shown at most, if not all are
abbrev pub top_of : Asked → Option ℕ
top_of Outcomes = None
top_of (First number) = Some number
top_of (Outcome number) = None
top_of Task = None
top_of (Inputs values) = None
top_of (Keeps task) = None

-- one outcome alone is asked for
abbrev pub is_alone : Asked → Bool
is_alone Outcomes = false
is_alone (First number) = false
is_alone (Outcome number) = true
is_alone Task = false
is_alone (Inputs values) = false
is_alone (Keeps task) = false

-- the inputs are given: all vectors of some values
abbrev pub has_inputs : Asked → Bool
has_inputs Outcomes = false
has_inputs (First number) = false
has_inputs (Outcome number) = false
has_inputs Task = false
has_inputs (Inputs values) = true
has_inputs (Keeps task) = false
