-- Events that are passed on, one after the other, to something that keeps them.
use Rattle.std.specs.Prelude.{ℕ, List, ◌++◌}
use Rattle.transcript.specs.declared.event.Event.{Event}

-- what is known of something that keeps events: under this name it has taken all of these, in order
abbrev pub Keeps : Type 1
Keeps = List ℕ → List Event → Type 0

-- Whatever name it has, and whatever events it had taken before, it has taken these after them.
abbrev pub TakesMore : Keeps → List Event → Keeps → Type 0
TakesMore before more after = (name : List ℕ) (taken : List Event) → before name taken → after name (taken ++ more)
