-- What the simulators of a room have decided, under its reports.
use Rattle.std.specs.Prelude.{ℕ, Bool, true, false, List, [], ◌∷◌, ◌++◌, length, map, Option, Some, None, slice_index_or, codes, decimal}
use Rattle.std.specs.List.{concat, range_with_len}
use Rattle.service_core.specs.declared.reply.Reply.{Reply}
use Rattle.service_core.specs.declared.reply.Reply.TheVariants.{Report}

-- a simulator, and what it did
unfoldable pub simulator_words : ℕ → List ℕ → List ℕ
simulator_words i what = codes "    simulator" ++ ((32 ∷ decimal i) ++ what)

-- what a simulator has decided
abbrev pub decision_line : ℕ → Option ℕ → List ℕ
decision_line i None = simulator_words i (codes " has not decided\n")
decision_line i (Some value) = simulator_words i (codes " has decided") ++ ((32 ∷ decimal value) ++ codes "\n")

-- a line for each simulator
abbrev pub decision_lines : List (Option ℕ) → List ℕ
decision_lines decisions = concat (map (λ i. decision_line i (slice_index_or decisions i None)) (range_with_len 0 (length decisions)))

-- as text. In JSON the report has them.
abbrev pub decisions_shown : Bool → List (Option ℕ) → List ℕ
decisions_shown false decisions = decision_lines decisions
decisions_shown true decisions = []

-- under a report, and under no other reply
abbrev pub decisions_under : Reply → Bool → List (Option ℕ) → List ℕ
decisions_under (Report report) json decisions = decisions_shown json decisions
decisions_under reply json decisions = []
