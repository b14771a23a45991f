-- What `check` answers for an input.
use Rattle.std.specs.Prelude.{◌≡◌, ℕ, List, Ok}
use Rattle.history_checker.specs.Verdicts.{FedEvent}
use Rattle.room_files.specs.Blocks.{Setup}
use Rattle.room_files.specs.Inputs.{input_says}
use Rattle.room_files.specs.Verdicts.{IsOutput}
use Rattle.room_files.specs.declared.outcome.Outcome.{Outcome}
use Rattle.room_files.specs.declared.kinds.Kinds.TheVariants.{Ordinary}

-- the output for an input that has no fault
abbrev pub IsOutputFor : List ℕ → Outcome → List ℕ → Type 0
IsOutputFor input outcome output = (setup : Setup) × (fed : List FedEvent) × (input_says Ordinary input ≡ Ok (setup, fed)) × IsOutput setup.rooms setup.refused fed outcome output
