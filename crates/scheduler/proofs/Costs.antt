-- How many atomic steps a drive comes to.
use Rattle.std.proofs.Common.{◌+◌, ◌*◌, ◌≤◌, sym, subst}
use Rattle.simulator.specs.Ranges.{turn_limit}
use Rattle.simulator.specs.Minds.{MindState}
use Rattle.simulator.proofs.CallerLemmas.{steps_bounded}
use Rattle.ruled_room.specs.Parts.{IsSweepOf, SimulatorData}
use Rattle.ruled_room.specs.declared.stop.Stop.{Stop}
use Rattle.scheduler.specs.Drives.{Drives}
use Rattle.scheduler.proofs.Bounds.{end_mind, most_turns, ready_for_all}
use Rattle.std.specs.Prelude.{ℕ, Option}

pub drive_steps : (fuse : Option ℕ) (start : SimulatorData) (stop : Stop) (new : SimulatorData) → IsSweepOf start.room.spec start.number start.sweep → Drives fuse start stop new → new.sweep.mind.steps ≤ start.sweep.mind.steps + most_turns start.room.spec * turn_limit start.room.spec
drive_steps fuse start stop new is drives =
    let steps = steps_bounded start.room.spec start.sweep drives.answers is.is_mind (ready_for_all fuse start drives.answers drives.goes_on) in
    subst (λ (mind : MindState). mind.steps ≤ start.sweep.mind.steps + most_turns start.room.spec * turn_limit start.room.spec) (sym (end_mind fuse start stop new drives)) steps
