-- A drive: turns one after the other, and how many turns and steps they come to.
use Rattle.std.proofs.Common.{◌≡◌, ℕ, suc, ◌+◌, ◌*◌, ◌<◌, ◌≤◌, List, [], ◌∷◌, Option, Some, None, refl, sym, ap, ◌∙◌, subst, arith}
use Rattle.room_spec.specs.Rooms.{RoomSpec, processes}
use Rattle.room_spec.specs.Sizes.{sizes_in}
use Rattle.simulator.specs.Bounds.{answered_all, agreement_rounds, IsReadyThroughout}
use Rattle.simulator.specs.Minds.{MindState}
use Rattle.simulator.specs.Sweeps.{SweepState}
use Rattle.simulator.proofs.CallerLemmas.{turns_bounded}
use Rattle.room_core.specs.Calls.{step_bound}
use Rattle.ruled_room.specs.Parts.{IsSweepOf, RoomName, SimulatorData, after_steps, stepped_with}
use Rattle.ruled_room.proofs.CallerLemmas.{sweep_after_steps}
use Rattle.ruled_room.specs.declared.stop.Stop.{Stop}
use Rattle.scheduler.specs.Drives.{Drives, GoesOn, IsWithinFuse, TakesTurn}
use Rattle.scheduler.proofs.Stepwise.{drive_more, drive_stops, goes, left, same_stopped}

-- ---- its steps are those of a sweep that is ready for each

pub ready_for_all : (fuse : Option ℕ) (start : SimulatorData) (answers : List ℕ) → GoesOn fuse start answers → IsReadyThroughout start.room.spec start.sweep answers
ready_for_all fuse start [] on = tt
ready_for_all fuse start (answer ∷ answers) on =
    ((goes fuse start.room.spec start.sweep (on 0 (omega arith))).1, ready_for_all fuse (stepped_with start answer) answers (λ k below. on (suc k) (omega (arith, below))))

-- its mind at the end is that after all its steps
pub end_mind : (fuse : Option ℕ) (start : SimulatorData) (stop : Stop) (new : SimulatorData) (drives : Drives fuse start stop new) → new.sweep.mind ≡ (answered_all start.room.spec start.sweep drives.answers).mind
end_mind fuse start stop new drives =
    let same = same_stopped stop (after_steps start drives.answers) in
    ap (λ (n : SimulatorData). n.sweep.mind) drives.is ∙ same.2 ∙ ap (λ (sweep : SweepState). sweep.mind) (sweep_after_steps start drives.answers)

abbrev pub most_turns : RoomSpec → ℕ
most_turns spec = (processes spec * agreement_rounds (sizes_in spec) + 1) * processes spec

pub drive_turns : (fuse : Option ℕ) (start : SimulatorData) (stop : Stop) (new : SimulatorData) → IsSweepOf start.room.spec start.number start.sweep → Drives fuse start stop new → new.sweep.mind.turns ≤ start.sweep.mind.turns + most_turns start.room.spec
drive_turns fuse start stop new is drives =
    let turns = turns_bounded start.room.spec start.sweep drives.answers is.is_mind (ready_for_all fuse start drives.answers drives.goes_on) in
    subst (λ (mind : MindState). mind.turns ≤ start.sweep.mind.turns + most_turns start.room.spec) (sym (end_mind fuse start stop new drives)) turns

-- ---- turn after turn

-- on the way from one state of a simulator to another, between two turns
pub record IsDriven (fuse : Option ℕ) (start at : SimulatorData) : Type 0 where
  pub room : at.room ≡ start.room
  pub number : at.number ≡ start.number
  pub reaches : (stop : Stop) (new : SimulatorData) → Drives fuse at stop new → Drives fuse start stop new
  pub within : IsWithinFuse fuse start.sweep.mind.steps → IsWithinFuse fuse at.sweep.mind.steps

pub sets_out : (fuse : Option ℕ) (start : SimulatorData) → IsDriven fuse start start
sets_out fuse start = record { room = refl; number = refl; reaches = λ stop new drives. drives; within = λ is. is }

pub drives_on : (fuse : Option ℕ) (start at next : SimulatorData) (result : Option Stop) → IsDriven fuse start at → result ≡ None → TakesTurn fuse at result next → next.room ≡ at.room → next.number ≡ at.number
    → (IsWithinFuse fuse at.sweep.mind.steps → IsWithinFuse fuse next.sweep.mind.steps) → IsDriven fuse start next
drives_on fuse start at next result way none takes room number within = record {
  room = room ∙ way.room;
  number = number ∙ way.number;
  reaches = λ stop new drives. way.reaches stop new (drive_more fuse at next stop new (subst (λ (r : Option Stop). TakesTurn fuse at r next) none takes) drives);
  within = λ is. within (way.within is);
}

pub ends_drive : (fuse : Option ℕ) (start at new : SimulatorData) (result : Option Stop) (stop : Stop) → IsDriven fuse start at → result ≡ Some stop → TakesTurn fuse at result new → Drives fuse start stop new
ends_drive fuse start at new result stop way is takes =
    way.reaches stop new (drive_stops fuse at stop new (subst (λ (r : Option Stop). TakesTurn fuse at r new) is takes))

pub left_less : (at next : SimulatorData) (room : RoomName) → next.room ≡ at.room → at.room ≡ room → at.sweep.mind.steps < next.sweep.mind.steps → next.sweep.mind.steps ≤ step_bound room.spec → left next < left at
left_less at next room same is more most =
    omega (arith, more, most, ap (λ (r : RoomName). step_bound r.spec) same, ap (λ (r : RoomName). step_bound r.spec) is)
