-- What a simulator of a room has in mind.
use Rattle.std.proofs.Common.{◌≡◌, ℕ, ◌<◌, ◌≤◌, true, refl, ap, ◌∙◌, subst, arith}
use Rattle.std.proofs.Math.ListN.{get_or-map}
use Rattle.room_spec.specs.Rooms.{RoomSpec}
use Rattle.room_spec.specs.Sizes.{Sizes, sizes_in}
use Rattle.view_table.proofs.CallerLemmas.{memory_first}
use Rattle.simulator.specs.declared.goal.Goal.{Goal}
use Rattle.simulator.specs.declared.goal.Goal.TheVariants as goals
use Rattle.simulator.specs.declared.line.Line.{Line}
use Rattle.simulator.specs.declared.line.Line.TheVariants.{Rest, Raise, Snap, Show, Enter, Look, Leave, Ask, GetInput, GetView, Values, Out}
use Rattle.simulator.specs.declared.operation.Move.TheVariants.{Load}
use Rattle.simulator.specs.Minds.{MindState, current_round, goal_at, round_of}
use Rattle.simulator.specs.Moves.{move_at, move_of}
use Rattle.simulator.specs.Ranges.{IsGoal, IsMind, words_at}
use Rattle.simulator.specs.Sweeps.{SweepState, opening_sweep}
use Rattle.simulator.specs.Turns.{words_in}
use Rattle.room_core.specs.Calls.{RoomState, configuration_of, sweep_at}
use Rattle.room_core.specs.Points.{is_snap}
use Rattle.room_core.specs.Rooms.{mind_at}
use Rattle.room_core.proofs.CallerLemmas.{steps_within}

pub mind_is : (room : RoomState) (i : ℕ) → mind_at (configuration_of room) i ≡ (sweep_at room i).mind
mind_is room i = get_or-map (λ (sweep : SweepState). sweep.mind) room.sweeps i (opening_sweep room.spec i)

pub goal_low : (sizes : Sizes) (goal : Goal) → IsGoal sizes goal → round_of goal ≤ sizes.rounds
goal_low sizes (goals.Write round value) is = is.1
goal_low sizes (goals.Ask round) is = is.1
goal_low sizes (goals.Propose value) is = omega arith
goal_low sizes goals.AskInput is = omega arith
goal_low sizes goals.Done is = omega arith
goal_low sizes goals.Spent is = omega arith

pub round_low : (spec : RoomSpec) (mind : MindState) → IsMind spec mind → current_round mind ≤ spec.rounds
round_low spec mind is = goal_low (sizes_in spec) (goal_at mind.goals mind.process) (is.rounds mind.process is.process)

-- a simulator takes few steps
pub steps_low : (spec : RoomSpec) (mind : MindState) → IsMind spec mind → mind.steps ≤ 4294967294
steps_low spec mind is = let most = steps_within spec mind is in let turns = is.limits.turns.1 in omega (arith, most, turns)

pub snap_line : (line : Line) → is_snap line ≡ true → line ≡ Snap
snap_line Rest is = absurd cc
snap_line Raise is = absurd cc
snap_line Snap is = refl
snap_line Show is = absurd cc
snap_line Enter is = absurd cc
snap_line Look is = absurd cc
snap_line (Leave saw_two) is = absurd cc
snap_line Ask is = absurd cc
snap_line (GetInput chosen) is = absurd cc
snap_line (GetView chosen) is = absurd cc
snap_line Values is = absurd cc
snap_line (Out decision) is = absurd cc

-- in a scan the next step loads its memory word
pub scan_loads : (spec : RoomSpec) (mind : MindState) → IsMind spec mind → is_snap mind.line ≡ true → (move_of spec mind ≡ Load mind.word) × (mind.word < words_in spec)
scan_loads spec mind is snap =
    let line = snap_line mind.line snap in (
      ap (λ (l : Line). move_at l spec mind) line ∙ ap (λ (index : ℕ). Load index) (memory_first (sizes_in spec) mind.word),
      subst (λ (l : Line). mind.word < words_at spec l) line is.word,
    )
