-- The operations of a process follow one another.
use Rattle.std.proofs.Common.{◌≡◌, ◌⊎◌, ℕ, ◌+◌, ◌-◌, ◌<◌, ◌≤◌, inl, inr, sym, ap, ◌∙◌, subst, arith}
use Rattle.room_spec.specs.Rooms.{IsWithinLimits, processes}
use Rattle.simulator.specs.declared.line.Line.{Line}
use Rattle.simulator.specs.declared.goal.Goal.TheVariants as goals
use Rattle.simulator.specs.Minds.{current_goal, goal_at}
use Rattle.room_core.specs.Calls.{RoomState}
use Rattle.room_core.specs.Fields.{Fields}
use Rattle.room_core.specs.Reading.{AreFieldsOf}
use Rattle.room_core.specs.Agreements.{IsFixedAt, greatest_step}
use Rattle.room_core.specs.Contents.{IsDue, first_write, next_write}
use Rattle.room_core.specs.Points.{Writes, Snaps, Decides}
use Rattle.room_core.specs.RealTime.{HasBegun, HasEnded, IsCounting}
use Rattle.room_core.specs.Tracks.{KeepsTrack, Tells, stage_of}
use Rattle.room_core.proofs.fields.FieldCalls.{fields_stand}
use Rattle.room_core.proofs.agreements.Promises.{rooms_agree, some_out}
use Rattle.room_core.proofs.values.Known.{IsKnown}
use Rattle.room_core.proofs.values.Knowing.{fields_known, write_of}
use Rattle.room_core.proofs.fields.Tracks.{at_sweep}

module _ (room : RoomState) (fields : Fields) (limits : IsWithinLimits room.spec) (are : AreFieldsOf room fields) where
  known : IsKnown room.spec fields
  known = fields_known room fields limits are

  tracks : KeepsTrack room.spec fields
  tracks = (fields_stand room fields limits are).tracks

  due_fixed : (p r value : ℕ) → 1 ≤ r → IsDue room.spec fields p (r + 1) value → IsFixedAt room.spec fields p r
  due_fixed p r value first (first_write one is) = absurd (omega (arith, first, one))
  due_fixed p r value first (next_write k first' round fixed act) = let same : k ≡ r = omega (arith, round) in subst (λ (q : ℕ). IsFixedAt room.spec fields p q) same fixed

  pub write_in_turn : (p r : ℕ) → p < processes room.spec → 1 ≤ r → HasBegun room.spec fields (Writes p (r + 1)) → HasEnded room.spec fields (Snaps p r)
  write_in_turn p r low first begun = by_kind begun.0 begun.1 begun.2
    where
      by_kind : (i : ℕ) → i < room.spec.simulators → (r + 1 ≤ fields.step i p) ⊎ IsCounting fields i p (r + 1) → IsFixedAt room.spec fields p r
      by_kind i below (inl counted) = due_fixed p r (fields.value i p (r + 1)) first (known.values i p (r + 1) below low (omega arith) counted)
      by_kind i below (inr counting) =
          let mind = fields.mind i in
          let tells = subst (λ (l : Line). Tells room.spec.rounds (current_goal mind) (stage_of l) (fields.step i mind.process) (fields.level i mind.process)) counting.line (at_sweep room.spec.rounds mind (fields.step i) (fields.level i) (tracks.told i)) in
          let write = write_of room.spec.rounds (current_goal mind) (fields.step i mind.process) tells.counts in
          due_fixed p r write.0 first
          (known.writes i p (r + 1) write.0 below low (ap (λ (q : ℕ). goal_at mind.goals q) (sym counting.process) ∙ write.1 ∙ ap (λ (k : ℕ). goals.Write k write.0) counting.round))

  pub decision_in_turn : (p decision : ℕ) → p < processes room.spec → HasBegun room.spec fields (Decides p decision) → HasEnded room.spec fields (Snaps p (greatest_step room.spec fields p))
  decision_in_turn p decision low begun =
      let out = some_out room.spec fields p begun in
      let last = (rooms_agree room fields limits are).decisions_agree out.0 p out.1 low out.2 in
      let nonzero = out.2 in
      let deciding = known.outs out.0 p (fields.out out.0 p - 1) out.1 low (omega (arith, nonzero)) in
      subst (λ (k : ℕ). IsFixedAt room.spec fields p k) last.0 deciding.fixed
