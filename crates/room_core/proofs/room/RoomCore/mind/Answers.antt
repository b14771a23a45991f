use Rattle.std.specs.Box.{boxed_slice_items}
use Rattle.std.proofs.Common.{◌≡◌, ℕ, ◌<◌, length, subst, arith}
use Rattle.std.proofs.lemmas.Grind.{common_steps}
use Rattle.simulator.specs.declared.line.Line.TheVariants.{Show}
use Rattle.simulator.specs.Minds.{current_round}
use Rattle.room_core.specs.Calls.{RoomState}
use Rattle.room_core.specs.Fields.{Fields}
use Rattle.room_core.specs.Moments.{IsScan}
use Rattle.room_core.specs.Reading.{AreFieldsOf}
use Rattle.room_core.proofs.agreements.Exact.{room_scans}
use Rattle.room_core.proofs.room.RoomCore.mind.Goals as goal

pub returns-clause-value : goal.returns-clause-value
returns-clause-value c = grind (arith, common_steps)

pub returns-clause-scan : goal.returns-clause-scan
returns-clause-scan c =
    let room : RoomState = record { spec = c.self.inside.spec; words = c.self.inside.words; sweeps = boxed_slice_items c.self.inside.sweeps; crashed = c.self.inside.crashed.items } in
    let P : RoomState → Type 0 =
    λ (r : RoomState).
    (i : ℕ) → i < r.spec.simulators → (fields : Fields) (are : AreFieldsOf r fields) → (fields.mind i).line ≡ Show → IsScan r.spec are.run.schedule (length are.run.schedule) i (fields.mind i).process (current_round (fields.mind i)) (fields.mind i).before (fields.mind i).snapshot (fields.mind i).collects
    in
    subst P c.self.view_is (λ i below fields are is. room_scans room fields c.self.invariant.is_room.shape.limits are i below is) c.args.i c.requires
