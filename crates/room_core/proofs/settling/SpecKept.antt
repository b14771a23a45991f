-- No call changes a room's spec.
use Rattle.std.proofs.Common.{◌≡◌, ◌∙◌, ℕ, zero, suc, Bool, true, false, cond, leb, refl}
use Rattle.simulator.specs.declared.sweep.Ready.{Ready}
use Rattle.simulator.specs.declared.sweep.Ready.TheVariants as ready
use Rattle.room_core.specs.Calls.{RoomState, Call, Step, Crash, Settle, has_crashed, marked, ready_at, room_after_call, room_after_step, room_after_steps, room_kind, room_when}
use Rattle.room_core.proofs.settling.Settling.{settled_keeps}

spec_of : (P : RoomState → Type 0) (b : Bool) (x y : RoomState) → P x → P y → P (cond b x y)
spec_of P true x y p q = p
spec_of P false x y p q = q

same_spec_when : (room : RoomState) (i : ℕ) (ready : Ready) → (room_when ready room i).spec ≡ room.spec
same_spec_when room i ready.Step = refl
same_spec_when room i ready.Idle = refl
same_spec_when room i ready.OutOfTurns = refl

pub same_spec_step : (room : RoomState) (i : ℕ) → (room_after_step room i).spec ≡ room.spec
same_spec_step room i =
    let P : RoomState → Type 0 = λ r. r.spec ≡ room.spec in
    spec_of P (leb room.spec.simulators i) room (cond (has_crashed room i) room (room_when (ready_at room i) room i)) refl
    (spec_of P (has_crashed room i) room (room_when (ready_at room i) room i) refl (same_spec_when room i (ready_at room i)))

pub same_spec : (room : RoomState) (call : Call) → (room_after_call room call).spec ≡ room.spec
same_spec room (Step i) = same_spec_step room i
same_spec room (Crash i) =
    let P : RoomState → Type 0 = λ r. r.spec ≡ room.spec in
    spec_of P (leb room.spec.simulators i) room (cond (has_crashed room i) room (marked room i)) refl (spec_of P (has_crashed room i) room (marked room i) refl refl)
same_spec room Settle = settled_keeps room_kind (λ r. r.spec ≡ room.spec) (λ i r is. same_spec_step r i ∙ is) (λ i r is. is) room refl

pub same_spec_steps : (room : RoomState) (i count : ℕ) → (room_after_steps room i count).spec ≡ room.spec
same_spec_steps room i zero = refl
same_spec_steps room i (suc count) = same_spec_steps (room_after_step room i) i count ∙ same_spec_step room i
