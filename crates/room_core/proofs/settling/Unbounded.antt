-- Settling is never cut off by its bound.
use Rattle.std.proofs.Common.{◌≡◌, ℕ, zero, suc, ◌+◌, ◌<◌, ◌≤◌, Bool, true, false, cond, refl, sym, ap, ◌∙◌, subst, arith}
use Rattle.std.proofs.lemmas.Bool.{cond_both}
use Rattle.room_spec.specs.Rooms.{RoomSpec, IsWithinLimits}
use Rattle.room_core.specs.Calls.{RoomState, configuration_of, has_crashed, step_bound, room_after_settle, room_after_step, room_kind, moved}
use Rattle.room_core.specs.Fields.{Fields, changed, fields_after_step}
use Rattle.room_core.specs.Reading.{AreFieldsOf}
use Rattle.room_core.specs.Rooms.{IsRoom}
use Rattle.room_core.specs.Settling.{each_in_order, in_order, ran_alone, steps_while, turn_ended}
use Rattle.room_core.specs.Settles.{DoInOrder, Nobody, OneMore, EndsTurn, RunsAlone, Settles, StepsWhile, Stops, Steps}
use Rattle.room_core.proofs.settling.Alone.{IsUp, Means, Ran, has_step, has_step_means, in_turn, in_turn_means, is_up, same_spec_alone, same_spec_ended, step_up, steps_of, woken_up}
use Rattle.room_core.proofs.fields.FieldCalls.{has_fields, step_in_fields, woken_fields}
use Rattle.room_core.proofs.settling.SpecKept.{same_spec_step}

-- ---- one simulator

module _ (test : RoomState → ℕ → Bool) (i : ℕ) (means : Means test i) where
  abbrev While : RoomState → RoomState → Type 0
  While = StepsWhile room_after_step test i

  runs_out : (most : ℕ) (room : RoomState) → IsUp room i → step_bound room.spec ≤ most + steps_of room i → While room (Ran test i means most room)
  runs_out zero room up within =
      Stops room (not_on (test room i) refl)
    where
      not_on : (b : Bool) → test room i ≡ b → test room i ≡ false
      not_on true is = absurd (let next = step_up room i up (means room is) in omega (arith, next.more, next.within, within))
      not_on false is = is
  runs_out (suc most) room up within =
      cond_both (test room i) (Ran test i means most (room_after_step room i)) room (While room)
      (λ is.
      let next = step_up room i up (means room is) in
      Steps room (Ran test i means most (room_after_step room i)) is
      (subst (λ (r : RoomState). While r (Ran test i means most r)) (sym next.is) (runs_out most (moved room i) next.up (omega (arith, next.more, within)))))
      (λ is. Stops room is)

-- ---- what a list leads to, goes on to

record IsReached (room : RoomState) : Type 0 where
  limits : IsWithinLimits room.spec
  fields : Fields
  are : AreFieldsOf room fields

step_reached : (room : RoomState) (i : ℕ) → IsReached room → IsReached (room_after_step room i)
step_reached room i is = record {
  limits = subst IsWithinLimits (sym (same_spec_step room i)) is.limits;
  fields = fields_after_step room.spec is.fields i;
  are = (step_in_fields room is.fields i is.limits is.are).1;
}

while_reached : (test : RoomState → ℕ → Bool) (i most : ℕ) (room : RoomState) → IsReached room → IsReached (steps_while room_after_step test most room i)
while_reached test i zero room is = is
while_reached test i (suc most) room is =
    cond_both (test room i) (steps_while room_after_step test most (room_after_step room i) i) room IsReached
    (λ on. while_reached test i most (room_after_step room i) (step_reached room i is)) (λ on. is)

woken_reached : (room : RoomState) (i : ℕ) → i < room.spec.simulators → IsReached room → IsReached (room_kind.wake room i)
woken_reached room i below is = record {
  limits = is.limits;
  fields = record is.fields { quiet = changed is.fields.quiet i 0 };
  are = woken_fields room is.fields i is.limits below is.are;
}

up_of : (room : RoomState) (i : ℕ) → IsReached room → i < room.spec.simulators → has_crashed room i ≡ false → IsUp room i
up_of room i is below alive = is_up room i is.limits is.are.run below alive

-- ---- one after the other

-- such a change of a room that is reached does what is wanted, and the room stays one
record IsDone (does : ℕ → RoomState → RoomState → Type 0) (i : ℕ) (room after : RoomState) : Type 0 where
  did : does i room after
  reached : IsReached after
  same : after.spec ≡ room.spec

turn_done : (room : RoomState) (i : ℕ) → i < room.spec.simulators → IsReached room → IsDone (EndsTurn room_kind) i room (turn_ended room_kind room i)
turn_done room i below is =
    let ran = steps_while room_after_step in_turn (step_bound room.spec) room i in
    record {
      did = record {
        crashed = λ gone. ap (λ (b : Bool). cond b room ran) gone;
        alive = λ alive. subst (StepsWhile room_after_step in_turn i room) (sym (ap (λ (b : Bool). cond b room ran) alive))
            (runs_out in_turn i (in_turn_means i) (step_bound room.spec) room (up_of room i is below alive) (omega arith));
      };
      reached = cond_both (has_crashed room i) room ran IsReached (λ gone. is) (λ alive. while_reached in_turn i (step_bound room.spec) room is);
      same = same_spec_ended room i;
    }

alone_done : (room : RoomState) (i : ℕ) → i < room.spec.simulators → IsReached room → IsDone (RunsAlone room_kind) i room (ran_alone room_kind room i)
alone_done room i below is =
    let awake = room_kind.wake room i in
    let ran = steps_while room_after_step has_step (step_bound awake.spec) awake i in
    record {
      did = record {
        crashed = λ gone. ap (λ (b : Bool). cond b room (room_after_step ran i)) gone;
        alive = λ alive. (
          ran,
          runs_out has_step i (has_step_means i) (step_bound awake.spec) awake (woken_up room awake i (up_of room i is below alive) refl) (omega arith),
          ap (λ (b : Bool). cond b room (room_after_step ran i)) alive,
        );
      };
      reached = cond_both (has_crashed room i) room (room_after_step ran i) IsReached (λ gone. is)
          (λ alive. step_reached ran i (while_reached has_step i (step_bound awake.spec) awake (woken_reached room i below is)));
      same = same_spec_alone room i;
    }

record AreDone (does : ℕ → RoomState → RoomState → Type 0) (count : ℕ) (room after : RoomState) : Type 0 where
  did : DoInOrder does count room after
  reached : IsReached after
  same : after.spec ≡ room.spec

module _ (does : ℕ → RoomState → RoomState → Type 0) (change : RoomState → ℕ → RoomState) (one : (room : RoomState) (i : ℕ) → i < room.spec.simulators → IsReached room → IsDone does i room (change room i)) where
  all_done : (count : ℕ) (room : RoomState) → count ≤ room.spec.simulators → IsReached room → AreDone does count room (in_order change count room)
  all_done zero room few is = record { did = Nobody room; reached = is; same = refl }
  all_done (suc count) room few is =
      let before = all_done count room (omega arith) is in
      let between = in_order change count room in
      let below : count < between.spec.simulators = omega (arith, ap (λ (spec : RoomSpec). spec.simulators) before.same) in
      let last = one between count below before.reached in
      record {
        did = OneMore count room between (change between count) before.did last.did;
        reached = last.reached;
        same = last.same ∙ before.same;
      }

pub settles : (room : RoomState) → IsRoom (configuration_of room) → Settles room_kind room (room_after_settle room)
settles room is =
    let found = has_fields room is in
    let ended = all_done (EndsTurn room_kind) (turn_ended room_kind) turn_done room.spec.simulators room (omega arith) (record { limits = is.shape.limits; fields = found.0; are = found.1 }) in
    let between = each_in_order room_kind (turn_ended room_kind) room in
    let ran = all_done (RunsAlone room_kind) (ran_alone room_kind) alone_done between.spec.simulators between (omega arith) ended.reached in
    record { between = between; ended = ended.did; ran = ran.did }
