-- What the words of a room say is what the fields have to which a schedule leads.
use Rattle.std.proofs.Common.{◌≡◌, ℕ, ◌<◌, ◌≤◌, refl, ap, arith}
use Rattle.room_spec.specs.Rooms.{IsWithinLimits, processes}
use Rattle.room_spec.specs.Sizes.{sizes_in}
use Rattle.simulator.specs.Minds.{MindOf, MindState, current_round}
use Rattle.room_core.specs.Agreements.{decided_in, greatest_step, has_out, is_fixed, is_passed, shown_of}
use Rattle.room_core.specs.Calls.{RoomState, configuration_of, sweep_at}
use Rattle.room_core.specs.Fields.{Fields, StepMap, opening_fields, replay_fields}
use Rattle.room_core.specs.Reading.{AgreeIn, AreFieldsOf}
use Rattle.room_core.specs.Rooms.{IsOneInterleaving}
use Rattle.ws_history.specs.Readings.{read_of}
use Rattle.ws_history.proofs.Agreeing.{same_decided, same_fixed, same_greatest, same_out, same_passed, same_shown}
use Rattle.ws_history.proofs.RoomFields.{read_agrees}

-- a simulator's mind is that of its fields
pub record IsSaid (mind : MindState) (field : MindOf StepMap) : Type 0 where
  pub line : mind.line ≡ field.line
  pub process : mind.process ≡ field.process
  pub word : mind.word ≡ field.word
  pub round : current_round mind ≡ current_round field

module _ (room : RoomState) (limits : IsWithinLimits room.spec) (one : IsOneInterleaving (configuration_of room)) where
  abbrev pub base : Fields
  base = replay_fields room.spec (opening_fields room.spec) one.schedule

  -- with the room's quiet counts they are its fields
  abbrev pub fields : Fields
  fields = record (replay_fields room.spec (opening_fields room.spec) one.schedule) { quiet = λ a. (sweep_at room a).quiet }

  pub are_fields : AreFieldsOf room fields
  are_fields = record { run = one; leads = refl; counts = λ a below. refl }

  some : 0 < room.spec.simulators
  some = let least = limits.shape.m_range.0 in omega (arith, least)

  pub agree : AgreeIn (sizes_in room.spec) (read_of room) fields
  agree = read_agrees room fields limits are_fields

  pub said_count : (p : ℕ) → p < processes room.spec → greatest_step room.spec (read_of room) p ≡ greatest_step room.spec base p
  said_count p low = same_greatest room.spec (read_of room) fields some agree p low

  pub said_out : (p : ℕ) → p < processes room.spec → has_out room.spec (read_of room) p ≡ has_out room.spec base p
  said_out p low = same_out room.spec (read_of room) fields some agree p low

  pub said_decided : (p : ℕ) → p < processes room.spec → decided_in room.spec (read_of room) p ≡ decided_in room.spec base p
  said_decided p low = same_decided room.spec (read_of room) fields some agree p low

  pub said_passed : (p r : ℕ) → p < processes room.spec → 1 ≤ r → r ≤ room.spec.rounds → is_passed room.spec (read_of room) p r ≡ is_passed room.spec base p r
  said_passed p r low first last = same_passed room.spec (read_of room) fields some agree p r low first last

  pub said_fixed : (p r : ℕ) → p < processes room.spec → 1 ≤ r → r ≤ room.spec.rounds → is_fixed room.spec (read_of room) p r ≡ is_fixed room.spec base p r
  said_fixed p r low first last = same_fixed room.spec (read_of room) fields some agree p r low first last

  pub said_shown : (p r : ℕ) → p < processes room.spec → 1 ≤ r → r ≤ room.spec.rounds → shown_of room.spec (read_of room) p r ≡ shown_of room.spec base p r
  said_shown p r low first last = same_shown room.spec (read_of room) fields some agree p r low first last

  pub said_mind : (i : ℕ) → i < room.spec.simulators → IsSaid (sweep_at room i).mind (base.mind i)
  unfolding read_of
  said_mind i below =
      let rest = (agree.mind i below).rest in
      record {
        line = ap (λ (mind : MindOf StepMap). mind.line) rest;
        process = ap (λ (mind : MindOf StepMap). mind.process) rest;
        word = ap (λ (mind : MindOf StepMap). mind.word) rest;
        round = ap (λ (mind : MindOf StepMap). current_round mind) rest;
      }
