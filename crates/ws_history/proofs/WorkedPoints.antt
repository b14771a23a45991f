-- A linearization worked by hand.
use Rattle.std.proofs.Common.{◌≡◌, List, [], ◌∷◌, Some, None, refl}
use Rattle.std.specs.Prelude.{codes}
use Rattle.protocol_lang.specs.Trees.{Named}
use Rattle.protocol_lang.specs.declared.tree.Kind.TheVariants as kinds
use Rattle.protocol_lang.specs.declared.tree.Name.TheVariants.{Input, Mine}
use Rattle.room_spec.specs.Rooms.{RoomSpec}
use Rattle.room_spec.specs.Sizes.{memory_words}
use Rattle.room_spec.specs.declared.version.Version.TheVariants.{One}
use Rattle.transcript.specs.declared.event.Event.TheVariants.{Write, Snap, Decide}
use Rattle.room_core.specs.Rooms.{ScheduleEvent, steps, crashes}
use Rattle.room_core.specs.Fields.{opening_fields, replay_fields}
use Rattle.ws_history.specs.Linearizations.{linearized}

-- one process with the input 5, and one simulator
abbrev one : RoomSpec
one = record {
  version = One;
  name = codes "a";
  inputs = 5 ∷ [];
  own = [];
  simulators = 1;
  rounds = 1;
  turns = 10;
  task = None;
  fuses = [];
  protocol = record { first = Named Input; rules = []; last = record { kind = kinds.Decide; value = Named Mine } };
}

-- its one turn
abbrev turn : List ScheduleEvent
turn = steps 0 ∷ steps 0 ∷ steps 0 ∷ steps 0 ∷ steps 0 ∷ steps 0 ∷ steps 0 ∷ steps 0 ∷ steps 0 ∷ steps 0 ∷ steps 0 ∷ []

it_decides : linearized one turn (replay_fields one (opening_fields one) turn) ≡ Write 0 5 ∷ Snap 0 (record { items = Some 5 ∷ [] }) ∷ Decide 0 5 ∷ []
unfolding memory_words
it_decides = refl

-- with a crash in its place inside the agreement, the write alone takes effect: nobody passes the agreement
abbrev held : List ScheduleEvent
held = steps 0 ∷ steps 0 ∷ steps 0 ∷ steps 0 ∷ steps 0 ∷ crashes 0 ∷ []

it_is_held : linearized one held (replay_fields one (opening_fields one) held) ≡ Write 0 5 ∷ []
unfolding memory_words
it_is_held = refl
