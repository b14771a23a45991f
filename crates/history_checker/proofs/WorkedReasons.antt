-- Reasons, worked by hand.
use Rattle.std.proofs.Common.{◌≡◌, ℕ, zero, suc, ◌<◌, List, [], ◌∷◌, Option, Some, None, refl, arith}
use Rattle.std.specs.Prelude.{codes, slice_index_or}
use Rattle.protocol_lang.specs.Trees.{Named}
use Rattle.protocol_lang.specs.declared.meaning.Action.TheVariants as actions
use Rattle.protocol_lang.specs.declared.tree.Name.TheVariants as names
use Rattle.protocol_lang.specs.declared.tree.Kind.TheVariants as kinds
use Rattle.room_spec.specs.Rooms.{RoomSpec}
use Rattle.room_spec.specs.declared.version.Version.TheVariants.{One}
use Rattle.transcript.specs.declared.event.Event.{Event}
use Rattle.transcript.specs.declared.event.Event.TheVariants.{Write, Snap, Decide}
use Rattle.transcript.specs.Runs.{last_write, process_of, IsEnabled}
use Rattle.history_checker.specs.declared.process.Turn.TheVariants as turns
use Rattle.history_checker.specs.declared.reason.Reason.TheVariants.{NoProcess, OtherLength, OutOfTurn, OtherAction, WrongEntry, TooManyWrites}
use Rattle.history_checker.specs.Reasons.{ShowsLast, IsReason}

-- two processes write their inputs, and decide them
abbrev pair : RoomSpec
pair = record {
  version = One;
  name = codes "pair";
  inputs = 7 ∷ 3 ∷ [];
  own = [];
  simulators = 2;
  rounds = 1;
  turns = 100;
  task = None;
  fuses = [];
  protocol = record { first = Named names.Input; rules = []; last = record { kind = kinds.Decide; value = Named names.Mine } };
}

-- one process writes its input in each of two rounds, and would in a third
abbrev writer : RoomSpec
writer = record pair { inputs = 5 ∷ []; rounds = 2; protocol = record { first = Named names.Input; rules = []; last = record { kind = kinds.Write; value = Named names.Mine } } }

abbrev snap_by : ℕ → List (Option ℕ) → Event
snap_by p row = Snap p (record { items = row })

abbrev both_written : List Event
both_written = Write 0 7 ∷ Write 1 3 ∷ []

abbrev seen : List Event
seen = Write 0 7 ∷ Write 1 3 ∷ snap_by 0 (Some 7 ∷ Some 3 ∷ []) ∷ []

abbrev decided : List Event
decided = Write 0 7 ∷ Write 1 3 ∷ snap_by 0 (Some 7 ∷ Some 3 ∷ []) ∷ Decide 0 7 ∷ []

no_process : IsReason pair [] (Write 2 7) NoProcess
no_process = λ below. absurd (omega (arith, below))

narrow : IsReason pair (Write 0 7 ∷ []) (snap_by 0 (Some 7 ∷ [])) OtherLength
narrow = (omega arith, λ same. absurd (omega (arith, same)))

-- too wide, although it also shows a write that was not made
wide : IsReason pair (Write 0 7 ∷ []) (snap_by 0 (Some 7 ∷ Some 3 ∷ None ∷ [])) OtherLength
wide = (omega arith, λ same. absurd (omega (arith, same)))

-- the first event of a process is the write that the protocol asks for
snap_first : IsReason pair [] (snap_by 0 (None ∷ None ∷ [])) (OutOfTurn (turns.Write 7))
snap_first = (((omega arith, refl), λ turn. turn), record { process = omega arith; in_turn = tt; value = refl; rounds = omega arith })

decide_first : IsReason pair [] (Decide 1 3) (OutOfTurn (turns.Write 3))
decide_first = (((omega arith, tt), λ turn. turn), record { process = omega arith; in_turn = tt; value = refl; rounds = omega arith })

abbrev shows_both : (q : ℕ) → q < 2 → slice_index_or (Some 7 ∷ Some 3 ∷ []) q None ≡ last_write both_written q
shows_both zero below = refl
shows_both (suc zero) below = refl
shows_both (suc (suc q)) below = absurd (omega (arith, below))

-- a process that has written takes a snapshot
write_twice : IsReason pair both_written (Write 0 7) (OutOfTurn turns.Snap)
write_twice = (((omega arith, tt), λ turn. turn), (Some 7 ∷ Some 3 ∷ [], record { process = omega arith; width = refl; in_turn = tt; entries = shows_both }))

-- one that has seen enough decides what the protocol asks for
snap_twice : IsReason pair seen (snap_by 0 (Some 7 ∷ Some 3 ∷ [])) (OutOfTurn (turns.Decide 7))
snap_twice = (((omega arith, refl), λ turn. turn), record { process = omega arith; in_turn = tt; value = refl })

-- and then it is over
decide_twice : IsReason pair decided (Decide 0 7) (OutOfTurn turns.Over)
decide_twice = (((omega arith, tt), λ turn. turn), over)
  where
    over : (event : Event) → process_of event ≡ 0 → IsEnabled pair decided event → ⊥
    over (Write zero v) own may = may.in_turn
    over (Write (suc p) v) own may = absurd (omega (arith, own))
    over (Snap zero row) own may = may.in_turn
    over (Snap (suc p) row) own may = absurd (omega (arith, own))
    over (Decide zero v) own may = may.in_turn
    over (Decide (suc p) v) own may = absurd (omega (arith, own))

other_first_value : IsReason pair [] (Write 0 3) (OtherAction (actions.Write 7))
other_first_value = (((omega arith, tt), tt, λ asked. absurd cc), refl)

other_decision : IsReason pair seen (Decide 0 3) (OtherAction (actions.Decide 7))
other_decision = (((omega arith, tt), tt, λ asked. absurd cc), refl)

other_kind : IsReason pair seen (Write 0 7) (OtherAction (actions.Decide 7))
other_kind = (((omega arith, tt), tt, λ asked. absurd cc), refl)

-- the first entry that is wrong, and the write that it lacks
write_unseen : IsReason pair both_written (snap_by 0 (Some 7 ∷ None ∷ [])) (WrongEntry 1 (Some (record { value = 3; at = 1 })))
write_unseen = ((((omega arith, refl), tt, tt), omega arith, before, λ shows. absurd cc), record { value = refl; there = refl; none_later = refl })
  where
    before : (q : ℕ) → q < 1 → ShowsLast both_written (snap_by 0 (Some 7 ∷ None ∷ [])) q
    before zero below = refl
    before (suc q) below = absurd (omega (arith, below))

both_unseen : IsReason pair both_written (snap_by 0 (None ∷ None ∷ [])) (WrongEntry 0 (Some (record { value = 7; at = 0 })))
both_unseen = ((((omega arith, refl), tt, tt), omega arith, λ q below. absurd (omega (arith, below)), λ shows. absurd cc), record { value = refl; there = refl; none_later = refl })

-- an entry for a process that has written nothing
not_written : IsReason pair (Write 1 3 ∷ []) (snap_by 1 (Some 7 ∷ Some 3 ∷ [])) (WrongEntry 0 None)
not_written = ((((omega arith, refl), tt, tt), omega arith, λ q below. absurd (omega (arith, below)), λ shows. absurd cc), refl)

-- a third write in two rounds
third_write : IsReason writer (Write 0 5 ∷ snap_by 0 (Some 5 ∷ []) ∷ Write 0 5 ∷ snap_by 0 (Some 5 ∷ []) ∷ []) (Write 0 5) TooManyWrites
third_write = (((omega arith, tt), tt, refl), λ q below. tt, λ few. absurd (omega (arith, few)))
