-- Runs and their first breaks, worked by hand.
use Rattle.std.proofs.Common.{◌≡◌, ℕ, zero, suc, ◌<◌, List, [], ◌∷◌, ◌++◌, Option, Some, None, refl, arith}
use Rattle.std.specs.Prelude.{codes, slice_index_or}
use Rattle.protocol_lang.specs.Trees.{Named}
use Rattle.protocol_lang.specs.declared.tree.Name.TheVariants as names
use Rattle.protocol_lang.specs.declared.tree.Kind.TheVariants as kinds
use Rattle.room_spec.specs.Rooms.{RoomSpec}
use Rattle.room_spec.specs.declared.version.Version.TheVariants.{One}
use Rattle.transcript.specs.declared.event.Event.{Event}
use Rattle.transcript.specs.declared.event.Event.TheVariants.{Write, Snap, Decide}
use Rattle.transcript.specs.Runs.{last_write, IsEnabled, IsRun, IsFirstBreak}
use Rattle.transcript.proofs.Runs.{IsRun-nil, IsRun-push}

-- two processes write their inputs, and decide them
abbrev pub pair : RoomSpec
pair = record {
  version = One;
  name = codes "pair";
  inputs = 7 ∷ 3 ∷ [];
  own = [];
  simulators = 2;
  rounds = 1;
  turns = 100;
  task = None;
  fuses = [];
  protocol = record { first = Named names.Input; rules = []; last = record { kind = kinds.Decide; value = Named names.Mine } };
}

abbrev snap_by : ℕ → List (Option ℕ) → Event
snap_by p row = Snap p (record { items = row })

abbrev both_written : List Event
both_written = Write 0 7 ∷ Write 1 3 ∷ []

abbrev pub whole_run : List Event
whole_run = Write 0 7 ∷ Write 1 3 ∷ snap_by 0 (Some 7 ∷ Some 3 ∷ []) ∷ Decide 0 7 ∷ snap_by 1 (Some 7 ∷ Some 3 ∷ []) ∷ Decide 1 3 ∷ []

first_write : IsEnabled pair [] (Write 0 7)
first_write = record { process = omega arith; in_turn = tt; value = refl; rounds = omega arith }

second_write : IsEnabled pair (Write 0 7 ∷ []) (Write 1 3)
second_write = record { process = omega arith; in_turn = tt; value = refl; rounds = omega arith }

first_snap : IsEnabled pair both_written (snap_by 0 (Some 7 ∷ Some 3 ∷ []))
first_snap = record { process = omega arith; width = refl; in_turn = tt; entries = shown }
  where
    shown : (q : ℕ) → q < 2 → slice_index_or (Some 7 ∷ Some 3 ∷ []) q None ≡ last_write both_written q
    shown zero below = refl
    shown (suc zero) below = refl
    shown (suc (suc q)) below = absurd (omega (arith, below))

first_decision : IsEnabled pair (both_written ++ snap_by 0 (Some 7 ∷ Some 3 ∷ []) ∷ []) (Decide 0 7)
first_decision = record { process = omega arith; in_turn = tt; value = refl }

second_snap : IsEnabled pair (both_written ++ snap_by 0 (Some 7 ∷ Some 3 ∷ []) ∷ Decide 0 7 ∷ []) (snap_by 1 (Some 7 ∷ Some 3 ∷ []))
second_snap = record { process = omega arith; width = refl; in_turn = tt; entries = shown }
  where
    shown : (q : ℕ) → q < 2 → slice_index_or (Some 7 ∷ Some 3 ∷ []) q None ≡ last_write (both_written ++ snap_by 0 (Some 7 ∷ Some 3 ∷ []) ∷ Decide 0 7 ∷ []) q
    shown zero below = refl
    shown (suc zero) below = refl
    shown (suc (suc q)) below = absurd (omega (arith, below))

second_decision : IsEnabled pair (both_written ++ snap_by 0 (Some 7 ∷ Some 3 ∷ []) ∷ Decide 0 7 ∷ snap_by 1 (Some 7 ∷ Some 3 ∷ []) ∷ []) (Decide 1 3)
second_decision = record { process = omega arith; in_turn = tt; value = refl }

one_written_run : IsRun pair (Write 0 7 ∷ [])
one_written_run = IsRun-push pair [] (Write 0 7) (IsRun-nil pair) first_write

both_written_run : IsRun pair both_written
both_written_run = IsRun-push pair (Write 0 7 ∷ []) (Write 1 3) one_written_run second_write

pub is_run : IsRun pair whole_run
is_run =
    let seen = IsRun-push pair both_written (snap_by 0 (Some 7 ∷ Some 3 ∷ [])) both_written_run first_snap in
    let decided = IsRun-push pair (both_written ++ snap_by 0 (Some 7 ∷ Some 3 ∷ []) ∷ []) (Decide 0 7) seen first_decision in
    let both_seen = IsRun-push pair (both_written ++ snap_by 0 (Some 7 ∷ Some 3 ∷ []) ∷ Decide 0 7 ∷ []) (snap_by 1 (Some 7 ∷ Some 3 ∷ [])) decided second_snap in
    IsRun-push pair (both_written ++ snap_by 0 (Some 7 ∷ Some 3 ∷ []) ∷ Decide 0 7 ∷ snap_by 1 (Some 7 ∷ Some 3 ∷ []) ∷ []) (Decide 1 3) both_seen second_decision

-- a process that decides without a snapshot, whatever comes behind
no_snapshot : IsFirstBreak pair (Write 0 7 ∷ Write 1 3 ∷ Decide 0 7 ∷ Decide 1 3 ∷ []) 2
no_snapshot = record { event = Decide 0 7; there = refl; breaks = λ may. may.in_turn; run_before = both_written_run }

-- a snapshot that leaves out the other's write
write_unseen : IsFirstBreak pair (both_written ++ snap_by 0 (Some 7 ∷ None ∷ []) ∷ []) 2
write_unseen = record { event = snap_by 0 (Some 7 ∷ None ∷ []); there = refl; breaks = λ may. (let never : None ≡ Some 3 = may.entries 1 (omega arith) in absurd cc); run_before = both_written_run }

-- a snapshot of one entry, where there are two processes
narrow : IsFirstBreak pair (both_written ++ snap_by 0 (Some 7 ∷ []) ∷ []) 2
narrow = record { event = snap_by 0 (Some 7 ∷ []); there = refl; breaks = λ may. (let never : 1 ≡ 2 = may.width in absurd (omega (arith, never))); run_before = both_written_run }

-- another value than the input
other_input : IsFirstBreak pair (Write 0 3 ∷ []) 0
other_input = record { event = Write 0 3; there = refl; breaks = λ may. (let never = may.value in absurd cc); run_before = IsRun-nil pair }

-- a process that the room doesn't have
no_process : IsFirstBreak pair (Write 0 7 ∷ Write 2 7 ∷ []) 1
no_process = record { event = Write 2 7; there = refl; breaks = λ may. absurd (omega (arith, may.process)); run_before = one_written_run }

-- a process that writes its input in each round
abbrev writer : RoomSpec
writer = record pair { inputs = 7 ∷ []; protocol = record { first = Named names.Input; rules = []; last = record { kind = kinds.Write; value = Named names.Mine } } }

one_round : IsRun writer (Write 0 7 ∷ snap_by 0 (Some 7 ∷ []) ∷ [])
one_round =
    let begun = IsRun-push writer [] (Write 0 7) (IsRun-nil writer) (record { process = omega arith; in_turn = tt; value = refl; rounds = omega arith }) in
    IsRun-push writer (Write 0 7 ∷ []) (snap_by 0 (Some 7 ∷ [])) begun (record { process = omega arith; width = refl; in_turn = tt; entries = shown })
  where
    shown : (q : ℕ) → q < 1 → slice_index_or (Some 7 ∷ []) q None ≡ last_write (Write 0 7 ∷ []) q
    shown zero below = refl
    shown (suc q) below = absurd (omega (arith, below))

-- more writes than the room's rounds
second_round : IsFirstBreak writer (Write 0 7 ∷ snap_by 0 (Some 7 ∷ []) ∷ Write 0 7 ∷ []) 2
second_round = record { event = Write 0 7; there = refl; breaks = λ may. absurd (omega (arith, may.rounds)); run_before = one_round }
