-- Runs of a reduction, worked by hand.
use Rattle.std.proofs.Common.{◌≡◌, ℕ, zero, suc, ◌<◌, [], ◌∷◌, refl, arith, get_or, ◌∙◌}
use Rattle.std.specs.List.{Contains}
use Rattle.protocol_lang.specs.declared.meaning.Action.{Action}
use Rattle.protocol_lang.specs.declared.meaning.Action.TheVariants as actions
use Rattle.room_spec.specs.Rooms.{RoomSpec, with_inputs}
use Rattle.transcript.specs.declared.event.Event.TheVariants.{Write}
use Rattle.transcript.specs.Runs.{action_due}
use Rattle.transcript.specs.Reductions.{AreFromOwn, IsFirstBreakOf, IsRunOf, with_input}
use Rattle.transcript.proofs.Runs.{IsRun-nil}
use Rattle.transcript.proofs.Singly.{singly}
use Rattle.transcript.proofs.WorkedRuns.{is_run, pair, whole_run}

-- the same two processes, run by two simulators whose own inputs are 3 and 7
abbrev shared : RoomSpec
shared = record pair { inputs = 3 ∷ 3 ∷ []; own = 3 ∷ 7 ∷ [] }

exchanged : AreFromOwn shared (7 ∷ 3 ∷ [])
exchanged = record { many = refl; own = own }
  where
    own : (p : ℕ) → p < 2 → Contains {X = ℕ} (3 ∷ 7 ∷ []) (get_or (7 ∷ 3 ∷ []) p 0)
    own zero below = (1, omega arith, refl)
    own (suc zero) below = (0, omega arith, refl)
    own (suc (suc p)) below = absurd (omega (arith, below))

shared_run : IsRunOf shared whole_run
shared_run = record { inputs = 7 ∷ 3 ∷ []; from_own = exchanged; run = is_run }

-- both processes may have one simulator's input
same_input : AreFromOwn shared (3 ∷ 3 ∷ [])
same_input = record { many = refl; own = own }
  where
    own : (p : ℕ) → p < 2 → Contains {X = ℕ} (3 ∷ 7 ∷ []) (get_or (3 ∷ 3 ∷ []) p 0)
    own zero below = (0, omega arith, refl)
    own (suc zero) below = (0, omega arith, refl)
    own (suc (suc p)) below = absurd (omega (arith, below))

no_event : IsRunOf shared []
no_event = record { inputs = 3 ∷ 3 ∷ []; from_own = same_input; run = IsRun-nil (with_inputs shared (3 ∷ 3 ∷ [])) }

written : (input v : ℕ) → ◌≡◌ {A = Action} (actions.Write input) (actions.Write v) → input ≡ v
written input v is = cc

-- an input that no simulator has
never_five : IsRunOf shared (Write 0 5 ∷ []) → ⊥
never_five run =
    let may = (singly shared (Write 0 5 ∷ []) run).inputs 0 (omega arith) in
    none may.0 may.1 (may.2 0 (Write 0 5) refl refl).value
  where
    none : (input : ℕ) → Contains {X = ℕ} (3 ∷ 7 ∷ []) input → action_due (with_input shared input) [] 0 ≡ actions.Write 5 → ⊥
    none input (zero, below, is) value = absurd (let same : 3 ≡ 5 = is ∙ written input 5 value in omega (arith, same))
    none input (suc zero, below, is) value = absurd (let same : 7 ≡ 5 = is ∙ written input 5 value in omega (arith, same))
    none input (suc (suc k), below, is) value = absurd (omega (arith, below))

other_than_own : IsFirstBreakOf shared (Write 0 5 ∷ []) 0
other_than_own = record { event = Write 0 5; there = refl; breaks = never_five; run_before = no_event }
