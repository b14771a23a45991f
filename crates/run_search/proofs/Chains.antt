-- Chains of steps that leave the last writes as they are.
use Rattle.std.proofs.Common.{◌≡◌, ℕ, zero, suc, ◌≤◌, List, Option, refl, sym, ap, ◌∙◌, subst, arith}
use Rattle.std.proofs.lemmas.Option.{same_Some}
use Rattle.room_spec.specs.Rooms.{RoomSpec}
use Rattle.run_search.specs.declared.local_state.LocalState.{LocalState}
use Rattle.run_search.specs.Nodes.{GoesAlone, MovesAlone}
use Rattle.run_search.specs.States.{events_of}
use Rattle.run_search.proofs.Counting.{local_more}

-- the first step of a chain, and the rest
pub first_step : (spec : RoomSpec) (row : List (Option ℕ)) (p steps : ℕ) (from to : LocalState) → GoesAlone spec row p (suc steps) from to → (next : LocalState) × MovesAlone spec row p from next × GoesAlone spec row p steps next to
first_step spec row p zero from to goes = (to, subst (λ (l : LocalState). MovesAlone spec row p l to) (sym goes.1) goes.2, refl)
first_step spec row p (suc steps) from to goes =
    let before = first_step spec row p steps from goes.0 goes.1 in
    (before.0, before.1, (goes.0, before.2, goes.2))

-- a chain that doesn't end at once has a first step
pub goes_first : (spec : RoomSpec) (row : List (Option ℕ)) (p steps : ℕ) (from to : LocalState) → GoesAlone spec row p steps from to → (from ≡ to → ⊥)
    → (next : LocalState) × MovesAlone spec row p from next × (less : ℕ) × (suc less ≡ steps) × GoesAlone spec row p less next to
goes_first spec row p zero from to goes other = absurd (other goes)
goes_first spec row p (suc steps) from to goes other = let first = first_step spec row p steps from to goes in (first.0, first.1, steps, refl, first.2)

-- a chain adds an event for each step
pub goes_more : (spec : RoomSpec) (row : List (Option ℕ)) (p steps : ℕ) (from to : LocalState) → GoesAlone spec row p steps from to → events_of from ≤ events_of to
goes_more spec row p zero from to goes = let same = ap events_of goes in omega (arith, same)
goes_more spec row p (suc steps) from to goes =
    let before = goes_more spec row p steps from goes.0 goes.1 in
    let one = local_more spec row p goes.0 to goes.0.due goes.2.moves in
    omega (arith, before, one)

-- what is left of a chain after its first step
pub left_more : (spec : RoomSpec) (row : List (Option ℕ)) (p steps : ℕ) (now new to : LocalState) → GoesAlone spec row p steps now to → (now ≡ to → ⊥) → MovesAlone spec row p now new → (less : ℕ) × GoesAlone spec row p less new to
left_more spec row p steps now new to goes other moves =
    let next = goes_first spec row p steps now to goes other in
    (next.2, subst (λ (l : LocalState). GoesAlone spec row p next.2 l to) (same_Some next.0 new (sym next.1.moves ∙ moves.moves)) next.4)

-- a chain ends where no step is left
pub none_left : (spec : RoomSpec) (row : List (Option ℕ)) (p steps : ℕ) (now to : LocalState) → GoesAlone spec row p steps now to → (now ≡ to → ⊥) → ((next : LocalState) → MovesAlone spec row p now next → ⊥) → ⊥
none_left spec row p steps now to goes other none = let next = goes_first spec row p steps now to goes other in none next.0 next.1
