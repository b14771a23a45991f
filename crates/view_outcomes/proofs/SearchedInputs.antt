-- The vectors of inputs with which a reduction is searched are those of its simulators' own inputs.
use Rattle.std.proofs.Common.{◌≡◌, ℕ, zero, suc, ◌<◌, List, [], ◌∷◌, length, subst, sym, arith}
use Rattle.std.specs.Prelude.{slice_index}
use Rattle.std.specs.List.{AllByRecursion, Contains}
use Rattle.room_spec.specs.Rooms.{RoomSpec, processes, with_inputs}
use Rattle.transcript.specs.Reductions.{AreFromOwn}
use Rattle.transcript.specs.Tasks.{different}
use Rattle.transcript.proofs.CallerLemmas.{contains_in, different_in, in_contains, in_different}
use Rattle.run_search.specs.Agreed.{IsAgreedOutcome, own_values}
use Rattle.run_search.specs.Outcomes.{IsRunOutcome}
use Rattle.run_search.specs.declared.ended.Ended.{Ended}
use Rattle.input_vectors.specs.Vectors.{vectors}
use Rattle.view_outcomes.specs.Rooms.{agreed_vectors}

from_each : (own inputs : List ℕ) → ((p : ℕ) → p < length inputs → Contains own (slice_index inputs p)) → AllByRecursion (Contains (different own)) inputs
from_each own [] each = tt
from_each own (x ∷ xs) each = (
  in_contains x (different own) (in_different x own (contains_in x own (each 0 (omega arith)))),
  from_each own xs (λ p below. each (suc p) (omega (arith, below))),
)

to_each : (own inputs : List ℕ) → AllByRecursion (Contains (different own)) inputs → (p : ℕ) → p < length inputs → Contains own (slice_index inputs p)
to_each own [] all p below = absurd (let none : ⊥ = omega (arith, below) in none)
to_each own (x ∷ xs) all zero below = in_contains x own (different_in x own (contains_in x (different own) all.0))
to_each own (x ∷ xs) all (suc p) below = to_each own xs all.1 p (omega (arith, below))

abbrev pub Complete : Type 0
Complete = (values vector : List ℕ) → AllByRecursion (Contains values) vector → Contains (vectors values (length vector)) vector

abbrev pub Sound : Type 0
Sound = (values vector : List ℕ) (n : ℕ) → Contains (vectors values n) vector → (length vector ≡ n) × AllByRecursion (Contains values) vector

pub all_searched : Complete → (spec : RoomSpec) (crashes : ℕ) (outcome : List Ended) → IsAgreedOutcome spec crashes outcome
    → (inputs : List ℕ) × Contains (agreed_vectors spec) inputs × IsRunOutcome (with_inputs spec inputs) crashes outcome
all_searched complete spec crashes outcome agreed =
    let inputs = agreed.inputs in
    let many = agreed.from_own.many in
    let all = from_each spec.own inputs (λ p below. agreed.from_own.own p (subst (λ (n : ℕ). p < n) many below)) in
    (inputs, subst (λ (n : ℕ). Contains (vectors (own_values spec) n) inputs) many (complete (own_values spec) inputs all), agreed.ends)

pub only_agreed : Sound → (spec : RoomSpec) (inputs : List ℕ) → Contains (agreed_vectors spec) inputs → AreFromOwn spec inputs
only_agreed sound spec inputs at =
    let are = sound (own_values spec) inputs (processes spec) at in
    record { many = are.0; own = λ p below. to_each spec.own inputs are.1 p (subst (λ (n : ℕ). p < n) (sym are.0) below) }
