-- The step numbers of one process, one simulator after the other.
use Rattle.std.proofs.Common.{◌≡◌, ℕ, suc, ◌+◌, ◌<◌, ◌≤◌, List, subst, arith}
use Rattle.room_spec.specs.Sizes.{Sizes}
use Rattle.sim_memory.specs.Steps.{IsHolder, step_in}
use Rattle.sim_memory.proofs.Greatest.{alone, holder_kept, holder_passed}

-- the greatest step number of the first m simulators, and the first that has it
pub record IsLast (sizes : Sizes) (words : List ℕ) (p m holder greatest : ℕ) : Type 0 where
  pub holds : IsHolder m (step_in sizes words) p holder
  pub step : greatest ≡ step_in sizes words holder p

pub first_alone : (sizes : Sizes) (words : List ℕ) (p step : ℕ) → step ≡ step_in sizes words 0 p → IsLast sizes words p 1 0 step
first_alone sizes words p step is = record { holds = alone (step_in sizes words) p; step = is }

one_more : (i : ℕ) → suc i ≡ i + 1
one_more i = omega arith

pub passed : (sizes : Sizes) (words : List ℕ) (p i holder greatest step : ℕ) → IsLast sizes words p i holder greatest → step ≡ step_in sizes words i p → greatest < step → IsLast sizes words p (i + 1) i step
passed sizes words p i holder greatest step so_far is more =
    let holds = holder_passed i (step_in sizes words) p holder so_far.holds (let g = so_far.step in omega arith) in
    record { holds = subst (λ (m : ℕ). IsHolder m (step_in sizes words) p i) (one_more i) holds; step = is }

pub kept : (sizes : Sizes) (words : List ℕ) (p i holder greatest step : ℕ) → IsLast sizes words p i holder greatest → step ≡ step_in sizes words i p → step ≤ greatest → IsLast sizes words p (i + 1) holder greatest
kept sizes words p i holder greatest step so_far is no_more =
    let holds = holder_kept i (step_in sizes words) p holder so_far.holds (let g = so_far.step in omega arith) in
    record { holds = subst (λ (m : ℕ). IsHolder m (step_in sizes words) p holder) (one_more i) holds; step = so_far.step }
