-- The last writes of all processes as lists, one entry for each of sixteen processes.
use Rattle.std.specs.Prelude.{◌≡◌, ℕ, ◌<◌, ◌≤◌, List, slice_index}
use Rattle.room_spec.specs.Sizes.{Sizes}
use Rattle.sim_memory.specs.Steps.{holder_of, merged_of, step_in}
use Rattle.protocol_lang.specs.declared.meaning.TheConstants.{MAX_PROCESSES}

-- those of the first m simulators, and 0 after the last process
pub record AreLast (sizes : Sizes) (words : List ℕ) (m : ℕ) (holders rounds : List ℕ) : Type 0 where
  pub holder : (p : ℕ) → p < sizes.n → slice_index holders p ≡ holder_of m (step_in sizes words) p
  pub round : (p : ℕ) → p < sizes.n → slice_index rounds p ≡ merged_of m (step_in sizes words) p
  pub behind : (p : ℕ) → sizes.n ≤ p → p < MAX_PROCESSES → (slice_index holders p ≡ 0) × (slice_index rounds p ≡ 0)

-- the step numbers of one simulator
pub record AreSteps (sizes : Sizes) (words : List ℕ) (i : ℕ) (steps : List ℕ) : Type 0 where
  pub own : (p : ℕ) → p < sizes.n → slice_index steps p ≡ step_in sizes words i p
  pub behind : (p : ℕ) → sizes.n ≤ p → p < MAX_PROCESSES → slice_index steps p ≡ 0
