-- What a reader knows that is in the middle of a collect.
use Rattle.std.specs.Prelude.{◌≡◌, ℕ, zero, suc, ◌+◌, ◌<◌, ◌≤◌, Bool, ◌&&◌, ◌⊎◌, nat_lt}
use Rattle.room_spec.specs.Sizes.{Sizes}
use Rattle.sim_memory.specs.Steps.{AreAtMost, AreSameSteps, word_of}
use Rattle.room_core.specs.Fields.{StepMap, same_steps}

-- the sum of the first numbers, and of all step numbers of a map
abbrev pub sum_below : ℕ → (ℕ → ℕ) → ℕ
sum_below zero numbers = 0
sum_below (suc n) numbers = sum_below n numbers + numbers n

abbrev pub sum_of : Sizes → StepMap → ℕ
sum_of sizes map = sum_below sizes.m (λ i. sum_below sizes.n (map i))

-- the memory at each moment: no number falls
abbrev pub Grows : Sizes → (ℕ → StepMap) → ℕ → Type 0
Grows sizes at now = (s t : ℕ) → s ≤ t → t ≤ now → AreAtMost sizes.m sizes.n (at s) (at t)

-- it is the same as the one before, and there was one
abbrev pub is_last_collect : Sizes → ℕ → StepMap → StepMap → Bool
is_last_collect sizes collects before collect = nat_lt 0 collects && same_steps sizes.m sizes.n collect before

-- Whole collects were made. The latest is `before`, and ended at a moment of which `Ends` holds, at which no number was lower than it had read; what
-- the collect that is being made has read so far is no lower than the numbers were then. Each collect but the first has read
-- more than the one before it.
pub record HasCollected (sizes : Sizes) (Ends : ℕ → Type 0) (at : ℕ → StepMap) (now : ℕ) (before snapshot : StepMap) (word collects : ℕ) : Type 0 where
  pub time : ℕ
  pub early : time ≤ now
  pub ends : Ends time
  pub below : AreAtMost sizes.m sizes.n before (at time)
  pub above : (i p : ℕ) → i < sizes.m → p < sizes.n → word_of sizes i p < word → at time i p ≤ snapshot i p
  pub risen : collects ≤ sum_of sizes before + 1

-- A reader has loaded the words below `word` of a collect, after so many whole ones.
pub record IsCollecting (sizes : Sizes) (Ends : ℕ → Type 0) (at : ℕ → StepMap) (now : ℕ) (before snapshot : StepMap) (word collects : ℕ) : Type 0 where
  pub loaded : (i p : ℕ) → i < sizes.m → p < sizes.n → word_of sizes i p < word → snapshot i p ≤ at now i p
  pub whole : (collects ≡ 0) ⊎ HasCollected sizes Ends at now before snapshot word collects

-- The map is the memory as it stood at a moment at which a collect ended.
pub record IsContent (sizes : Sizes) (Ends : ℕ → Type 0) (at : ℕ → StepMap) (now : ℕ) (map : StepMap) : Type 0 where
  pub time : ℕ
  pub early : time ≤ now
  pub ends : Ends time
  pub same : AreSameSteps sizes.m sizes.n map (at time)
