-- Settling, as a relation: no steps are counted, and none is cut off.
use Rattle.std.specs.Prelude.{◌≡◌, ℕ, suc, Bool, true, false}
use Rattle.room_core.specs.Settling.{KindOf}

-- simulator i steps as long as a test holds, and no more
pub data StepsWhile {R : Type 0} (step : R → ℕ → R) (test : R → ℕ → Bool) (i : ℕ) : R → R → Type 0 where
  Stops : (room : R) → test room i ≡ false → StepsWhile step test i room room
  Steps : (room after : R) → test room i ≡ true → StepsWhile step test i (step room i) after → StepsWhile step test i room after

-- if it hasn't crashed, it ends its open turn
pub record EndsTurn {R : Type 0} (kind : KindOf R) (i : ℕ) (room after : R) : Type 0 where
  pub crashed : kind.has_crashed room i ≡ true → after ≡ room
  pub alive : kind.has_crashed room i ≡ false → StepsWhile kind.step kind.in_turn i room after

-- if it hasn't crashed, its quiet turns are counted anew, and it runs alone until a call finds no step to take
pub record RunsAlone {R : Type 0} (kind : KindOf R) (i : ℕ) (room after : R) : Type 0 where
  pub crashed : kind.has_crashed room i ≡ true → after ≡ room
  pub alive : kind.has_crashed room i ≡ false → (last : R) × StepsWhile kind.step kind.has_step i (kind.wake room i) last × (after ≡ kind.step last i)

-- so do the first simulators, in order of number
pub data DoInOrder {R : Type 0} (does : ℕ → R → R → Type 0) : ℕ → R → R → Type 0 where
  Nobody : (room : R) → DoInOrder does 0 room room
  OneMore : (count : ℕ) (room between after : R) → DoInOrder does count room between → does count between after → DoInOrder does (suc count) room after

-- first each ends its open turn, then each runs alone
pub record Settles {R : Type 0} (kind : KindOf R) (room after : R) : Type 0 where
  pub between : R
  pub ended : DoInOrder (EndsTurn kind) (kind.count room) room between
  pub ran : DoInOrder (RunsAlone kind) (kind.count between) between after
