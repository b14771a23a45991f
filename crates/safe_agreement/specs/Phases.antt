-- One agreement among m simulators, as it goes on: what each simulator has done in it, and what it may do next.
use Rattle.std.specs.Prelude.{◌≡◌, ◌≢◌, ◌↔◌, ℕ, ◌<◌, Bool, true, List, [], ◌∷◌, map, ◌==◌, if◌then◌else◌}
use Rattle.std.specs.List.{range_with_len}
use Rattle.safe_agreement.specs.Levels.{has_level, left_level}

-- How far a simulator has come: not begun, entered, looked and has seen a level 2 or not, left to a level.
pub data Phase : Type 0 where
  Before : Phase
  Entered : Phase
  Looked : Bool → Phase
  Left : ℕ → Phase

abbrev pub phase_level : Phase → ℕ
phase_level Before = 0
phase_level Entered = 1
phase_level (Looked saw) = 1
phase_level (Left level) = level

-- the levels of simulators 0 to m - 1
abbrev pub phase_levels : ℕ → (ℕ → Phase) → List ℕ
phase_levels m phases = map (λ i. phase_level (phases i)) (range_with_len 0 m)

-- One change: a simulator enters, looks at all levels, or leaves.
pub data Change : Type 0 where
  Enters : ℕ → Change
  Looks : ℕ → Change
  Leaves : ℕ → Change

abbrev pub mover : Change → ℕ
mover (Enters i) = i
mover (Looks i) = i
mover (Leaves i) = i

-- A simulator enters once, looks once it has entered, and leaves once it has looked.
abbrev pub MayMove : Change → Phase → Type 0
MayMove (Enters i) Before = Unit {0}
MayMove (Looks i) Entered = Unit {0}
MayMove (Leaves i) (Looked saw) = Unit {0}
MayMove change phase = ⊥

-- the phase of the simulator that has moved, where the levels were these
abbrev pub moved : List ℕ → Change → Phase → Phase
moved levels (Enters i) phase = Entered
moved levels (Looks i) phase = Looked (has_level 2 levels)
moved levels (Leaves i) (Looked saw) = Left (left_level saw)
moved levels (Leaves i) phase = phase

-- One change leads from these phases to those: one of the m simulators makes its move, and all others stay.
pub record IsStep (m : ℕ) (before : ℕ → Phase) (change : Change) (after : ℕ → Phase) : Type 0 where
  pub below : mover change < m
  pub may : MayMove change (before (mover change))
  pub own : after (mover change) ≡ moved (phase_levels m before) change (before (mover change))
  pub others : (i : ℕ) → i < m → i ≢ mover change → after i ≡ before i

-- some simulator is at level 2
abbrev pub HasTwo : ℕ → (ℕ → Phase) → Type 0
HasTwo m phases = (i : ℕ) × (i < m) × (phase_level (phases i) ≡ 2)

-- Some simulator is at level 2, and each that has looked and not yet left has seen a 2.
pub record IsFixed (m : ℕ) (phases : ℕ → Phase) : Type 0 where
  pub two : HasTwo m phases
  pub seen : (i : ℕ) (saw : Bool) → i < m → phases i ≡ Looked saw → saw ≡ true

-- If a simulator has seen a 2 or has left, some simulator is at level 2.
pub record HasTwoBeside (m : ℕ) (phases : ℕ → Phase) : Type 0 where
  pub seen : (i : ℕ) → i < m → phases i ≡ Looked true → HasTwo m phases
  pub left : (i level : ℕ) → i < m → phases i ≡ Left level → HasTwo m phases

-- the same simulators are at level 2
abbrev pub HaveSameTwos : ℕ → (ℕ → Phase) → (ℕ → Phase) → Type 0
HaveSameTwos m before after = (i : ℕ) → i < m → (phase_level (before i) ≡ 2) ↔ (phase_level (after i) ≡ 2)

-- ---- lists of changes

abbrev pub before_all : ℕ → Phase
before_all i = Before

abbrev pub with_phase : (ℕ → Phase) → ℕ → Phase → ℕ → Phase
with_phase phases i phase k = if k == i then phase else phases k

abbrev pub after_change : ℕ → (ℕ → Phase) → Change → ℕ → Phase
after_change m phases change = with_phase phases (mover change) (moved (phase_levels m phases) change (phases (mover change)))

-- the phases after these changes, one after the other
abbrev pub after_changes : ℕ → (ℕ → Phase) → List Change → ℕ → Phase
after_changes m phases [] = phases
after_changes m phases (change ∷ changes) = after_changes m (after_change m phases change) changes

-- each change may happen at its place
abbrev pub AreLegal : ℕ → (ℕ → Phase) → List Change → Type 0
AreLegal m phases [] = Unit {0}
AreLegal m phases (change ∷ changes) = (mover change < m) × MayMove change (phases (mover change)) × AreLegal m (after_change m phases change) changes
