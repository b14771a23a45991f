-- The levels of one agreement, one for each simulator: 0 before it enters and after it withdraws, 1 inside, 2 where
-- its proposal is kept.
use Rattle.std.specs.Prelude.{◌≡◌, ◌≢◌, ℕ, ◌<◌, Bool, List, length, Option, None, slice_index, position, ◌==◌, ◌&&◌, not, if◌then◌else◌}
use Rattle.std.specs.List.{list_any}

-- whether some simulator is at this level
abbrev pub has_level : ℕ → List ℕ → Bool
has_level level levels = list_any (λ one. one == level) levels

-- a simulator that saw a level 2 withdraws; the proposal of one that saw none is kept
abbrev pub left_level : Bool → ℕ
left_level saw = if saw then 0 else 2

-- the level to which a simulator goes that looked and saw these
abbrev pub leave_of : List ℕ → ℕ
leave_of levels = left_level (has_level 2 levels)

-- some level is 2, and none is 1
pub record IsResolved (levels : List ℕ) : Type 0 where
  pub simulator : ℕ
  pub below : simulator < length levels
  pub two : slice_index levels simulator ≡ 2
  pub no_one : (i : ℕ) → i < length levels → slice_index levels i ≢ 1

-- the same as a test
abbrev pub is_resolved : List ℕ → Bool
is_resolved levels = has_level 2 levels && not (has_level 1 levels)

-- the least simulator at level 2, if none is at level 1
pub record IsResolvedTo (levels : List ℕ) (simulator : ℕ) : Type 0 where
  pub below : simulator < length levels
  pub two : slice_index levels simulator ≡ 2
  pub least : (i : ℕ) → i < simulator → slice_index levels i ≢ 2
  pub no_one : (i : ℕ) → i < length levels → slice_index levels i ≢ 1

-- the least simulator at level 2, if there is one
abbrev pub least_two : List ℕ → Option ℕ
least_two levels = position (λ one. one == 2) levels

-- the same, if none is at level 1
abbrev pub resolved_of : List ℕ → Option ℕ
resolved_of levels = if has_level 1 levels then None else least_two levels
