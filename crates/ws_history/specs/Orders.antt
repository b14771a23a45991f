-- The order of a history: agreed snapshots by the sum of their rows, and then by process.
use Rattle.std.specs.Prelude.{◌≡◌, ℕ, zero, suc, ◌+◌, ◌<◌, ◌≤◌, true, Bool, ◌&&◌, ◌||◌, ◌==◌, nat_lt, List, [], ◌∷◌, ◌++◌, if◌then◌else◌}
use Rattle.std.specs.List.{sum, fold}
use Rattle.ws_history.specs.Histories.{Snapshot}

-- how many writes a snapshot shows
abbrev pub writes_in : (ℕ → ℕ → List ℕ) → Snapshot → ℕ
writes_in row s = sum (row s.process s.round)

-- s shows fewer writes than t, or as many and is of an earlier process
abbrev pub is_before : (ℕ → ℕ → List ℕ) → Snapshot → Snapshot → Bool
is_before row s t = nat_lt (writes_in row s) (writes_in row t) || ((writes_in row s == writes_in row t) && nat_lt s.process t.process)

-- s is put before the first that it is before, or else at the end
abbrev pub inserted : (ℕ → ℕ → List ℕ) → List Snapshot → Snapshot → List Snapshot
inserted row [] s = s ∷ []
inserted row (t ∷ rest) s = if is_before row s t then s ∷ t ∷ rest else t ∷ inserted row rest s

abbrev pub in_order : (ℕ → ℕ → List ℕ) → List Snapshot → List Snapshot
in_order row snapshots = fold (inserted row) [] snapshots

-- the agreements of process p in its first rounds that are passed
abbrev pub passed_of : (ℕ → ℕ → Bool) → ℕ → ℕ → List Snapshot
passed_of passed p zero = []
passed_of passed p (suc rounds) =
    passed_of passed p rounds ++ (if passed p (rounds + 1) then record { process = p; round = rounds + 1 } ∷ [] else [])

-- those of the first n processes
abbrev pub all_passed : (ℕ → ℕ → Bool) → ℕ → ℕ → List Snapshot
all_passed passed zero rounds = []
all_passed passed (suc n) rounds = all_passed passed n rounds ++ passed_of passed n rounds

pub record IsPassed (passed : ℕ → ℕ → Bool) (n rounds : ℕ) (s : Snapshot) : Type 0 where
  pub process : s.process < n
  pub positive : 1 ≤ s.round
  pub within : s.round ≤ rounds
  pub is : passed s.process s.round ≡ true
