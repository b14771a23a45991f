-- A value among the first own inputs of a reduction's simulators.
use Rattle.std.proofs.Common.{◌≡◌, ◌∙◌, ℕ, zero, suc, ◌+◌, ◌==◌, ◌≤◌, Bool, true, false, ◌||◌, List, [], ◌∷◌, length, take, Option, Some, None, refl, sym, ap, arith}
use Rattle.std.specs.Prelude.{slice_get}
use Rattle.std.specs.List.{list_any, list_all}
use Rattle.std.proofs.lemmas.List.{take_all}
use Rattle.room_spec.specs.Rooms.{AreOwn, is_value}
use Rattle.room_spec.specs.declared.version.Version.{Version}
use Rattle.view_sample.specs.Tasks.{is_this}

or_false : (b : Bool) → b ≡ (b || false)
or_false true = refl
or_false false = refl

or_assoc : (a b c : Bool) → (a || (b || c)) ≡ ((a || b) || c)
or_assoc true b c = refl
or_assoc false b c = refl

abbrev pub among : ℕ → List ℕ → Bool
among value own = list_any (λ input. input == value) own

-- one more is looked at
pub one_more_own : (own : List ℕ) (value i : ℕ) → among value (take (suc i) own) ≡ (among value (take i own) || is_this (slice_get own i) value)
one_more_own [] value zero = refl
one_more_own [] value (suc i) = refl
one_more_own (x ∷ own) value zero = sym (or_false (x == value))
one_more_own (x ∷ own) value (suc i) = ap (λ (b : Bool). (x == value) || b) (one_more_own own value i) ∙ or_assoc (x == value) (among value (take i own)) (is_this (slice_get own i) value)

-- there are no more than simulators
pub few_own : (own : List ℕ) (version : Version) (inputs : List ℕ) (simulators : ℕ) → AreOwn own version inputs simulators → length own ≤ simulators
few_own [] version inputs simulators are = omega arith
few_own (x ∷ own) version inputs simulators are = let many = are.2 in omega (arith, many)
