-- A text, cut where a byte first passes a test.
use Rattle.std.proofs.Common.{◌≡◌, ℕ, ◌+◌, ◌-◌, ◌<◌, ◌≤◌, Bool, true, false, cond, not, ltb, suc, List, [], ◌∷◌, length, take, drop, Some, None, refl, subst, arith}
use Rattle.std.specs.List.{position, position_or_len, slice_split}
use Rattle.std.proofs.lemmas.Bool.{ltb-true, ltb-false}
use Rattle.std.proofs.lemmas.List.{take_rest}
use Rattle.std.proofs.lemmas.List.Splits.{slice_split_first, slice_split-cons_no}

-- where a first place is said, it is the first place that passes
some_place : (b : Bool) (n i : ℕ) → cond b (Some n) None ≡ Some i → (b ≡ true) × (n ≡ i)
some_place true n i h = (refl, cc)
some_place false n i h = absurd cc

none_place : (b : Bool) (n : ℕ) → cond b (Some n) None ≡ None → b ≡ false
none_place true n h = absurd cc
none_place false n h = refl

pub place_found : (p : ℕ → Bool) (text : List ℕ) (i : ℕ) → position p text ≡ Some i → (position_or_len p text ≡ i) × (i < length text)
place_found p text i h =
    let found = some_place (ltb (position_or_len p text) (length text)) (position_or_len p text) i h in
    let within : position_or_len p text < length text = ltb-true _ _ found.0 in
    (found.1, omega (arith, found.1))

pub no_place : (p : ℕ → Bool) (text : List ℕ) → position p text ≡ None → length text ≤ position_or_len p text
no_place p text h = ltb-false _ _ (none_place (ltb (position_or_len p text) (length text)) (position_or_len p text) h)

pub pieces_found : (p : ℕ → Bool) (text : List ℕ) (i : ℕ) → position p text ≡ Some i → slice_split p text ≡ take i text ∷ slice_split p (take (length text - (i + 1)) (drop (i + 1) text))
pieces_found p text i h =
    let found = place_found p text i h in
    let within : position_or_len p text < length text = omega (arith, found.0, found.1) in
    let all : slice_split p text ≡ take (position_or_len p text) text ∷ slice_split p (drop (position_or_len p text + 1) text) = slice_split_first p text 0 within in
    rw take_rest (subst (λ (n : ℕ). slice_split p text ≡ take n text ∷ slice_split p (drop (n + 1) text)) found.0 all)

whole_at : (p : ℕ → Bool) (byte : ℕ) (bytes : List ℕ) (b : Bool) → p byte ≡ b → slice_split p bytes ≡ bytes ∷ [] → suc (length bytes) ≤ cond (not b) (1 + position_or_len p bytes) 0 → slice_split p (byte ∷ bytes) ≡ (byte ∷ bytes) ∷ []
whole_at p byte bytes true is whole long = absurd (omega arith)
whole_at p byte bytes false is whole long = rw (slice_split-cons_no p byte bytes is, whole) refl

longer_at : (b : Bool) (n m : ℕ) → suc n ≤ cond (not b) (1 + m) 0 → n ≤ m
longer_at true n m long = absurd (omega arith)
longer_at false n m long = omega arith

whole : (p : ℕ → Bool) (text : List ℕ) → length text ≤ position_or_len p text → slice_split p text ≡ text ∷ []
whole p [] long = refl
whole p (byte ∷ bytes) long = whole_at p byte bytes (p byte) refl (whole p bytes (longer_at (p byte) (length bytes) (position_or_len p bytes) long)) long

pub pieces_whole : (p : ℕ → Bool) (text : List ℕ) → position p text ≡ None → slice_split p text ≡ text ∷ []
pieces_whole p text h = whole p text (no_place p text h)
