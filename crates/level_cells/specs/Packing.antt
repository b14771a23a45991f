-- Words that are made of fields of one width.
use Rattle.std.specs.Prelude.{◌≡◌, ◌≢◌, ℕ, zero, suc, ◌+◌, ◌*◌, ◌^◌, ◌<◌}

-- the word whose field number i, the `width` bits from bit i * width, has the number f i, for each i below n
abbrev pub packed : (ℕ → ℕ) → ℕ → ℕ → ℕ
packed f width zero = 0
packed f width (suc n) = packed f width n + f n * 2 ^ (n * width)

-- each of the first n numbers fits in a field
abbrev pub FitFields : (ℕ → ℕ) → ℕ → ℕ → Type 0
FitFields f width n = (i : ℕ) → i < n → f i < 2 ^ width

-- the first n numbers are the same
abbrev pub AreSame : (ℕ → ℕ) → (ℕ → ℕ) → ℕ → Type 0
AreSame f g n = (i : ℕ) → i < n → f i ≡ g i

-- of the first n numbers, that at i is one more in g than in f, and the others are the same
abbrev pub HasOneMore : (ℕ → ℕ) → (ℕ → ℕ) → ℕ → ℕ → Type 0
HasOneMore f g n i = (g i ≡ f i + 1) × ((j : ℕ) → j < n → j ≢ i → f j ≡ g j)
