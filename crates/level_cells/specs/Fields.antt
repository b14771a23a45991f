-- Numbers in fields of bits of a word.
use Rattle.std.specs.Prelude.{◌≡◌, ℕ, ◌+◌, ◌*◌, ◌/◌, ◌%◌, ◌^◌, ◌≤◌, ◌⊎◌, List, map}
use Rattle.std.specs.List.{range_with_len}

-- the number in the `width` bits from bit `at` of a word
abbrev pub field_of : ℕ → ℕ → ℕ → ℕ
field_of word at width = word / 2 ^ at % 2 ^ width

-- two fields, each given by its first bit and its width, have no bit in common
abbrev pub AreApart : ℕ → ℕ → ℕ → ℕ → Type 0
AreApart at width other other_width = (at + width ≤ other) ⊎ (other + other_width ≤ at)

-- every field that has no bit in common with this one is the same in both words
abbrev pub KeepsOthers : ℕ → ℕ → ℕ → ℕ → Type 0
KeepsOthers before after at width =
    (other other_width : ℕ) → AreApart at width other other_width → field_of after other other_width ≡ field_of before other other_width

-- the agreement level of a simulator: its two bits of a word of levels
abbrev pub level_of : ℕ → ℕ → ℕ
level_of word i = field_of word (2 * i) 2

-- the agreement levels of the first `m` simulators, in order
abbrev pub levels_of : ℕ → ℕ → List ℕ
levels_of word m = map (λ i. level_of word i) (range_with_len 0 m)
