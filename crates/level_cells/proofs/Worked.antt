-- The definitions on words that were worked by hand.
use Rattle.std.proofs.Common.{◌≡◌, Some, None, [], ◌∷◌, ◌+◌, ◌-◌, ◌*◌, ◌^◌, refl}
use Rattle.std.specs.Prelude.{◌==◌, position}
use Rattle.level_cells.specs.Fields.{field_of, levels_of}
use Rattle.level_cells.specs.Packing.{packed}

-- the step numbers of two simulators of two processes, two bits each
step_0_0 : field_of 237 0 2 ≡ 1
step_0_0 = refl

step_0_1 : field_of 237 2 2 ≡ 3
step_0_1 = refl

step_1_0 : field_of 237 4 2 ≡ 2
step_1_0 = refl

step_1_1 : field_of 237 6 2 ≡ 3
step_1_1 = refl

-- nothing is left above the four
nothing_above : field_of 237 8 56 ≡ 0
nothing_above = refl

-- the greatest word, whole, and its highest bit; and the lowest bit of the word below it
greatest_word : field_of 18446744073709551615 0 64 ≡ 18446744073709551615
greatest_word = refl

highest_bit : field_of 18446744073709551615 63 1 ≡ 1
highest_bit = refl

lowest_bit : field_of 18446744073709551614 0 1 ≡ 0
lowest_bit = refl

-- one at the lowest and at the highest bit
one_at_0 : 2 ^ 0 ≡ 1
one_at_0 = refl

one_at_63 : 2 ^ 63 ≡ 9223372036854775808
one_at_63 = refl

-- one more in the first of them, and in the third; and back
first_raised : 237 + 2 ^ 0 ≡ 238
first_raised = refl

third_raised : 237 + 2 ^ 4 ≡ 253
third_raised = refl

third_lowered : 253 - 2 ^ 4 ≡ 237
third_lowered = refl

-- one more and one less in the highest four bits
highest_raised : 0 + 2 ^ 60 ≡ 1152921504606846976
highest_raised = refl

highest_lowered : 18446744073709551615 - 2 ^ 60 ≡ 17293822569102704639
highest_lowered = refl

packed_steps : packed (λ i. field_of 237 (i * 2) 2) 2 4 ≡ 237
packed_steps = refl

levels_of_6 : levels_of 6 2 ≡ 2 ∷ 1 ∷ []
levels_of_6 = refl

levels_of_8 : levels_of 8 2 ≡ 0 ∷ 2 ∷ []
levels_of_8 = refl

levels_of_10 : levels_of 10 2 ≡ 2 ∷ 2 ∷ []
levels_of_10 = refl

levels_of_one : levels_of 6 1 ≡ 2 ∷ []
levels_of_one = refl

levels_of_eight : levels_of 6 8 ≡ 2 ∷ 1 ∷ 0 ∷ 0 ∷ 0 ∷ 0 ∷ 0 ∷ 0 ∷ []
levels_of_eight = refl

-- the least simulator at level 1 and at level 2
least_of_6 : (position (λ one. one == 1) (levels_of 6 2) ≡ Some 1) × (position (λ one. one == 2) (levels_of 6 2) ≡ Some 0)
least_of_6 = (refl, refl)

least_of_10 : (position (λ one. one == 1) (levels_of 10 2) ≡ None) × (position (λ one. one == 2) (levels_of 10 2) ≡ Some 0)
least_of_10 = (refl, refl)

none_of_one : position (λ one. one == 1) (levels_of 6 1) ≡ None
none_of_one = refl

none_of_eight : position (λ one. one == 2) (levels_of 0 8) ≡ None
none_of_eight = refl

last_of_eight : position (λ one. one == 1) (levels_of 16384 8) ≡ Some 7
last_of_eight = refl
