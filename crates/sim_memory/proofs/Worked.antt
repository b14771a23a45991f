-- The definitions on words that were worked by hand.
use Rattle.std.proofs.Common.{◌≡◌, true, false, [], ◌∷◌, refl}
use Rattle.std.specs.Prelude.{◌==◌}
use Rattle.room_spec.specs.Sizes.{Sizes}
use Rattle.sim_memory.specs.Steps.{merged_of, holder_of, memory_of, place_of, row_of, step_in, memory_word, word_of}

-- two simulators, two processes, three rounds: two bits for each number
abbrev pair : Sizes
pair = record { n = 2; m = 2; bits = 2; rounds = 3; reduction = false }

steps_of_237 : (step_in pair (237 ∷ []) 0 0 ≡ 1) × (step_in pair (237 ∷ []) 0 1 ≡ 3) × (step_in pair (237 ∷ []) 1 0 ≡ 2) × (step_in pair (237 ∷ []) 1 1 ≡ 3)
steps_of_237 = (refl, refl, refl, refl)

merged_in_237 : (merged_of 2 (step_in pair (237 ∷ [])) 0 ≡ 2) × (holder_of 2 (step_in pair (237 ∷ [])) 0 ≡ 1)
merged_in_237 = (refl, refl)

tied_in_237 : (merged_of 2 (step_in pair (237 ∷ [])) 1 ≡ 3) × (holder_of 2 (step_in pair (237 ∷ [])) 1 ≡ 0)
tied_in_237 = (refl, refl)

place_in_pair : place_of pair 1 1 ≡ 6
place_in_pair = refl

nobody_in_0 : (holder_of 2 (step_in pair (0 ∷ [])) 1 ≡ 0) × (merged_of 2 (step_in pair (0 ∷ [])) 1 ≡ 0)
nobody_in_0 = (refl, refl)

row_of_237 : row_of 2 2 (step_in pair (237 ∷ [])) ≡ 2 ∷ 3 ∷ []
row_of_237 = refl

word_of_237 : memory_word pair (step_in pair (237 ∷ [])) 0 ≡ 237
word_of_237 = refl

-- one round: a bit for each number
abbrev single : Sizes
single = record { n = 2; m = 2; bits = 1; rounds = 1; reduction = false }

merged_in_9 : (merged_of 2 (step_in single (9 ∷ [])) 0 ≡ 1) × (merged_of 2 (step_in single (9 ∷ [])) 1 ≡ 1)
merged_in_9 = (refl, refl)

holders_in_9 : (holder_of 2 (step_in single (9 ∷ [])) 0 ≡ 0) × (holder_of 2 (step_in single (9 ∷ [])) 1 ≡ 1)
holders_in_9 = (refl, refl)

step_of_9 : step_in single (9 ∷ []) 1 0 ≡ 0
step_of_9 = refl

-- whether the word 4 shows no write of a process
none_in_4 : ((merged_of 2 (step_in single (4 ∷ [])) 0 == 0) ≡ false) × ((merged_of 2 (step_in single (4 ∷ [])) 1 == 0) ≡ true)
none_in_4 = (refl, refl)

-- two rounds: the number 3 of simulator 0 reads as 2, and ties with that of simulator 1
abbrev double : Sizes
double = record { n = 2; m = 2; bits = 2; rounds = 2; reduction = false }

clamped_in_35 : (step_in double (35 ∷ []) 0 0 ≡ 2) × (step_in double (35 ∷ []) 1 0 ≡ 2) × (holder_of 2 (step_in double (35 ∷ [])) 0 ≡ 0)
clamped_in_35 = (refl, refl, refl)

merged_in_35 : merged_of 2 (step_in double (35 ∷ [])) 0 ≡ 2
merged_in_35 = refl

merged_in_11 : (merged_of 2 (step_in double (11 ∷ [])) 0 ≡ 2) × (holder_of 2 (step_in double (11 ∷ [])) 0 ≡ 0)
merged_in_11 = (refl, refl)

-- words that no room has: bits stand above its fields
clamped_in_the_greatest : step_in double (18446744073709551615 ∷ []) 1 1 ≡ 2
clamped_in_the_greatest = refl

none_below : (merged_of 2 (step_in double (18446744073709551360 ∷ [])) 1 ≡ 0) × (holder_of 2 (step_in double (18446744073709551360 ∷ [])) 1 ≡ 0)
none_below = (refl, refl)

-- 185 has 1 and 3 for process 0, and 2 and 2 for process 1
last_writes_in_185 : (holder_of 2 (step_in double (185 ∷ [])) 0 ≡ 1) × (merged_of 2 (step_in double (185 ∷ [])) 0 ≡ 2) × (holder_of 2 (step_in double (185 ∷ [])) 1 ≡ 0) × (merged_of 2 (step_in double (185 ∷ [])) 1 ≡ 2)
last_writes_in_185 = (refl, refl, refl, refl)

-- in 8 simulator 1 has no step, and in 16 simulator 0 has none
last_writes_in_8 : (holder_of 2 (step_in double (8 ∷ [])) 0 ≡ 0) × (merged_of 2 (step_in double (8 ∷ [])) 0 ≡ 0) × (holder_of 2 (step_in double (8 ∷ [])) 1 ≡ 0) × (merged_of 2 (step_in double (8 ∷ [])) 1 ≡ 2)
last_writes_in_8 = (refl, refl, refl, refl)

last_write_in_16 : (holder_of 2 (step_in double (16 ∷ [])) 0 ≡ 1) × (merged_of 2 (step_in double (16 ∷ [])) 0 ≡ 1)
last_write_in_16 = (refl, refl)

-- eight simulators, two processes, 15 rounds: sixteen numbers of four bits, from 15 down to 0
abbrev many : Sizes
many = record { n = 2; m = 8; bits = 4; rounds = 15; reduction = false }

place_in_many : place_of many 7 1 ≡ 60
place_in_many = refl

step_in_many : step_in many (81985529216486895 ∷ []) 7 0 ≡ 1
step_in_many = refl

merged_in_many : (merged_of 8 (step_in many (81985529216486895 ∷ [])) 0 ≡ 15) × (merged_of 8 (step_in many (81985529216486895 ∷ [])) 1 ≡ 14)
merged_in_many = (refl, refl)

holders_in_many : (holder_of 8 (step_in many (81985529216486895 ∷ [])) 0 ≡ 0) × (holder_of 8 (step_in many (81985529216486895 ∷ [])) 1 ≡ 0) × (holder_of 8 (step_in many (15728640 ∷ [])) 1 ≡ 2)
holders_in_many = (refl, refl, refl)

-- two simulators, nine processes, 15 rounds: two words, the second with two numbers
abbrev big : Sizes
big = record { n = 9; m = 2; bits = 4; rounds = 15; reduction = false }

places_in_big : (word_of big 1 8 ≡ 1) × (place_of big 1 8 ≡ 4) × (word_of big 1 6 ≡ 0) × (place_of big 1 6 ≡ 60)
places_in_big = (refl, refl, refl, refl)

merged_in_big : (merged_of 2 (step_in big (0 ∷ 32 ∷ [])) 8 ≡ 2) × (holder_of 2 (step_in big (0 ∷ 32 ∷ [])) 8 ≡ 1) × (merged_of 2 (step_in big (4294967296 ∷ 0 ∷ [])) 8 ≡ 1)
merged_in_big = (refl, refl, refl)

memory_of_big : memory_of big (step_in big (4294967299 ∷ 33 ∷ [])) ≡ 4294967299 ∷ 33 ∷ 0 ∷ 0 ∷ []
memory_of_big = refl

-- two simulators, eleven processes, seven rounds: 21 numbers of three bits in the first word, whose top bit counts for none
abbrev three_bits : Sizes
three_bits = record { n = 11; m = 2; bits = 3; rounds = 7; reduction = false }

places_of_three_bits : (word_of three_bits 1 9 ≡ 0) × (place_of three_bits 1 9 ≡ 60) × (word_of three_bits 1 10 ≡ 1) × (place_of three_bits 1 10 ≡ 0)
places_of_three_bits = (refl, refl, refl, refl)

top_bit : step_in three_bits (9223372036854775808 ∷ 0 ∷ []) 1 9 ≡ 0
top_bit = refl
