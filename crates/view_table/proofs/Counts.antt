-- How many words a room has, and which stand side by side.
use Rattle.std.proofs.Common.{◌≡◌, ℕ, ◌+◌, ◌*◌, ◌≤◌, Bool, true, false, cond, ltb, refl, subst, arith}
use Rattle.std.proofs.lemmas.Bool.{ltb-true}
use Rattle.std.proofs.lemmas.Nat.{mul-le}
use Rattle.room_spec.specs.Rooms.{bits_of}
use Rattle.room_spec.specs.Sizes.{Sizes, AreSizes, memory_words}
use Rattle.room_spec.proofs.CallerLemmas.{are_memory_words}
use Rattle.view_table.specs.declared.place.Place.TheVariants.{Memory, View}
use Rattle.view_table.specs.Places.{index_of, words_of}

-- the number of words, of at most this number of simulators' processes and rounds; each process has one more, and each simulator's process
sum_few : (pairs n rounds words most rounds_most : ℕ) → pairs ≤ most → n ≤ 16 → rounds ≤ rounds_most → words ≤ 4
    → words + n * rounds + pairs * rounds * words + pairs * rounds + pairs + (n + pairs) ≤ 4 + 16 * rounds_most + most * rounds_most * 4 + most * rounds_most + most + (16 + most)
sum_few pairs n rounds words most rounds_most few few_n few_rounds few_words =
    let views : pairs * rounds ≤ most * rounds_most = mul-le pairs rounds most rounds_most few few_rounds in
    omega (arith, few, few_words, views, mul-le n rounds 16 rounds_most few_n few_rounds, mul-le (pairs * rounds) words (most * rounds_most) 4 views few_words)

by_rounds : (pairs n rounds words : ℕ) (a b c : Bool) → ltb rounds 2 ≡ a → ltb rounds 4 ≡ b → ltb rounds 8 ≡ c → pairs * cond a 1 (cond b 2 (cond c 3 4)) ≤ 256 → pairs ≤ 128 → n ≤ 16 → rounds ≤ 15 → words ≤ 4
    → words + n * rounds + pairs * rounds * words + pairs * rounds + pairs + (n + pairs) ≤ 5188
by_rounds pairs n rounds words true b c is is' is'' fits few few_n few_rounds few_words = let less = ltb-true _ _ is in omega (arith, sum_few pairs n rounds words 128 1 few few_n (omega (arith, less)) few_words)
by_rounds pairs n rounds words false true c is is' is'' fits few few_n few_rounds few_words = let less = ltb-true _ _ is' in omega (arith, sum_few pairs n rounds words 128 3 few few_n (omega (arith, less)) few_words)
by_rounds pairs n rounds words false false true is is' is'' fits few few_n few_rounds few_words =
    let less = ltb-true _ _ is'' in omega (arith, sum_few pairs n rounds words 85 7 (omega (arith, fits)) few_n (omega (arith, less)) few_words)
by_rounds pairs n rounds words false false false is is' is'' fits few few_n few_rounds few_words = omega (arith, sum_few pairs n rounds words 64 15 (omega (arith, fits)) few_n few_rounds few_words)

few_inputs : (reduction : Bool) (count : ℕ) → cond reduction count 0 ≤ count
few_inputs true count = omega arith
few_inputs false count = omega arith

pub few_words : (sizes : Sizes) → AreSizes sizes → words_of sizes ≤ 5188
unfolding words_of
few_words sizes are =
    let fits : sizes.m * sizes.n * bits_of sizes.rounds ≤ 256 = subst (λ (bits : ℕ). sizes.m * sizes.n * bits ≤ 256) are.width are.memory in
    let most = by_rounds (sizes.m * sizes.n) sizes.n sizes.rounds (memory_words sizes) (ltb sizes.rounds 2) (ltb sizes.rounds 4) (ltb sizes.rounds 8) refl refl refl fits (mul-le sizes.m sizes.n 8 16 are.m_range.1 are.n_range.1) are.n_range.1 are.rounds_range.1
    (are_memory_words sizes are).few in
    omega (arith, most, few_inputs sizes.reduction (sizes.n + sizes.m * sizes.n))

pub memory_first : (sizes : Sizes) (w : ℕ) → index_of sizes (Memory w) ≡ w
unfolding index_of
memory_first sizes w = refl

pub view_together : (sizes : Sizes) (i j k w : ℕ) → index_of sizes (View i j k w) ≡ index_of sizes (View i j k 0) + w
unfolding index_of
view_together sizes i j k w = omega arith
