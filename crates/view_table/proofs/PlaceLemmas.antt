-- Places and words are one to one.
use Rattle.std.proofs.Common.{◌≡◌, ℕ, Bool, true, false, cond, zero, suc, ◌+◌, ◌-◌, ◌*◌, ◌/◌, ◌%◌, ◌<◌, ◌≤◌, inl, inr, refl, sym, ap, ◌∙◌, arith}
use Rattle.std.proofs.lemmas.Bool.{cases_lt}
use Rattle.std.proofs.lemmas.Nat.{mul-add-lt, same_from_place, div-add-mod', mod_below, div_below}
use Rattle.room_spec.specs.Sizes.{Sizes, first_of, memory_words}
use Rattle.view_table.specs.declared.place.Place.{Place}
use Rattle.view_table.specs.declared.place.Place.TheVariants.{Memory, Levels, View, Value, Out}
use Rattle.view_table.specs.Places.{IsSimulator, IsProcess, IsRound, IsAgreementRound, IsPlace, IsPlaceAt, pairs, views, levels_from, views_from, values_from, outs_from, inputs_from, proposals_from, input_words, words_of, index_of}

-- ---- the words of one kind

pub in_rows : (row rows rounds k : ℕ) → row < rows → (1 ≤ k) × (k ≤ rounds) → row * rounds + (k - 1) < rows * rounds
in_rows row rows rounds k less range =
    let turned : row * rounds + (k - 1) < rounds * rows = mul-add-lt row rounds (k - 1) rows less (omega arith) in
    omega arith

pub in_words : (view views words w : ℕ) → view < views → w < words → view * words + w < views * words
in_words view views words w less range =
    let turned : view * words + w < words * views = mul-add-lt view words w views less range in
    omega arith

pub pair_within : (sizes : Sizes) (i j : ℕ) → IsSimulator sizes i → IsProcess sizes j → i * sizes.n + j < pairs sizes
pair_within sizes i j simulator process =
    let turned : i * sizes.n + j < sizes.n * sizes.m = mul-add-lt i sizes.n j sizes.m simulator process in
    omega arith

-- where the words of a place's kind begin, and where those of the next kind do
abbrev starts : Sizes → Place → ℕ
starts sizes (Memory w) = 0
starts sizes (Levels j (suc k)) = levels_from sizes
starts sizes (View i j k w) = views_from sizes
starts sizes (Value i j (suc k)) = values_from sizes
starts sizes (Out i j) = outs_from sizes
starts sizes (Levels j zero) = inputs_from sizes
starts sizes (Value i j zero) = proposals_from sizes

abbrev ends : Sizes → Place → ℕ
ends sizes (Memory w) = levels_from sizes
ends sizes (Levels j (suc k)) = views_from sizes
ends sizes (View i j k w) = values_from sizes
ends sizes (Value i j (suc k)) = outs_from sizes
ends sizes (Out i j) = inputs_from sizes
ends sizes (Levels j zero) = proposals_from sizes
ends sizes (Value i j zero) = proposals_from sizes + pairs sizes

from_start : (sizes : Sizes) (place : Place) → starts sizes place ≤ index_of sizes place
unfolding index_of
from_start sizes (Memory w) = omega arith
from_start sizes (Levels j (suc k)) = omega arith
from_start sizes (View i j k w) = omega arith
from_start sizes (Value i j (suc k)) = omega arith
from_start sizes (Out i j) = omega arith
from_start sizes (Levels j zero) = omega arith
from_start sizes (Value i j zero) = omega arith

-- the words of the round 0
zero_round : (reduction : Bool) → first_of reduction ≤ 0 → reduction ≡ true
zero_round true first = refl
zero_round false first = absurd (omega (arith, first))

pub some_inputs : (reduction : Bool) (count : ℕ) → 0 < cond reduction count 0 → reduction ≡ true
some_inputs true count some = refl
some_inputs false count some = absurd (omega (arith, some))

pub all_inputs : (sizes : Sizes) → sizes.reduction ≡ true → input_words sizes ≡ sizes.n + pairs sizes
all_inputs sizes is = rw is refl

first_few : (reduction : Bool) → first_of reduction ≤ 1
first_few true = omega arith
first_few false = omega arith

-- each round is one of agreements
pub agreement_round : (sizes : Sizes) (k : ℕ) → IsRound sizes k → IsAgreementRound sizes k
agreement_round sizes k range = (omega (arith, first_few sizes.reduction, range.0), range.1)

later_round : (k rounds : ℕ) → suc k ≤ rounds → (1 ≤ suc k) × (suc k ≤ rounds)
later_round k rounds few = (omega arith, few)

in_later_rows : (row rows rounds k : ℕ) → row < rows → suc k ≤ rounds → row * rounds + k < rows * rounds
in_later_rows row rows rounds k less few =
    let turned : row * rounds + k < rounds * rows = mul-add-lt row rounds k rows less (omega arith) in
    omega arith

before_end : (sizes : Sizes) (place : Place) → IsPlace sizes place → index_of sizes place < ends sizes place
unfolding index_of words_of
before_end sizes (Memory w) range = range
before_end sizes (Levels j (suc k)) range = omega (arith, in_later_rows j sizes.n sizes.rounds k range.0 range.1.1)
before_end sizes (View i j k w) range =
    let view = in_rows (i * sizes.n + j) (pairs sizes) sizes.rounds k (pair_within sizes i j range.0 range.1) range.2 in
    omega (arith, in_words ((i * sizes.n + j) * sizes.rounds + (k - 1)) (views sizes) (memory_words sizes) w view range.3)
before_end sizes (Value i j (suc k)) range = omega (arith, in_later_rows (i * sizes.n + j) (pairs sizes) sizes.rounds k (pair_within sizes i j range.0 range.1) range.2.1)
before_end sizes (Out i j) range = omega (arith, pair_within sizes i j range.0 range.1)
before_end sizes (Levels j zero) range = omega (arith, range.0)
before_end sizes (Value i j zero) range = omega (arith, pair_within sizes i j range.0 range.1)

pub within : (sizes : Sizes) (place : Place) → IsPlace sizes place → index_of sizes place < words_of sizes
unfolding words_of
within sizes (Memory w) range = omega (arith, before_end sizes (Memory w) range)
within sizes (Levels j (suc k)) range = omega (arith, before_end sizes (Levels j (suc k)) range)
within sizes (View i j k w) range = omega (arith, before_end sizes (View i j k w) range)
within sizes (Value i j (suc k)) range = omega (arith, before_end sizes (Value i j (suc k)) range)
within sizes (Out i j) range = omega (arith, before_end sizes (Out i j) range)
within sizes (Levels j zero) range = omega (arith, before_end sizes (Levels j zero) range, all_inputs sizes (zero_round sizes.reduction range.1.0))
within sizes (Value i j zero) range = omega (arith, before_end sizes (Value i j zero) range, all_inputs sizes (zero_round sizes.reduction range.2.0))

-- ---- two places that share an index

same_round : (a b rounds k l : ℕ) → (1 ≤ k) × (k ≤ rounds) → (1 ≤ l) × (l ≤ rounds) → a * rounds + (k - 1) ≡ b * rounds + (l - 1) → (a ≡ b) × (k ≡ l)
same_round a b rounds k l first second same =
    let parts : (a ≡ b) × (k - 1 ≡ l - 1) = same_from_place a (k - 1) b (l - 1) rounds (omega arith) (omega arith) same in
    (parts.0, omega arith)

distinct_kinds : (sizes : Sizes) (a b : Place) → IsPlace sizes a → ends sizes a ≤ starts sizes b → index_of sizes a ≡ index_of sizes b → a ≡ b
distinct_kinds sizes a b in_range apart same = absurd (omega (arith, before_end sizes a in_range, from_start sizes b))

pub distinct : (sizes : Sizes) (a b : Place) → IsPlace sizes a → IsPlace sizes b → index_of sizes a ≡ index_of sizes b → a ≡ b
unfolding index_of
distinct sizes (Memory w) (Memory w') in_a in_b same = ap (λ (x : ℕ). Memory x) same
distinct sizes (Memory w) (Levels j' (suc k')) in_a in_b same = distinct_kinds sizes (Memory w) (Levels j' (suc k')) in_a (omega arith) same
distinct sizes (Memory w) (View i' j' k' w') in_a in_b same = distinct_kinds sizes (Memory w) (View i' j' k' w') in_a (omega arith) same
distinct sizes (Memory w) (Value i' j' (suc k')) in_a in_b same = distinct_kinds sizes (Memory w) (Value i' j' (suc k')) in_a (omega arith) same
distinct sizes (Memory w) (Out i' j') in_a in_b same = distinct_kinds sizes (Memory w) (Out i' j') in_a (omega arith) same
distinct sizes (Memory w) (Levels j' zero) in_a in_b same = distinct_kinds sizes (Memory w) (Levels j' zero) in_a (omega arith) same
distinct sizes (Memory w) (Value i' j' zero) in_a in_b same = distinct_kinds sizes (Memory w) (Value i' j' zero) in_a (omega arith) same
distinct sizes (Levels j (suc k)) (Memory w') in_a in_b same = sym (distinct_kinds sizes (Memory w') (Levels j (suc k)) in_b (omega arith) (sym same))
distinct sizes (Levels j (suc k)) (Levels j' (suc k')) in_a in_b same =
    let parts = same_from_place j k j' k' sizes.rounds in_a.1.1 in_b.1.1 (omega (arith, same)) in
    cc
distinct sizes (Levels j (suc k)) (View i' j' k' w') in_a in_b same = distinct_kinds sizes (Levels j (suc k)) (View i' j' k' w') in_a (omega arith) same
distinct sizes (Levels j (suc k)) (Value i' j' (suc k')) in_a in_b same = distinct_kinds sizes (Levels j (suc k)) (Value i' j' (suc k')) in_a (omega arith) same
distinct sizes (Levels j (suc k)) (Out i' j') in_a in_b same = distinct_kinds sizes (Levels j (suc k)) (Out i' j') in_a (omega arith) same
distinct sizes (Levels j (suc k)) (Levels j' zero) in_a in_b same = distinct_kinds sizes (Levels j (suc k)) (Levels j' zero) in_a (omega arith) same
distinct sizes (Levels j (suc k)) (Value i' j' zero) in_a in_b same = distinct_kinds sizes (Levels j (suc k)) (Value i' j' zero) in_a (omega arith) same
distinct sizes (View i j k w) (Memory w') in_a in_b same = sym (distinct_kinds sizes (Memory w') (View i j k w) in_b (omega arith) (sym same))
distinct sizes (View i j k w) (Levels j' (suc k')) in_a in_b same = sym (distinct_kinds sizes (Levels j' (suc k')) (View i j k w) in_b (omega arith) (sym same))
distinct sizes (View i j k w) (View i' j' k' w') in_a in_b same =
    let words = same_from_place ((i * sizes.n + j) * sizes.rounds + (k - 1)) w ((i' * sizes.n + j') * sizes.rounds + (k' - 1)) w' (memory_words sizes) in_a.3 in_b.3 (omega (arith, same)) in
    let rows = same_round (i * sizes.n + j) (i' * sizes.n + j') sizes.rounds k k' in_a.2 in_b.2 words.0 in
    let parts = same_from_place i j i' j' sizes.n in_a.1 in_b.1 rows.0 in
    cc
distinct sizes (View i j k w) (Value i' j' (suc k')) in_a in_b same = distinct_kinds sizes (View i j k w) (Value i' j' (suc k')) in_a (omega arith) same
distinct sizes (View i j k w) (Out i' j') in_a in_b same = distinct_kinds sizes (View i j k w) (Out i' j') in_a (omega arith) same
distinct sizes (View i j k w) (Levels j' zero) in_a in_b same = distinct_kinds sizes (View i j k w) (Levels j' zero) in_a (omega arith) same
distinct sizes (View i j k w) (Value i' j' zero) in_a in_b same = distinct_kinds sizes (View i j k w) (Value i' j' zero) in_a (omega arith) same
distinct sizes (Value i j (suc k)) (Memory w') in_a in_b same = sym (distinct_kinds sizes (Memory w') (Value i j (suc k)) in_b (omega arith) (sym same))
distinct sizes (Value i j (suc k)) (Levels j' (suc k')) in_a in_b same = sym (distinct_kinds sizes (Levels j' (suc k')) (Value i j (suc k)) in_b (omega arith) (sym same))
distinct sizes (Value i j (suc k)) (View i' j' k' w') in_a in_b same = sym (distinct_kinds sizes (View i' j' k' w') (Value i j (suc k)) in_b (omega arith) (sym same))
distinct sizes (Value i j (suc k)) (Value i' j' (suc k')) in_a in_b same =
    let rows = same_from_place (i * sizes.n + j) k (i' * sizes.n + j') k' sizes.rounds in_a.2.1 in_b.2.1 (omega (arith, same)) in
    let parts = same_from_place i j i' j' sizes.n in_a.1 in_b.1 rows.0 in
    cc
distinct sizes (Value i j (suc k)) (Out i' j') in_a in_b same = distinct_kinds sizes (Value i j (suc k)) (Out i' j') in_a (omega arith) same
distinct sizes (Value i j (suc k)) (Levels j' zero) in_a in_b same = distinct_kinds sizes (Value i j (suc k)) (Levels j' zero) in_a (omega arith) same
distinct sizes (Value i j (suc k)) (Value i' j' zero) in_a in_b same = distinct_kinds sizes (Value i j (suc k)) (Value i' j' zero) in_a (omega arith) same
distinct sizes (Out i j) (Memory w') in_a in_b same = sym (distinct_kinds sizes (Memory w') (Out i j) in_b (omega arith) (sym same))
distinct sizes (Out i j) (Levels j' (suc k')) in_a in_b same = sym (distinct_kinds sizes (Levels j' (suc k')) (Out i j) in_b (omega arith) (sym same))
distinct sizes (Out i j) (View i' j' k' w') in_a in_b same = sym (distinct_kinds sizes (View i' j' k' w') (Out i j) in_b (omega arith) (sym same))
distinct sizes (Out i j) (Value i' j' (suc k')) in_a in_b same = sym (distinct_kinds sizes (Value i' j' (suc k')) (Out i j) in_b (omega arith) (sym same))
distinct sizes (Out i j) (Out i' j') in_a in_b same =
    let parts = same_from_place i j i' j' sizes.n in_a.1 in_b.1 (omega (arith, same)) in
    cc
distinct sizes (Out i j) (Levels j' zero) in_a in_b same = distinct_kinds sizes (Out i j) (Levels j' zero) in_a (omega arith) same
distinct sizes (Out i j) (Value i' j' zero) in_a in_b same = distinct_kinds sizes (Out i j) (Value i' j' zero) in_a (omega arith) same
distinct sizes (Levels j zero) (Memory w') in_a in_b same = sym (distinct_kinds sizes (Memory w') (Levels j zero) in_b (omega arith) (sym same))
distinct sizes (Levels j zero) (Levels j' (suc k')) in_a in_b same = sym (distinct_kinds sizes (Levels j' (suc k')) (Levels j zero) in_b (omega arith) (sym same))
distinct sizes (Levels j zero) (View i' j' k' w') in_a in_b same = sym (distinct_kinds sizes (View i' j' k' w') (Levels j zero) in_b (omega arith) (sym same))
distinct sizes (Levels j zero) (Value i' j' (suc k')) in_a in_b same = sym (distinct_kinds sizes (Value i' j' (suc k')) (Levels j zero) in_b (omega arith) (sym same))
distinct sizes (Levels j zero) (Out i' j') in_a in_b same = sym (distinct_kinds sizes (Out i' j') (Levels j zero) in_b (omega arith) (sym same))
distinct sizes (Levels j zero) (Levels j' zero) in_a in_b same = ap (λ (x : ℕ). Levels x 0) (omega (arith, same))
distinct sizes (Levels j zero) (Value i' j' zero) in_a in_b same = distinct_kinds sizes (Levels j zero) (Value i' j' zero) in_a (omega arith) same
distinct sizes (Value i j zero) (Memory w') in_a in_b same = sym (distinct_kinds sizes (Memory w') (Value i j zero) in_b (omega arith) (sym same))
distinct sizes (Value i j zero) (Levels j' (suc k')) in_a in_b same = sym (distinct_kinds sizes (Levels j' (suc k')) (Value i j zero) in_b (omega arith) (sym same))
distinct sizes (Value i j zero) (View i' j' k' w') in_a in_b same = sym (distinct_kinds sizes (View i' j' k' w') (Value i j zero) in_b (omega arith) (sym same))
distinct sizes (Value i j zero) (Value i' j' (suc k')) in_a in_b same = sym (distinct_kinds sizes (Value i' j' (suc k')) (Value i j zero) in_b (omega arith) (sym same))
distinct sizes (Value i j zero) (Out i' j') in_a in_b same = sym (distinct_kinds sizes (Out i' j') (Value i j zero) in_b (omega arith) (sym same))
distinct sizes (Value i j zero) (Levels j' zero) in_a in_b same = sym (distinct_kinds sizes (Levels j' zero) (Value i j zero) in_b (omega arith) (sym same))
distinct sizes (Value i j zero) (Value i' j' zero) in_a in_b same =
    let parts = same_from_place i j i' j' sizes.n in_a.1 in_b.1 (omega (arith, same)) in
    cc

-- ---- the place of an index

pos_of_product : (at rows rounds : ℕ) → at < rows * rounds → 0 < rounds
pos_of_product at rows zero less = absurd (omega arith)
pos_of_product at rows (suc rounds) less = omega arith

-- the row and the round of a number below the words of so many rows
row_round : (at rows rounds : ℕ) → at < rows * rounds → (at / rounds < rows) × (1 ≤ at % rounds + 1) × (at % rounds + 1 ≤ rounds) × (at / rounds * rounds + (at % rounds + 1 - 1) ≡ at)
row_round at rows rounds less =
    let some : 0 < rounds = pos_of_product at rows rounds less in
    (div_below at rounds rows some less, omega arith, omega (arith, mod_below at rounds some), omega (arith, div-add-mod' at rounds))

pair_parts : (sizes : Sizes) (row : ℕ) → row < pairs sizes → (row / sizes.n < sizes.m) × (row % sizes.n < sizes.n) × (row / sizes.n * sizes.n + row % sizes.n ≡ row)
pair_parts sizes row less =
    let some : 0 < sizes.n = pos_of_product row sizes.m sizes.n less in
    (div_below row sizes.n sizes.m some less, mod_below row sizes.n some, div-add-mod' row sizes.n)

-- the index of a place in a round from 1 on, by the round
pub levels_index : (sizes : Sizes) (j k : ℕ) → 1 ≤ k → index_of sizes (Levels j k) ≡ levels_from sizes + j * sizes.rounds + (k - 1)
unfolding index_of
levels_index sizes j zero some = absurd (omega (arith, some))
levels_index sizes j (suc k) some = omega arith

pub value_index : (sizes : Sizes) (i j k : ℕ) → 1 ≤ k → index_of sizes (Value i j k) ≡ values_from sizes + (i * sizes.n + j) * sizes.rounds + (k - 1)
unfolding index_of
value_index sizes i j zero some = absurd (omega (arith, some))
value_index sizes i j (suc k) some = omega arith

pub levels_index_first : (sizes : Sizes) (j k : ℕ) → k ≡ 0 → index_of sizes (Levels j k) ≡ inputs_from sizes + j
unfolding index_of
levels_index_first sizes j zero none = refl
levels_index_first sizes j (suc k) none = absurd (omega (arith, none))

pub value_index_first : (sizes : Sizes) (i j k : ℕ) → k ≡ 0 → index_of sizes (Value i j k) ≡ proposals_from sizes + (i * sizes.n + j)
unfolding index_of
value_index_first sizes i j zero none = refl
value_index_first sizes i j (suc k) none = absurd (omega (arith, none))

pub in_levels : (sizes : Sizes) (at : ℕ) → at < sizes.n * sizes.rounds → IsPlaceAt sizes (Levels (at / sizes.rounds) (at % sizes.rounds + 1)) (levels_from sizes + at)
unfolding index_of
in_levels sizes at less =
    let parts = row_round at sizes.n sizes.rounds less in
    record { in_range = (parts.0, agreement_round sizes (at % sizes.rounds + 1) (parts.1, parts.2)); index = omega (arith, levels_index sizes (at / sizes.rounds) (at % sizes.rounds + 1) parts.1, parts.3) }

pub in_views : (sizes : Sizes) (at : ℕ) → at < views sizes * memory_words sizes
    → IsPlaceAt sizes (View (at / memory_words sizes / sizes.rounds / sizes.n) (at / memory_words sizes / sizes.rounds % sizes.n) (at / memory_words sizes % sizes.rounds + 1) (at % memory_words sizes)) (views_from sizes + at)
unfolding index_of
in_views sizes at less =
    let some : 0 < memory_words sizes = pos_of_product at (views sizes) (memory_words sizes) less in
    let view = at / memory_words sizes in
    let parts = row_round view (pairs sizes) sizes.rounds (div_below at (memory_words sizes) (views sizes) some less) in
    let row = view / sizes.rounds in
    let numbers = pair_parts sizes row parts.0 in
    let joined : (row / sizes.n * sizes.n + row % sizes.n) * sizes.rounds + (view % sizes.rounds + 1 - 1) ≡ view = ap (λ r. r * sizes.rounds + (view % sizes.rounds + 1 - 1)) numbers.2 ∙ parts.3 in
    let all : ((row / sizes.n * sizes.n + row % sizes.n) * sizes.rounds + (view % sizes.rounds + 1 - 1)) * memory_words sizes + at % memory_words sizes ≡ at = ap (λ v. v * memory_words sizes + at % memory_words sizes) joined ∙ div-add-mod' at (memory_words sizes) in
    record { in_range = (numbers.0, numbers.1, (parts.1, parts.2), mod_below at (memory_words sizes) some); index = omega (arith, all) }

pub in_values : (sizes : Sizes) (at : ℕ) → at < views sizes → IsPlaceAt sizes (Value (at / sizes.rounds / sizes.n) (at / sizes.rounds % sizes.n) (at % sizes.rounds + 1)) (values_from sizes + at)
unfolding index_of
in_values sizes at less =
    let parts = row_round at (pairs sizes) sizes.rounds less in
    let row = at / sizes.rounds in
    let numbers = pair_parts sizes row parts.0 in
    let joined : (row / sizes.n * sizes.n + row % sizes.n) * sizes.rounds + (at % sizes.rounds + 1 - 1) ≡ at = ap (λ r. r * sizes.rounds + (at % sizes.rounds + 1 - 1)) numbers.2 ∙ parts.3 in
    record { in_range = (numbers.0, numbers.1, agreement_round sizes (at % sizes.rounds + 1) (parts.1, parts.2)); index = omega (arith, value_index sizes (row / sizes.n) (row % sizes.n) (at % sizes.rounds + 1) parts.1, joined) }

pub in_outs : (sizes : Sizes) (at : ℕ) → at < pairs sizes → IsPlaceAt sizes (Out (at / sizes.n) (at % sizes.n)) (outs_from sizes + at)
unfolding index_of
in_outs sizes at less =
    let numbers = pair_parts sizes at less in
    record { in_range = (numbers.0, numbers.1); index = omega arith }

-- in a reduction the round 0 is one of agreements
pub zero_agreed : (sizes : Sizes) → sizes.reduction ≡ true → IsAgreementRound sizes 0
zero_agreed sizes is = (rw is (omega arith), omega arith)

pub in_inputs : (sizes : Sizes) (at : ℕ) → sizes.reduction ≡ true → at < sizes.n → IsPlaceAt sizes (Levels at 0) (inputs_from sizes + at)
unfolding index_of
in_inputs sizes at is less = record { in_range = (less, zero_agreed sizes is); index = refl }

pub in_proposals : (sizes : Sizes) (at : ℕ) → sizes.reduction ≡ true → at < pairs sizes → IsPlaceAt sizes (Value (at / sizes.n) (at % sizes.n) 0) (proposals_from sizes + at)
unfolding index_of
in_proposals sizes at is less =
    let numbers = pair_parts sizes at less in
    record { in_range = (numbers.0, numbers.1, zero_agreed sizes is); index = omega (arith, numbers.2) }

-- the same by its number among the words of the round 0
pub input_from : (sizes : Sizes) (at : ℕ) → at < input_words sizes → sizes.n ≤ at → IsPlaceAt sizes (Value ((at - sizes.n) / sizes.n) ((at - sizes.n) % sizes.n) 0) (inputs_from sizes + at)
input_from sizes at less later =
    let is = some_inputs sizes.reduction (sizes.n + pairs sizes) (omega (arith, less)) in
    let found = in_proposals sizes (at - sizes.n) is (omega (arith, less, later, all_inputs sizes is)) in
    record { in_range = found.in_range; index = omega (arith, found.index, later) }

-- the number of a word is that of a kind's first word and a number more
pub moved_to : (sizes : Sizes) (place : Place) (start at : ℕ) → start ≤ at → IsPlaceAt sizes place (start + (at - start)) → IsPlaceAt sizes place at
moved_to sizes place start at le is = record { in_range = is.in_range; index = omega (arith, is.index) }

some_from : (sizes : Sizes) (place : Place) (start at : ℕ) → start ≤ at → IsPlaceAt sizes place (start + (at - start)) → (place : Place) × IsPlaceAt sizes place at
some_from sizes place start at le is = (place, moved_to sizes place start at le is)

pub some_place : (sizes : Sizes) (at : ℕ) → at < words_of sizes → (place : Place) × IsPlaceAt sizes place at
unfolding index_of words_of
some_place sizes at less =
    elim (cases_lt at (memory_words sizes)) [
      | inl steps ↦ (Memory at, record { in_range = steps; index = refl })
      | inr later ↦ elim (cases_lt at (views_from sizes)) [
        | inl levels ↦ some_from sizes _ (memory_words sizes) at later (in_levels sizes (at - memory_words sizes) (omega arith))
        | inr later ↦ elim (cases_lt at (values_from sizes)) [
          | inl views ↦ some_from sizes _ (views_from sizes) at later (in_views sizes (at - views_from sizes) (omega arith))
          | inr later ↦ elim (cases_lt at (outs_from sizes)) [
            | inl values ↦ some_from sizes _ (values_from sizes) at later (in_values sizes (at - values_from sizes) (omega arith))
            | inr later ↦ elim (cases_lt at (inputs_from sizes)) [
              | inl outs ↦ some_from sizes _ (outs_from sizes) at later (in_outs sizes (at - outs_from sizes) (omega arith))
              | inr later ↦
                  let is = some_inputs sizes.reduction (sizes.n + pairs sizes) (omega (arith, less, later)) in
                  elim (cases_lt at (proposals_from sizes)) [
                    | inl inputs ↦ some_from sizes _ (inputs_from sizes) at later (in_inputs sizes (at - inputs_from sizes) is (omega arith))
                    | inr proposals ↦ some_from sizes _ (proposals_from sizes) at proposals (in_proposals sizes (at - proposals_from sizes) is (omega (arith, less, all_inputs sizes is)))
                  ]
            ]
          ]
        ]
      ]
    ]
