-- The rows of all simulators one after the other: in one memory word, and in several.
use Rattle.std.proofs.Common.{◌≡◌, ℕ, zero, suc, ◌+◌, ◌-◌, ◌*◌, ◌/◌, ◌%◌, ◌^◌, ◌<◌, ◌≤◌, min, inl, inr, List, get_or, sym, ap, ◌∙◌, subst, arith}
use Rattle.std.proofs.Math.Nat.{add-mul, zero-div}
use Rattle.std.proofs.lemmas.Bool.{cases_lt}
use Rattle.std.proofs.lemmas.Nat.{div-mul-add, mod-mul-add, shr-shr}
use Rattle.room_spec.specs.Sizes.{Sizes, AreSizes, fields_in_word, memory_words}
use Rattle.room_spec.proofs.CallerLemmas.{by_bits}
use Rattle.sim_memory.specs.Steps.{field_number, place_of, step_in, word_of}
use Rattle.sim_memory.specs.Lasts.{AreLast, AreSteps}
use Rattle.sim_memory.proofs.Merging.{last_same, steps_of}
use Rattle.sim_memory.proofs.Words.{one_row, word_below}

pub few_bits : (sizes : Sizes) → AreSizes sizes → (1 ≤ sizes.bits) × (sizes.bits ≤ 4) × (16 ≤ 64 / sizes.bits)
few_bits sizes limits = by_bits sizes.rounds sizes.bits (λ bits. (1 ≤ bits) × (bits ≤ 4) × (16 ≤ 64 / bits)) limits.width (omega arith, omega arith, omega arith) (omega arith, omega arith, omega arith) (omega arith, omega arith, omega arith) (omega arith, omega arith, omega arith)

-- what the lowest fields of a row say
abbrev pub AreLowest : Sizes → ℕ → ℕ → List ℕ → Type 0
AreLowest sizes bits row steps = (p : ℕ) → p < sizes.n → get_or steps p 0 ≡ min (row / 2 ^ (p * bits) % 2 ^ bits) sizes.rounds

abbrev pub AreNoneAfter : Sizes → List ℕ → Type 0
AreNoneAfter sizes steps = (p : ℕ) → sizes.n ≤ p → p < 16 → get_or steps p 0 ≡ 0

-- ---- in one word

pub next_row : (word i n bits : ℕ) → word / 2 ^ (i * n * bits) / 2 ^ (n * bits) ≡ word / 2 ^ ((i + 1) * n * bits)
next_row word i n bits =
    let at : i * n * bits + n * bits ≡ (i + 1) * n * bits = grind arith in
    shr-shr word (i * n * bits) (n * bits) ∙ ap (λ k. word / 2 ^ k) at

module _ (sizes : Sizes) (words : List ℕ) (limits : AreSizes sizes) (one : memory_words sizes ≡ 1) where
  row_is : (i : ℕ) → i < sizes.m → get_or words 0 0 / 2 ^ (i * sizes.n * sizes.bits) ≡ get_or words (word_of sizes i 0) 0 / 2 ^ place_of sizes i 0
  row_is i below =
      let row = one_row sizes i limits one below in
      sym (ap (λ w. get_or words w 0 / 2 ^ place_of sizes i 0) row.0 ∙ ap (λ at. get_or words 0 0 / 2 ^ at) row.1)

  narrow : (i : ℕ) → i < sizes.m → place_of sizes i 0 + sizes.n * sizes.bits ≤ 64
  narrow i below = let row = one_row sizes i limits one below in omega (arith, row.1, row.2)

  pub steps_in_row : (bits i row : ℕ) (steps : List ℕ) → bits ≡ sizes.bits → i < sizes.m → row ≡ get_or words 0 0 / 2 ^ (i * sizes.n * bits) → AreLowest sizes bits row steps → AreNoneAfter sizes steps → AreSteps sizes words i steps
  steps_in_row bits i row steps is below row_at lowest none =
      let at : row ≡ get_or words 0 0 / 2 ^ (i * sizes.n * sizes.bits) = row_at ∙ ap (λ b. get_or words 0 0 / 2 ^ (i * sizes.n * b)) is in
      steps_of sizes words i row steps limits (narrow i below) (at ∙ row_is i below) (subst (λ (b : ℕ). AreLowest sizes b row steps) is lowest) none

  no_more : (k i : ℕ) (holders rounds : List ℕ) → i + k ≤ sizes.m → get_or words 0 0 / 2 ^ (i * sizes.n * sizes.bits) ≡ 0 → AreLast sizes words i holders rounds → AreLast sizes words (i + k) holders rounds
  no_more zero i holders rounds most none last = let e : i ≡ i + 0 = omega arith in subst (λ (m : ℕ). AreLast sizes words m holders rounds) e last
  no_more (suc k) i holders rounds most none last =
      let below : i < sizes.m = omega arith in
      let later = last_same sizes words i (get_or words 0 0 / 2 ^ (i * sizes.n * sizes.bits)) holders rounds limits.n_range.1 limits (narrow i below) last (row_is i below) none in
      let rest : get_or words 0 0 / 2 ^ ((i + 1) * sizes.n * sizes.bits) ≡ 0 = sym (next_row (get_or words 0 0) i sizes.n sizes.bits) ∙ ap (λ x. x / 2 ^ (sizes.n * sizes.bits)) none ∙ zero-div (2 ^ (sizes.n * sizes.bits)) in
      let e : i + 1 + k ≡ i + suc k = omega arith in
      subst (λ (m : ℕ). AreLast sizes words m holders rounds) e (no_more k (i + 1) holders rounds (omega arith) rest later)

  -- from a simulator on that has not written, and nobody after it
  pub no_more_rows : (bits i rest : ℕ) (holders rounds : List ℕ) → bits ≡ sizes.bits → i ≤ sizes.m → rest ≡ get_or words 0 0 / 2 ^ (i * sizes.n * bits) → rest ≡ 0 → AreLast sizes words i holders rounds → AreLast sizes words sizes.m holders rounds
  no_more_rows bits i rest holders rounds is most rest_is none last =
      let e : i + (sizes.m - i) ≡ sizes.m = omega arith in
      let row : get_or words 0 0 / 2 ^ (i * sizes.n * sizes.bits) ≡ 0 = sym (ap (λ b. get_or words 0 0 / 2 ^ (i * sizes.n * b)) is) ∙ sym rest_is ∙ none in
      subst (λ (m : ℕ). AreLast sizes words m holders rounds) e (no_more (sizes.m - i) i holders rounds (omega arith) row last)

-- ---- in several words

-- the first step number of simulator i is in this field of this word
pub record BeginsAt (sizes : Sizes) (bits i word first : ℕ) : Type 0 where
  pub place : word * (64 / bits) + first ≡ i * sizes.n
  pub inside : first < 64 / bits

-- the next simulator's is after this one's n fields, or so many fields further on in the next word
pub begins_in_same : (sizes : Sizes) (bits i word first : ℕ) → BeginsAt sizes bits i word first → first + sizes.n < 64 / bits → BeginsAt sizes bits (i + 1) word (first + sizes.n)
begins_in_same sizes bits i word first at less = record { place = omega (arith, at.place, add-mul i 1 sizes.n); inside = less }

pub begins_in_next : (sizes : Sizes) (bits i word first : ℕ) → sizes.n ≤ 64 / bits → BeginsAt sizes bits i word first → 64 / bits ≤ first + sizes.n → BeginsAt sizes bits (i + 1) (word + 1) (first + sizes.n - 64 / bits)
begins_in_next sizes bits i word first few at more = record { place = omega (arith, at.place, add-mul i 1 sizes.n, add-mul word 1 (64 / bits)); inside = omega (arith, at.inside) }

-- the fields of a row are those of the word, and then those of the next
pub record IsRowFrom (sizes : Sizes) (words : List ℕ) (bits word first row : ℕ) : Type 0 where
  pub own : (p : ℕ) → p < sizes.n → first + p < 64 / bits → row / 2 ^ (p * bits) % 2 ^ bits ≡ get_or words word 0 / 2 ^ ((first + p) * bits) % 2 ^ bits
  pub next : (p : ℕ) → p < sizes.n → 64 / bits ≤ first + p → row / 2 ^ (p * bits) % 2 ^ bits ≡ get_or words (word + 1) 0 / 2 ^ ((first + p - 64 / bits) * bits) % 2 ^ bits

module _ (sizes : Sizes) (words : List ℕ) (limits : AreSizes sizes) where
  field_is : (i p w at : ℕ) → field_number sizes i p ≡ w * fields_in_word sizes + at → at < fields_in_word sizes → (word_of sizes i p ≡ w) × (place_of sizes i p ≡ at * sizes.bits)
  field_is i p w at is below = (
    ap (λ (x : ℕ). x / fields_in_word sizes) is ∙ div-mul-add w (fields_in_word sizes) at below,
    ap (λ (x : ℕ). x % fields_in_word sizes * sizes.bits) is ∙ ap (λ (x : ℕ). x * sizes.bits) (mod-mul-add w (fields_in_word sizes) at below),
  )

  field_at : (i p w at row : ℕ) → field_number sizes i p ≡ w * fields_in_word sizes + at → at < fields_in_word sizes → row / 2 ^ (p * sizes.bits) % 2 ^ sizes.bits ≡ get_or words w 0 / 2 ^ (at * sizes.bits) % 2 ^ sizes.bits →
      min (row / 2 ^ (p * sizes.bits) % 2 ^ sizes.bits) sizes.rounds ≡ step_in sizes words i p
  field_at i p w at row is below field =
      let here = field_is i p w at is below in
      ap (λ x. min x sizes.rounds) (field ∙ sym (ap (λ v. get_or words v 0 / 2 ^ place_of sizes i p % 2 ^ sizes.bits) here.0 ∙ ap (λ a. get_or words w 0 / 2 ^ a % 2 ^ sizes.bits) here.1))

  own_steps : (i word first row : ℕ) (steps : List ℕ) → BeginsAt sizes sizes.bits i word first → IsRowFrom sizes words sizes.bits word first row → AreLowest sizes sizes.bits row steps → AreNoneAfter sizes steps → AreSteps sizes words i steps
  own_steps i word first row steps begins from lowest none = record {
    own = λ p below. lowest p below ∙ elim (cases_lt (first + p) (fields_in_word sizes)) as (λ _. min (row / 2 ^ (p * sizes.bits) % 2 ^ sizes.bits) sizes.rounds ≡ step_in sizes words i p) [
      | inl less ↦ field_at i p word (first + p) row (omega (arith, begins.place)) less (from.own p below less)
      | inr more ↦
          let few = few_bits sizes limits in
          field_at i p (word + 1) (first + p - fields_in_word sizes) row (omega (arith, begins.place)) (omega (arith, begins.inside, few.2, limits.n_range.1)) (from.next p below more)
    ];
    behind = none;
  }

  pub steps_from_row : (bits i word first row : ℕ) (steps : List ℕ) → bits ≡ sizes.bits → BeginsAt sizes bits i word first → IsRowFrom sizes words bits word first row → AreLowest sizes bits row steps → AreNoneAfter sizes steps → AreSteps sizes words i steps
  steps_from_row bits i word first row steps is begins from lowest none =
      own_steps i word first row steps (subst (λ (b : ℕ). BeginsAt sizes b i word first) is begins) (subst (λ (b : ℕ). IsRowFrom sizes words b word first row) is from) (subst (λ (b : ℕ). AreLowest sizes b row steps) is lowest) none

  pub word_within : (bits i word first : ℕ) → bits ≡ sizes.bits → i < sizes.m → BeginsAt sizes bits i word first → word < memory_words sizes
  word_within bits i word first is below begins =
      let at = subst (λ (b : ℕ). BeginsAt sizes b i word first) is begins in
      let here = field_is i 0 word first (omega (arith, at.place)) at.inside in
      omega (arith, here.0, word_below sizes i 0 limits below limits.n_range.0)

  pub next_within : (bits i word first : ℕ) → bits ≡ sizes.bits → i < sizes.m → BeginsAt sizes bits i word first → 64 / bits < first + sizes.n → word + 1 < memory_words sizes
  next_within bits i word first is below begins more =
      let at = subst (λ (b : ℕ). BeginsAt sizes b i word first) is begins in
      let over : fields_in_word sizes < first + sizes.n = subst (λ (b : ℕ). 64 / b < first + sizes.n) is more in
      let few = few_bits sizes limits in
      let last = sizes.n - 1 in
      let here = field_is i last (word + 1) (first + last - fields_in_word sizes) (omega (arith, at.place, limits.n_range.0)) (omega (arith, at.inside, few.2, limits.n_range.1)) in
      omega (arith, here.0, word_below sizes i last limits below (omega (arith, limits.n_range.0)))
