-- The last writes of all processes, one simulator after the other.
use Rattle.std.proofs.Common.{◌≡◌, ◌⊎◌, ℕ, zero, suc, ◌+◌, ◌*◌, ◌/◌, ◌%◌, ◌^◌, ◌<◌, ◌≤◌, max, min, cond, ltb, Bool, true, false, inl, inr, List, map, get_or, length, replicate, refl, sym, ap, ◌∙◌, subst, arith, w8}
use lib.Lanes.{zip2, sel_l, top}
use Rattle.std.proofs.lemmas.Bool.{cases_lt, lt-ltb, le-ltb}
use Rattle.std.proofs.lemmas.List.{get_or-replicate}
use Rattle.std.proofs.Math.Nat.{zero-div, zero-mod}
use Rattle.std.proofs.lemmas.Nat.{shr-shr, div-mul-add, mod-mul-add, div-add-mod'}
use Rattle.std.proofs.Math.Nat.{add-mul}
use Rattle.std.proofs.lemmas.Simd.{tops_compared, length-zip2, get_or-sel_l, get_or-zip2}
use Rattle.room_spec.specs.Sizes.{Sizes, AreSizes, fields_in_word}
use Rattle.room_spec.proofs.CallerLemmas.{are_memory_words, by_bits}
use Rattle.sim_memory.specs.Steps.{field_number, holder_of, merged_of, place_of, step_in, word_of}
use Rattle.sim_memory.specs.Lasts.{AreLast, AreSteps}
use Rattle.sim_memory.proofs.Rows.{merged_below}
use Rattle.sim_memory.proofs.Greatest.{alone, holder_is, holder_kept, holder_merged, holder_of_is, holder_passed}

-- ---- lanes

-- a choice in each lane, by which of two is less
pub selected : (a b yes no : List ℕ) (p : ℕ) → length a ≡ 16 → length b ≡ 16 → length yes ≡ 16 → length no ≡ 16 → p < 16 →
    get_or (sel_l (map (top 7) (zip2 (λ x y. cond (ltb x y) 255 0) a b)) yes no) p 0 ≡ cond (ltb (get_or a p 0) (get_or b p 0)) (get_or yes p 0) (get_or no p 0)
selected a b chosen other p long_a long_b long_chosen long_other within =
    let long = length-zip2 ltb a b (omega arith) in
    ap (λ ms. get_or (sel_l ms chosen other) p 0) (tops_compared w8 ltb a b)
    ∙ get_or-sel_l (zip2 ltb a b) chosen other p 0 (omega arith) (omega arith) (omega arith)
    ∙ ap (λ t. cond t (get_or chosen p 0) (get_or other p 0)) (get_or-zip2 ltb a b p 0 0 false (omega arith) (omega arith))

pub greater_of : (a b : ℕ) → cond (ltb a b) b a ≡ max a b
greater_of a b =
    elim (cases_lt a b) as (λ _. cond (ltb a b) b a ≡ max a b) [
      | inl less ↦ ap (λ t. cond t b a) (lt-ltb a b less) ∙ omega arith
      | inr more ↦ ap (λ t. cond t b a) (le-ltb a b more) ∙ omega arith
    ]

lesser_of : (a b : ℕ) → cond (ltb a b) a b ≡ min a b
lesser_of a b =
    elim (cases_lt a b) as (λ _. cond (ltb a b) a b ≡ min a b) [
      | inl less ↦ ap (λ t. cond t a b) (lt-ltb a b less) ∙ omega arith
      | inr more ↦ ap (λ t. cond t a b) (le-ltb a b more) ∙ omega arith
    ]

pub lesser_in : (fields : List ℕ) (most p : ℕ) → length fields ≡ 16 → p < 16 →
    get_or (sel_l (map (top 7) (zip2 (λ x y. cond (ltb x y) 255 0) fields (replicate 16 most))) fields (replicate 16 most)) p 0 ≡ min (get_or fields p 0) most
lesser_in fields most p long within =
    let same = get_or-replicate 16 p most 0 within in
    selected fields (replicate 16 most) fields (replicate 16 most) p long refl long refl within
    ∙ ap (λ x. cond (ltb (get_or fields p 0) x) (get_or fields p 0) x) same
    ∙ lesser_of (get_or fields p 0) most

-- ---- one simulator more

merged_more : (m : ℕ) (steps : ℕ → ℕ → ℕ) (p : ℕ) → merged_of (suc m) steps p ≡ max (merged_of m steps p) (steps m p)
merged_more m steps p = refl

-- a first simulator, and one that has a greater number or none
holder_more_by : (m : ℕ) (steps : ℕ → ℕ → ℕ) (p : ℕ) → 0 < m → (merged_of m steps p < steps m p) ⊎ (steps m p ≤ merged_of m steps p) → holder_of (suc m) steps p ≡ cond (ltb (merged_of m steps p) (steps m p)) m (holder_of m steps p)
holder_more_by m steps p some (inl more) =
    let is = holder_of_is m steps p some in
    let merged = holder_merged m steps p _ is in
    holder_is (suc m) steps p m (holder_passed m steps p _ is (omega arith)) ∙ sym (ap (λ t. cond t m (holder_of m steps p)) (lt-ltb _ _ more))
holder_more_by m steps p some (inr no_more) =
    let is = holder_of_is m steps p some in
    let merged = holder_merged m steps p _ is in
    holder_is (suc m) steps p _ (holder_kept m steps p _ is (omega arith)) ∙ sym (ap (λ t. cond t m (holder_of m steps p)) (le-ltb _ _ no_more))

cond_same : (b : Bool) (x : ℕ) → cond b x x ≡ x
cond_same true x = refl
cond_same false x = refl

pub holder_more_of : (m : ℕ) (steps : ℕ → ℕ → ℕ) (p : ℕ) → holder_of (suc m) steps p ≡ cond (ltb (merged_of m steps p) (steps m p)) m (holder_of m steps p)
holder_more_of zero steps p = holder_is 1 steps p 0 (alone steps p) ∙ sym (cond_same _ 0)
holder_more_of (suc m) steps p = holder_more_by (suc m) steps p (omega arith) (cases_lt _ _)

-- ---- the last writes

none_last : (sizes : Sizes) (words : List ℕ) → sizes.n ≤ 16 → AreLast sizes words 0 (replicate 16 0) (replicate 16 0)
none_last sizes words few = record {
  holder = λ p below. get_or-replicate 16 p 0 0 (omega arith);
  round = λ p below. get_or-replicate 16 p 0 0 (omega arith);
  behind = λ p _ within. (get_or-replicate 16 p 0 0 within, get_or-replicate 16 p 0 0 within);
}

one_more : (i : ℕ) → suc i ≡ i + 1
one_more i = omega arith

-- a simulator's row that stands in one word
whole_row : (sizes : Sizes) (i p : ℕ) → AreSizes sizes → p < sizes.n → place_of sizes i 0 + sizes.n * sizes.bits ≤ 64 → (word_of sizes i p ≡ word_of sizes i 0) × (place_of sizes i p ≡ place_of sizes i 0 + p * sizes.bits)
whole_row sizes i p limits below narrow =
    let words = are_memory_words sizes limits in
    let fields = fields_in_word sizes in
    let start = field_number sizes i 0 % fields in
    let word = word_of sizes i 0 in
    let sum : (start + sizes.n) * sizes.bits ≤ 64 = omega (arith, narrow, add-mul start sizes.n sizes.bits) in
    let fit : start + sizes.n ≤ fields = by_bits sizes.rounds sizes.bits (λ bits. (start + sizes.n) * bits ≤ 64 → start + sizes.n ≤ 64 / bits) limits.width (λ h. omega arith) (λ h. omega arith) (λ h. omega arith) (λ h. omega arith) sum in
    let parts = div-add-mod' (field_number sizes i 0) fields in
    let number : field_number sizes i p ≡ word * fields + (start + p) = omega (arith, parts) in (
      ap (λ (x : ℕ). x / fields) number ∙ div-mul-add word fields (start + p) (omega (arith, fit, below)),
      ap (λ (x : ℕ). x % fields * sizes.bits) number ∙ ap (λ (x : ℕ). x * sizes.bits) (mod-mul-add word fields (start + p) (omega (arith, fit, below))) ∙ add-mul start p sizes.bits,
    )

field_above : (sizes : Sizes) (words : List ℕ) (i p : ℕ) → AreSizes sizes → p < sizes.n → place_of sizes i 0 + sizes.n * sizes.bits ≤ 64
    → get_or words (word_of sizes i 0) 0 / 2 ^ place_of sizes i 0 / 2 ^ (p * sizes.bits) ≡ get_or words (word_of sizes i p) 0 / 2 ^ place_of sizes i p
field_above sizes words i p limits below narrow =
    let whole = whole_row sizes i p limits below narrow in
    shr-shr (get_or words (word_of sizes i 0) 0) (place_of sizes i 0) (p * sizes.bits)
    ∙ ap (λ (at : ℕ). get_or words (word_of sizes i 0) 0 / 2 ^ at) (sym whole.1) ∙ ap (λ (w : ℕ). get_or words w 0 / 2 ^ place_of sizes i p) (sym whole.0)

pub steps_of : (sizes : Sizes) (words : List ℕ) (i row : ℕ) (steps : List ℕ) → AreSizes sizes → place_of sizes i 0 + sizes.n * sizes.bits ≤ 64 → row ≡ get_or words (word_of sizes i 0) 0 / 2 ^ place_of sizes i 0
    → ((p : ℕ) → p < sizes.n → get_or steps p 0 ≡ min (row / 2 ^ (p * sizes.bits) % 2 ^ sizes.bits) sizes.rounds) → ((p : ℕ) → sizes.n ≤ p → p < 16 → get_or steps p 0 ≡ 0) → AreSteps sizes words i steps
steps_of sizes words i row steps limits narrow is own behind = record {
  own = λ p below. own p below ∙ ap (λ x. min (x % 2 ^ sizes.bits) sizes.rounds) (ap (λ x. x / 2 ^ (p * sizes.bits)) is ∙ field_above sizes words i p limits below narrow);
  behind = behind;
}

pub last_more : (sizes : Sizes) (words : List ℕ) (i : ℕ) (holders rounds steps later_holders later_rounds : List ℕ) → sizes.n ≤ 16 → AreLast sizes words i holders rounds → AreSteps sizes words i steps →
    ((p : ℕ) → p < 16 → get_or later_holders p 0 ≡ cond (ltb (get_or rounds p 0) (get_or steps p 0)) i (get_or holders p 0)) →
    ((p : ℕ) → p < 16 → get_or later_rounds p 0 ≡ max (get_or rounds p 0) (get_or steps p 0)) →
    AreLast sizes words (i + 1) later_holders later_rounds
last_more sizes words i holders rounds steps later_holders later_rounds few last is holder round =
    let later : AreLast sizes words (suc i) later_holders later_rounds = record {
      holder = λ p below. holder p (omega arith) ∙ rw (last.round p below, last.holder p below, is.own p below) refl ∙ sym (holder_more_of i (step_in sizes words) p);
      round = λ p below. round p (omega arith) ∙ rw (last.round p below, is.own p below) refl;
      behind = λ p after within.
          let none = last.behind p after within in
          let no_step = is.behind p after within in
          (holder p within ∙ rw (none.1, no_step, none.0) refl, let r = round p within in omega arith);
    } in
    subst (λ (m : ℕ). AreLast sizes words m later_holders later_rounds) (one_more i) later

no_step : (sizes : Sizes) (row p step : ℕ) → row ≡ 0 → step ≡ 0 → step ≡ min (row / 2 ^ (p * sizes.bits) % 2 ^ sizes.bits) sizes.rounds
no_step sizes row p step none is =
    let field : row / 2 ^ (p * sizes.bits) % 2 ^ sizes.bits ≡ 0 = ap (λ x. x / 2 ^ (p * sizes.bits) % 2 ^ sizes.bits) none ∙ ap (λ x. x % 2 ^ sizes.bits) (zero-div (2 ^ (p * sizes.bits))) ∙ zero-mod (2 ^ sizes.bits) in
    omega arith

-- a simulator of which the word has no step has the last write of no process
pub last_same : (sizes : Sizes) (words : List ℕ) (i row : ℕ) (holders rounds : List ℕ) → sizes.n ≤ 16 → AreSizes sizes → place_of sizes i 0 + sizes.n * sizes.bits ≤ 64 → AreLast sizes words i holders rounds → row ≡ get_or words (word_of sizes i 0) 0 / 2 ^ place_of sizes i 0 → row ≡ 0 → AreLast sizes words (i + 1) holders rounds
last_same sizes words i row holders rounds few limits narrow last is none =
    let zeros : List ℕ = replicate 16 0 in
    let zero_at : (p : ℕ) → p < 16 → get_or zeros p 0 ≡ 0 = λ p below. get_or-replicate 16 p 0 0 below in
    let steps = steps_of sizes words i row zeros limits narrow is (λ p below. no_step sizes row p _ none (zero_at p (omega arith))) (λ p _ within. zero_at p within) in
    last_more sizes words i holders rounds zeros holders rounds few last steps
    (λ p within. sym (ap (λ b. cond b i (get_or holders p 0)) (le-ltb _ _ (let zero = zero_at p within in omega arith))))
    (λ p within. let zero = zero_at p within in omega arith)

pub last_in_range : (sizes : Sizes) (words : List ℕ) (holders rounds : List ℕ) → 0 < sizes.m → AreLast sizes words sizes.m holders rounds → (p : ℕ) → p < sizes.n → (get_or holders p 0 < sizes.m) × (get_or rounds p 0 ≤ sizes.rounds)
last_in_range sizes words holders rounds some last p below =
    let is = last.holder p below in
    let round = last.round p below in
    let holds = (holder_of_is sizes.m (step_in sizes words) p some).below in
    let most = merged_below sizes.m (step_in sizes words) p sizes.rounds (λ i _. omega arith) in
    (omega arith, omega arith)

pub none_of : (sizes : Sizes) (words holders rounds : List ℕ) → sizes.n ≤ 16 → holders ≡ replicate 16 0 → rounds ≡ replicate 16 0 → AreLast sizes words 0 holders rounds
none_of sizes words holders rounds few holders_are rounds_are =
    subst (λ (l : List ℕ). AreLast sizes words 0 l rounds) (sym holders_are) (subst (λ (l : List ℕ). AreLast sizes words 0 (replicate 16 0) l) (sym rounds_are) (none_last sizes words few))

-- after the last simulator
pub all_of : (sizes : Sizes) (words : List ℕ) (m : ℕ) (holders rounds : List ℕ) → m ≤ sizes.m → sizes.m ≤ m → AreLast sizes words m holders rounds → AreLast sizes words sizes.m holders rounds
all_of sizes words m holders rounds most all is = let same : m ≡ sizes.m = omega arith in subst (λ (k : ℕ). AreLast sizes words k holders rounds) same is
