-- Words that are made of fields of one width.
use Rattle.std.proofs.Common.{◌≡◌, ℕ, zero, suc, ◌+◌, ◌*◌, ◌/◌, ◌%◌, ◌^◌, ◌<◌, ◌≤◌, inl, inr, refl, sym, ap, ◌∙◌, arith}
use Rattle.std.proofs.lemmas.Bool.{cases_eq}
use Rattle.std.proofs.lemmas.Nat.{pow_pos, pow-add, mod-pow-add, mod_low, shr_high, mul-add-lt, row_fits}
use Rattle.std.proofs.Math.Nat.{mod-eq_of_lt, mod-one, zero-mul, pow-le-pow_right}
use Rattle.level_cells.specs.Fields.{field_of}
use Rattle.level_cells.specs.Packing.{packed, FitFields, AreSame, HasOneMore}
use Rattle.level_cells.proofs.FieldLemmas.{same_below}

next_start : (n width : ℕ) → width + n * width ≡ suc n * width
next_start n width = grind arith

pub below : (f : ℕ → ℕ) (width n : ℕ) → FitFields f width n → packed f width n < 2 ^ (n * width)
below f width zero fit = pow_pos (0 * width)
below f width (suc n) fit =
    let rest : packed f width n < 2 ^ (n * width) = below f width n (λ i less. fit i (omega arith)) in
    let sum : f n * 2 ^ (n * width) + packed f width n < 2 ^ (n * width) * 2 ^ width = mul-add-lt (f n) (2 ^ (n * width)) (packed f width n) (2 ^ width) (fit n (omega arith)) rest in
    let power : 2 ^ (suc n * width) ≡ 2 ^ width * 2 ^ (n * width) = ap (λ e. 2 ^ e) (sym (next_start n width)) ∙ pow-add 2 width (n * width) in
    grind (arith, sum, power)

pub fits : (f : ℕ → ℕ) (width n : ℕ) → FitFields f width n → n * width ≤ 64 → packed f width n < 2 ^ 64
fits f width n fit within =
    let power : 2 ^ (n * width) ≤ 2 ^ 64 = pow-le-pow_right {n = 2} (omega arith) within in
    omega (arith, below f width n fit)

-- the lower fields of a word with one field more
lower_mod : (f : ℕ → ℕ) (width n : ℕ) → FitFields f width n → (packed f width n + f n * 2 ^ (n * width)) % 2 ^ (n * width) ≡ packed f width n
lower_mod f width n fit =
    let turned : packed f width n + f n * 2 ^ (n * width) ≡ f n * 2 ^ (n * width) + packed f width n = omega arith in
    ap (λ z. z % 2 ^ (n * width)) turned ∙ mod_low (f n) (n * width) (packed f width n) (below f width n fit)

upper_div : (f : ℕ → ℕ) (width n : ℕ) → FitFields f width n → (packed f width n + f n * 2 ^ (n * width)) / 2 ^ (n * width) ≡ f n
upper_div f width n fit =
    let turned : packed f width n + f n * 2 ^ (n * width) ≡ f n * 2 ^ (n * width) + packed f width n = omega arith in
    ap (λ z. z / 2 ^ (n * width)) turned ∙ shr_high (f n) (n * width) (packed f width n) (below f width n fit)

read_last : (f : ℕ → ℕ) (width n i : ℕ) → FitFields f width n → f n < 2 ^ width → i ≡ n → field_of (packed f width n + f n * 2 ^ (n * width)) (i * width) width ≡ f i
read_last f width n i fit fit_last last =
    let word = packed f width n + f n * 2 ^ (n * width) in
    ap (λ j. field_of word (j * width) width) last ∙ ap (λ z. z % 2 ^ width) (upper_div f width n fit) ∙ mod-eq_of_lt fit_last ∙ ap f (sym last)

read_lower : (f : ℕ → ℕ) (width n i : ℕ) → FitFields f width n → i < n → field_of (packed f width n) (i * width) width ≡ f i → field_of (packed f width n + f n * 2 ^ (n * width)) (i * width) width ≡ f i
read_lower f width n i fit less rest =
    let word = packed f width n + f n * 2 ^ (n * width) in
    let same : word % 2 ^ (n * width) ≡ packed f width n % 2 ^ (n * width) = lower_mod f width n fit ∙ sym (mod-eq_of_lt (below f width n fit)) in
    same_below word (packed f width n) (n * width) (i * width) width same (row_fits i width n width less (omega arith)) ∙ rest

pub reads_back : (f : ℕ → ℕ) (width n i : ℕ) → FitFields f width n → i < n → field_of (packed f width n) (i * width) width ≡ f i
reads_back f width zero i fit less = absurd (omega arith)
reads_back f width (suc n) i fit less =
    let fit_rest : FitFields f width n = λ j lower. fit j (omega arith) in
    elim (cases_eq i n) as (λ _. field_of (packed f width n + f n * 2 ^ (n * width)) (i * width) width ≡ f i) [
      | inl last ↦ read_last f width n i fit_rest (fit n (omega arith)) last
      | inr other ↦ read_lower f width n i fit_rest (omega arith) (reads_back f width n i fit_rest (omega arith))
    ]

pub of_same : (f g : ℕ → ℕ) (width n : ℕ) → AreSame f g n → packed f width n ≡ packed g width n
of_same f g width zero same = refl
of_same f g width (suc n) same =
    let rest = of_same f g width n (λ i less. same i (omega arith)) in
    let last : f n ≡ g n = same n (omega arith) in
    cc

pub of_zeros : (f : ℕ → ℕ) (width n : ℕ) → AreSame f (λ i. 0) n → packed f width n ≡ 0
of_zeros f width zero same = refl
of_zeros f width (suc n) same =
    let rest : packed f width n ≡ 0 = of_zeros f width n (λ i less. same i (omega arith)) in
    let last : f n ≡ 0 = same n (omega arith) in
    grind (arith, rest, last)

pub low_fields : (word width n : ℕ) → packed (λ i. field_of word (i * width) width) width n ≡ word % 2 ^ (n * width)
low_fields word width zero = sym (ap (λ e. word % 2 ^ e) (zero-mul width) ∙ mod-one word)
low_fields word width (suc n) =
    let rest : packed (λ i. field_of word (i * width) width) width n ≡ word % 2 ^ (n * width) = low_fields word width n in
    let parts = mod-pow-add word width (n * width) in
    let whole : word % 2 ^ (suc n * width) ≡ word % 2 ^ (width + n * width) = ap (λ e. word % 2 ^ e) (sym (next_start n width)) in
    omega arith

pub of_fields : (word width n : ℕ) → word < 2 ^ (n * width) → packed (λ i. field_of word (i * width) width) width n ≡ word
of_fields word width n less = low_fields word width n ∙ mod-eq_of_lt less

one_more_times : (a x : ℕ) → (a + 1) * x ≡ a * x + x
one_more_times a x = omega arith

more_last : (f g : ℕ → ℕ) (width n i : ℕ) → i ≡ n → g i ≡ f i + 1 → packed f width n ≡ packed g width n → packed g width n + g n * 2 ^ (n * width) ≡ packed f width n + f n * 2 ^ (n * width) + 2 ^ (i * width)
more_last f g width n i last more same =
    let top : g n ≡ f n + 1 = ap g (sym last) ∙ more ∙ ap (λ j. f j + 1) last in
    let start : 2 ^ (i * width) ≡ 2 ^ (n * width) = ap (λ j. 2 ^ (j * width)) last in
    let product : g n * 2 ^ (n * width) ≡ f n * 2 ^ (n * width) + 2 ^ (n * width) = ap (λ a. a * 2 ^ (n * width)) top ∙ one_more_times (f n) (2 ^ (n * width)) in
    omega arith

more_lower : (f g : ℕ → ℕ) (width n i : ℕ) → f n ≡ g n → packed g width n ≡ packed f width n + 2 ^ (i * width) → packed g width n + g n * 2 ^ (n * width) ≡ packed f width n + f n * 2 ^ (n * width) + 2 ^ (i * width)
more_lower f g width n i same rest = grind (arith, same, rest)

pub with_one_more : (f g : ℕ → ℕ) (width n i : ℕ) → i < n → HasOneMore f g n i → packed g width n ≡ packed f width n + 2 ^ (i * width)
with_one_more f g width zero i less more = absurd (omega arith)
with_one_more f g width (suc n) i less more =
    elim (cases_eq i n) as (λ _. packed g width n + g n * 2 ^ (n * width) ≡ packed f width n + f n * 2 ^ (n * width) + 2 ^ (i * width)) [
      | inl last ↦ more_last f g width n i last more.0 (of_same f g width n (λ j lower. more.1 j (omega arith) (omega arith)))
      | inr other ↦ more_lower f g width n i (more.1 n (omega arith) (omega arith)) (with_one_more f g width n i (omega arith) (more.0, λ j lower. more.1 j (omega arith)))
    ]
