-- No vector of inputs of a reduction has two indices.
use Rattle.std.proofs.Common.{◌≡◌, ℕ, zero, suc, ◌+◌, ◌*◌, ◌/◌, ◌%◌, ◌^◌, ◌<◌, ◌≤◌, List, [], ◌∷◌, ◌++◌, length, get_or, take, refl, sym, ap, ◌∙◌, subst, arith, inl, inr, ◌⊎◌}
use Rattle.std.proofs.lemmas.Bool.{cases_lt}
use Rattle.std.proofs.lemmas.Grind.{pow_more}
use Rattle.std.proofs.lemmas.List.{take_at}
use Rattle.std.proofs.lemmas.Nat.{div-add-mod', div_below, mod_below}
use Rattle.std.proofs.Math.Nat.{pow-zero}
use Rattle.std.proofs.Math.Seq.{get_or-append_seam}
use Rattle.room_spec.specs.Rooms.{RoomSpec, processes}
use Rattle.transcript.specs.Tasks.{different}
use Rattle.transcript.proofs.CallerLemmas.{few_different, in_different, In}
use Rattle.run_search.specs.Agreed.{agreed_at, agreed_count, own_values, vector_at}
use Rattle.run_search.proofs.Vectors.{some_values, vector_long}

-- ---- the different values of a list are different

-- without the value at a place
without_at : List ℕ → ℕ → List ℕ
without_at [] j = []
without_at (x ∷ xs) zero = xs
without_at (x ∷ xs) (suc j) = x ∷ without_at xs j

one_fewer : (xs : List ℕ) (j : ℕ) → j < length xs → suc (length (without_at xs j)) ≡ length xs
unfolding without_at
one_fewer [] j below = absurd (omega (arith, below))
one_fewer (x ∷ xs) zero below = omega arith
one_fewer (x ∷ xs) (suc j) below = let fewer = one_fewer xs j (omega (arith, below)) in omega (arith, fewer)

left_or_it : (v : ℕ) (xs : List ℕ) (j : ℕ) → In v xs → In v (without_at xs j) ⊎ (get_or xs j 0 ≡ v)
unfolding without_at
left_or_it v [] j there = absurd there
left_or_it v (x ∷ xs) zero (inl is) = inr is
left_or_it v (x ∷ xs) zero (inr more) = inl more
left_or_it v (x ∷ xs) (suc j) (inl is) = inl (inl is)
left_or_it v (x ∷ xs) (suc j) (inr more) = elim (left_or_it v xs j more) [ inl left ↦ inl (inr left) | inr it ↦ inr it ]

earlier_left : (xs : List ℕ) (i j : ℕ) → i < j → j < length xs → In (get_or xs i 0) (without_at xs j)
unfolding without_at
earlier_left [] i j before below = absurd (omega (arith, below))
earlier_left (x ∷ xs) i zero before below = absurd (omega (arith, before))
earlier_left (x ∷ xs) zero (suc j) before below = inl refl
earlier_left (x ∷ xs) (suc i) (suc j) before below = inr (earlier_left xs i j (omega (arith, before)) (omega (arith, below)))

none_twice : (xs : List ℕ) (i j : ℕ) → i < j → j < length (different xs) → get_or (different xs) i 0 ≡ get_or (different xs) j 0 → ⊥
none_twice xs i j before below same =
    let all = different xs in
    let kept : (v : ℕ) → In v xs → In v (without_at all j) = λ v there. elim (left_or_it v all j (in_different v xs there)) [
      | inl left ↦ left
      | inr it ↦ subst (λ (u : ℕ). In u (without_at all j)) (same ∙ it) (earlier_left all i j before below)
    ] in
    absurd (omega (arith, few_different xs (without_at all j) kept, one_fewer all j below))

apart : (xs : List ℕ) (i j : ℕ) → i < length (different xs) → j < length (different xs) → get_or (different xs) i 0 ≡ get_or (different xs) j 0 → i ≡ j
apart xs i j first second same = elim (cases_lt i j) [
  | inl before ↦ absurd (none_twice xs i j before second same)
  | inr late ↦ elim (cases_lt j i) [ inl after ↦ absurd (none_twice xs j i after first (sym same)) | inr not_after ↦ omega (arith, late, not_after) ]
]

-- ---- the vectors of such values

same_parts : (xs ys : List ℕ) (x y : ℕ) → length xs ≡ length ys → xs ++ x ∷ [] ≡ ys ++ y ∷ [] → (xs ≡ ys) × (x ≡ y)
same_parts xs ys x y long same = (
  sym (take_at xs (x ∷ []) (length xs) refl) ∙ ap (take (length xs)) same ∙ ap (λ (n : ℕ). take n (ys ++ y ∷ [])) long ∙ take_at ys (y ∷ []) (length ys) refl,
  sym (get_or-append_seam xs x [] 0) ∙ ap (λ (l : List ℕ). get_or l (length xs) 0) same ∙ ap (λ (n : ℕ). get_or (ys ++ y ∷ []) n 0) long ∙ get_or-append_seam ys y [] 0,
)

same_index : (own : List ℕ) (n i j : ℕ) → 1 ≤ length (different own) → i < length (different own) ^ n → j < length (different own) ^ n → vector_at (different own) n i ≡ vector_at (different own) n j → i ≡ j
same_index own zero i j some first second same = let one = pow-zero (length (different own)) in omega (arith, first, second, one)
same_index own (suc n) i j some first second same =
    let b = length (different own) in
    let more : b ^ suc n ≡ b ^ n * b = ap (λ (k : ℕ). b ^ k) (let next : suc n ≡ n + 1 = omega arith in next) ∙ pow_more b n in
    let long = vector_long (different own) n (i / b) ∙ sym (vector_long (different own) n (j / b)) in
    let parts = same_parts (vector_at (different own) n (i / b)) (vector_at (different own) n (j / b)) (get_or (different own) (i % b) 0) (get_or (different own) (j % b) 0) long same in
    let front : i / b ≡ j / b = same_index own n (i / b) (j / b) some (div_below i b (b ^ n) some (omega (arith, first, more))) (div_below j b (b ^ n) some (omega (arith, second, more))) parts.0 in
    let rest : i % b ≡ j % b = apart own (i % b) (j % b) (mod_below i b some) (mod_below j b some) parts.1 in
    sym (div-add-mod' i b) ∙ ap (λ (q : ℕ). q * b + i % b) front ∙ ap (λ (r : ℕ). j / b * b + r) rest ∙ div-add-mod' j b

pub one_index : (spec : RoomSpec) (i j : ℕ) → 1 ≤ processes spec → i < agreed_count spec → j < agreed_count spec → agreed_at spec i ≡ agreed_at spec j → i ≡ j
one_index spec i j some first second same = same_index spec.own (processes spec) i j (some_values spec i some first) first second same
