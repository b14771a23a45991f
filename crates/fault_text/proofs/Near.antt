-- Words that are one edit apart.
use Rattle.std.proofs.Common.{◌≡◌, ◌∙◌, ℕ, Bool, true, false, cond, ◌==◌, ◌||◌, ◌&&◌, List, [], ◌∷◌, ◌++◌, refl, ap}
use Rattle.std.specs.Str.{bytes_eq}
use Rattle.std.proofs.lemmas.Bool.{eq-eqb}
use Rattle.std.proofs.lemmas.Slice.Eq.{bytes_eq-Decides}
use Rattle.fault_text.specs.Hints.{differs_once, is_one_edit, is_swapped}

same_byte : (n : ℕ) → (n == n) ≡ true
same_byte n = eq-eqb n n refl

same_word : (word : List ℕ) → bytes_eq word word ≡ true
same_word word = (bytes_eq-Decides word word).1 refl

second : (a b : Bool) → b ≡ true → (a || b) ≡ true
second true b is = refl
second false b is = is

-- behind the same byte
behind_same : (x : ℕ) (xs ys : List ℕ) → is_one_edit xs ys ≡ true → is_one_edit (x ∷ xs) (x ∷ ys) ≡ true
unfolding is_one_edit
behind_same x xs ys near = ap (λ (b : Bool). cond b (is_one_edit xs ys) (differs_once x xs x ys)) (same_byte x) ∙ near

-- ---- another byte

pub other_byte : (front back : List ℕ) (x y : ℕ) → (x == y) ≡ false → is_one_edit (front ++ x ∷ back) (front ++ y ∷ back) ≡ true
unfolding is_one_edit
other_byte [] back x y differ =
    ap (λ (b : Bool). cond b (is_one_edit back back) (differs_once x back y back)) differ ∙ ap (λ (b : Bool). b || (bytes_eq back (y ∷ back) || (bytes_eq (x ∷ back) back || is_swapped (x ∷ back) (y ∷ back)))) (same_word back)
other_byte (byte ∷ front) back x y differ = behind_same byte (front ++ x ∷ back) (front ++ y ∷ back) (other_byte front back x y differ)

-- ---- one byte more, or less

more_in_front : (back : List ℕ) (x : ℕ) → is_one_edit back (x ∷ back) ≡ true
unfolding is_one_edit
more_in_front [] x = refl
more_in_front (y ∷ back) x = by (y == x) (more_in_front back y)
  where
    by : (b : Bool) → is_one_edit back (y ∷ back) ≡ true → cond b (is_one_edit back (y ∷ back)) (differs_once y back x (y ∷ back)) ≡ true
    by true near = near
    by false near =
        second (bytes_eq back (y ∷ back)) _ (second (bytes_eq back (x ∷ y ∷ back)) _ (ap (λ (b : Bool). b || is_swapped (y ∷ back) (x ∷ y ∷ back)) (same_word (y ∷ back))))

pub byte_more : (front back : List ℕ) (x : ℕ) → is_one_edit (front ++ back) (front ++ x ∷ back) ≡ true
byte_more [] back x = more_in_front back x
byte_more (byte ∷ front) back x = behind_same byte (front ++ back) (front ++ x ∷ back) (byte_more front back x)

less_in_front : (back : List ℕ) (x : ℕ) → is_one_edit (x ∷ back) back ≡ true
unfolding is_one_edit
less_in_front [] x = refl
less_in_front (y ∷ back) x = by (x == y) (less_in_front back y)
  where
    by : (b : Bool) → is_one_edit (y ∷ back) back ≡ true → cond b (is_one_edit (y ∷ back) back) (differs_once x (y ∷ back) y back) ≡ true
    by true near = near
    by false near = second (bytes_eq (y ∷ back) back) _ (ap (λ (b : Bool). b || (bytes_eq (x ∷ y ∷ back) back || is_swapped (x ∷ y ∷ back) (y ∷ back))) (same_word (y ∷ back)))

pub byte_less : (front back : List ℕ) (x : ℕ) → is_one_edit (front ++ x ∷ back) (front ++ back) ≡ true
byte_less [] back x = less_in_front back x
byte_less (byte ∷ front) back x = behind_same byte (front ++ x ∷ back) (front ++ back) (byte_less front back x)

-- ---- two bytes that have changed places

swapped : (back : List ℕ) (x y : ℕ) → is_swapped (x ∷ y ∷ back) (y ∷ x ∷ back) ≡ true
swapped back x y = ap (λ (b : Bool). b && ((y == y) && bytes_eq back back)) (same_byte x) ∙ ap (λ (b : Bool). b && bytes_eq back back) (same_byte y) ∙ same_word back

pub bytes_swapped : (front back : List ℕ) (x y : ℕ) → (x == y) ≡ false → is_one_edit (front ++ x ∷ y ∷ back) (front ++ y ∷ x ∷ back) ≡ true
unfolding is_one_edit
bytes_swapped [] back x y differ =
    ap (λ (b : Bool). cond b (is_one_edit (y ∷ back) (x ∷ back)) (differs_once x (y ∷ back) y (x ∷ back))) differ
    ∙ second (bytes_eq (y ∷ back) (x ∷ back)) _ (second (bytes_eq (y ∷ back) (y ∷ x ∷ back)) _ (second (bytes_eq (x ∷ y ∷ back) (x ∷ back)) _ (swapped back x y)))
bytes_swapped (byte ∷ front) back x y differ = behind_same byte (front ++ x ∷ y ∷ back) (front ++ y ∷ x ∷ back) (bytes_swapped front back x y differ)
