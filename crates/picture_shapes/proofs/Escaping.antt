-- Words are escaped byte by byte, and most bytes are written as they are.
use Rattle.std.proofs.Common.{◌≡◌, ◌∙◌, ℕ, suc, ◌+◌, ◌==◌, ◌||◌, Bool, true, false, cond, not, nat_lt, if◌then◌else◌, List, [], ◌∷◌, ◌++◌, take, drop, length, codes, refl, sym, ap, ap₂, arith}
use Rattle.std.specs.List.{flat_map, prefix_len}
use Rattle.std.proofs.lemmas.List.{append-nil, append_assoc, nil_from_length}
use Rattle.picture_shapes.specs.Attributes.{escaped_byte, is_plain}

plain_by : (ampersand less greater quote outside : Bool) (b : ℕ)
    → (if ampersand then false else (if less then false else (if greater then false else (if quote then false else not outside)))) ≡ true
    → (if ampersand then codes "&amp;" else (if less then codes "&lt;" else (if greater then codes "&gt;" else (if quote then codes "&quot;" else (if outside then 32 else b) ∷ [])))) ≡ b ∷ []
plain_by true less greater quote outside b is = absurd cc
plain_by false true greater quote outside b is = absurd cc
plain_by false false true quote outside b is = absurd cc
plain_by false false false true outside b is = absurd cc
plain_by false false false false true b is = absurd cc
plain_by false false false false false b is = refl

plain_byte : (b : ℕ) → is_plain b ≡ true → escaped_byte b ≡ b ∷ []
plain_byte b is = plain_by (b == 38) (b == 60) (b == 62) (b == 34) (nat_lt b 32 || nat_lt 126 b) b is

one_more : (b : ℕ) (bs : List ℕ) (plain : Bool) → is_plain b ≡ plain → flat_map escaped_byte bs ≡ take (prefix_len is_plain bs) bs ++ flat_map escaped_byte (drop (prefix_len is_plain bs) bs)
    → flat_map escaped_byte (b ∷ bs) ≡ take (cond plain (1 + prefix_len is_plain bs) 0) (b ∷ bs) ++ flat_map escaped_byte (drop (cond plain (1 + prefix_len is_plain bs) 0) (b ∷ bs))
one_more b bs true is later =
    let n = prefix_len is_plain bs in
    let next : 1 + n ≡ suc n = omega arith in
    ap₂ (λ (x y : List ℕ). x ++ y) (plain_byte b is) later ∙ ap (λ (k : ℕ). take k (b ∷ bs) ++ flat_map escaped_byte (drop k (b ∷ bs))) (sym next)
one_more b bs false is later = refl

-- what is plain at the front of words, and the words after it
front_plain : (words : List ℕ) → flat_map escaped_byte words ≡ take (prefix_len is_plain words) words ++ flat_map escaped_byte (drop (prefix_len is_plain words) words)
front_plain [] = refl
front_plain (b ∷ bs) = one_more b bs (is_plain b) refl (front_plain bs)

-- so far this was written; what is left has this at its front, and this after it
module _ (start so_far words rest plain marked : List ℕ) (left : so_far ++ flat_map escaped_byte rest ≡ start ++ flat_map escaped_byte words)
    (front : plain ≡ take (prefix_len is_plain rest) rest) (back : marked ≡ drop (prefix_len is_plain rest) rest) where
  in_two : so_far ++ (plain ++ flat_map escaped_byte marked) ≡ start ++ flat_map escaped_byte words
  in_two = ap (λ (t : List ℕ). so_far ++ t) (ap₂ (λ (x y : List ℕ). x ++ flat_map escaped_byte y) front back ∙ sym (front_plain rest)) ∙ left

  -- nothing comes after it
  pub all_written : length marked ≡ 0 → so_far ++ plain ≡ start ++ flat_map escaped_byte words
  all_written none = ap (λ (t : List ℕ). so_far ++ t) (sym (append-nil plain) ∙ ap (λ (t : List ℕ). plain ++ flat_map escaped_byte t) (sym (nil_from_length marked none))) ∙ in_two

  -- a byte comes after it
  pub more_written : (byte : ℕ) (later : List ℕ) → marked ≡ byte ∷ later → ((so_far ++ plain) ++ escaped_byte byte) ++ flat_map escaped_byte later ≡ start ++ flat_map escaped_byte words
  more_written byte later one =
      append_assoc (so_far ++ plain) (escaped_byte byte) (flat_map escaped_byte later) ∙ append_assoc so_far plain (escaped_byte byte ++ flat_map escaped_byte later)
      ∙ ap (λ (t : List ℕ). so_far ++ (plain ++ flat_map escaped_byte t)) (sym one) ∙ in_two
