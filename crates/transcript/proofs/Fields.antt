-- Fields with no space in them, joined by spaces and cut again.
use Rattle.std.proofs.Common.{◌≡◌, ℕ, ◌+◌, ◌*◌, ◌≤◌, Bool, true, false, List, [], ◌∷◌, length, ap, ◌∙◌, arith, refl}
use Rattle.std.specs.List.{All, AllByRecursion, list_all, join_with_byte}
use Rattle.std.proofs.lemmas.Bool.{and_parts, ne_eqb}
use Rattle.std.proofs.lemmas.List.{length-append}
use Rattle.std.proofs.lemmas.List.Elements.{All-nil, All-cons}
use Rattle.std.proofs.lemmas.List.Splits.{slice_split_none, slice_split_at}
use Rattle.room_spec.specs.Texts.{is_space, fields_of}

-- a field of at most so many bytes, as it stands between spaces
pub record IsField (most : ℕ) (field : List ℕ) : Type 0 where
  pub no_space : All (λ byte. is_space byte ≡ false) field
  pub short : length field ≤ most

pub no_space_in : (test : ℕ → Bool) → test 32 ≡ false → (bytes : List ℕ) → list_all test bytes ≡ true → All (λ byte. is_space byte ≡ false) bytes
no_space_in test space [] passed = All-nil (λ byte. is_space byte ≡ false)
no_space_in test space (byte ∷ bytes) passed =
    let parts = and_parts (test byte) (list_all test bytes) passed in
    let other : byte ≡ 32 → ⊥ = λ e. absurd (let same : test byte ≡ test 32 = ap test e in cc) in
    All-cons (λ b. is_space b ≡ false) byte bytes (ne_eqb byte 32 other) (no_space_in test space bytes parts.1)

pub fields_of-join : (most : ℕ) (first : List ℕ) (others : List (List ℕ)) → IsField most first → AllByRecursion (IsField 10) others → fields_of (join_with_byte 32 (first ∷ others)) ≡ first ∷ others
fields_of-join most first [] one more = slice_split_none is_space first one.no_space
fields_of-join most first (second ∷ others) one more =
    slice_split_at is_space first 32 (join_with_byte 32 (second ∷ others)) one.no_space refl ∙ ap (λ (fields : List (List ℕ)). first ∷ fields) (fields_of-join 10 second others more.0 more.1)

pub length-join : (most : ℕ) (first : List ℕ) (others : List (List ℕ)) → IsField most first → AllByRecursion (IsField 10) others → length (join_with_byte 32 (first ∷ others)) ≤ most + 11 * length others
length-join most first [] one more = omega (arith, one.short)
length-join most first (second ∷ others) one more =
    let rest = length-join 10 second others more.0 more.1 in
    omega (arith, one.short, rest, length-append first (32 ∷ join_with_byte 32 (second ∷ others)))
