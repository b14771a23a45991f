-- Numbers as text behind a space.
use Rattle.std.proofs.Common.{◌≡◌, ◌∙◌, ℕ, ◌+◌, ◌-◌, ◌<◌, ◌≤◌, List, ◌∷◌, ◌++◌, length, take, drop, set, sym, ap, arith}
use Rattle.std.specs.Prelude.{slice_range}
use Rattle.std.proofs.Math.Seq.{take-append_seam, take-append-add}
use Rattle.std.proofs.lemmas.List.{drop-set, take-take}

-- the digits that end at `end`, behind a space
pub numeral_right : (bytes digits rest : List ℕ) (first end : ℕ) → 1 ≤ first → first ≤ length bytes → first + length digits ≡ end → drop first bytes ≡ digits ++ rest → slice_range (set bytes (first - 1) 32) (first - 1) end ≡ 32 ∷ digits
numeral_right bytes digits rest first end some within ends is =
    let at : (first - 1) + 1 ≡ first = omega (arith, some) in
    let below : first - 1 < length bytes = omega (arith, some, within) in
    let long : end - (first - 1) ≡ length (32 ∷ digits) = omega (arith, some, ends) in
    let shown : drop (first - 1) (set bytes (first - 1) 32) ≡ (32 ∷ digits) ++ rest = drop-set bytes (first - 1) 32 below ∙ ap (λ (n : ℕ). 32 ∷ drop n bytes) at ∙ ap (λ (l : List ℕ). 32 ∷ l) is in
    ap (λ (n : ℕ). take n (drop (first - 1) (set bytes (first - 1) 32))) long ∙ ap (λ (l : List ℕ). take (length (32 ∷ digits)) l) shown ∙ take-append_seam (32 ∷ digits) rest

-- what a numeral leaves behind a text, once all of its bytes were placed
pub numeral_placed : (text after numeral number : List ℕ) (at start end : ℕ) → length text ≡ at → start ≤ 24 → end ≡ at + 24 → take end after ≡ text ++ take 24 (drop start numeral) → slice_range numeral start 24 ≡ number → take (end - start) after ≡ text ++ number
numeral_placed text after numeral number at start end long within ends placed right =
    let shown = drop start numeral in
    let short : 24 - start ≤ 24 = omega arith in
    let fewer : end - start ≤ end = omega arith in
    let long_in : end - start ≡ length text + (24 - start) = omega (arith, ends, long, within) in
    sym (take-take (end - start) end after fewer) ∙ ap (λ (l : List ℕ). take (end - start) l) placed
    ∙ ap (λ (n : ℕ). take n (text ++ take 24 shown)) long_in ∙ take-append-add text (take 24 shown) (24 - start) ∙ ap (λ (l : List ℕ). text ++ l) (take-take (24 - start) 24 shown short ∙ right)

-- what the first bytes of a piece leave after a text, once the whole piece was placed
pub first_placed : (text after piece : List ℕ) (at len end : ℕ) → length text ≡ at → len ≤ 32 → end ≡ at + 32 → take end after ≡ text ++ piece → take (at + len) after ≡ text ++ take len piece
first_placed text after piece at len end long within ends placed =
    let fewer : at + len ≤ end = omega (arith, within, ends) in
    let long_in : at + len ≡ length text + len = omega (arith, long) in
    sym (take-take (at + len) end after fewer) ∙ ap (λ (l : List ℕ). take (at + len) l) placed ∙ ap (λ (n : ℕ). take n (text ++ piece)) long_in ∙ take-append-add text piece len
