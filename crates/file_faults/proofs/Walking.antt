-- A file gone through part by part.
use Rattle.std.proofs.Common.{◌≡◌, ◌∙◌, ℕ, zero, suc, ◌<◌, ◌≤◌, ◌==◌, Bool, true, false, List, [], ◌∷◌, ◌++◌, length, Option, Some, None, refl, sym, ap, ap₂, arith}
use Rattle.std.specs.Prelude.{Result, Ok, Err, OnOk}
use Rattle.std.proofs.Math.Dec.{eqb-suc-zero}
use Rattle.std.proofs.lemmas.List.{append-nil, append_assoc}
use Rattle.file_faults.specs.Walks.{Parts, go_on, left_after, said_from, said_if_left}

pub some_left : (is_empty : Bool) (text : List ℕ) → is_empty ≡ (length text == 0) → is_empty ≡ false → 0 < length text
some_left is_empty [] is isnt = absurd cc
some_left is_empty (byte ∷ bytes) is isnt = omega arith

pub none_left : (is_empty : Bool) (text : List ℕ) → is_empty ≡ (length text == 0) → is_empty ≡ true → length text ≡ 0
none_left is_empty [] is so = refl
none_left is_empty (byte ∷ bytes) is so = let other = eqb-suc-zero (length bytes) in absurd cc

-- one part more
pub walk_step : {Known : Type 0} (parts : Parts Known) (most left number after : ℕ) (known grown : Known) (text later output whole next : List ℕ) (fewer : ℕ) → length text ≤ most → 0 < length text → length later < length text
    → after ≡ parts.next number text → later ≡ parts.later text → grown ≡ parts.known known number text
    → output ++ said_from parts most left known number text ≡ whole → Some fewer ≡ left_after left (parts.said known number text) → next ≡ output ++ said_if_left parts.enough left (parts.said known number text)
    → (less : ℕ) × (length later ≤ less) × (next ++ said_from parts less fewer grown after later ≡ whole)
unfolding said_from
walk_step parts most left number after known grown [] later output whole next fewer within some shorter after_is later_is grown_is is left_is next_is = absurd (omega (arith, some))
walk_step parts zero left number after known grown (byte ∷ bytes) later output whole next fewer within some shorter after_is later_is grown_is is left_is next_is = absurd (omega (arith, within))
walk_step {Known} parts (suc less) left number after known grown (byte ∷ bytes) later output whole next fewer within some shorter after_is later_is grown_is is left_is next_is =
    let text = byte ∷ bytes in
    let part = said_if_left parts.enough left (parts.said known number text) in
    let rest = λ (count : ℕ). said_from parts less count (parts.known known number text) (parts.next number text) (parts.later text) in (
      less,
      omega (arith, shorter, within),
      ap (λ (k : Known). next ++ said_from parts less fewer k after later) grown_is
          ∙ ap₂ (λ (n : ℕ) (t : List ℕ). next ++ said_from parts less fewer (parts.known known number text) n t) after_is later_is ∙ ap (λ t. t ++ rest fewer) next_is ∙ append_assoc output part (rest fewer)
          ∙ ap (λ (count : Option ℕ). output ++ (part ++ go_on rest count)) left_is ∙ is,
    )

-- the walk ends before the text does
pub walk_stops : {Known : Type 0} (parts : Parts Known) (most left number : ℕ) (known : Known) (text output whole next : List ℕ) → length text ≤ most → 0 < length text
    → output ++ said_from parts most left known number text ≡ whole → None ≡ left_after left (parts.said known number text) → next ≡ output ++ said_if_left parts.enough left (parts.said known number text) → next ≡ whole
unfolding said_from
walk_stops parts most left number known [] output whole next within some is left_is next_is = absurd (omega (arith, some))
walk_stops parts zero left number known (byte ∷ bytes) output whole next within some is left_is next_is = absurd (omega (arith, within))
walk_stops parts (suc less) left number known (byte ∷ bytes) output whole next within some is left_is next_is =
    let text = byte ∷ bytes in
    let part = said_if_left parts.enough left (parts.said known number text) in
    let rest = λ (count : ℕ). said_from parts less count (parts.known known number text) (parts.next number text) (parts.later text) in
    next_is ∙ ap (λ t. output ++ t) (sym (append-nil part)) ∙ ap (λ (count : Option ℕ). output ++ (part ++ go_on rest count)) left_is ∙ is

-- or with it
pub walk_ends : {Known : Type 0} (parts : Parts Known) (most left number : ℕ) (known : Known) (text output whole : List ℕ) → length text ≡ 0 → output ++ said_from parts most left known number text ≡ whole → output ++ parts.ends known ≡ whole
unfolding said_from
walk_ends parts zero left number known text output whole none is = is
walk_ends parts (suc most) left number known [] output whole none is = is
walk_ends parts (suc most) left number known (byte ∷ bytes) output whole none is = absurd (omega (arith, none))

-- what is said at the end
pub with_end : {T E : Type 0} (result : Result T E) (last end whole : List ℕ) → OnOk result (last ≡ end) → end ≡ whole → OnOk result (last ≡ whole)
with_end (Ok done) last end whole is rest = is ∙ rest
with_end (Err fault) last end whole is rest = tt
