-- Samples that are read one after the other.
use Rattle.std.proofs.Common.{◌≡◌, ℕ, zero, suc, ◌<◌, ◌≤◌, length, map, take, refl, List, [], ◌∷◌, ◌++◌, get_or, Option, Some, None, sym, ap, ◌∙◌, subst, arith}
use Rattle.std.specs.Prelude.{⊤, All, IfSome}
use Rattle.std.specs.Borrow.{Bor}
use Rattle.std.specs.Global.{Vec}
use Rattle.io_text.specs.Reading.{most_bytes}
use Rattle.std.specs.List.{Contains}
use Rattle.bgview.specs.Sums.{IfAllKnown, IsNotRead}
use Rattle.bgview.specs.Unread.{path_of}
use Rattle.bgview.specs.declared.ended.Ended.{Ended}

-- each text is what the input of its place gives, if that is known
abbrev pub AreRead : List (Option (List ℕ)) → List (List ℕ) → Type 0
AreRead [] [] = ⊤
AreRead (input ∷ inputs) (text ∷ texts) = IfSome input (λ bytes. text ≡ bytes) × AreRead inputs texts
AreRead [] (text ∷ texts) = ⊥
AreRead (input ∷ inputs) [] = ⊥

pub read_more : (inputs : List (Option (List ℕ))) (texts : List (List ℕ)) (input : Option (List ℕ)) (text : List ℕ) → AreRead inputs texts → IfSome input (λ bytes. text ≡ bytes) → AreRead (inputs ++ input ∷ []) (texts ++ text ∷ [])
read_more [] [] input text before is = (is, tt)
read_more [] (one ∷ texts) input text before is = absurd before
read_more (other ∷ inputs) [] input text before is = absurd before
read_more (other ∷ inputs) (one ∷ texts) input text before is = (before.0, read_more inputs texts input text before.1 is)

pub all_known : (inputs : List (Option (List ℕ))) (texts : List (List ℕ)) (P : List (List ℕ) → Type 0) → AreRead inputs texts → P texts → IfAllKnown inputs P
all_known [] [] P read holds = holds
all_known [] (text ∷ texts) P read holds = absurd read
all_known (input ∷ inputs) [] P read holds = absurd read
all_known (None ∷ inputs) (text ∷ texts) P read holds = tt
all_known (Some bytes ∷ inputs) (text ∷ texts) P read holds = all_known inputs texts (λ others. P (bytes ∷ others)) read.1 (subst (λ (t : List ℕ). P (t ∷ texts)) read.0 holds)

among : (names : List (List ℕ)) (name : List ℕ) (path : Option (List ℕ)) → Contains names name → IfSome path (Contains (name ∷ [])) → IfSome path (Contains names)
among names name None there is = tt
among names name (Some path) there is =
    let first : is.0 ≡ 0 = let inside = is.1 in omega (arith, inside) in
    let same : name ≡ path = ap (λ (i : ℕ). get_or (name ∷ []) i path) (sym first) ∙ is.2 in
    subst (Contains names) same there

-- one of several files is not read
pub not_read : (names : List (List ℕ)) (name : List ℕ) (ended : Ended) → Contains names name → IsNotRead (name ∷ []) ended → IsNotRead names ended
not_read names name ended there is = (is.0, among names name (path_of ended.unread) there is.1)

-- ---- texts that are lent

abbrev pub Fits : List (Bor (List ℕ)) → Type 0
Fits lent = (k : ℕ) (d : Bor (List ℕ)) → k < length lent → length (get_or lent k d).now ≤ most_bytes

fits_more : (text : Bor (List ℕ)) (lent : List (Bor (List ℕ))) → length text.now ≤ most_bytes → Fits lent → Fits (text ∷ lent)
fits_more text lent one more zero d below = one
fits_more text lent one more (suc k) d below = more k d (omega (arith, below))

-- they are as long as before
pub fits_lent : (lent : List (Bor (List ℕ))) (read : List (Vec ℕ)) → map (λ text. text.now) lent ≡ map (λ text. text.items) read → All (λ text. length text.items ≤ most_bytes) read → Fits lent
fits_lent [] read same fits = λ k d below. absurd (omega (arith, below))
fits_lent (text ∷ lent) [] same fits = absurd cc
fits_lent (text ∷ lent) (own ∷ read) same fits =
    let head : text.now ≡ own.items = cc in
    let tail : map (λ (t : Bor (List ℕ)). t.now) lent ≡ map (λ (t : Vec ℕ). t.items) read = cc in
    fits_more text lent (subst (λ (t : List ℕ). length t ≤ most_bytes) (sym head) (fits 0 own (omega arith))) (fits_lent lent read tail (λ j e less. fits (suc j) e (omega (arith, less))))

-- ---- all of them

whole : {A : Type 0} (xs : List A) (n : ℕ) → length xs ≤ n → take n xs ≡ xs
whole [] zero all = refl
whole [] (suc n) all = refl
whole (x ∷ xs) zero all = absurd (omega (arith, all))
whole (x ∷ xs) (suc n) all = ap (λ (l : List _). x ∷ l) (whole xs n (omega (arith, all)))

named : (f : List ℕ → Option (List ℕ)) (names : List (Bor (List ℕ))) → map (λ name. f name.now) names ≡ map f (map (λ name. name.now) names)
named f [] = refl
named f (name ∷ names) = ap (λ (l : List (Option (List ℕ))). f name.now ∷ l) (named f names)

pub all_read : (f : List ℕ → Option (List ℕ)) (names : List (Bor (List ℕ))) (count : ℕ) (texts : List (List ℕ)) → length names ≤ count → AreRead (map (λ name. f name.now) (take count names)) texts
    → IfAllKnown (map f (map (λ name. name.now) names)) (λ given. texts ≡ given)
all_read f names count texts all read =
    let inputs : map (λ (name : Bor (List ℕ)). f name.now) (take count names) ≡ map f (map (λ (name : Bor (List ℕ)). name.now) names) = ap (map (λ (name : Bor (List ℕ)). f name.now)) (whole names count all) ∙ named f names in
    all_known (map f (map (λ (name : Bor (List ℕ)). name.now) names)) texts (λ given. texts ≡ given) (subst (λ (l : List (Option (List ℕ))). AreRead l texts) inputs read) refl

pub known_map : (given : List (Option (List ℕ))) (P Q : List (List ℕ) → Type 0) → ((texts : List (List ℕ)) → P texts → Q texts) → IfAllKnown given P → IfAllKnown given Q
known_map [] P Q to is = to [] is
known_map (None ∷ given) P Q to is = tt
known_map (Some text ∷ given) P Q to is = known_map given (λ texts. P (text ∷ texts)) (λ texts. Q (text ∷ texts)) (λ texts. to (text ∷ texts)) is
