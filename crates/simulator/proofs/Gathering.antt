-- The values that a mind gathers for the snapshot of its process.
use Rattle.std.proofs.Common.{◌≡◌, ◌≢◌, ℕ, zero, suc, ◌+◌, ◌-◌, ◌<◌, ◌≤◌, Bool, true, false, cond, eqb, List, [], ◌∷◌, ◌++◌, length, map, Option, None, refl, sym, ap, ◌∙◌, subst, append_assoc, arith}
use Rattle.std.specs.List.{range_with_len, take_while}
use Rattle.std.proofs.lemmas.Bool.{eqb-false}
use Rattle.std.proofs.lemmas.List.{append-nil, length-append}
use Rattle.std.proofs.lemmas.List.Sums.{take_while-cons}
use Rattle.simulator.specs.Turns.{padded}

-- Entries are only added, `more` at most; and where fewer are added, the row shows a write of the next process.
pub record IsPadded (row : ℕ → ℕ) (more : ℕ) (entries after : List (Option ℕ)) : Type 0 where
  pub long : length entries ≤ length after
  pub short : length after ≤ length entries + more
  pub shown : length after < length entries + more → 1 ≤ row (length after)

-- ---- entry by entry

abbrev pub added : (ℕ → ℕ) → ℕ → List (Option ℕ) → List (Option ℕ)
added row more entries = entries ++ map (λ q. None) (take_while (λ q. eqb (row q) 0) (range_with_len (length entries) more))

pub added_none : (row : ℕ → ℕ) (entries : List (Option ℕ)) → added row zero entries ≡ entries
added_none row entries = append-nil entries

added_by : (q : ℕ) (rest : List ℕ) (entries : List (Option ℕ)) (b : Bool) → entries ++ map (λ q. None) (cond b (q ∷ rest) []) ≡ cond b ((entries ++ None ∷ []) ++ map (λ q. None) rest) entries
added_by q rest entries true = sym (append_assoc entries (None ∷ []) (map (λ q. None) rest))
added_by q rest entries false = append-nil entries

pub added_more : (row : ℕ → ℕ) (more : ℕ) (entries : List (Option ℕ)) → added row (suc more) entries ≡ cond (eqb (row (length entries)) 0) (added row more (entries ++ None ∷ [])) entries
added_more row more entries =
    let silent : ℕ → Bool = λ q. eqb (row q) 0 in
    let at = length entries in
    let rest = range_with_len (at + 1) more in
    ap (λ (l : List ℕ). entries ++ map (λ q. None) l) (take_while-cons silent at rest)
    ∙ added_by at (take_while silent rest) entries (silent at)
    ∙ ap (λ (k : ℕ). cond (silent at) ((entries ++ None ∷ []) ++ map (λ q. None) (take_while silent (range_with_len k more))) entries) (sym (length-append entries (None ∷ [])))

padded_by : (row : ℕ → ℕ) (more : ℕ) (entries : List (Option ℕ)) (b : Bool) → eqb (row (length entries)) 0 ≡ b → IsPadded row more (entries ++ None ∷ []) (added row more (entries ++ None ∷ [])) → IsPadded row (suc more) entries (cond b (added row more (entries ++ None ∷ [])) entries)
padded_by row more entries true is later =
    let one : length (entries ++ None ∷ []) ≡ length entries + 1 = length-append entries (None ∷ []) in
    record { long = omega (arith, later.long); short = omega (arith, later.short); shown = λ less. later.shown (omega arith) }
padded_by row more entries false is later =
    record { long = omega arith; short = omega arith; shown = λ less. let some : row (length entries) ≢ 0 = eqb-false _ _ is in omega arith }

pub padded_is : (row : ℕ → ℕ) (more : ℕ) (entries : List (Option ℕ)) → IsPadded row more entries (added row more entries)
padded_is row zero entries = subst (IsPadded row zero entries) (sym (added_none row entries)) (record { long = omega arith; short = omega arith; shown = λ less. absurd (omega arith) })
padded_is row (suc more) entries = subst (IsPadded row (suc more) entries) (sym (added_more row more entries)) (padded_by row more entries _ refl (padded_is row more (entries ++ None ∷ [])))

-- one entry more, where the row shows no write of the next process, leaves as much to be added as before
padded_more : (row : ℕ → ℕ) (more : ℕ) (entries : List (Option ℕ)) → row (length entries) ≡ 0 → added row more (entries ++ None ∷ []) ≡ added row (suc more) entries
padded_more row more entries none = sym (added_more row more entries ∙ ap (λ (k : ℕ). cond (eqb k 0) (added row more (entries ++ None ∷ [])) entries) none)

pub padded_on : (row : ℕ → ℕ) (n : ℕ) (entries after : List (Option ℕ)) → length entries < n → row (length entries) ≡ 0 → after ≡ entries ++ None ∷ [] → (length after ≤ n) × (padded row n after ≡ padded row n entries)
padded_on row n entries after less none is =
    let one : length (entries ++ None ∷ []) ≡ length entries + 1 = length-append entries (None ∷ []) in
    let long : length after ≡ length entries + 1 = ap (λ (l : List (Option ℕ)). length l) is ∙ one in
    let left : n - length entries ≡ suc (n - length after) = omega arith in
    (omega arith, ap (added row (n - length after)) is ∙ padded_more row (n - length after) entries none ∙ sym (ap (λ (k : ℕ). added row k entries) left))

-- nothing is added where the row shows a write of the next process
pub padded_ends : (row : ℕ → ℕ) (more : ℕ) (entries : List (Option ℕ)) → 0 < more → eqb (row (length entries)) 0 ≡ false → entries ≡ added row more entries
padded_ends row zero entries some shown = absurd (omega arith)
padded_ends row (suc more) entries some shown = sym (added_more row more entries ∙ ap (λ b. cond b (added row more (entries ++ None ∷ [])) entries) shown)
