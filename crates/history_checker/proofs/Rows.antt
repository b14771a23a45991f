-- A row's text with another entry at one place.
use Rattle.std.proofs.Common.{◌≡◌, ◌≤◌, ◌<◌, ◌+◌, ℕ, zero, suc, List, [], ◌∷◌, ◌++◌, Option, Some, length, take, drop, map, refl, sym, ap, ◌∙◌, arith, append_assoc, length-append, slice_set, slice_index_or}
use Rattle.std.specs.Fmt.{decimal}
use Rattle.std.specs.List.{AllByRecursion, refill}
use Rattle.std.proofs.lemmas.List.{append-nil, drop_all}
use Rattle.std.proofs.lemmas.List.Sums.{sum_by-cons}
use Rattle.std.proofs.Math.Seq.{drop-append-add, drop-append_seam, take-append-add, take-length}
use Rattle.protocol_lang.specs.Limits.{IsEntry}
use Rattle.transcript.specs.Grammar.{entry_text}
use Rattle.history_checker.specs.Shown.{IsShown, spaced, width, before}

pub same_start : (entries : List (Option ℕ)) (p v d : ℕ) → p < length entries
    → spaced (slice_set entries p (Some v)) ≡ take (before (map width entries) p) (spaced entries) ++ 32 ∷ (decimal v ++ drop (before (map width entries) p + slice_index_or (map width entries) p d) (spaced entries))
same_start [] p v d below = absurd (omega (arith, below))
same_start (entry ∷ entries) zero v d below =
    let text = entry_text entry in
    let own : 0 + suc (length text) ≡ suc (length text) = omega arith in
    ap (λ (behind : List ℕ). 32 ∷ (decimal v ++ behind)) (sym (ap (λ (k : ℕ). drop k (32 ∷ (text ++ spaced entries))) own ∙ drop-append_seam text (spaced entries)))
same_start (entry ∷ entries) (suc p) v d below =
    let text = entry_text entry in
    let widths = map width entries in
    let others = spaced entries in
    let start = before widths p in
    let own = slice_index_or widths p d in
    let behind = 32 ∷ (decimal v ++ drop (start + own) others) in
    let sum = sum_by-cons (λ w. w) (width entry) (take p widths) in
    let first : before (width entry ∷ widths) (suc p) ≡ suc (length text + start) = omega (arith, sum) in
    let last : before (width entry ∷ widths) (suc p) + own ≡ suc (length text + (start + own)) = omega (arith, sum) in
    let taken : take (before (width entry ∷ widths) (suc p)) (32 ∷ (text ++ others)) ≡ 32 ∷ (text ++ take start others) =
    ap (λ (k : ℕ). take k (32 ∷ (text ++ others))) first ∙ ap (λ (xs : List ℕ). 32 ∷ xs) (take-append-add text others start) in
    let dropped : drop (before (width entry ∷ widths) (suc p) + own) (32 ∷ (text ++ others)) ≡ drop (start + own) others =
    ap (λ (k : ℕ). drop k (32 ∷ (text ++ others))) last ∙ drop-append-add text others (start + own) in
    ap (λ (xs : List ℕ). 32 ∷ (text ++ xs)) (same_start entries p v d (omega (arith, below)))
    ∙ ap (λ (xs : List ℕ). 32 ∷ xs) (sym (append_assoc text (take start others) behind))
    ∙ ap (λ (xs : List ℕ). xs ++ behind) (sym taken)
    ∙ ap (λ (xs : List ℕ). take (before (width entry ∷ widths) (suc p)) (32 ∷ (text ++ others)) ++ 32 ∷ (decimal v ++ xs)) (sym dropped)

pub same_values : (entries : List (Option ℕ)) (p v : ℕ) → IsEntry (Some v) → AllByRecursion IsEntry entries → AllByRecursion IsEntry (slice_set entries p (Some v))
same_values [] p v small all = tt
same_values (entry ∷ entries) zero v small all = (small, all.1)
same_values (entry ∷ entries) (suc p) v small all = (all.0, same_values entries p v small all.1)

pub same_widths : (entries : List (Option ℕ)) (p v : ℕ) → map width (slice_set entries p (Some v)) ≡ slice_set (map width entries) p (suc (length (decimal v)))
same_widths [] p v = refl
same_widths (entry ∷ entries) zero v = refl
same_widths (entry ∷ entries) (suc p) v = ap (λ (ws : List ℕ). width entry ∷ ws) (same_widths entries p v)

pub same_length : (entries : List (Option ℕ)) (p v : ℕ) → length (slice_set entries p (Some v)) ≡ length entries
same_length [] p v = refl
same_length (entry ∷ entries) zero v = refl
same_length (entry ∷ entries) (suc p) v = ap suc (same_length entries p v)

pub fits : (entries : List (Option ℕ)) (p d : ℕ) → p < length entries → before (map width entries) p + slice_index_or (map width entries) p d ≤ length (spaced entries)
fits [] p d below = absurd (omega (arith, below))
fits (entry ∷ entries) zero d below = omega (arith, length-append (entry_text entry) (spaced entries))
fits (entry ∷ entries) (suc p) d below =
    omega (arith, length-append (entry_text entry) (spaced entries), sum_by-cons (λ w. w) (width entry) (take p (map width entries)), fits entries p d (omega (arith, below)))

pub fits_in : (entries : List (Option ℕ)) (text widths : List ℕ) (p d : ℕ) → IsShown entries text widths → p < length entries → before widths p + slice_index_or widths p d ≤ length text
fits_in entries text widths p d shown below = rw (shown.widths_are, shown.says.text_is) (fits entries p d below)

-- one entry more is known
pub shown_with : (entries : List (Option ℕ)) (text widths next : List ℕ) (p v d : ℕ) → IsShown entries text widths → p < length entries → IsEntry (Some v)
    → next ≡ take (before widths p) text ++ 32 ∷ (decimal v ++ drop (before widths p + slice_index_or widths p d) text) → IsShown (slice_set entries p (Some v)) next (slice_set widths p (suc (length (decimal v))))
shown_with entries text widths next p v d shown below small is = record {
  says = record {
    text_is = is ∙ rw (shown.widths_are, shown.says.text_is) (sym (same_start entries p v d below));
    values = same_values entries p v small shown.says.values;
  };
  widths_are = ap (λ (ws : List ℕ). slice_set ws p (suc (length (decimal v)))) shown.widths_are ∙ sym (same_widths entries p v);
  few = rw (same_length entries p v) shown.few;
}

pub refilled : {X : Type 0} (xs ws : List X) → length ws ≡ length xs → refill (length xs) xs ws ≡ ws
refilled {X = X} xs ws same =
    ap (λ (rest : List X). take (length xs) (ws ++ rest)) (drop_all (length ws) xs (omega (arith, same))) ∙ ap (take (length xs)) (append-nil ws) ∙ ap (λ (n : ℕ). take n ws) (sym same) ∙ take-length ws
