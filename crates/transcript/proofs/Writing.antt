-- A line is written field by field.
use Rattle.std.proofs.Common.{◌≡◌, ℕ, ◌<◌, ◌+◌, List, [], ◌∷◌, ◌++◌, Option, length, map, drop, slice_index_or, refl, sym, ap, ◌∙◌, append_assoc, drop-cons}
use native.Mathlib.Numerals.{unary_clauses}
use Rattle.std.specs.List.{join_with_byte}
use Rattle.transcript.specs.Grammar.{entry_text}

-- two fields with the space between them are as one
pub join_two : (first second : List ℕ) (others : List (List ℕ)) → join_with_byte 32 (join_with_byte 32 (first ∷ second ∷ []) ∷ others) ≡ join_with_byte 32 (first ∷ second ∷ others)
join_two first second [] = refl
join_two first second (third ∷ others) = append_assoc first (32 ∷ second) (32 ∷ join_with_byte 32 (third ∷ others))

drop-plus : (entries : List (Option ℕ)) (i : ℕ) (d : Option ℕ) → i < length entries → drop i entries ≡ slice_index_or entries i d ∷ drop (i + 1) entries
drop-plus entries i d below = simp unary_clauses (drop-cons entries i d below)

-- one more entry
pub writes_on : (start before after : List ℕ) (entries : List (Option ℕ)) (i : ℕ) (d : Option ℕ) → i < length entries → after ≡ before ++ 32 ∷ entry_text (slice_index_or entries i d)
    → join_with_byte 32 (before ∷ map entry_text (drop i entries)) ≡ join_with_byte 32 (start ∷ map entry_text entries)
    → join_with_byte 32 (after ∷ map entry_text (drop (i + 1) entries)) ≡ join_with_byte 32 (start ∷ map entry_text entries)
writes_on start before after entries i d below text so_far =
    ap (λ (line : List ℕ). join_with_byte 32 (line ∷ map entry_text (drop (i + 1) entries))) text
    ∙ join_two before (entry_text (slice_index_or entries i d)) (map entry_text (drop (i + 1) entries))
    ∙ ap (λ (rest : List (Option ℕ)). join_with_byte 32 (before ∷ map entry_text rest)) (sym (drop-plus entries i d below))
    ∙ so_far
