-- A word of levels of which one is raised or lowered.
use Rattle.std.proofs.Common.{◌≡◌, ◌≢◌, ℕ, ◌+◌, ◌-◌, ◌*◌, ◌^◌, ◌<◌, ◌≤◌, inl, inr, length, get_or, set, replicate, sym, ap, ◌∙◌, arith}
use Rattle.std.proofs.lemmas.Bool.{cases_eq, cases_lt}
use Rattle.std.proofs.lemmas.List.{length-set, length-replicate, get_or-set_other, get_or-replicate}
use Rattle.std.proofs.lemmas.Grind.{get_or-set_at, same_number_lists}
use Rattle.std.proofs.lemmas.List.FromFn.{length-map-range_with_len, get_or-map-range_with_len, fill_by_all}
use Rattle.level_cells.specs.Fields.{AreApart, KeepsOthers, level_of, levels_of}
use Rattle.level_cells.proofs.FieldLemmas.{zero_field, added_field, added_others, taken_field, taken_others}

-- two simulators' levels have no bit in common
levels_apart : (i j : ℕ) → j ≢ i → AreApart (2 * i) 2 (2 * j) 2
levels_apart i j other = elim (cases_lt i j) [ inl less ↦ inl (omega arith) | inr le ↦ inr (omega arith) ]

length-levels_of : (word m : ℕ) → length (levels_of word m) ≡ m
length-levels_of word m = length-map-range_with_len (λ i. level_of word i) 0 m

-- a word that differs in one level alone
set_level : (before after m i level : ℕ) → i < m → level_of after i ≡ level → KeepsOthers before after (2 * i) 2 → levels_of after m ≡ set (levels_of before m) i level
set_level before after m i level less here others =
    sym (fill_by_all (λ j. level_of after j) (set (levels_of before m) i level) m 0 (length-set (levels_of before m) i level ∙ length-levels_of before m) (λ j lower.
    elim (cases_eq j i) as (λ _. get_or (set (levels_of before m) i level) j 0 ≡ level_of after j) [
      | inl same ↦ get_or-set_at (levels_of before m) i j level 0 same (omega (arith, length-levels_of before m)) ∙ sym here ∙ ap (λ k. level_of after k) (sym same)
      | inr other ↦ get_or-set_other (levels_of before m) i j level 0 other ∙ get_or-map-range_with_len (λ k. level_of before k) 0 m j j 0 lower (omega arith) ∙ sym (others (2 * j) 2 (levels_apart i j other))
    ]))

pub raised : (word m i : ℕ) → i < m → level_of word i < 3 → levels_of (word + 2 ^ (2 * i)) m ≡ set (levels_of word m) i (level_of word i + 1)
raised word m i less room = set_level word (word + 2 ^ (2 * i)) m i (level_of word i + 1) less (added_field word (2 * i) 2 (omega arith)) (added_others word (2 * i) 2 (omega arith))

pub lowered : (word m i : ℕ) → i < m → 1 ≤ level_of word i → levels_of (word - 2 ^ (2 * i)) m ≡ set (levels_of word m) i (level_of word i - 1)
lowered word m i less some = set_level word (word - 2 ^ (2 * i)) m i (level_of word i - 1) less (taken_field word (2 * i) 2 some) (taken_others word (2 * i) 2 some)

pub levels_of_zero : (m : ℕ) → levels_of 0 m ≡ replicate m 0
levels_of_zero m =
    same_number_lists (levels_of 0 m) (replicate m 0) (length-levels_of 0 m ∙ sym (length-replicate m 0)) (λ i less.
    let lower : i < m = omega (arith, length-levels_of 0 m) in
    get_or-map-range_with_len (λ j. level_of 0 j) 0 m i i 0 lower (omega arith) ∙ zero_field (2 * i) 2 ∙ sym (get_or-replicate m i 0 0 lower))
