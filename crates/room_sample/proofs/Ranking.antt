-- The first one of the highest rank.
use Rattle.std.proofs.Common.{◌≡◌, ◌⊎◌, ◌∙◌, inl, inr, ℕ, ◌+◌, ◌<◌, ◌≤◌, List, length, Some, sym, ap, arith}
use Rattle.std.specs.Prelude.{slice_get}
use Rattle.std.proofs.lemmas.Bool.{cases_lt}
use Rattle.std.proofs.lemmas.Option.{slice_get_within}
use mathlib.Core.Logic.{dite}
use native.Mathlib.Decide.{ℕ_discrete}
use Rattle.room_sample.specs.Drawn.{IsFirstHighest}
use Rattle.room_sample.specs.declared.active.Active.{Active}

same_some : (a b : Active) → Some a ≡ Some b → a ≡ b
same_some a b is = cc

-- there is none so far; or it is here
abbrev pub IsThere : List Active → ℕ → ℕ → ℕ → Type 0
IsThere active count at rank = ((count ≡ 0) × (at ≡ 0) × (rank ≡ 0)) ⊎ ((one : Active) × (slice_get active at ≡ Some one) × (one.rank ≡ rank) × (at < count))

-- the first one of the highest rank, of so many
pub record IsHighestOf (active : List Active) (count at rank : ℕ) : Type 0 where
  pub there : IsThere active count at rank
  pub highest : (i : ℕ) (other : Active) → i < count → slice_get active i ≡ Some other → other.rank ≤ rank
  pub first : (i : ℕ) (other : Active) → i < count → slice_get active i ≡ Some other → other.rank ≡ rank → at ≤ i

pub none_yet : (active : List Active) → IsHighestOf active 0 0 0
none_yet active = record { there = inl (refl_of 0, refl_of 0, refl_of 0); highest = λ i other less there. absurd (omega (arith, less)); first = λ i other less there same. absurd (omega (arith, less)) }
  where
    refl_of : (n : ℕ) → n ≡ n
    refl_of n = cc

-- one of a higher rank
one_higher : (active : List Active) (count at rank at' rank' : ℕ) (one : Active) → IsHighestOf active count at rank → slice_get active count ≡ Some one → rank < one.rank → at' ≡ count → rank' ≡ one.rank → IsHighestOf active (count + 1) at' rank'
one_higher active count at rank at' rank' one is there more at_is rank_is = record {
  there = inr (one, ap (slice_get active) at_is ∙ there, sym rank_is, omega (arith, at_is));
  highest = λ i other less here.
      dite (ℕ_discrete i count)
      (λ (e : i ≡ count). let same = ap (λ (a : Active). a.rank) (same_some other one (sym here ∙ ap (slice_get active) e ∙ there)) in omega (arith, same, rank_is))
      (λ n. let low = is.highest i other (omega (arith, less, n)) here in omega (arith, low, more, rank_is));
  first = λ i other less here same.
      dite (ℕ_discrete i count)
      (λ (e : i ≡ count). omega (arith, e, at_is))
      (λ n. absurd (let low = is.highest i other (omega (arith, less, n)) here in omega (arith, low, more, rank_is, same)));
}

-- one of no higher rank
one_lower : (active : List Active) (count at rank at' rank' : ℕ) (one : Active) → IsHighestOf active count at rank → slice_get active count ≡ Some one → one.rank ≤ rank → at' ≡ at → rank' ≡ rank → IsHighestOf active (count + 1) at' rank'
one_lower active count at rank at' rank' one is there few at_is rank_is = record {
  there = elim is.there [
    | inl none ↦ inr (one, ap (slice_get active) (let zero_at : at' ≡ count = omega (arith, at_is, none.0, none.1) in zero_at) ∙ there, (let zero_rank : one.rank ≡ rank' = omega (arith, rank_is, few, none.2) in zero_rank), omega (arith, at_is, none.1))
    | inr some ↦ inr (some.0, ap (slice_get active) at_is ∙ some.1, some.2 ∙ sym rank_is, omega (arith, at_is, some.3))
  ];
  highest = λ i other less here.
      dite (ℕ_discrete i count)
      (λ (e : i ≡ count). let same = ap (λ (a : Active). a.rank) (same_some other one (sym here ∙ ap (slice_get active) e ∙ there)) in omega (arith, same, few, rank_is))
      (λ n. let low = is.highest i other (omega (arith, less, n)) here in omega (arith, low, rank_is));
  first = λ i other less here same.
      dite (ℕ_discrete i count)
      (λ (e : i ≡ count). let before = at_most in omega (arith, before, at_is, e))
      (λ n. let low = is.first i other (omega (arith, less, n)) here (same ∙ rank_is) in omega (arith, low, at_is));
}
  where
    at_most : at ≤ count
    at_most = elim is.there [
      | inl none ↦ omega (arith, none.1)
      | inr some ↦ omega (arith, some.3)
    ]

pub one_more_ranked : (active : List Active) (count at rank at' rank' : ℕ) (one : Active) → IsHighestOf active count at rank → slice_get active count ≡ Some one → (rank < one.rank → (at' ≡ count) × (rank' ≡ one.rank)) → (one.rank ≤ rank → (at' ≡ at) × (rank' ≡ rank)) → IsHighestOf active (count + 1) at' rank'
one_more_ranked active count at rank at' rank' one is there more same = elim (cases_lt rank one.rank) [
  | inl less ↦ one_higher active count at rank at' rank' one is there less (more less).0 (more less).1
  | inr few ↦ one_lower active count at rank at' rank' one is there few (same few).0 (same few).1
]

-- of all
pub first_of_all : (active : List Active) (at rank : ℕ) → 0 < length active → IsHighestOf active (length active) at rank → IsFirstHighest active at × (at < length active)
first_of_all active at rank some is = elim is.there [
  | inl none ↦ absurd (omega (arith, some, none.0))
  | inr here ↦ (
    record {
      one = here.0;
      there = here.1;
      highest = λ k other there. let low = is.highest k other (slice_get_within active k other there) there in omega (arith, low, here.2);
      first = λ k other there same. is.first k other (slice_get_within active k other there) there (same ∙ here.2);
    },
    slice_get_within active at here.0 here.1,
  )
]
