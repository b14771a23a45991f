-- Each load keeps what a reader knows, and two collects that are the same are the memory at one moment.
use Rattle.std.proofs.Common.{◌≡◌, ◌≢◌, ◌⊎◌, ℕ, ◌+◌, ◌*◌, ◌<◌, ◌≤◌, Bool, true, false, ltb, cond, inl, inr, refl, ap, arith}
use Rattle.std.specs.Prelude.{◌&&◌}
use Rattle.std.proofs.lemmas.Bool.{eq-eqb, ne_eqb, lt-ltb, ltb-true}
use mathlib.Core.Logic.{dite}
use native.Mathlib.Decide.{ℕ_discrete}
use Rattle.room_spec.specs.Sizes.{Sizes}
use Rattle.sim_memory.specs.Steps.{AreAtMost, AreSameSteps, AreWithin, with_part, word_of}
use Rattle.room_core.specs.Fields.{StepMap, same_steps}
use Rattle.room_core.proofs.moments.Collects.{Grows, HasCollected, IsCollecting, IsContent, is_last_collect, sum_of}
use Rattle.room_core.proofs.moments.Sums.{same_of, sum_rises, sum_within}

both_last : (a b : Bool) → a && b ≡ true → (a ≡ true) × (b ≡ true)
both_last true b is = (refl, is)
both_last false b is = absurd cc

-- a scan that has ended by its test ended with two equal collects
pub equal_collects : (sizes : Sizes) (collects : ℕ) (before collect : StepMap) → is_last_collect sizes collects before collect ≡ true → AreSameSteps sizes.m sizes.n collect before
equal_collects sizes collects before collect is = same_of sizes.m sizes.n collect before (both_last (ltb 0 collects) (same_steps sizes.m sizes.n collect before) is).1

-- ---- one word of a map

pub with_here : (sizes : Sizes) (word : ℕ) (source into : StepMap) (i p : ℕ) → word_of sizes i p ≡ word → with_part sizes word source into i p ≡ source i p
with_here sizes word source into i p e = ap (λ (b : Bool). cond b (source i p) (into i p)) (eq-eqb _ _ e)

pub with_else : (sizes : Sizes) (word : ℕ) (source into : StepMap) (i p : ℕ) → word_of sizes i p ≢ word → with_part sizes word source into i p ≡ into i p
with_else sizes word source into i p n = ap (λ (b : Bool). cond b (source i p) (into i p)) (ne_eqb _ _ n)

module _ (sizes : Sizes) (Ends : ℕ → Type 0) (at : ℕ → StepMap) (now : ℕ) where
  pub begins : (before snapshot : StepMap) → IsCollecting sizes Ends at now before snapshot 0 0
  begins before snapshot = record { loaded = λ i p below within less. absurd (omega arith); whole = inl refl }

  module _ (before snapshot : StepMap) (word collects : ℕ) (grows : Grows sizes at (now + 1)) (is : IsCollecting sizes Ends at now before snapshot word collects) where
    pub waits : IsCollecting sizes Ends at (now + 1) before snapshot word collects
    waits = record {
      loaded = λ i p below within less. omega (arith, is.loaded i p below within less, grows now (now + 1) (omega arith) (omega arith) i p below within);
      whole = by_whole is.whole;
    }
      where
        by_whole : (collects ≡ 0) ⊎ HasCollected sizes Ends at now before snapshot word collects → (collects ≡ 0) ⊎ HasCollected sizes Ends at (now + 1) before snapshot word collects
        by_whole (inl none) = inl none
        by_whole (inr has) = inr (record { time = has.time; early = omega (arith, has.early); ends = has.ends; below = has.below; above = has.above; risen = has.risen })

    pub collect : StepMap
    collect = with_part sizes word (at now) snapshot

    -- what has been loaded after this word is no more than the memory now
    most_now : (i p : ℕ) → i < sizes.m → p < sizes.n → word_of sizes i p < word + 1 → with_part sizes word (at now) snapshot i p ≤ at now i p
    most_now i p below within less = dite (ℕ_discrete (word_of sizes i p) word)
        (λ (e : word_of sizes i p ≡ word). omega (arith, with_here sizes word (at now) snapshot i p e))
        (λ (other : word_of sizes i p ≢ word). omega (arith, with_else sizes word (at now) snapshot i p other, is.loaded i p below within (omega arith)))

    -- and no less than the memory when the collect before ended
    least_then : (has : HasCollected sizes Ends at now before snapshot word collects) (i p : ℕ) → i < sizes.m → p < sizes.n → word_of sizes i p < word + 1 → at has.time i p ≤ with_part sizes word (at now) snapshot i p
    least_then has i p below within less = dite (ℕ_discrete (word_of sizes i p) word)
        (λ (e : word_of sizes i p ≡ word). omega (arith, with_here sizes word (at now) snapshot i p e, grows has.time now has.early (omega arith) i p below within))
        (λ (other : word_of sizes i p ≢ word). omega (arith, with_else sizes word (at now) snapshot i p other, has.above i p below within (omega arith)))

    pub loads : IsCollecting sizes Ends at (now + 1) before (with_part sizes word (at now) snapshot) (word + 1) collects
    loads = record {
      loaded = λ i p below within less. omega (arith, most_now i p below within less, grows now (now + 1) (omega arith) (omega arith) i p below within);
      whole = by_whole is.whole;
    }
      where
        by_whole : (collects ≡ 0) ⊎ HasCollected sizes Ends at now before snapshot word collects → (collects ≡ 0) ⊎ HasCollected sizes Ends at (now + 1) before (with_part sizes word (at now) snapshot) (word + 1) collects
        by_whole (inl none) = inl none
        by_whole (inr has) = inr (record { time = has.time; early = omega (arith, has.early); ends = has.ends; below = has.below; above = least_then has; risen = has.risen })

    -- ---- the last word

    module _ (words : ℕ) (words_are : (i p : ℕ) → i < sizes.m → p < sizes.n → word_of sizes i p < words) (last : word + 1 ≡ words) where
      all_now : AreAtMost sizes.m sizes.n (with_part sizes word (at now) snapshot) (at now)
      all_now i p below within = most_now i p below within (omega (arith, words_are i p below within))

      all_then : (has : HasCollected sizes Ends at now before snapshot word collects) → AreAtMost sizes.m sizes.n (at has.time) (with_part sizes word (at now) snapshot)
      all_then has i p below within = least_then has i p below within (omega (arith, words_are i p below within))

      not_last : (a b : Bool) → a ≡ true → a && b ≡ false → b ≡ false
      not_last true b one is' = is'
      not_last false b one is' = absurd cc

      risen_by : (whole : (collects ≡ 0) ⊎ HasCollected sizes Ends at now before snapshot word collects) → is_last_collect sizes collects before (with_part sizes word (at now) snapshot) ≡ false → collects ≤ sum_of sizes (with_part sizes word (at now) snapshot)
      risen_by (inl none) not = omega arith
      risen_by (inr has) not = dite (ℕ_discrete collects 0) (λ (e : collects ≡ 0). omega arith) (λ (other : collects ≢ 0). more (omega arith))
        where
          more : 0 < collects → collects ≤ sum_of sizes (with_part sizes word (at now) snapshot)
          more some =
              let differ = not_last (ltb 0 collects) _ (lt-ltb 0 collects some) not in
              let least : AreAtMost sizes.m sizes.n before (with_part sizes word (at now) snapshot) = λ i p below within. omega (arith, has.below i p below within, all_then has i p below within) in
              omega (arith, has.risen, sum_rises sizes before (with_part sizes word (at now) snapshot) least differ)

      pub collects_again : (More : ℕ → Type 0) → is_last_collect sizes collects before (with_part sizes word (at now) snapshot) ≡ false → More (now + 1) → IsCollecting sizes More at (now + 1) (with_part sizes word (at now) snapshot) (with_part sizes word (at now) snapshot) 0 (collects + 1)
      collects_again More not ends = record {
        loaded = λ i p below within less. absurd (omega arith);
        whole = inr (record {
          time = now + 1;
          early = omega arith;
          ends = ends;
          below = λ i p below within. omega (arith, all_now i p below within, grows now (now + 1) (omega arith) (omega arith) i p below within);
          above = λ i p below within less. absurd (omega arith);
          risen = omega (arith, risen_by is.whole not);
        });
      }

      content_by : (whole : (collects ≡ 0) ⊎ HasCollected sizes Ends at now before snapshot word collects) → is_last_collect sizes collects before (with_part sizes word (at now) snapshot) ≡ true → IsContent sizes Ends at now (with_part sizes word (at now) snapshot)
      content_by (inl none) equal = absurd (let some = ltb-true 0 collects (both_last _ _ equal).0 in omega arith)
      content_by (inr has) equal =
          let same = equal_collects sizes collects before (with_part sizes word (at now) snapshot) equal in
          record {
            time = has.time;
            early = has.early;
            ends = has.ends;
            same = λ i p below within. omega (arith, same i p below within, has.below i p below within, all_then has i p below within);
          }

      pub scans : is_last_collect sizes collects before (with_part sizes word (at now) snapshot) ≡ true → IsContent sizes Ends at now (with_part sizes word (at now) snapshot)
      scans = content_by is.whole

      pub scans_end : AreWithin sizes (at now) → sizes.m * sizes.n * sizes.rounds + 1 ≤ collects → is_last_collect sizes collects before (with_part sizes word (at now) snapshot) ≡ true
      scans_end inside many = by_last (is_last_collect sizes collects before (with_part sizes word (at now) snapshot)) refl
        where
          by_last : (b : Bool) → is_last_collect sizes collects before (with_part sizes word (at now) snapshot) ≡ b → b ≡ true
          by_last true is' = refl
          by_last false is' =
              let most = sum_within sizes (with_part sizes word (at now) snapshot) (λ i p below within. omega (arith, all_now i p below within, inside i p below within)) in
              let product : sizes.m * (sizes.n * sizes.rounds) ≡ sizes.m * sizes.n * sizes.rounds = grind arith in
              absurd (omega (arith, most, product, risen_by is.whole is', many))

pub rests : (sizes : Sizes) (Ends More : ℕ → Type 0) (at also : ℕ → StepMap) (now : ℕ) (before snapshot : StepMap) (word collects : ℕ) → ((t : ℕ) → t ≤ now → AreSameSteps sizes.m sizes.n (at t) (also t)) → ((t : ℕ) → t ≤ now → Ends t → More t)
    → IsCollecting sizes Ends at now before snapshot word collects → IsCollecting sizes More also now before snapshot word collects
rests sizes Ends More at also now before snapshot word collects same more is = record {
  loaded = λ i p below within less. omega (arith, is.loaded i p below within less, same now (omega arith) i p below within);
  whole = by_whole is.whole;
}
  where
    by_whole : (collects ≡ 0) ⊎ HasCollected sizes Ends at now before snapshot word collects → (collects ≡ 0) ⊎ HasCollected sizes More also now before snapshot word collects
    by_whole (inl none) = inl none
    by_whole (inr has) = inr (record {
      time = has.time;
      early = has.early;
      ends = more has.time has.early has.ends;
      below = λ i p below within. omega (arith, has.below i p below within, same has.time has.early i p below within);
      above = λ i p below within less. omega (arith, has.above i p below within less, same has.time has.early i p below within);
      risen = has.risen;
    })
