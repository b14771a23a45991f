-- What `resolved_of` finds, in the words of levels.
use Rattle.std.proofs.Common.{◌≡◌, ◌≢◌, ◌⊎◌, ◌↔◌, ℕ, ◌<◌, ◌≤◌, Bool, true, false, cond, not, eqb, inl, inr, suc, List, [], ◌∷◌, length, get_or, Option, Some, None, IfSome, IfNone, refl, sym, ap, ◌∙◌, arith}
use Rattle.std.specs.List.{position, position_or_len}
use Rattle.std.specs.Option.{is_some}
use Rattle.std.proofs.lemmas.Bool.{eqb-true, eqb-false, eq-eqb, ne_eqb, both_ways, cases_order, not-true, ltb-false}
use Rattle.std.proofs.lemmas.List.Folds.{list_any_at, list_any_none}
use Rattle.std.proofs.lemmas.List.Sums.{fails_before_first, prefix_len_passes}
use Rattle.std.proofs.lemmas.List.Quantifiers.{position-Some}
use Rattle.safe_agreement.specs.Levels.{has_level, IsResolved, IsResolvedTo, least_two, resolved_of}

-- ---- whether a level is there

pub has_level_at : (level : ℕ) (levels : List ℕ) (i : ℕ) → i < length levels → get_or levels i 0 ≡ level → has_level level levels ≡ true
has_level_at level levels i below is = list_any_at _ levels i 0 below (eq-eqb _ _ is)

pub no_level_at : (level : ℕ) (levels : List ℕ) (i : ℕ) → has_level level levels ≡ false → i < length levels → get_or levels i 0 ≢ level
no_level_at level levels i none below is = both_ways (has_level level levels) none (has_level_at level levels i below is)

pub no_level_from : (level : ℕ) (levels : List ℕ) → ((i : ℕ) → i < length levels → get_or levels i 0 ≢ level) → has_level level levels ≡ false
no_level_from level [] none = refl
no_level_from level (one ∷ levels) none = rw (ne_eqb one level (none 0 (omega arith))) (no_level_from level levels (λ i below. none (suc i) (omega arith)))

no_place : (b : Bool) (n : ℕ) → cond b (Some n) None ≡ None → b ≡ false
no_place true n is = absurd cc
no_place false n is = refl

-- where none passes, the place of the first is the list's end
pub none_within : {A : Type 0} (test : A → Bool) (list : List A) → position test list ≡ None → length list ≤ position_or_len test list
none_within test list is = ltb-false _ _ (no_place _ _ is)

-- by where the first at the level stands
pub some_level : (level : ℕ) (levels : List ℕ) (found : Option ℕ) → position (λ one. eqb one level) levels ≡ found → has_level level levels ≡ is_some found
some_level level levels (Some at) is =
    let place = position-Some (λ one. eqb one level) levels at 0 is in
    list_any_at (λ one. eqb one level) levels at 0 place.0 place.1
some_level level levels None is =
    let long : length levels ≤ position_or_len (λ one. eqb one level) levels = none_within _ levels is in
    list_any_none (λ one. eqb one level) levels (λ i d below. fails_before_first (λ one. eqb one level) levels i d (omega arith))

-- ---- the least simulator at level 2

pub record IsLeastTwo (levels : List ℕ) (simulator : ℕ) : Type 0 where
  pub below : simulator < length levels
  pub two : get_or levels simulator 0 ≡ 2
  pub least : (i : ℕ) → i < simulator → get_or levels i 0 ≢ 2

pub least_two_is : (levels : List ℕ) (simulator : ℕ) → least_two levels ≡ Some simulator → IsLeastTwo levels simulator
least_two_is levels simulator is =
    let place = position-Some (λ one. eqb one 2) levels simulator 0 is in
    record { below = place.0; two = eqb-true _ _ place.1; least = λ i before. eqb-false _ _ (place.2 i before) }

found_at : (levels : List ℕ) (place : Option ℕ) → least_two levels ≡ place → (i : ℕ) → i < length levels → get_or levels i 0 ≡ 2 → (k : ℕ) × (place ≡ Some k)
found_at levels (Some k) is i below two = (k, refl)
found_at levels None is i below two =
    let long : length levels ≤ position_or_len (λ one. eqb one 2) levels = none_within _ levels is in
    absurd (eqb-false _ _ (not-true _ (prefix_len_passes (λ one. not (eqb one 2)) levels i 0 (omega arith))) two)

pub least_two_found : (levels : List ℕ) (i : ℕ) → i < length levels → get_or levels i 0 ≡ 2 → (k : ℕ) × (least_two levels ≡ Some k)
least_two_found levels i below two = found_at levels (least_two levels) refl i below two

-- where two lists have the same 2s, the least is the same
pub record SameTwos (levels others : List ℕ) : Type 0 where
  pub length_is : length levels ≡ length others
  pub two_is : (i : ℕ) → i < length levels → (get_or levels i 0 ≡ 2) ↔ (get_or others i 0 ≡ 2)

same_by_order : (levels others : List ℕ) (i k : ℕ) → SameTwos levels others → IsLeastTwo levels i → IsLeastTwo others k → (i ≡ k) ⊎ ((i < k) ⊎ (k < i)) → i ≡ k
same_by_order levels others i k same at at' (inl e) = e
same_by_order levels others i k same at at' (inr (inl before)) = absurd (at'.least i before ((same.two_is i at.below).0 at.two))
same_by_order levels others i k same at at' (inr (inr before)) = absurd (at.least k before ((same.two_is k (let b = at'.below in let l = same.length_is in omega arith)).1 at'.two))

pub same_least : (levels others : List ℕ) (i k : ℕ) → SameTwos levels others → IsLeastTwo levels i → IsLeastTwo others k → i ≡ k
same_least levels others i k same at at' = same_by_order levels others i k same at at' (cases_order i k)

-- ---- a resolved agreement

guarded : (b : Bool) (place : Option ℕ) (i : ℕ) → cond b None place ≡ Some i → (b ≡ false) × (place ≡ Some i)
guarded true place i is = absurd cc
guarded false place i is = (refl, is)

pub resolved_to : (levels : List ℕ) (simulator : ℕ) → resolved_of levels ≡ Some simulator → IsResolvedTo levels simulator
resolved_to levels simulator is =
    let parts = guarded _ _ simulator is in
    let least = least_two_is levels simulator parts.1 in
    record { below = least.below; two = least.two; least = least.least; no_one = λ i below. no_level_at 1 levels i parts.0 below }

pub is_resolved_by : (levels : List ℕ) (simulator : ℕ) → IsResolvedTo levels simulator → IsResolved levels
is_resolved_by levels simulator to = record { simulator = simulator; below = to.below; two = to.two; no_one = to.no_one }

pub resolves_least : (levels : List ℕ) → IsResolved levels → resolved_of levels ≡ least_two levels
resolves_least levels resolved = rw (no_level_from 1 levels resolved.no_one) refl

pub resolves : (levels : List ℕ) → IsResolved levels → (k : ℕ) × (resolved_of levels ≡ Some k)
resolves levels resolved =
    let found = least_two_found levels resolved.simulator resolved.below resolved.two in
    (found.0, resolves_least levels resolved ∙ found.1)

pub resolved_from : (levels : List ℕ) (simulator : ℕ) → IsResolvedTo levels simulator → resolved_of levels ≡ Some simulator
resolved_from levels simulator to =
    let found = resolves levels (is_resolved_by levels simulator to) in
    let to' = resolved_to levels found.0 found.1 in
    let same = same_least levels levels found.0 simulator (record { length_is = refl; two_is = λ i below. (λ e. e, λ e. e) }) (record { below = to'.below; two = to'.two; least = to'.least }) (record { below = to.below; two = to.two; least = to.least }) in
    found.1 ∙ ap Some same

pub found_in : (levels : List ℕ) (result : Option ℕ) → result ≡ resolved_of levels → IfSome result (λ simulator. IsResolvedTo levels simulator)
found_in levels (Some simulator) is = resolved_to levels simulator (sym is)
found_in levels None is = tt

no_some : (i : ℕ) → ◌≡◌ {A = Option ℕ} None (Some i) → ⊥
no_some i is = cc

pub none_in : (levels : List ℕ) (result : Option ℕ) → result ≡ resolved_of levels → IfNone result (IsResolved levels → ⊥)
none_in levels (Some simulator) is = tt
none_in levels None is = λ resolved. let found = resolves levels resolved in no_some found.0 (is ∙ found.1)
