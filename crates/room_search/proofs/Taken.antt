-- Outcomes that were taken so far, each once.
use Rattle.std.proofs.Common.{◌≡◌, ◌⊎◌, ℕ, zero, suc, ◌<◌, get_or, inl, inr, Bool, true, false, cond, not, ◌||◌, List, [], ◌∷◌, ◌++◌, length, Some, refl, sym, ap, ◌∙◌, subst, arith}
use Rattle.std.specs.Prelude.{slice_get}
use Rattle.std.specs.List.{Contains, IsDistinct, list_any}
use Rattle.std.specs.Cmp.Lexicographic.{pointwise}
use Rattle.std.proofs.lemmas.Bool.{and_from, and_parts, cases_lt, cases_order, eqb-true, not-true, not-false, true≢false}
use Rattle.std.proofs.lemmas.List.{length_push}
use Rattle.std.proofs.lemmas.List.Elements.{Contains-append_left, Contains-push, Contains-push_cases}
use Rattle.std.proofs.lemmas.Map.Keys.{apart_from_distinct}
use Rattle.std.proofs.lemmas.Option.{get_or_from_slice_get, same_Some, slice_get_within}
use Rattle.indexmap.specs.IndexSet.{insert_key}
use Rattle.transcript.proofs.CallerLemmas.{same, slice_get-append, slice_get-push}
use Rattle.run_search.specs.declared.ended.Ended.{Ended}
use Rattle.run_search.specs.declared.ended.Ended.TheVariants.{Decided, Spent, Stopped}
use Rattle.run_search.specs.contracts.ended.EndedPartialEq.TheImpl.{ghosts}
use Rattle.run_search.specs.Outcomes.{Ends}
use Rattle.room_search.specs.declared.reached.Reached.{Reached}
use Rattle.room_search.specs.Reaching.{IsFound, outcome_of}
use Rattle.room_search.specs.Taking.{AreKept}

-- ---- what `==` says of outcomes

same_ended : (a b : Ended) → ghosts.eq a b ≡ true → a ≡ b
same_ended (Decided v) (Decided w) h = ap Decided (eqb-true v w h)
same_ended Spent Spent h = refl
same_ended Stopped Stopped h = refl
same_ended a b h = absurd cc

own_ended : (a : Ended) → ghosts.eq a a ≡ true
own_ended (Decided v) = same v
own_ended Spent = refl
own_ended Stopped = refl

same_items : (a b : List Ended) → pointwise ghosts.eq a b ≡ true → a ≡ b
same_items [] [] h = refl
same_items [] (y ∷ ys) h = absurd cc
same_items (x ∷ xs) [] h = absurd cc
same_items (x ∷ xs) (y ∷ ys) h =
    let parts = and_parts (ghosts.eq x y) (pointwise ghosts.eq xs ys) h in
    let head = same_ended x y parts.0 in
    let tail = same_items xs ys parts.1 in
    cc

own_items : (a : List Ended) → pointwise ghosts.eq a a ≡ true
own_items [] = refl
own_items (x ∷ xs) = and_from (ghosts.eq x x) (pointwise ghosts.eq xs xs) (own_ended x) (own_items xs)

abbrev pub are_ends : Ends → Ends → Bool
are_ends one other = pointwise ghosts.eq one.items other.items

ends_by : (a b : Ends) → a.items ≡ b.items → a ≡ b
ends_by a b same_list = ap (λ (items : List Ended). let ends : Ends = record { items = items } in ends) same_list

-- ---- what a list has

pub item_there : {A : Type 0} (list : List A) (index : ℕ) → index < length list → (one : A) × (slice_get list index ≡ Some one)
item_there [] index below = absurd (omega (arith, below))
item_there (one ∷ list) zero below = (one, refl)
item_there (one ∷ list) (suc index) below = item_there list index (omega (arith, below))

pub has_item : {A : Type 0} (list : List A) (index : ℕ) (one : A) → slice_get list index ≡ Some one → Contains list one
has_item list index one there = (index, slice_get_within list index one there, get_or_from_slice_get list index one one there)

pub last_case : {A : Type 0} (old new : List A) (one other : A) → new ≡ old ++ one ∷ [] → Contains new other → Contains old other ⊎ (one ≡ other)
last_case old new one other is there = Contains-push_cases old one other (subst (λ (l : List _). Contains l other) is there)

pub still_there : {A : Type 0} (old new : List A) (one other : A) → new ≡ old ++ one ∷ [] → Contains old other → Contains new other
still_there old new one other is there = subst (λ (l : List _). Contains l other) (sym is) (Contains-append_left old (one ∷ []) other there)

-- ---- one outcome more

pub ends_new : (old new : List Ends) (ends : Ends) (added : Bool) → new ≡ insert_key are_ends old ends → added ≡ true → added ≡ not (list_any (are_ends ends) old) → new ≡ old ++ ends ∷ []
ends_new old new ends added new_is fresh is = new_is ∙ ap (λ (b : Bool). cond b old (old ++ ends ∷ [])) (not-true (list_any (are_ends ends) old) (sym is ∙ fresh))

pub ends_old : (old new : List Ends) (ends : Ends) (added : Bool) → new ≡ insert_key are_ends old ends → added ≡ false → added ≡ not (list_any (are_ends ends) old) → new ≡ old
ends_old old new ends added new_is known is = new_is ∙ ap (λ (b : Bool). cond b old (old ++ ends ∷ [])) (not-false (list_any (are_ends ends) old) (sym is ∙ known))

pub kept_push : (ends : List Ends) (outcomes : List Reached) (one : Ends) (reached : Reached) → one.items ≡ outcome_of reached → AreKept ends outcomes → AreKept (ends ++ one ∷ []) (outcomes ++ reached ∷ [])
kept_push ends outcomes one reached is kept =
    let count = kept.count in record {
      count = let long = length_push outcomes reached in let more = length_push ends one in omega (arith, long, more, count);
      each = λ index other last at_ends at_outcomes. elim (cases_lt index (length ends)) [
        | inl below ↦
            kept.each index other last (sym (slice_get-append ends (one ∷ []) index below) ∙ at_ends)
            (sym (slice_get-append outcomes (reached ∷ []) index (omega (arith, below, count))) ∙ at_outcomes)
        | inr past ↦
            let inside = slice_get_within (ends ++ one ∷ []) index other at_ends in
            let long = length_push ends one in
            let at : length ends ≡ index = omega (arith, past, inside, long) in
            let place : length outcomes ≡ index = omega (arith, at, count) in
            let one_is = same_Some one other (sym (slice_get-push ends one) ∙ ap (slice_get (ends ++ one ∷ [])) at ∙ at_ends) in
            let reached_is = same_Some reached last (sym (slice_get-push outcomes reached) ∙ ap (slice_get (outcomes ++ reached ∷ [])) place ∙ at_outcomes) in
            ap (λ (e : Ends). e.items) (sym one_is) ∙ is ∙ ap outcome_of reached_is
      ];
    }

-- an outcome that is there is found
pub found_there : (ends : List Ends) (outcomes : List Reached) (index : ℕ) (one stored : Ends) → AreKept ends outcomes → slice_get ends index ≡ Some stored → are_ends one stored ≡ true → IsFound outcomes one.items
found_there ends outcomes index one stored kept there equal =
    let inside = slice_get_within ends index stored there in
    let count = kept.count in
    let at = item_there outcomes index (omega (arith, inside, count)) in
    (at.0, has_item outcomes index at.0 at.1, same_items one.items stored.items equal ∙ kept.each index stored at.0 there at.1)

pub found_last : (old new : List Reached) (reached : Reached) (outcome : List Ended) → new ≡ old ++ reached ∷ [] → outcome ≡ outcome_of reached → IsFound new outcome
found_last old new reached outcome is outcome_is = (reached, subst (λ (l : List Reached). Contains l reached) (sym is) (Contains-push old reached), outcome_is)

-- ---- no outcome is there twice

apart : (ends : List Ends) (i j : ℕ) (x : Ends) → IsDistinct are_ends ends → i < j → slice_get ends i ≡ Some x → slice_get ends j ≡ Some x → ⊥
apart ends i j x distinct before first second =
    let no = apart_from_distinct are_ends ends i j x distinct before (slice_get_within ends j x second) in
    let same_one : get_or ends j x ≡ get_or ends i x = get_or_from_slice_get ends j x x second ∙ sym (get_or_from_slice_get ends i x x first) in
    true≢false (sym (own_items (get_or ends i x).items) ∙ ap (are_ends (get_or ends i x)) (sym same_one) ∙ no)

pub once : (ends : List Ends) (outcomes : List Reached) → AreKept ends outcomes → IsDistinct are_ends ends → (i j : ℕ) (one other : Reached) → slice_get outcomes i ≡ Some one → slice_get outcomes j ≡ Some other → outcome_of one ≡ outcome_of other → i ≡ j
once ends outcomes kept distinct i j one other first second alike =
    let count = kept.count in
    let inside = slice_get_within outcomes i one first in
    let within = slice_get_within outcomes j other second in
    let at = item_there ends i (omega (arith, inside, count)) in
    let next = item_there ends j (omega (arith, within, count)) in
    let same_one : at.0 ≡ next.0 = ends_by at.0 next.0 (kept.each i at.0 one at.1 first ∙ alike ∙ sym (kept.each j next.0 other next.1 second)) in
    elim (cases_order i j) [
      | inl equal ↦ equal
      | inr differ ↦ elim differ [
        | inl before ↦ absurd (apart ends i j next.0 distinct before (at.1 ∙ ap Some same_one) next.1)
        | inr after ↦ absurd (apart ends j i next.0 distinct after next.1 (at.1 ∙ ap Some same_one))
      ]
    ]

-- ---- an outcome that is there

any_there : (ends : List Ends) (one : Ends) → list_any (are_ends one) ends ≡ true → (index : ℕ) × (stored : Ends) × (slice_get ends index ≡ Some stored) × (are_ends one stored ≡ true)
any_there [] one found = absurd (true≢false (sym found))
any_there (first ∷ ends) one found = by (are_ends one first) refl (any_there ends one) found
  where
    by : (b : Bool) → are_ends one first ≡ b → (list_any (are_ends one) ends ≡ true → (index : ℕ) × (stored : Ends) × (slice_get ends index ≡ Some stored) × (are_ends one stored ≡ true)) → (b || list_any (are_ends one) ends) ≡ true
        → (index : ℕ) × (stored : Ends) × (slice_get (first ∷ ends) index ≡ Some stored) × (are_ends one stored ≡ true)
    by true is rest there = (0, first, refl, is)
    by false is rest there = let later = rest there in (suc later.0, later.1, later.2, later.3)

pub found_any : (ends : List Ends) (outcomes : List Reached) (one : Ends) → AreKept ends outcomes → list_any (are_ends one) ends ≡ true → IsFound outcomes one.items
found_any ends outcomes one kept found = let at = any_there ends one found in found_there ends outcomes at.0 one at.1 kept at.2 at.3
