-- Points put into a list by their times: it rises, and has just those that were put there.
use Rattle.std.proofs.Common.{◌≡◌, ◌⊎◌, ℕ, ◌<◌, List, [], ◌∷◌, map, fold, Contains, inl, inr, refl, sym, ap, ◌∙◌, subst, arith}
use Rattle.std.proofs.Common.{Ordering, Less, Equal, Greater}
use Rattle.std.specs.Ordering.{MatchOrdering, match_ordering, nat_cmp}
use Rattle.std.proofs.lemmas.Cmp.{ranked}
use Rattle.transcript.specs.declared.event.Event.{Event}
use Rattle.ws_history.specs.Histories.{Source}
use Rattle.ws_history.specs.Linearizations.{IsRisingInTime, Timed, event_of, timed_event}
use Rattle.ws_history.specs.Ordered.{put_event}
use Rattle.ws_history.proofs.Order.{not_empty, cons_cases, cons_first, cons_rest}

-- the second at the time of the first
abbrev at_time : Timed → Timed → Timed
at_time y x = record { time = y.time; point = x.point }

abbrev pub placed : List Timed → Timed → List Timed
placed [] x = x ∷ []
placed (y ∷ rest) x = match_ordering (nat_cmp x.time y.time) (x ∷ y ∷ rest) (at_time y x ∷ rest) (y ∷ placed rest x)

-- how their times stand to each other
abbrev Stand : Timed → Timed → Ordering → Type 0
Stand x y o = MatchOrdering o (x.time < y.time) (x.time ≡ y.time) (y.time < x.time)

stand : (x y : Timed) → Stand x y (nat_cmp x.time y.time)
stand x y = ranked x.time y.time (nat_cmp x.time y.time) refl

at_same : (x y : Timed) → x.time ≡ y.time → x ≡ at_time y x
at_same x y same = ap (λ (t : ℕ). record { time = t; point = x.point }) same

-- ---- their events

events_by : (src : Source) (x y : Timed) (rest behind : List Timed) (events : List (ℕ × Event)) (o : Ordering) → events ≡ map (timed_event src) behind
    → match_ordering o (timed_event src x ∷ map (timed_event src) (y ∷ rest)) ((y.time, event_of src x.point) ∷ map (timed_event src) rest) (timed_event src y ∷ events) ≡ map (timed_event src) (match_ordering o (x ∷ y ∷ rest) (at_time y x ∷ rest) (y ∷ behind))
events_by src x y rest behind events Less same = refl
events_by src x y rest behind events Equal same = refl
events_by src x y rest behind events Greater same = ap (λ (l : List (ℕ × Event)). timed_event src y ∷ l) same

events_placed : (src : Source) (ys : List Timed) (x : Timed) → put_event src (map (timed_event src) ys) x ≡ map (timed_event src) (placed ys x)
events_placed src [] x = refl
events_placed src (y ∷ rest) x = events_by src x y rest (placed rest x) (put_event src (map (timed_event src) rest) x) (nat_cmp x.time y.time) (events_placed src rest x)

pub events_folded : (src : Source) (xs done : List Timed) → fold (put_event src) (map (timed_event src) done) xs ≡ map (timed_event src) (fold placed done xs)
events_folded src [] done = refl
events_folded src (x ∷ xs) done =
    ap (λ (l : List (ℕ × Event)). fold (put_event src) l xs) (events_placed src done x) ∙ events_folded src xs (placed done x)

-- ---- which they are

from_by : (x y z : Timed) (rest behind : List Timed) (o : Ordering) → Stand x y o → (Contains behind z → (x ≡ z) ⊎ Contains rest z)
    → Contains (match_ordering o (x ∷ y ∷ rest) (at_time y x ∷ rest) (y ∷ behind)) z → (x ≡ z) ⊎ Contains (y ∷ rest) z
from_by x y z rest behind Less at more has = cons_cases x (y ∷ rest) z has
from_by x y z rest behind Equal at more has = elim (cons_cases (at_time y x) rest z has) [ inl is ↦ inl (at_same x y at ∙ is) | inr later ↦ inr (cons_rest y rest z later) ]
from_by x y z rest behind Greater at more has = elim (cons_cases y behind z has) [
  | inl is ↦ inr (subst (Contains (y ∷ rest)) is (cons_first y rest))
  | inr later ↦ elim (more later) [ inl new ↦ inl new | inr old ↦ inr (cons_rest y rest z old) ]
]

from_placed : (ys : List Timed) (x z : Timed) → Contains (placed ys x) z → (x ≡ z) ⊎ Contains ys z
from_placed [] x z has = cons_cases x [] z has
from_placed (y ∷ rest) x z has = from_by x y z rest (placed rest x) (nat_cmp x.time y.time) (stand x y) (from_placed rest x z) has

pub from_folded : (xs done : List Timed) (z : Timed) → Contains (fold placed done xs) z → Contains done z ⊎ Contains xs z
from_folded [] done z has = inl has
from_folded (x ∷ xs) done z has = elim (from_folded xs (placed done x) z has) [
  | inl there ↦ elim (from_placed done x z there) [ inl is ↦ inr (subst (Contains (x ∷ xs)) is (cons_first x xs)) | inr old ↦ inl old ]
  | inr more ↦ inr (cons_rest x xs z more)
]

-- where two of one time are one
to_by : (x y z : Timed) (rest behind : List Timed) (o : Ordering) → Stand x y o → (x.time ≡ y.time → x ≡ y) → ((x ≡ z) ⊎ Contains rest z → Contains behind z)
    → (x ≡ z) ⊎ Contains (y ∷ rest) z → Contains (match_ordering o (x ∷ y ∷ rest) (at_time y x ∷ rest) (y ∷ behind)) z
to_by x y z rest behind Less at one more (inl is) = subst (Contains (x ∷ y ∷ rest)) is (cons_first x (y ∷ rest))
to_by x y z rest behind Less at one more (inr old) = cons_rest x (y ∷ rest) z old
to_by x y z rest behind Equal at one more (inl is) = subst (Contains (at_time y x ∷ rest)) (sym (at_same x y at) ∙ is) (cons_first (at_time y x) rest)
to_by x y z rest behind Equal at one more (inr old) = elim (cons_cases y rest z old) [
  | inl is ↦ subst (Contains (at_time y x ∷ rest)) (sym (at_same x y at) ∙ one at ∙ is) (cons_first (at_time y x) rest)
  | inr later ↦ cons_rest (at_time y x) rest z later
]
to_by x y z rest behind Greater at one more (inl is) = cons_rest y behind z (more (inl is))
to_by x y z rest behind Greater at one more (inr old) = elim (cons_cases y rest z old) [
  | inl is ↦ subst (Contains (y ∷ behind)) is (cons_first y behind)
  | inr later ↦ cons_rest y behind z (more (inr later))
]

module _ (P : Timed → Type 0) (apart : (x y : Timed) → P x → P y → x.time ≡ y.time → x ≡ y) where
  to_placed : (ys : List Timed) (x z : Timed) → P x → ((y : Timed) → Contains ys y → P y) → (x ≡ z) ⊎ Contains ys z → Contains (placed ys x) z
  to_placed [] x z here all (inl is) = subst (Contains (x ∷ [])) is (cons_first x [])
  to_placed [] x z here all (inr none) = absurd (not_empty z none)
  to_placed (y ∷ rest) x z here all has =
      to_by x y z rest (placed rest x) (nat_cmp x.time y.time) (stand x y) (apart x y here (all y (cons_first y rest))) (to_placed rest x z here (λ u there. all u (cons_rest y rest u there))) has

  pub to_folded : (xs done : List Timed) (z : Timed) → ((y : Timed) → Contains done y → P y) → ((y : Timed) → Contains xs y → P y) → Contains done z ⊎ Contains xs z → Contains (fold placed done xs) z
  to_folded [] done z before all (inl has) = has
  to_folded [] done z before all (inr none) = absurd (not_empty z none)
  to_folded (x ∷ xs) done z before all has =
      to_folded xs (placed done x) z
      (λ y there. elim (from_placed done x y there) [ inl is ↦ subst P is (all x (cons_first x xs)) | inr old ↦ before y old ])
      (λ y there. all y (cons_rest x xs y there))
      (by_case has)
    where
      by_case : Contains done z ⊎ Contains (x ∷ xs) z → Contains (placed done x) z ⊎ Contains xs z
      by_case (inl old) = inl (to_placed done x z (all x (cons_first x xs)) before (inr old))
      by_case (inr new) = elim (cons_cases x xs z new) [
        | inl is ↦ inl (to_placed done x z (all x (cons_first x xs)) before (inl is))
        | inr later ↦ inr later
      ]

-- ---- in rising order

rising_by : (x y : Timed) (rest behind : List Timed) (o : Ordering) → Stand x y o → IsRisingInTime (y ∷ rest) → IsRisingInTime behind → ((z : Timed) → Contains behind z → (x ≡ z) ⊎ Contains rest z)
    → IsRisingInTime (match_ordering o (x ∷ y ∷ rest) (at_time y x ∷ rest) (y ∷ behind))
rising_by x y rest behind Less at rising after from = (
  λ z has. elim (cons_cases y rest z has) [ inl is ↦ subst (λ (u : Timed). x.time < u.time) is at | inr more ↦ let later = rising.0 z more in omega (arith, at, later) ],
  rising,
)
rising_by x y rest behind Equal at rising after from = (λ z has. rising.0 z has, rising.1)
rising_by x y rest behind Greater at rising after from = (
  λ z has. elim (from z has) [ inl is ↦ subst (λ (u : Timed). y.time < u.time) is at | inr more ↦ rising.0 z more ],
  after,
)

rising_placed : (ys : List Timed) (x : Timed) → IsRisingInTime ys → IsRisingInTime (placed ys x)
rising_placed [] x rising = (λ z has. absurd (not_empty z has), tt)
rising_placed (y ∷ rest) x rising = rising_by x y rest (placed rest x) (nat_cmp x.time y.time) (stand x y) rising (rising_placed rest x rising.1) (from_placed rest x)

pub rising_folded : (xs done : List Timed) → IsRisingInTime done → IsRisingInTime (fold placed done xs)
rising_folded [] done rising = rising
rising_folded (x ∷ xs) done rising = rising_folded xs (placed done x) (rising_placed done x rising)
