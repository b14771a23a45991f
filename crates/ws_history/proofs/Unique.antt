-- Any list that has what takes effect, in the order of time, is the linearization.
use Rattle.std.proofs.Common.{◌≡◌, ◌↔◌, ℕ, zero, suc, ◌<◌, ◌≤◌, List, [], ◌∷◌, ◌++◌, length, map, Contains, refl, sym, ap, ◌∙◌, subst, arith, inl, inr, append-nil}
use Rattle.std.proofs.lemmas.Bool.{cases_lt}
use Rattle.std.proofs.lemmas.List.{map-append}
use Rattle.std.proofs.lemmas.List.Elements.{Contains-append_left, Contains-append_right, Contains-append_cases}
use Rattle.transcript.specs.declared.event.Event.{Event}
use Rattle.room_spec.specs.Rooms.{RoomSpec}
use Rattle.room_core.specs.Rooms.{ScheduleEvent}
use Rattle.room_core.specs.Fields.{Fields}
use Rattle.room_core.specs.Points.{Point, TakesEffect, AreEffects, no_effect, one_effect}
use Rattle.ws_history.specs.Histories.{Source}
use Rattle.ws_history.specs.Linearizations.{Timed, IsRisingInTime, IsLinearization, event_of, events_before}
use Rattle.ws_history.proofs.Order.{not_empty, cons_cases, cons_first, cons_rest}

-- ---- rising lists

same_head : (x y : Timed) (xs ys : List Timed) → IsRisingInTime (x ∷ xs) → IsRisingInTime (y ∷ ys) → ((z : Timed) → Contains (x ∷ xs) z ↔ Contains (y ∷ ys) z) → x ≡ y
same_head x y xs ys rising rising' same = elim (cons_cases y ys x ((same x).0 (cons_first x xs))) [
  | inl is ↦ sym is
  | inr later ↦ elim (cons_cases x xs y ((same y).1 (cons_first y ys))) [
    | inl is ↦ is
    | inr later' ↦ let less = rising'.0 x later in let more = rising.0 y later' in absurd (omega (arith, less, more))
  ]
]

-- two that have the same in them are one
pub same_rising : (xs ys : List Timed) → IsRisingInTime xs → IsRisingInTime ys → ((z : Timed) → Contains xs z ↔ Contains ys z) → xs ≡ ys
same_rising [] [] rising rising' same = refl
same_rising [] (y ∷ ys) rising rising' same = absurd (not_empty y ((same y).1 (cons_first y ys)))
same_rising (x ∷ xs) [] rising rising' same = absurd (not_empty x ((same x).0 (cons_first x xs)))
same_rising (x ∷ xs) (y ∷ ys) rising rising' same =
    let head = same_head x y xs ys rising rising' same in
    let tail : xs ≡ ys = same_rising xs ys rising.1 rising'.1 (λ z. (
      λ has. elim (cons_cases y ys z ((same z).0 (cons_rest x xs z has))) [
        | inl is ↦ let less = rising.0 z has in let e : x.time ≡ z.time = ap (λ (t : Timed). t.time) (head ∙ is) in absurd (omega (arith, less, e))
        | inr there ↦ there
      ],
      λ has. elim (cons_cases x xs z ((same z).1 (cons_rest y ys z has))) [
        | inl is ↦ let less = rising'.0 z has in let e : y.time ≡ z.time = ap (λ (t : Timed). t.time) (sym head ∙ is) in absurd (omega (arith, less, e))
        | inr there ↦ there
      ],
    )) in
    ap (λ (t : Timed). t ∷ xs) head ∙ ap (λ (l : List Timed). y ∷ l) tail

rising_push : (xs : List Timed) (x : Timed) → IsRisingInTime xs → ((y : Timed) → Contains xs y → y.time < x.time) → IsRisingInTime (xs ++ x ∷ [])
rising_push [] x rising before = (λ y has. absurd (not_empty y has), tt)
rising_push (first ∷ xs) x rising before = (
  λ y has. elim (Contains-append_cases xs (x ∷ []) y has) [
    | inl old ↦ rising.0 y old
    | inr new ↦ elim (cons_cases x [] y new) [
      | inl is ↦ subst (λ (t : Timed). first.time < t.time) is (before first (cons_first first xs))
      | inr none ↦ absurd (not_empty y none)
    ]
  ],
  rising_push xs x rising.1 (λ y has. before y (cons_rest first xs y has)),
)

-- ---- the points of all times

abbrev at_that : ℕ → Point → Timed
at_that time point = record { time = time; point = point }

pub timed_before : (ℕ → List Point) → ℕ → List Timed
timed_before at zero = []
timed_before at (suc time) = timed_before at time ++ map (at_that time) (at time)

module _ (spec : RoomSpec) (schedule : List ScheduleEvent) (final : Fields) (at : ℕ → List Point) where
  -- those of one time
  one_has : (time : ℕ) (points : List Point) (z : Timed) → AreEffects spec schedule final time points → Contains (map (at_that time) points) z → (z.time ≡ time) × TakesEffect spec schedule final z.time z.point
  one_has time points z (no_effect none) has = absurd (not_empty z has)
  one_has time points z (one_effect point takes alone) has = elim (cons_cases (at_that time point) [] z has) [
    | inl is ↦ (sym (ap (λ (t : Timed). t.time) is), subst (λ (t : Timed). TakesEffect spec schedule final t.time t.point) is takes)
    | inr none ↦ absurd (not_empty z none)
  ]

  one_is : (time : ℕ) (points : List Point) (point : Point) → AreEffects spec schedule final time points → TakesEffect spec schedule final time point → Contains (map (at_that time) points) (at_that time point)
  one_is time points point (no_effect none) takes = absurd (none point takes)
  one_is time points point (one_effect first takes' alone) takes =
      subst (λ (p : Point). Contains (at_that time p ∷ []) (at_that time point)) (alone point takes) (cons_first (at_that time point) [])

  -- the next one is later
  one_more : (time : ℕ) (points : List Point) (before : List Timed) → AreEffects spec schedule final time points → IsRisingInTime before → ((y : Timed) → Contains before y → y.time < time) → IsRisingInTime (before ++ map (at_that time) points)
  one_more time points before (no_effect none) rising earlier = rw append-nil rising
  one_more time points before (one_effect point takes alone) rising earlier = rising_push before (at_that time point) rising earlier

  module _ (effects : (time : ℕ) → time < (length schedule) → AreEffects spec schedule final time (at time)) where
    has_of : (time : ℕ) → time ≤ (length schedule) → (z : Timed) → Contains (timed_before at time) z → (z.time < time) × TakesEffect spec schedule final z.time z.point
    unfolding timed_before
    has_of zero early z has = absurd (not_empty z has)
    has_of (suc time) early z has = elim (Contains-append_cases (timed_before at time) (map (at_that time) (at time)) z has) [
      | inl old ↦ let more = has_of time (omega arith) z old in let less = more.0 in (omega (arith, less), more.1)
      | inr new ↦ let more = one_has time (at time) z (effects time (omega arith)) new in let same = more.0 in (omega (arith, same), more.1)
    ]

    is_of : (time : ℕ) → time ≤ (length schedule) → (z : Timed) → z.time < time → TakesEffect spec schedule final z.time z.point → Contains (timed_before at time) z
    unfolding timed_before
    is_of zero early z less takes = absurd (omega (arith, less))
    is_of (suc time) early z less takes = elim (cases_lt z.time time) [
      | inl before ↦ Contains-append_left (timed_before at time) (map (at_that time) (at time)) z (is_of time (omega arith) z before takes)
      | inr late ↦
          let now : z.time ≡ time = omega (arith, less, late) in
          Contains-append_right (timed_before at time) (map (at_that time) (at time)) z
          (subst (λ (t : ℕ). Contains (map (at_that t) (at t)) z) now (one_is z.time (at z.time) z.point (effects z.time (omega (arith, less, early))) takes))
    ]

    rising_of : (time : ℕ) → time ≤ (length schedule) → IsRisingInTime (timed_before at time)
    unfolding timed_before
    rising_of zero early = tt
    rising_of (suc time) early = one_more time (at time) (timed_before at time) (effects time (omega arith)) (rising_of time (omega arith)) (λ y has. (has_of time (omega arith) y has).0)

    pub is_one : IsLinearization spec schedule final (timed_before at (length schedule))
    is_one = record {
      rising = rising_of (length schedule) (omega arith);
      exact = λ z. (λ has. has_of (length schedule) (omega arith) z has, λ both. is_of (length schedule) (omega arith) z both.0 both.1);
    }

    -- and there is no other
    pub only_one : (points : List Timed) → IsLinearization spec schedule final points → points ≡ timed_before at (length schedule)
    only_one points is =
        let all = is_one in
        same_rising points (timed_before at (length schedule)) is.rising all.rising
        (λ z. (λ has. (all.exact z).1 ((is.exact z).0 has), λ has. (is.exact z).1 ((all.exact z).0 has)))

-- ---- their events

events_once : (src : Source) (time : ℕ) (points : List Point) → map (λ (z : Timed). event_of src z.point) (map (at_that time) points) ≡ map (event_of src) points
events_once src time [] = refl
events_once src time (point ∷ points) = ap (λ (l : List Event). event_of src point ∷ l) (events_once src time points)

pub events_are : (src : Source) (at : ℕ → List Point) (time : ℕ) → map (λ (z : Timed). event_of src z.point) (timed_before at time) ≡ events_before (λ t. map (event_of src) (at t)) time
unfolding timed_before
events_are src at zero = refl
events_are src at (suc time) =
    map-append (λ (z : Timed). event_of src z.point) (timed_before at time) (map (at_that time) (at time))
    ∙ ap (λ (l : List Event). l ++ map (λ (z : Timed). event_of src z.point) (map (at_that time) (at time))) (events_are src at time)
    ∙ ap (λ (l : List Event). events_before (λ t. map (event_of src) (at t)) time ++ l) (events_once src time (at time))
