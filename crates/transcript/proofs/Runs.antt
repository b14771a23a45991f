-- Runs, one event longer.
use Rattle.std.proofs.Common.{◌≡◌, ℕ, zero, suc, ◌<◌, List, [], ◌∷◌, ◌++◌, length, take, Some, refl, sym, ap, ◌∙◌, subst, arith, inl, inr}
use Rattle.std.specs.Prelude.{slice_get}
use Rattle.std.proofs.lemmas.Bool.{cases_lt}
use Rattle.std.proofs.lemmas.List.{take-append-le, take_all, length_push}
use Rattle.std.proofs.lemmas.Option.{slice_get_within}
use Rattle.room_spec.specs.Rooms.{RoomSpec}
use Rattle.transcript.specs.declared.event.Event.{Event}
use Rattle.transcript.specs.Runs.{IsEnabled, IsRun}

pub IsRun-nil : (spec : RoomSpec) → IsRun spec []
IsRun-nil spec t event is = absurd cc

pub slice_get-append : {X : Type 0} (xs ys : List X) (i : ℕ) → i < length xs → slice_get (xs ++ ys) i ≡ slice_get xs i
slice_get-append [] ys i below = absurd (omega arith)
slice_get-append (x ∷ xs) ys zero below = refl
slice_get-append (x ∷ xs) ys (suc i) below = slice_get-append xs ys i (omega arith)

pub slice_get-push : {X : Type 0} (xs : List X) (y : X) → slice_get (xs ++ y ∷ []) (length xs) ≡ Some y
slice_get-push [] y = refl
slice_get-push (x ∷ xs) y = slice_get-push xs y

pub slice_get-take : (xs : List Event) (n i : ℕ) → i < n → slice_get (take n xs) i ≡ slice_get xs i
slice_get-take xs zero i below = absurd (omega arith)
slice_get-take [] (suc n) i below = refl
slice_get-take (x ∷ xs) (suc n) zero below = refl
slice_get-take (x ∷ xs) (suc n) (suc i) below = slice_get-take xs n i (omega arith)

pub take-push : (xs : List Event) (y : Event) → take (length xs) (xs ++ y ∷ []) ≡ xs
take-push xs y = take-append-le (length xs) xs (y ∷ []) (omega arith) ∙ take_all (length xs) xs (omega arith)

some_is : (x y : Event) → Some x ≡ Some y → x ≡ y
some_is x y h = cc

-- a run with one more event that may follow is a run
pub IsRun-push : (spec : RoomSpec) (history : List Event) (event : Event) → IsRun spec history → IsEnabled spec history event → IsRun spec (history ++ event ∷ [])
IsRun-push spec history event run may t x is = elim (cases_lt t (length history)) [
  | inl below ↦ rw (take-append-le t history (event ∷ []) (omega arith)) (run t x (sym (slice_get-append history (event ∷ []) t below) ∙ is))
  | inr past ↦
      let within = slice_get_within (history ++ event ∷ []) t x is in
      let here : length history ≡ t = omega (arith, length_push history event) in
      let event_is : event ≡ x = some_is event x (sym (slice_get-push history event) ∙ ap (slice_get (history ++ event ∷ [])) here ∙ is) in
      subst (λ (n : ℕ). IsEnabled spec (take n (history ++ event ∷ [])) x) here (rw take-push (subst (IsEnabled spec history) event_is may))
]
