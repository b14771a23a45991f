-- Outcomes as they are shown.
use Rattle.std.proofs.Common.{◌≡◌, ◌∙◌, ℕ, zero, suc, ◌+◌, ◌≤◌, Bool, List, [], ◌∷◌, ◌++◌, length, map, take, Some, None, refl, sym, ap, subst, arith}
use Rattle.std.specs.Prelude.{slice_get}
use Rattle.std.proofs.lemmas.List.{length-map, length-take-le, map-append}
use Rattle.rand_core.specs.Stream.{Stream}
use Rattle.room_spec.specs.Rooms.{IsWithinLimits, RoomSpec}
use Rattle.ws_history.specs.declared.states.ProcessState.{ProcessState}
use Rattle.room_sample.specs.Chances.{random_of}
use Rattle.room_sample.specs.Samples.{CameByFirst, Counted, IsRunFrom}
use Rattle.room_sample.specs.Schedules.{IsOutcome}
use Rattle.room_sample.specs.Shown.{AreShown, IsShown, KeepsOutcome, Shown, shown_of}
use Rattle.room_sample.specs.declared.examples.Example.{Example}
use Rattle.room_sample.specs.declared.sampling.Plan.{Plan}
use Rattle.room_sample.specs.declared.stretch.Stretch.{Stretch}
use Rattle.room_sample.proofs.SameRuns.{run_same}

-- the schedule of the outcome's number, drawn again, leads to the outcome; and so does a shorter one
pub drawn_again : (spec : RoomSpec) (plan : Plan) (one : Counted) (random : Stream) (schedule short : List Stretch) (states : List ProcessState) → IsWithinLimits spec → random ≡ random_of plan.seed one.first
    → IsRunFrom spec plan.crashes random schedule states → KeepsOutcome spec plan.crashes one.states schedule short → CameByFirst spec plan one → IsOutcome spec plan.crashes short one.states
drawn_again spec plan one random schedule short states limits random_is run kept came =
    let again = subst (λ (s : Stream). IsRunFrom spec plan.crashes s schedule states) random_is run in
    let same = run_same spec plan.crashes (random_of plan.seed one.first) schedule came.schedule states one.states limits again came.drawn in
    kept.keeps (subst (λ (s : List Stretch). IsOutcome spec plan.crashes s one.states) (sym same.0) came.drawn.outcome)

same_counted : (a b : Counted) → Some a ≡ Some b → a ≡ b
same_counted a b is = cc

took_next : (outcomes : List Counted) (i : ℕ) (one : Counted) → slice_get outcomes i ≡ Some one → take (suc i) outcomes ≡ take i outcomes ++ one ∷ []
took_next [] i one there = absurd (let none : None ≡ Some one = there in cc)
took_next (first ∷ others) zero one there = ap (λ (c : Counted). c ∷ []) (same_counted first one there)
took_next (first ∷ others) (suc i) one there = ap (λ (all : List Counted). first ∷ all) (took_next others i one there)

took : (outcomes : List Counted) (i : ℕ) (one : Counted) → slice_get outcomes i ≡ Some one → take (i + 1) outcomes ≡ take i outcomes ++ one ∷ []
took outcomes i one there =
    let next : suc i ≡ i + 1 = omega arith in
    subst (λ (n : ℕ). take n outcomes ≡ take i outcomes ++ one ∷ []) next (took_next outcomes i one there)

module _ (spec : RoomSpec) (crashes : ℕ) (scripts : Bool) where
  shown_last : (outcomes : List Counted) (shown : List Shown) (one : Counted) (other : Shown) → AreShown spec crashes scripts outcomes shown → IsShown spec crashes scripts one other → AreShown spec crashes scripts (outcomes ++ one ∷ []) (shown ++ other ∷ [])
  shown_last [] [] one other are is = (is, tt)
  shown_last (a ∷ outcomes) (b ∷ shown) one other are is = (are.0, shown_last outcomes shown one other are.1 is)
  shown_last [] (b ∷ shown) one other are is = absurd are
  shown_last (a ∷ outcomes) [] one other are is = absurd are

  as_many : (outcomes : List Counted) (shown : List Shown) → AreShown spec crashes scripts outcomes shown → length shown ≡ length outcomes
  as_many [] [] are = refl
  as_many (a ∷ outcomes) (b ∷ shown) are = ap suc (as_many outcomes shown are.1)
  as_many [] (b ∷ shown) are = absurd are
  as_many (a ∷ outcomes) [] are = absurd are

  -- one more is shown
  pub shows_more : (outcomes : List Counted) (i : ℕ) (one : Counted) (examples after : List Example) (next : Example) → AreShown spec crashes scripts (take i outcomes) (map shown_of examples) → slice_get outcomes i ≡ Some one → IsShown spec crashes scripts one (shown_of next)
      → after ≡ examples ++ next ∷ [] → AreShown spec crashes scripts (take (i + 1) outcomes) (map shown_of after)
  shows_more outcomes i one examples after next are there is more =
      subst (λ (shown : List Shown). AreShown spec crashes scripts (take (i + 1) outcomes) shown) (sym (ap (map shown_of) more ∙ map-append shown_of examples (next ∷ [])))
      (subst (λ (all : List Counted). AreShown spec crashes scripts all (map shown_of examples ++ shown_of next ∷ [])) (sym (took outcomes i one there))
      (shown_last (take i outcomes) (map shown_of examples) one (shown_of next) are is))

  -- as many as there are
  pub shows_all : (outcomes : List Counted) (i : ℕ) (examples : List Example) → AreShown spec crashes scripts (take i outcomes) (map shown_of examples) → i ≤ length outcomes → length examples ≡ i
  shows_all outcomes i examples are few =
      let many = as_many (take i outcomes) (map shown_of examples) are in
      sym (length-map examples shown_of) ∙ many ∙ length-take-le i outcomes few

  pub shows_so_far : (outcomes : List Counted) (i : ℕ) (examples : List Example) → AreShown spec crashes scripts (take i outcomes) (map shown_of examples) → i ≤ length outcomes → AreShown spec crashes scripts (take (length examples) outcomes) (map shown_of examples)
  shows_so_far outcomes i examples are few = subst (λ (n : ℕ). AreShown spec crashes scripts (take n outcomes) (map shown_of examples)) (sym (shows_all outcomes i examples are few)) are
