-- Who may act no more has stopped.
use Rattle.std.proofs.Common.{◌≡◌, ◌≢◌, ◌⊎◌, inl, inr, ℕ, zero, suc, ◌+◌, ◌<◌, ◌≤◌, Bool, true, false, cond, eqb, min, not, List, [], ◌∷◌, ◌++◌, length, get_or, set, Some, None, refl, sym, ap, ◌∙◌, subst, arith}
use Rattle.std.specs.Prelude.{slice_get, swap_remove}
use Rattle.std.specs.List.{count_by}
use Rattle.std.proofs.lemmas.Bool.{cases_lt, eqb-true, eqb-false, eq-eqb}
use Rattle.std.proofs.lemmas.List.{append-nil, append_assoc, length-append}
use Rattle.std.proofs.lemmas.List.Sums.{sum_by-append, sum_by-cons}
use Rattle.std.proofs.lemmas.List.Sorted.{IsPermutation-swap_remove, sum_by-IsPermutation}
use mathlib.Core.Logic.{dite}
use native.Mathlib.Decide.{ℕ_discrete}
use Rattle.rand_core.specs.Stream.{Stream}
use Rattle.room_spec.specs.Rooms.{RoomSpec}
use Rattle.room_core.specs.Calls.{RoomState, opening_state, step_reply}
use Rattle.room_core.specs.declared.reply.StepReply.TheVariants.{Stepped}
use Rattle.room_sample.specs.Drawn.{Acts, Crashes, Draws, IsLed, Walks, WalksInto, Way, active_from, aimed, burning, burnt, goes_on, one_from, sets_out, style_from, unburnt, with_steps}
use Rattle.room_sample.specs.Schedules.{HasStopped, crashed, room_after_schedule, stopped}
use Rattle.room_sample.specs.declared.active.Active.{Active}
use Rattle.room_sample.specs.declared.active.Fuse.{Fuse}
use Rattle.room_sample.specs.declared.active.Style.{Style}
use Rattle.room_sample.specs.declared.stretch.Stretch.{Stretch}
use Rattle.room_sample.specs.declared.stretch.Stretch.TheVariants.{Steps, Crash}
use Rattle.room_sample.proofs.Schedules.{led_so}

-- ---- how often a simulator is among those who may act

abbrev is_of : ℕ → Active → Bool
is_of i one = eqb one.simulator i

abbrev times : ℕ → List Active → ℕ
times i active = count_by (is_of i) active

count_of : (i : ℕ) (one : Active) → ℕ
count_of i one = cond (is_of i one) 1 0

one_of : (i : ℕ) (one : Active) (rest : List Active) → times i (one ∷ rest) ≡ cond (is_of i one) 1 0 + times i rest
one_of i one rest = sum_by-cons (λ (a : Active). cond (is_of i a) 1 0) one rest

put_again : (i : ℕ) (active : List Active) (at : ℕ) (one other : Active) → slice_get active at ≡ Some one → other.simulator ≡ one.simulator → times i (set active at other) ≡ times i active
put_again i [] at one other there same = absurd (let none : None ≡ Some one = there in cc)
put_again i (first ∷ rest) zero one other there same =
    let is : first ≡ one = some_is first one there in
    one_of i other rest ∙ ap (λ (s : ℕ). cond (eqb s i) 1 0 + times i rest) (same ∙ sym (ap (λ (a : Active). a.simulator) is)) ∙ sym (one_of i first rest)
  where
    some_is : (a b : Active) → Some a ≡ Some b → a ≡ b
    some_is a b e = cc
put_again i (first ∷ rest) (suc at) one other there same =
    one_of i first (set rest at other) ∙ ap (λ (n : ℕ). cond (is_of i first) 1 0 + n) (put_again i rest at one other there same) ∙ sym (one_of i first rest)

within : (active : List Active) (at : ℕ) (one : Active) → slice_get active at ≡ Some one → at < length active
within [] at one there = absurd (let none : None ≡ Some one = there in cc)
within (first ∷ rest) zero one there = omega arith
within (first ∷ rest) (suc at) one there = let later = within rest at one there in omega (arith, later)

put_there : (active : List Active) (at : ℕ) (other : Active) → at < length active → other ≡ get_or (set active at other) at other
put_there [] at other less = absurd (omega arith)
put_there (first ∷ rest) zero other less = refl
put_there (first ∷ rest) (suc at) other less = put_there rest at other (omega (arith, less))

long_as : (active : List Active) (at : ℕ) (other : Active) → length (set active at other) ≡ length active
long_as [] at other = refl
long_as (first ∷ rest) zero other = refl
long_as (first ∷ rest) (suc at) other = ap suc (long_as rest at other)

struck_off : (i : ℕ) (active : List Active) (at : ℕ) (one other : Active) → slice_get active at ≡ Some one → other.simulator ≡ one.simulator → one.simulator ≢ i → times i (swap_remove (set active at other) at other) ≡ times i active
struck_off i active at one other there same differ =
    let less = within active at one there in
    let long = long_as active at other in
    let taken = IsPermutation-swap_remove (set active at other) at other (omega (arith, less, long)) (put_there active at other less) in
    let sums : times i (other ∷ swap_remove (set active at other) at other) ≡ times i (set active at other) = sum_by-IsPermutation (λ (a : Active). cond (is_of i a) 1 0) (set active at other) (other ∷ swap_remove (set active at other) at other) taken in
    let none : ◌≡◌ {A = ℕ} (cond (is_of i other) 1 0) 0 = ap (λ (b : Bool). cond b 1 0) (not_of (is_of i other) refl) in
    let first = one_of i other (swap_remove (set active at other) at other) in
    let again = put_again i active at one other there same in
    omega (arith, sums, none, first, again)
  where
    not_of : (b : Bool) → is_of i other ≡ b → is_of i other ≡ false
    not_of false is = is
    not_of true is = absurd (differ (sym same ∙ eqb-true other.simulator i is))

-- ---- a simulator that has stopped stays so

in_first : (schedule more : List Stretch) (k : ℕ) (stretch : Stretch) → k < length schedule → get_or (schedule ++ more) k stretch ≡ get_or schedule k stretch
in_first [] more k stretch less = absurd (omega arith)
in_first (first ∷ rest) more zero stretch less = refl
in_first (first ∷ rest) more (suc k) stretch less = in_first rest more k stretch (omega (arith, less))

at_last : (schedule : List Stretch) (stretch : Stretch) → get_or (schedule ++ stretch ∷ []) (length schedule) stretch ≡ stretch
at_last [] stretch = refl
at_last (first ∷ rest) stretch = at_last rest stretch

stops_on : (spec : RoomSpec) (schedule more : List Stretch) (i : ℕ) → HasStopped spec schedule i → HasStopped spec (schedule ++ more) i
stops_on spec schedule more i (crashed (k, less, is)) = crashed (k, (let long = length-append schedule more in omega (arith, less, long)), in_first schedule more k (Crash i) less ∙ is)
stops_on spec schedule more i (stopped before after split not) = stopped before (after ++ more) (ap (λ (l : List Stretch). l ++ more) split ∙ append_assoc before after more) not

-- a schedule goes on with at most one stretch
abbrev GoesOn : Way → Way → Type 0
GoesOn way after = (more : List Stretch) × (after.schedule ≡ way.schedule ++ more)

steps_go : (b : Bool) (way : Way) (simulator taken : ℕ) → eqb taken 0 ≡ b → GoesOn way (with_steps way simulator taken)
steps_go true way simulator taken is = ([], rw is (sym (append-nil way.schedule)))
steps_go false way simulator taken is = (Steps simulator taken ∷ [], rw is refl)

walks_go : (way after : Way) (simulator most taken : ℕ) → Walks simulator most taken way after → GoesOn way after
walks_go way after simulator most taken walks = subst (GoesOn way) (sym walks.leads) (steps_go (eqb taken 0) way simulator taken refl)

crashes_go : (way after : Way) (simulator : ℕ) (is_crash : Bool) → Crashes simulator way is_crash after → GoesOn way after
crashes_go way after simulator true is = (Crash simulator ∷ [], ap (λ (w : Way). w.schedule) is.2)
crashes_go way after simulator false is = ([], ap (λ (w : Way). w.schedule) is.1 ∙ sym (append-nil way.schedule))

acts_go : (way after : Way) (simulator most : ℕ) (fuse left : Fuse) (stays : Bool) → Acts simulator most way fuse left after stays → GoesOn way after
acts_go way after simulator most fuse left stays (unburnt taken after' walks) = walks_go way after simulator most taken walks
acts_go way after simulator most fuse left stays (burnt is_crash after' is) = crashes_go way after simulator is_crash is
acts_go way after simulator most fuse left stays (burning steps taken after' some walks) = walks_go way after simulator (min most steps) taken walks
acts_go way after simulator most fuse left stays (aimed others taken entered after' walks) = subst (GoesOn way) (sym walks.1) (steps_go (eqb taken 0) way simulator taken refl)

-- ---- who may not act again has stopped

abbrev Leads : RoomSpec → Way → Type 0
Leads spec way = room_after_schedule (opening_state spec) way.schedule ≡ way.room

walked : (spec : RoomSpec) (way after : Way) (simulator most taken : ℕ) → Leads spec after → Walks simulator most taken way after → eqb taken most ≡ false → HasStopped spec after.schedule simulator
walked spec way after simulator most taken leads walks fewer =
    let less : taken < most = (let other = eqb-false taken most fewer in omega (arith, other, walks.few)) in
    stopped after.schedule [] (sym (append-nil after.schedule)) (subst (λ (room : RoomState). step_reply room simulator ≢ Stepped) (sym leads) (walks.stopped less))

entered_none : (spec : RoomSpec) (way after : Way) (simulator most taken : ℕ) → Leads spec after → WalksInto simulator most taken way after false → eqb taken most ≡ false → HasStopped spec after.schedule simulator
entered_none spec way after simulator most taken leads walks fewer =
    let less : taken < most = (let other = eqb-false taken most fewer in omega (arith, other, walks.0.few)) in
    stopped after.schedule [] (sym (append-nil after.schedule)) (subst (λ (room : RoomState). step_reply room simulator ≢ Stepped) (sym leads) (walks.0.stopped refl less))

acts_last : (spec : RoomSpec) (way after : Way) (simulator most : ℕ) (fuse left : Fuse) (stays : Bool) → Leads spec after → Acts simulator most way fuse left after stays → stays ≡ false → HasStopped spec after.schedule simulator
acts_last spec way after simulator most fuse left stays leads (unburnt taken after' walks) is = walked spec way after simulator most taken leads walks is
acts_last spec way after simulator most fuse left stays leads (burnt true after' (some, replied, to)) is =
    let long = length-append way.schedule (Crash simulator ∷ []) in
    subst (λ (schedule : List Stretch). HasStopped spec schedule simulator) (sym (ap (λ (w : Way). w.schedule) to))
    (crashed (length way.schedule, omega (arith, long), at_last way.schedule (Crash simulator)))
acts_last spec way after simulator most fuse left stays leads (burnt false after' crashes) is = absurd (let never : true ≡ false = is in cc)
acts_last spec way after simulator most fuse left stays leads (burning steps taken after' some walks) is = walked spec way after simulator (min most steps) taken leads walks is
acts_last spec way after simulator most fuse left stays leads (aimed others taken false after' walks) is = entered_none spec way after simulator most taken leads walks is
acts_last spec way after simulator most fuse left stays leads (aimed others taken true after' walks) is = absurd (let never : true ≡ false = is in cc)

-- ---- all who have not stopped may act

abbrev pub AreObserved : RoomSpec → Way → List Active → Type 0
AreObserved spec way active = (i : ℕ) → i < spec.simulators → (1 ≤ times i active) ⊎ HasStopped spec way.schedule i

all_there : (spec : RoomSpec) (style : Style) (random : Stream) (m i : ℕ) → i < m → 1 ≤ times i (active_from spec style m random).0
unfolding active_from
all_there spec style random zero i less = absurd (omega arith)
all_there spec style random (suc m) i less =
    let before = active_from spec style m random in
    let last : Active = (one_from spec style m before.1).0 in
    let sums : times i (before.0 ++ last ∷ []) ≡ times i before.0 + times i (last ∷ []) = sum_by-append (λ (a : Active). cond (is_of i a) 1 0) before.0 (last ∷ []) in
    let one = one_of i last [] in
    by_last (times i []) (λ below. all_there spec style random m i below) sums one (cases_lt i m)
  where
    by_last : {a c : ℕ} (d : ℕ) → (i < m → 1 ≤ times i (active_from spec style m random).0) → a ≡ times i (active_from spec style m random).0 + c → c ≡ cond (eqb m i) 1 0 + d → (i < m) ⊎ (m ≤ i) → 1 ≤ a
    by_last d earlier sums one (inl below) = let there = earlier below in omega (arith, sums, there)
    by_last d earlier sums one (inr last) = let here : ◌≡◌ {A = ℕ} (cond (eqb m i) 1 0) 1 = ap (λ (b : Bool). cond b 1 0) (eq-eqb m i (omega (arith, less, last))) in omega (arith, sums, one, here)

module _ (spec : RoomSpec) (style : Style) (way after : Way) (active active' : List Active) (random later : Stream) (drawn : Draws style way active random after active' later) (leads : Leads spec after) (so : AreObserved spec way active) where
  abbrev other : Active
  other = record { simulator = drawn.one.simulator; rank = drawn.rank; fuse = drawn.fuse }

  was : (i : ℕ) → HasStopped spec way.schedule i → HasStopped spec after.schedule i
  was i is =
      let more = acts_go way after drawn.one.simulator drawn.most drawn.one.fuse drawn.fuse drawn.stays drawn.acts in
      subst (λ (schedule : List Stretch). HasStopped spec schedule i) (sym more.1) (stops_on spec way.schedule more.0 i is)

  by_stays : (stays : Bool) → drawn.stays ≡ stays → AreObserved spec after active'
  by_stays true is i less =
      let left : active' ≡ set active drawn.at other = drawn.left ∙ ap (λ (b : Bool). cond b (set active drawn.at other) (swap_remove (set active drawn.at other) drawn.at other)) is in
      elim (so i less) [
        | inl some ↦ inl (let again = put_again i active drawn.at drawn.one other drawn.there refl in omega (arith, some, again, ap (times i) left))
        | inr stop ↦ inr (was i stop)
      ]
  by_stays false is i less =
      let left : active' ≡ swap_remove (set active drawn.at other) drawn.at other = drawn.left ∙ ap (λ (b : Bool). cond b (set active drawn.at other) (swap_remove (set active drawn.at other) drawn.at other)) is in
      dite (ℕ_discrete drawn.one.simulator i)
      (λ (e : drawn.one.simulator ≡ i). inr (subst (λ (k : ℕ). HasStopped spec after.schedule k) e (acts_last spec way after drawn.one.simulator drawn.most drawn.one.fuse drawn.fuse drawn.stays leads drawn.acts is)))
      (λ (n : drawn.one.simulator ≢ i). elim (so i less) [
        | inl some ↦ inl (let off = struck_off i active drawn.at drawn.one other drawn.there refl n in omega (arith, some, off, ap (times i) left))
        | inr stop ↦ inr (was i stop)
      ])

  observed_on : AreObserved spec after active'
  observed_on = by_stays drawn.stays refl

observed : (spec : RoomSpec) (crashes : ℕ) (random : Stream) (draws : ℕ) (way : Way) (active : List Active) (later : Stream) → IsLed spec crashes random draws way active later → AreObserved spec way active
observed spec crashes random draws way active later (sets_out active' later' is) = λ i less. inl (subst (λ (all : List Active). 1 ≤ times i all) (sym (ap (λ (p : List Active × Stream). p.0) is)) (all_there spec (style_from random).0 (style_from random).1 spec.simulators i less))
observed spec crashes random draws way active later (goes_on before from to active' active'' middle later' led drawn) =
    observed_on spec (style_from random).0 from way active' active middle later drawn (led_so spec crashes random draws way active later (goes_on before from to active' active'' middle later' led drawn)).leads (observed spec crashes random before from active' middle led)

-- where nobody may act each has stopped
pub all_stopped : (spec : RoomSpec) (crashes : ℕ) (random : Stream) (draws : ℕ) (way : Way) (active : List Active) (later : Stream) → IsLed spec crashes random draws way active later → active ≡ [] → (i : ℕ) → i < spec.simulators → HasStopped spec way.schedule i
all_stopped spec crashes random draws way active later led none i less = elim (observed spec crashes random draws way active later led i less) [
  | inl some ↦ absurd (let zero_times : times i active ≡ 0 = ap (times i) none in omega (arith, some, zero_times))
  | inr stop ↦ stop
]
