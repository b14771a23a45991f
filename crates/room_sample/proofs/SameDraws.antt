-- What is drawn is decided by the stream: who acts, for how long, and where it leads.
use Rattle.std.proofs.Common.{◌≡◌, ◌≢◌, inl, inr, ℕ, ◌+◌, ◌<◌, ◌≤◌, Bool, true, false, cond, List, [], set, Some, None, refl, sym, ap, ap₂, ◌∙◌, subst, arith}
use Rattle.std.specs.Prelude.{slice_get, swap_remove}
use mathlib.Core.Logic.{dite}
use native.Mathlib.Decide.{ℕ_discrete}
use Rattle.rand_core.specs.Stream.{Stream}
use Rattle.room_spec.specs.Rooms.{RoomSpec}
use Rattle.room_sample.specs.Drawn.{Acts, Draws, IsFirstHighest, IsLed, IsPickedBy, IsThrough, Way, goes_on, length_from, rank_from, sets_out, style_from}
use Rattle.room_sample.specs.declared.active.Active.{Active}
use Rattle.room_sample.specs.declared.active.Fuse.{Fuse}
use Rattle.room_sample.specs.declared.active.Style.{Style}
use Rattle.room_sample.proofs.SameSteps.{acts_same, same_number}

-- ---- who acts next

first_before : (active : List Active) (at at' : ℕ) → IsFirstHighest active at → IsFirstHighest active at' → at ≤ at'
first_before active at at' one other =
    let low = one.highest at' other.one other.there in
    let high = other.highest at one.one one.there in
    one.first at' other.one other.there (omega (arith, low, high))

same_first : (active : List Active) (at at' : ℕ) → IsFirstHighest active at → IsFirstHighest active at' → at ≡ at'
same_first active at at' one other = let here = first_before active at at' one other in let there = first_before active at' at other one in omega (arith, here, there)

same_pick : (by_rank : Bool) (active : List Active) (random picked picked' : Stream) (at at' : ℕ) → IsPickedBy by_rank active random at picked → IsPickedBy by_rank active random at' picked' → (at ≡ at') × (picked ≡ picked')
same_pick true active random picked picked' at at' one other = (same_first active at at' one.0 other.0, one.1 ∙ sym other.1)
same_pick false active random picked picked' at at' one other =
    let both = one ∙ sym other in
    (ap (λ (p : ℕ × Stream). p.0) both, ap (λ (p : ℕ × Stream). p.1) both)

same_active : (a b : Active) → Some a ≡ Some b → a ≡ b
same_active a b is = cc

-- ---- one draw

-- where it leads, who may act there, and what is left of the stream
pub record SameDraw (after after' : Way) (active active' : List Active) (random random' : Stream) : Type 0 where
  pub leads : after ≡ after'
  pub active_is : active ≡ active'
  pub random_is : random ≡ random'

-- those who may act after one of them has
abbrev left_of : List Active → ℕ → Bool → Active → List Active
left_of active at stays one = cond stays (set active at one) (swap_remove (set active at one) at one)

abbrev changed : Active → ℕ → Fuse → Active
changed one rank fuse = record { simulator = one.simulator; rank = rank; fuse = fuse }

same_changed : (one one' : Active) (rank rank' : ℕ) (fuse fuse' : Fuse) → one ≡ one' → rank ≡ rank' → fuse ≡ fuse' → changed one rank fuse ≡ changed one' rank' fuse'
same_changed one one' rank rank' fuse fuse' same ranked burnt = ap₂ (λ (o : Active) (r : ℕ). changed o r fuse) same ranked ∙ ap (changed one' rank') burnt

same_left : (active : List Active) (at at' : ℕ) (stays stays' : Bool) (one one' : Active) → at ≡ at' → stays ≡ stays' → one ≡ one' → left_of active at stays one ≡ left_of active at' stays' one'
same_left active at at' stays stays' one one' here stay same = ap₂ (λ (k : ℕ) (b : Bool). left_of active k b one) here stay ∙ ap (left_of active at' stays') same

draws_same : (style : Style) (way after after' : Way) (active left left' : List Active) (random later later' : Stream) → Draws style way active random after left later → Draws style way active random after' left' later' → SameDraw after after' left left' later later'
draws_same style way after after' active left left' random later later' one other =
    let pick = same_pick style.by_rank active random one.picked other.picked one.at other.at one.next other.next in
    let lengths = one.long ∙ ap length_from pick.1 ∙ sym other.long in
    let most : one.most ≡ other.most = ap (λ (p : ℕ × Stream). p.0) lengths in
    let measured : one.measured ≡ other.measured = ap (λ (p : ℕ × Stream). p.1) lengths in
    let same : one.one ≡ other.one = same_active one.one other.one (sym one.there ∙ ap (slice_get active) pick.0 ∙ other.there) in
    let theirs = subst (λ (n : ℕ). Acts one.one.simulator n way one.one.fuse other.fuse after' other.stays) (sym most)
    (subst (λ (a : Active). Acts a.simulator other.most way a.fuse other.fuse after' other.stays) (sym same) other.acts) in
    let act = acts_same one.one.simulator one.most way after after' one.one.fuse one.fuse other.fuse one.stays other.stays one.acts theirs in
    let ranks = one.ranked ∙ ap₂ (λ (a : Active) (s : Stream). rank_from a.rank s) same measured ∙ sym other.ranked in
    record {
      leads = act.leads;
      active_is = one.left
          ∙ same_left active one.at other.at one.stays other.stays (changed one.one one.rank one.fuse) (changed other.one other.rank other.fuse) pick.0 act.stays_is
          (same_changed one.one other.one one.rank other.rank one.fuse other.fuse same (ap (λ (p : ℕ × Stream). p.0) ranks) act.fuse_is)
          ∙ sym other.left;
      random_is = ap (λ (p : ℕ × Stream). p.1) ranks;
    }

-- ---- as many draws

module _ (spec : RoomSpec) (crashes : ℕ) (random : Stream) where
  led_same : (draws draws' : ℕ) (way way' : Way) (active active' : List Active) (later later' : Stream) → draws ≡ draws' → IsLed spec crashes random draws way active later → IsLed spec crashes random draws' way' active' later' → SameDraw way way' active active' later later'
  led_same draws draws' way way' active active' later later' same (sets_out all left is) (sets_out all' left' is') =
      let both = is ∙ sym is' in
      record { leads = refl; active_is = ap (λ (p : List Active × Stream). p.0) both; random_is = ap (λ (p : List Active × Stream). p.1) both }
  led_same draws draws' way way' active active' later later' same (sets_out all left is) (goes_on n from to some left' middle rest led drawn) = absurd (let none : 0 ≡ n + 1 = same in omega (arith, none))
  led_same draws draws' way way' active active' later later' same (goes_on n from to some left middle rest led drawn) (sets_out all' left' is') = absurd (let none : n + 1 ≡ 0 = same in omega (arith, none))
  led_same draws draws' way way' active active' later later' same (goes_on n from to some left middle rest led drawn) (goes_on n' from' to' some' left' middle' rest' led' drawn') =
      let before = led_same n n' from from' some some' middle middle' (let more : n + 1 ≡ n' + 1 = same in omega (arith, more)) led led' in
      let style = (style_from random).0 in
      draws_same style from to to' some left left' middle rest rest' drawn
      (subst (λ (s : Stream). Draws style from some s to' left' rest') (sym before.random_is)
      (subst (λ (all : List Active). Draws style from all middle' to' left' rest') (sym before.active_is)
      (subst (λ (w : Way). Draws style w some' middle' to' left' rest') (sym before.leads) drawn')))

  -- these draws have led to a room in which some may act
  record GoesThrough (draws : ℕ) : Type 0 where
    way : Way
    active : List Active
    later : Stream
    led : IsLed spec crashes random draws way active later
    some : active ≢ []

  none_there : (active : List Active) (at : ℕ) (one : Active) → slice_get active at ≡ Some one → active ≢ []
  none_there active at one there none = let wrong : None ≡ Some one = sym (ap (λ (all : List Active). slice_get all at) none) ∙ there in cc

  -- more draws have gone through each room before
  goes_through : (draws before : ℕ) (way : Way) (active : List Active) (later : Stream) → IsLed spec crashes random draws way active later → before < draws → GoesThrough before
  goes_through draws before way active later (sets_out all left is) less = absurd (omega (arith, less))
  goes_through draws before way active later (goes_on n from to some left middle rest led drawn) less =
      dite (ℕ_discrete before n)
      (λ (e : before ≡ n). record { way = from; active = some; later = middle; led = subst (λ (k : ℕ). IsLed spec crashes random k from some middle) (sym e) led; some = none_there some drawn.at drawn.one drawn.there })
      (λ (ne : before ≢ n). goes_through n before from some middle led (omega (arith, less, ne)))

  -- one that is through when the other goes on
  through_short : (way way' : Way) (one : IsThrough spec crashes random way) (other : IsThrough spec crashes random way') → one.draws < other.draws → ⊥
  through_short way way' one other less = elim one.through [
    | inl none ↦
        let there = goes_through other.draws one.draws way' other.active other.later other.led less in
        there.some (sym (led_same one.draws one.draws way there.way one.active there.active one.later there.later refl one.led there.led).active_is ∙ none)
    | inr all ↦ let few = other.few in absurd (omega (arith, all, few, less))
  ]

  pub through_same : (way way' : Way) → IsThrough spec crashes random way → IsThrough spec crashes random way' → way ≡ way'
  through_same way way' one other =
      let draws = same_number one.draws other.draws (through_short way way' one other) (through_short way' way other one) in
      (led_same one.draws other.draws way way' one.active other.active one.later other.later draws one.led other.led).leads
