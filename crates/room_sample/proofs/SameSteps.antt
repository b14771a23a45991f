-- What a simulator does is decided: by the room, by its fuse, and by how many steps it may take.
use Rattle.std.proofs.Common.{◌≡◌, inl, inr, ℕ, ◌-◌, ◌<◌, ◌||◌, Bool, true, false, eqb, min, not, refl, sym, ap, ap₂, ◌∙◌, subst, arith}
use Rattle.std.proofs.lemmas.Bool.{cases_lt}
use Rattle.room_core.specs.Calls.{RoomState, room_after_steps, step_reply}
use Rattle.room_sample.specs.Drawn.{Acts, Crashes, EntersBy, Walks, WalksInto, Way, aimed, burning, burnt, fuse_after, has_entered, unburnt, with_steps}
use Rattle.room_sample.specs.declared.active.Fuse.{Fuse}
use Rattle.room_sample.specs.declared.active.Fuse.TheVariants.{After, Inside, Never}

-- two numbers of which neither is the smaller
pub same_number : (a b : ℕ) → (a < b → ⊥) → (b < a → ⊥) → a ≡ b
same_number a b not more = elim (cases_lt a b) [
  | inl less ↦ absurd (not less)
  | inr few ↦ elim (cases_lt b a) [
    | inl less ↦ absurd (more less)
    | inr other ↦ omega (arith, few, other)
  ]
]

-- ---- steps

-- one that stops when another still has a step to take
walks_short : (simulator most less more : ℕ) (way after after' : Way) → Walks simulator most less way after → Walks simulator most more way after' → less < more → ⊥
walks_short simulator most less more way after after' one other fewer =
    one.stopped (let few = other.few in omega (arith, few, fewer))
    (ap (λ (w : Way). step_reply w.room simulator) one.leads ∙ other.each less fewer)

-- the number of steps, and where they lead
abbrev pub SameWalk : ℕ → ℕ → Way → Way → Type 0
SameWalk taken taken' after after' = (taken ≡ taken') × (after ≡ after')

pub walks_same : (simulator most taken taken' : ℕ) (way after after' : Way) → Walks simulator most taken way after → Walks simulator most taken' way after' → SameWalk taken taken' after after'
walks_same simulator most taken taken' way after after' one other =
    let same = same_number taken taken' (walks_short simulator most taken taken' way after after' one other) (walks_short simulator most taken' taken way after' after other one) in
    (same, one.leads ∙ ap (with_steps way simulator) same ∙ sym other.leads)

-- ---- into an agreement

enters_short : (simulator most less more : ℕ) (room after after' : RoomState) (entered entered' : Bool) → EntersBy simulator most less room after entered → EntersBy simulator most more room after' entered' → less < more → ⊥
enters_short simulator most less more room after after' true entered' one other fewer =
    let wrong : true ≡ false = sym (one.entered_is (one.some refl)) ∙ ap (λ (r : RoomState). has_entered r simulator) one.leads ∙ other.outside less (one.some refl) fewer in
    absurd cc
enters_short simulator most less more room after after' false entered' one other fewer =
    one.stopped refl (let few = other.few in omega (arith, few, fewer))
    (ap (λ (r : RoomState). step_reply r simulator) one.leads ∙ other.each less fewer)

none_entered : (simulator most taken : ℕ) (room after : RoomState) (entered : Bool) → EntersBy simulator most taken room after entered → taken ≡ 0 → entered ≡ false
none_entered simulator most taken room after true one none = absurd (let some = one.some refl in omega (arith, some, none))
none_entered simulator most taken room after false one none = refl

same_entered : (simulator most taken taken' : ℕ) (room after after' : RoomState) (entered entered' : Bool) → EntersBy simulator most taken room after entered → EntersBy simulator most taken' room after' entered' → taken ≡ taken' → entered ≡ entered'
same_entered simulator most taken taken' room after after' entered entered' one other same = elim (cases_lt 0 taken) [
  | inl some ↦
      sym (one.entered_is some) ∙ ap (λ (r : RoomState). has_entered r simulator) (one.leads ∙ ap (room_after_steps room simulator) same ∙ sym other.leads)
      ∙ other.entered_is (omega (arith, some, same))
  | inr few ↦
      none_entered simulator most taken room after entered one (omega (arith, few)) ∙ sym (none_entered simulator most taken' room after' entered' other (omega (arith, few, same)))
]

pub enters_same : (simulator most taken taken' : ℕ) (way after after' : Way) (entered entered' : Bool) → WalksInto simulator most taken way after entered → WalksInto simulator most taken' way after' entered'
    → SameWalk taken taken' after after' × (entered ≡ entered')
enters_same simulator most taken taken' way after after' entered entered' one other =
    let same = same_number taken taken' (enters_short simulator most taken taken' way.room after.room after'.room entered entered' one.0 other.0) (enters_short simulator most taken' taken way.room after'.room after.room entered' entered other.0 one.0) in
    ((same, one.1 ∙ ap (with_steps way simulator) same ∙ sym other.1), same_entered simulator most taken taken' way.room after.room after'.room entered entered' one.0 other.0 same)

-- ---- a crash

crashes_both : (simulator : ℕ) (way after after' : Way) → Crashes simulator way true after → Crashes simulator way false after' → ⊥
crashes_both simulator way after after' one (inl none, same) = omega (arith, one.0, none)
crashes_both simulator way after after' one (inr refused, same) = refused one.1

pub crashes_same : (simulator : ℕ) (way after after' : Way) (crashed crashed' : Bool) → Crashes simulator way crashed after → Crashes simulator way crashed' after' → (crashed ≡ crashed') × (after ≡ after')
crashes_same simulator way after after' true true one other = (refl, one.2 ∙ sym other.2)
crashes_same simulator way after after' true false one other = absurd (crashes_both simulator way after after' one other)
crashes_same simulator way after after' false true one other = absurd (crashes_both simulator way after' after other one)
crashes_same simulator way after after' false false one other = (refl, one.1 ∙ sym other.1)

-- ---- by its fuse

-- its fuse after that, where it leads, and whether it may act again
pub record SameAct (fuse fuse' : Fuse) (after after' : Way) (stays stays' : Bool) : Type 0 where
  pub fuse_is : fuse ≡ fuse'
  pub leads : after ≡ after'
  pub stays_is : stays ≡ stays'

same_left : (left left' : ℕ) → After left ≡ After left' → left ≡ left'
same_left left left' is = cc

same_others : (others others' : ℕ) → Inside others ≡ Inside others' → others ≡ others'
same_others others others' is = cc

burning_same : (simulator most left left' taken taken' : ℕ) (way after after' : Way) → left ≡ left' → Walks simulator (min most left) taken way after → Walks simulator (min most left') taken' way after'
    → SameAct (After (left - taken)) (After (left' - taken')) after after' (eqb taken (min most left)) (eqb taken' (min most left'))
burning_same simulator most left left' taken taken' way after after' same one other =
    let walk = walks_same simulator (min most left) taken taken' way after after' one (subst (λ (n : ℕ). Walks simulator (min most n) taken' way after') (sym same) other) in
    record {
      fuse_is = ap₂ (λ (l t : ℕ). After (l - t)) same walk.0;
      leads = walk.1;
      stays_is = ap₂ (λ (t l : ℕ). eqb t (min most l)) walk.0 same;
    }

-- two simulators of fuses that are the same
by_fuse : (simulator most : ℕ) (way after after' : Way) (before before' fuse fuse' : Fuse) (stays stays' : Bool) → before ≡ before' → Acts simulator most way before fuse after stays → Acts simulator most way before' fuse' after' stays' → SameAct fuse fuse' after after' stays stays'
by_fuse simulator most way after after' before before' fuse fuse' stays stays' same (unburnt taken to one) (unburnt taken' to' other) =
    let walk = walks_same simulator most taken taken' way to to' one other in
    record { fuse_is = refl; leads = walk.1; stays_is = ap (λ (n : ℕ). eqb n most) walk.0 }
by_fuse simulator most way after after' before before' fuse fuse' stays stays' same (burnt crashed to one) (burnt crashed' to' other) =
    let crash = crashes_same simulator way to to' crashed crashed' one other in
    record { fuse_is = refl; leads = crash.1; stays_is = ap not crash.0 }
by_fuse simulator most way after after' before before' fuse fuse' stays stays' same (burning left taken to some one) (burning left' taken' to' some' other) =
    burning_same simulator most left left' taken taken' way to to' (same_left left left' same) one other
by_fuse simulator most way after after' before before' fuse fuse' stays stays' same (aimed others taken entered to one) (aimed others' taken' entered' to' other) =
    let walk = enters_same simulator most taken taken' way to to' entered entered' one other in
    record {
      fuse_is = ap₂ fuse_after (same_others others others' same) walk.1;
      leads = walk.0.1;
      stays_is = ap₂ (λ (e : Bool) (n : ℕ). e || eqb n most) walk.1 walk.0.0;
    }
by_fuse simulator most way after after' before before' fuse fuse' stays stays' same (burnt crashed to one) (burning left' taken' to' some' other) = absurd (let none : 0 ≡ left' = same_left 0 left' same in omega (arith, none, some'))
by_fuse simulator most way after after' before before' fuse fuse' stays stays' same (burning left taken to some one) (burnt crashed' to' other) = absurd (let none : left ≡ 0 = same_left left 0 same in omega (arith, none, some))
by_fuse simulator most way after after' before before' fuse fuse' stays stays' same (unburnt taken to one) (burnt crashed' to' other) = absurd (let wrong : Never ≡ After 0 = same in cc)
by_fuse simulator most way after after' before before' fuse fuse' stays stays' same (unburnt taken to one) (burning left' taken' to' some' other) = absurd (let wrong : Never ≡ After left' = same in cc)
by_fuse simulator most way after after' before before' fuse fuse' stays stays' same (unburnt taken to one) (aimed others' taken' entered' to' other) = absurd (let wrong : Never ≡ Inside others' = same in cc)
by_fuse simulator most way after after' before before' fuse fuse' stays stays' same (burnt crashed to one) (unburnt taken' to' other) = absurd (let wrong : After 0 ≡ Never = same in cc)
by_fuse simulator most way after after' before before' fuse fuse' stays stays' same (burnt crashed to one) (aimed others' taken' entered' to' other) = absurd (let wrong : After 0 ≡ Inside others' = same in cc)
by_fuse simulator most way after after' before before' fuse fuse' stays stays' same (burning left taken to some one) (unburnt taken' to' other) = absurd (let wrong : After left ≡ Never = same in cc)
by_fuse simulator most way after after' before before' fuse fuse' stays stays' same (burning left taken to some one) (aimed others' taken' entered' to' other) = absurd (let wrong : After left ≡ Inside others' = same in cc)
by_fuse simulator most way after after' before before' fuse fuse' stays stays' same (aimed others taken entered to one) (unburnt taken' to' other) = absurd (let wrong : Inside others ≡ Never = same in cc)
by_fuse simulator most way after after' before before' fuse fuse' stays stays' same (aimed others taken entered to one) (burnt crashed' to' other) = absurd (let wrong : Inside others ≡ After 0 = same in cc)
by_fuse simulator most way after after' before before' fuse fuse' stays stays' same (aimed others taken entered to one) (burning left' taken' to' some' other) = absurd (let wrong : Inside others ≡ After left' = same in cc)

pub acts_same : (simulator most : ℕ) (way after after' : Way) (before fuse fuse' : Fuse) (stays stays' : Bool) → Acts simulator most way before fuse after stays → Acts simulator most way before fuse' after' stays' → SameAct fuse fuse' after after' stays stays'
acts_same simulator most way after after' before fuse fuse' stays stays' one other = by_fuse simulator most way after after' before before fuse fuse' stays stays' refl one other
