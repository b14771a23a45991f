-- A schedule that is made shorter leads to the same outcome.
use Rattle.std.proofs.Common.{◌≡◌, ℕ, ◌&&◌, Bool, true, false, List, [], ◌∷◌, refl, sym, ap, ap₂, subst}
use Rattle.std.proofs.lemmas.Bool.{eqb-true}
use Rattle.room_spec.specs.Rooms.{RoomSpec}
use Rattle.ws_history.specs.contracts.states.ProcessStatePartialEq.TheImpl.{ghosts}
use Rattle.ws_history.specs.declared.states.ProcessState.{ProcessState}
use Rattle.ws_history.specs.declared.states.ProcessState.TheVariants.{Decided, Spent, Held, Going}
use Rattle.room_sample.specs.Samples.{same_states}
use Rattle.room_sample.specs.Schedules.{IsOutcome}
use Rattle.room_sample.specs.Shown.{KeepsOutcome}
use Rattle.room_sample.specs.declared.stretch.Stretch.{Stretch}

-- ---- two lists of states that compare as equal are one

same_state : (a b : ProcessState) → ghosts.eq a b ≡ true → a ≡ b
same_state (Decided v) (Decided w) is = ap Decided (eqb-true v w is)
same_state Spent Spent is = refl
same_state (Held i) (Held k) is = ap Held (eqb-true i k is)
same_state Going Going is = refl
same_state (Decided v) Spent is = absurd cc
same_state (Decided v) (Held k) is = absurd cc
same_state (Decided v) Going is = absurd cc
same_state Spent (Decided w) is = absurd cc
same_state Spent (Held k) is = absurd cc
same_state Spent Going is = absurd cc
same_state (Held i) (Decided w) is = absurd cc
same_state (Held i) Spent is = absurd cc
same_state (Held i) Going is = absurd cc
same_state Going (Decided w) is = absurd cc
same_state Going Spent is = absurd cc
same_state Going (Held k) is = absurd cc

both_true : (a b : Bool) → (a && b) ≡ true → (a ≡ true) × (b ≡ true)
both_true true b is = (refl, is)
both_true false b is = absurd cc

pub same_lists : (one other : List ProcessState) → same_states one other ≡ true → one ≡ other
same_lists [] [] is = refl
same_lists [] (b ∷ other) is = absurd cc
same_lists (a ∷ one) [] is = absurd cc
same_lists (a ∷ one) (b ∷ other) is =
    let parts = both_true (ghosts.eq a b) (same_states one other) is in
    ap₂ (λ (x : ProcessState) (xs : List ProcessState). x ∷ xs) (same_state a b parts.0) (same_lists one other parts.1)

-- ---- cuts

pub as_it_was : (spec : RoomSpec) (crashes : ℕ) (states : List ProcessState) (schedule : List Stretch) → KeepsOutcome spec crashes states schedule schedule
as_it_was spec crashes states schedule = record { keeps = λ is. is }

pub as_before : (spec : RoomSpec) (crashes : ℕ) (states : List ProcessState) (old new : List Stretch) → new ≡ old → KeepsOutcome spec crashes states old new
as_before spec crashes states old new same = record { keeps = λ is. subst (λ (s : List Stretch). IsOutcome spec crashes s states) (sym same) is }

pub one_cut_more : (spec : RoomSpec) (crashes : ℕ) (states : List ProcessState) (first middle last : List Stretch) → KeepsOutcome spec crashes states first middle → KeepsOutcome spec crashes states middle last → KeepsOutcome spec crashes states first last
one_cut_more spec crashes states first middle last one more = record { keeps = λ is. more.keeps (one.keeps is) }

pub cut_kept : (spec other : RoomSpec) (crashes : ℕ) (states reached : List ProcessState) (old new : List Stretch) → other ≡ spec → reached ≡ states → IsOutcome other crashes new reached → KeepsOutcome spec crashes states old new
cut_kept spec other crashes states reached old new same there is = record {
  keeps = λ was. subst (λ (s : RoomSpec). IsOutcome s crashes new states) same (subst (λ (r : List ProcessState). IsOutcome other crashes new r) there is);
}
