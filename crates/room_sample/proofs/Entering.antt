-- A simulator goes on until it has entered an agreement.
use Rattle.std.proofs.Common.{◌≡◌, ◌≢◌, ◌∙◌, ℕ, zero, suc, ◌+◌, ◌<◌, ◌≤◌, true, false, refl, sym, ap, subst, arith}
use mathlib.Core.Logic.{dite}
use native.Mathlib.Decide.{ℕ_discrete}
use Rattle.room_core.specs.Calls.{RoomState, room_after_step, room_after_steps, step_reply}
use Rattle.room_core.specs.declared.reply.StepReply.TheVariants.{Stepped}
use Rattle.room_sample.specs.Drawn.{EntersBy, has_entered}

step_last : (room : RoomState) (i k : ℕ) → room_after_steps room i (suc k) ≡ room_after_step (room_after_steps room i k) i
step_last room i zero = refl
step_last room i (suc k) = step_last (room_after_step room i) i k

pub step_next : (room : RoomState) (i k : ℕ) → room_after_steps (room_after_steps room i k) i 1 ≡ room_after_steps room i (k + 1)
step_next room i k = let next : suc k ≡ k + 1 = omega arith in sym (step_last room i k) ∙ ap (room_after_steps room i) next

-- so many steps were taken, and after none of them had it entered an agreement
pub record HasNotEntered (room : RoomState) (i taken : ℕ) (after : RoomState) : Type 0 where
  pub each : (k : ℕ) → k < taken → step_reply (room_after_steps room i k) i ≡ Stepped
  pub outside : (k : ℕ) → 1 ≤ k → k ≤ taken → has_entered (room_after_steps room i k) i ≡ false
  pub leads : after ≡ room_after_steps room i taken

pub not_yet : (room : RoomState) (i : ℕ) → HasNotEntered room i 0 room
not_yet room i = record { each = λ k less. absurd (omega (arith, less)); outside = λ k some few. absurd (omega (arith, some, few)); leads = refl }

each_next : (room : RoomState) (i taken : ℕ) → ((k : ℕ) → k < taken → step_reply (room_after_steps room i k) i ≡ Stepped) → step_reply (room_after_steps room i taken) i ≡ Stepped → (k : ℕ) → k < taken + 1 → step_reply (room_after_steps room i k) i ≡ Stepped
each_next room i taken each last k less =
    dite (ℕ_discrete k taken)
    (λ (e : k ≡ taken). subst (λ (n : ℕ). step_reply (room_after_steps room i n) i ≡ Stepped) (sym e) last)
    (λ (n : k ≢ taken). each k (omega (arith, less, n)))

pub one_step_more : (room : RoomState) (i taken one : ℕ) (before after : RoomState) → HasNotEntered room i taken before → one ≢ 0 → one ≤ 1 → after ≡ room_after_steps before i one → ((k : ℕ) → k < one → step_reply (room_after_steps before i k) i ≡ Stepped)
    → has_entered after i ≡ false → HasNotEntered room i (taken + 1) after
one_step_more room i taken one before after so some few to stepped none =
    let is : one ≡ 1 = omega (arith, some, few) in
    let leads : after ≡ room_after_steps room i (taken + 1) = to ∙ ap (room_after_steps before i) is ∙ ap (λ (r : RoomState). room_after_steps r i 1) so.leads ∙ step_next room i taken in
    record {
      each = each_next room i taken so.each (subst (λ (r : RoomState). step_reply r i ≡ Stepped) so.leads (stepped 0 (omega (arith, is))));
      outside = λ k some_k few_k.
          dite (ℕ_discrete k (taken + 1))
          (λ (e : k ≡ taken + 1). subst (λ (r : RoomState). has_entered r i ≡ false) (leads ∙ ap (room_after_steps room i) (sym e)) none)
          (λ (n : k ≢ taken + 1). so.outside k some_k (omega (arith, few_k, n)));
      leads = leads;
    }

-- it enters one by the next step
pub enters : (room : RoomState) (i most taken one : ℕ) (before after : RoomState) → HasNotEntered room i taken before → taken < most → one ≢ 0 → one ≤ 1 → after ≡ room_after_steps before i one → ((k : ℕ) → k < one → step_reply (room_after_steps before i k) i ≡ Stepped)
    → has_entered after i ≡ true → EntersBy i most (taken + 1) room after true
enters room i most taken one before after so less some few to stepped is_in =
    let is : one ≡ 1 = omega (arith, some, few) in
    record {
      few = omega (arith, less);
      some = λ e. omega arith;
      each = each_next room i taken so.each (subst (λ (r : RoomState). step_reply r i ≡ Stepped) so.leads (stepped 0 (omega (arith, is))));
      outside = λ k some_k few_k. so.outside k some_k (omega (arith, few_k));
      entered_is = λ e. is_in;
      stopped = λ e. absurd (let never : true ≡ false = e in cc);
      leads = to ∙ ap (room_after_steps before i) is ∙ ap (λ (r : RoomState). room_after_steps r i 1) so.leads ∙ step_next room i taken;
    }

-- it stays outside, and takes fewer steps only if it has none to take
pub enters_none : (room : RoomState) (i most taken : ℕ) (after : RoomState) → HasNotEntered room i taken after → taken ≤ most → (taken < most → step_reply after i ≢ Stepped) → EntersBy i most taken room after false
enters_none room i most taken after so few stopped = record {
  few = few;
  some = λ e. absurd (let never : false ≡ true = e in cc);
  each = so.each;
  outside = λ k some_k few_k. so.outside k some_k (omega (arith, few_k));
  entered_is = λ some_taken. subst (λ (r : RoomState). has_entered r i ≡ false) (sym so.leads) (so.outside taken some_taken (omega arith));
  stopped = λ e. stopped;
  leads = so.leads;
}

-- it has no step to take
pub stops_outside : (room : RoomState) (i most taken one : ℕ) (before after : RoomState) → HasNotEntered room i taken before → taken ≤ most → one ≡ 0 → after ≡ room_after_steps before i one → (one < 1 → step_reply after i ≢ Stepped) → EntersBy i most taken room after false
stops_outside room i most taken one before after so few none to stopped =
    let same : after ≡ before = to ∙ ap (room_after_steps before i) none in
    enters_none room i most taken after (subst (λ (r : RoomState). HasNotEntered room i taken r) (sym same) so) few (λ less. stopped (omega (arith, none)))
