-- Rooms of a protocol by which a process waits for all but f: with two rounds or more no process is spent, since what was agreed on in a
-- later round shows all.
use Rattle.std.proofs.Common.{◌≡◌, ℕ, zero, suc, ◌+◌, ◌<◌, ◌≤◌, ◌&&◌, ◌||◌, Bool, true, false, eqb, ltb, map, ◌∷◌, length, Option, Some, refl, sym, ap, ◌∙◌, subst, arith}
use Rattle.std.specs.Prelude.{slice_index}
use Rattle.std.specs.List.{range_with_len}
use Rattle.protocol_lang.specs.Meaning.{present}
use Rattle.protocol_lang.specs.declared.meaning.Action.TheVariants as actions
use Rattle.room_spec.specs.Rooms.{IsCertified, RoomSpec, IsWithinLimits, is_reduction, processes}
use Rattle.room_core.specs.Agreements.{IsFixedAt, asks, greatest_step, has_out, is_resolved, is_passed, row_at, shown}
use Rattle.room_core.specs.Calls.{RoomState}
use Rattle.room_core.specs.Fields.{Fields, fields_after_settle}
use Rattle.room_core.specs.Reading.{AreFieldsOf}
use Rattle.room_core.specs.Settled.{HasTurnLeft, IsSettledFor, decided, spent, held, held_input, IsDecidedOrHeld, has_decided, is_held}
use Rattle.room_core.proofs.agreements.Promises.{passed_fixed}
use Rattle.room_core.proofs.moments.Visits.{fixed_shows_all}
use Rattle.room_core.proofs.settling.Ending.{settled_for}
use Rattle.room_core.proofs.settling.FewSpent.{few_present, shown_there}
use Rattle.room_core.proofs.settling.InOrder.{settled_over}

-- ---- a snapshot that shows all

all_present : (entries : ℕ → Option ℕ) (a n : ℕ) → ((p : ℕ) → a ≤ p → p < a + n → (v : ℕ) × (entries p ≡ Some v)) → length (present (map entries (range_with_len a n))) ≡ n
all_present entries a zero each = refl
all_present entries a (suc n) each =
    let first = each a (omega arith) (omega arith) in
    let rest = all_present entries (a + 1) n (λ p low high. each p (omega arith) (omega arith)) in
    ap (λ (e : Option ℕ). length (present (e ∷ map entries (range_with_len (a + 1) n)))) first.1 ∙ ap suc rest

pub passed_by : (a b c : Bool) → a ≡ true → (a || b || c) ≡ true
passed_by true b c is = refl
passed_by false b c is = absurd cc

module _ (room : RoomState) (fields : Fields) (limits : IsWithinLimits room.spec) (are : AreFieldsOf room fields) (f : ℕ) (certified : IsCertified room.spec f) (ordinary : is_reduction room.spec ≡ false) where
  -- so the protocol asks for no write after it
  pub asks_no_write : (j k v : ℕ) → j < processes room.spec → 2 ≤ k → IsFixedAt room.spec fields j k → asks room.spec fields j k ≡ actions.Write v → ⊥
  asks_no_write j k v within two fixed is =
      let row = row_at room.spec fields j k in
      let n = processes room.spec in
      let count = all_present (λ p. shown room.spec fields p (slice_index row p)) 0 n (λ p low high. shown_there room.spec fields p (slice_index row p) (fixed_shows_all room fields limits are ordinary j k p within (omega (arith, high)) two fixed)) in
      let few = few_present room fields limits are f certified j k v is in
      absurd (omega (arith, count, few))

  resolved_passed : (j : ℕ) → is_resolved room.spec fields j room.spec.rounds ≡ true → is_passed room.spec fields j room.spec.rounds ≡ true
  resolved_passed j resolved = passed_by (is_resolved room.spec fields j room.spec.rounds) (ltb room.spec.rounds (greatest_step room.spec fields j)) (has_out room.spec fields j && eqb (greatest_step room.spec fields j) room.spec.rounds) resolved

  -- and with two rounds or more none is spent
  pub never_spent : (j v : ℕ) → 2 ≤ room.spec.rounds → j < processes room.spec → is_resolved room.spec fields j room.spec.rounds ≡ true → asks room.spec fields j room.spec.rounds ≡ actions.Write v → ⊥
  never_spent j v two within resolved is = asks_no_write j room.spec.rounds v within two (passed_fixed room fields limits are j room.spec.rounds within (omega (arith, two)) (resolved_passed j resolved)) is

  pub decided_or_held : (j : ℕ) → 2 ≤ room.spec.rounds → j < processes room.spec → IsSettledFor room.spec fields j → IsDecidedOrHeld room.spec fields j
  decided_or_held j two within (decided out) = has_decided out
  decided_or_held j two within (spent v resolved is) = absurd (never_spent j v two within resolved is)
  decided_or_held j two within (held i k below crashed first last one) = is_held i k below crashed first last one
  decided_or_held j two within (held_input i kind below crashed one) = absurd (let wrong : true ≡ false = sym kind ∙ ordinary in cc)

-- So of each process once the room has settled.
pub certified_for : (room : RoomState) (fields : Fields) → IsWithinLimits room.spec → AreFieldsOf room fields → (f : ℕ) → IsCertified room.spec f → is_reduction room.spec ≡ false → 2 ≤ room.spec.rounds → HasTurnLeft room.spec (fields_after_settle room.spec fields) → (j : ℕ) → j < processes room.spec
    → IsDecidedOrHeld room.spec (fields_after_settle room.spec fields) j
certified_for room fields limits are f certified ordinary two left j low =
    let spec = room.spec in
    let after = fields_after_settle spec fields in
    let has = settled_over spec limits room fields refl are in
    let back = sym has.is.same in
    let settled : IsSettledFor spec after j = settled_for room fields limits are left j low in
    subst (λ (s : RoomSpec). IsDecidedOrHeld s after j) has.is.same
    (decided_or_held has.room after (subst IsWithinLimits back limits) has.is.are f (subst (λ (s : RoomSpec). IsCertified s f) back certified) (subst (λ (s : RoomSpec). is_reduction s ≡ false) back ordinary) j
    (subst (λ (s : RoomSpec). 2 ≤ s.rounds) back two) (subst (λ (s : RoomSpec). j < processes s) back low) (subst (λ (s : RoomSpec). IsSettledFor s after j) back settled))
