-- Over every call what has been agreed on and what has been decided stays.
use Rattle.std.proofs.Common.{◌≡◌, ◌≢◌, ℕ, zero, suc, ◌+◌, ◌-◌, ◌<◌, ◌≤◌, Bool, true, false, not, cond, eqb, List, [], ◌∷◌, map, Option, Some, None, inl, inr, refl, sym, ap, ◌∙◌, subst, arith}
use Rattle.std.specs.List.{find, range_with_len}
use Rattle.std.specs.Option.{option_map}
use Rattle.std.proofs.lemmas.Bool.{cases_Bool, eqb-false, not-true, ne_eqb}
use Rattle.room_spec.specs.Rooms.{RoomSpec, IsWithinLimits, processes}
use Rattle.room_core.specs.Calls.{Call, RoomState, room_after_call}
use Rattle.room_core.specs.Fields.{Fields, fields_after_call, fields_after_calls}
use Rattle.room_core.specs.Reading.{AreFieldsOf}
use Rattle.room_core.specs.Agreements.{AgreementsStay, decided_in, is_out, outs_at}
use Rattle.room_core.proofs.fields.FieldCalls.{call_in_fields}
use Rattle.room_core.proofs.settling.SpecKept.{same_spec}
use Rattle.room_core.proofs.values.Known.{IsKnown, decided_same}
use Rattle.room_core.proofs.values.Knowing.{fields_known}
use Rattle.room_core.proofs.agreements.Agreed.{agreed_call}
use Rattle.room_core.proofs.agreements.Promises.{passed_fixed}

-- ---- the first of a row that passes

pub record IsFirstIn (p : ℕ → Bool) (f : ℕ → ℕ) (a n x : ℕ) : Type 0 where
  pub place : ℕ
  pub above : a ≤ place
  pub below : place < a + n
  pub is : f place ≡ x
  pub passes : p x ≡ true

found_in_row : (p : ℕ → Bool) (f : ℕ → ℕ) (a n x : ℕ) → find p (map f (range_with_len a n)) ≡ Some x → IsFirstIn p f a n x
found_in_row p f a zero x is = absurd cc
found_in_row p f a (suc n) x is = elim (cases_Bool (p (f a))) [
  | inl passes ↦
      let here : Some (f a) ≡ Some x = rw passes at is in
      let same : f a ≡ x = cc in
      record { place = a; above = omega arith; below = omega arith; is = same; passes = subst (λ (y : ℕ). p y ≡ true) same passes }
  | inr fails ↦
      let more = found_in_row p f (a + 1) n x (rw fails at is) in
      let low = more.above in
      let high = more.below in
      record { place = more.place; above = omega arith; below = omega arith; is = more.is; passes = more.passes }
]

-- where one passes, one is found
some_in_row : (p : ℕ → Bool) (f : ℕ → ℕ) (a n i : ℕ) → a ≤ i → i < a + n → p (f i) ≡ true → (x : ℕ) × (find p (map f (range_with_len a n)) ≡ Some x)
some_in_row p f a zero i low high passes = absurd (omega arith)
some_in_row p f a (suc n) i low high passes = elim (cases_Bool (p (f a))) [
  | inl here ↦ (f a, ap (λ (b : Bool). cond b (Some (f a)) (find p (map f (range_with_len (a + 1) n)))) here)
  | inr fails ↦
      let other : i ≢ a = λ e. absurd (let wrong : true ≡ false = sym passes ∙ ap (λ (k : ℕ). p (f k)) e ∙ fails in cc) in
      let more = some_in_row p f (a + 1) n i (omega (arith, other)) (omega arith) passes in
      (more.0, ap (λ (b : Bool). cond b (Some (f a)) (find p (map f (range_with_len (a + 1) n)))) fails ∙ more.1)
]

-- ---- the decision of a process

less_one : (decision : Option ℕ) (v : ℕ) → option_map (λ out. out - 1) decision ≡ Some v → (out : ℕ) × (decision ≡ Some out) × (out - 1 ≡ v)
less_one (Some out) v is = (out, refl, cc)
less_one None v is = absurd cc

-- some simulator has stored it
pub decided_out : (spec : RoomSpec) (fields : Fields) (j decision : ℕ) → decided_in spec fields j ≡ Some decision → (i : ℕ) × (i < spec.simulators) × (fields.out i j ≡ decision + 1)
decided_out spec fields j decision is =
    let parts = less_one (find is_out (outs_at spec fields j)) decision is in
    let first = found_in_row is_out (λ i. fields.out i j) 0 spec.simulators parts.0 parts.1 in
    let some : parts.0 ≢ 0 = eqb-false parts.0 0 (not-true (eqb parts.0 0) first.passes) in
    let below = first.below in
    (first.place, omega arith, first.is ∙ omega (arith, some, parts.2))

-- and all that have stored one have stored the same
pub out_decided : (spec : RoomSpec) (fields : Fields) (i j decision : ℕ) → IsKnown spec fields → i < spec.simulators → j < processes spec → fields.out i j ≡ decision + 1 → decided_in spec fields j ≡ Some decision
out_decided spec fields i j decision known below low out =
    let is : is_out (fields.out i j) ≡ true = ap not (ne_eqb (fields.out i j) 0 (λ none. omega (arith, none, out))) in
    let found = some_in_row is_out (λ a. fields.out a j) 0 spec.simulators i (omega arith) (omega arith) is in
    let first = found_in_row is_out (λ a. fields.out a j) 0 spec.simulators found.0 found.1 in
    let some : found.0 ≢ 0 = eqb-false found.0 0 (not-true (eqb found.0 0) first.passes) in
    let other : fields.out first.place j ≡ (found.0 - 1) + 1 = first.is ∙ omega (arith, some) in
    let same = decided_same spec fields first.place i j (found.0 - 1) decision known (let b = first.below in omega arith) below low other out in
    ap (λ (first : Option ℕ). option_map (λ out. out - 1) first) found.1 ∙ ap Some same

pub agreements_stay : (room : RoomState) (fields : Fields) (call : Call) → IsWithinLimits room.spec → AreFieldsOf room fields → AgreementsStay room.spec fields (fields_after_call room.spec fields call)
agreements_stay room fields call limits are =
    let after = fields_after_call room.spec fields call in
    let stays = agreed_call room fields call limits are in
    let room' = room_after_call room call in
    let known : IsKnown room.spec after = subst (λ (spec : RoomSpec). IsKnown spec after) (same_spec room call) (fields_known room' after (subst IsWithinLimits (sym (same_spec room call)) limits) (call_in_fields room fields call limits are).1) in
    record {
      passed_is_fixed = passed_fixed room fields limits are;
      fixed = stays.fixed;
      same_view = stays.view;
      same_action = stays.asks;
      inputs = stays.input;
      decided = λ j decision low is.
          let out = decided_out room.spec fields j decision is in
          let some : fields.out out.0 j ≢ 0 = λ none. omega (arith, none, out.2) in
          out_decided room.spec after out.0 j decision known out.1 low (stays.out out.0 j some ∙ out.2);
      simulators = stays.decision;
    }

-- over any list of calls
pub agreements_last : (room : RoomState) (fields : Fields) (calls : List Call) → IsWithinLimits room.spec → AreFieldsOf room fields → AgreementsStay room.spec fields (fields_after_calls room.spec fields calls)
agreements_last room fields [] limits are = record {
  passed_is_fixed = passed_fixed room fields limits are;
  fixed = λ j k at. at;
  same_view = λ j k first at. refl;
  same_action = λ j k first at. refl;
  inputs = λ j input low is. is;
  decided = λ j decision low is. is;
  simulators = λ i decision is. is;
}
agreements_last room fields (call ∷ calls) limits are =
    let here = agreements_stay room fields call limits are in
    let after = fields_after_call room.spec fields call in
    let rest : AgreementsStay room.spec after (fields_after_calls room.spec after calls) = subst (λ (spec : RoomSpec). AgreementsStay spec after (fields_after_calls spec after calls)) (same_spec room call)
    (agreements_last (room_after_call room call) after calls (subst IsWithinLimits (sym (same_spec room call)) limits) (call_in_fields room fields call limits are).1) in
    record {
      passed_is_fixed = here.passed_is_fixed;
      fixed = λ j k at. rest.fixed j k (here.fixed j k at);
      same_view = λ j k first at. rest.same_view j k first (here.fixed j k at) ∙ here.same_view j k first at;
      same_action = λ j k first at. rest.same_action j k first (here.fixed j k at) ∙ here.same_action j k first at;
      inputs = λ j input low is. rest.inputs j input low (here.inputs j input low is);
      decided = λ j decision low is. rest.decided j decision low (here.decided j decision low is);
      simulators = λ i decision is. rest.simulators i decision (here.simulators i decision is);
    }
