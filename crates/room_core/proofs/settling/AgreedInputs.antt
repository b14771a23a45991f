-- What a room says of the inputs that were agreed on.
use Rattle.std.proofs.Common.{◌≡◌, ◌≢◌, ◌⊎◌, ℕ, zero, suc, ◌+◌, ◌<◌, ◌≤◌, Bool, true, false, cond, List, [], ◌∷◌, length, map, get_or, Contains, Option, Some, None, slice_index, inl, inr, refl, sym, ap, ◌∙◌, subst, arith}
use Rattle.std.specs.Prelude.{slice_get}
use Rattle.std.specs.List.{range_with_len}
use Rattle.std.proofs.lemmas.Bool.{cases_lt}
use mathlib.Core.Logic.{dite}
use native.Mathlib.Decide.{ℕ_discrete}
use Rattle.room_spec.specs.Rooms.{RoomSpec, IsWithinLimits, is_reduction, processes}
use Rattle.sim_memory.proofs.CallerLemmas.{merged_reached}
use Rattle.simulator.specs.Minds.{MindState, goal_at, has_input, known_input, or_else}
use Rattle.room_core.specs.Agreements.{agreed_input, greatest_step, has_out, is_input_known, shown_of}
use Rattle.room_core.specs.Calls.{Call, RoomState, configuration_of, first_some, input_of, room_after_call, room_after_calls, sweep_at}
use Rattle.room_core.specs.Fields.{Fields, fields_after_call}
use Rattle.room_core.specs.Reading.{AreFieldsOf}
use Rattle.room_core.proofs.fields.FieldCalls.{call_in_fields, fields_stand}
use Rattle.room_core.proofs.fields.FieldReplays.{mind_is}
use Rattle.room_core.proofs.agreements.Inputs.{agreed_is, counted_has, inputs_none, known_by, known_of, known_value, own_at, who_knows}
use Rattle.room_core.proofs.agreements.Lasting.{agreements_stay}
use Rattle.room_core.proofs.agreements.Promises.{some_out}
use Rattle.room_core.proofs.agreements.Sound.{fields_sound}
use Rattle.room_core.proofs.values.Knowing.{fields_inputs}
use Rattle.room_core.proofs.fields.States.{mind_here}
use Rattle.room_core.proofs.settling.SpecKept.{same_spec}

-- ---- lists

first_by : (one found rest : Option ℕ) → (one ≡ None) ⊎ (one ≡ found) → (one ≡ None → rest ≡ found) → or_else one rest ≡ found
first_by (Some x) found rest (inl none) more = absurd cc
first_by (Some x) found rest (inr here) more = here
first_by None found rest from more = more refl

later : (known : ℕ → Option ℕ) (found : Option ℕ) (a n : ℕ) → known a ≡ None → ((i : ℕ) × (a ≤ i) × (i < a + suc n) × (known i ≡ found)) ⊎ (found ≡ None) → ((i : ℕ) × (a + 1 ≤ i) × (i < (a + 1) + n) × (known i ≡ found)) ⊎ (found ≡ None)
later known found a n none (inr nothing) = inr nothing
later known found a n none (inl some) = dite (ℕ_discrete some.0 a)
    (λ (e : some.0 ≡ a). inr (sym some.3 ∙ ap known e ∙ none))
    (λ (n' : some.0 ≢ a). let low = some.1 in let high = some.2 in inl (some.0, omega (arith, low, n'), omega (arith, high), some.3))

-- the first of these that there is, where each is this one or none
first_is : (known : ℕ → Option ℕ) (found : Option ℕ) (a n : ℕ) → ((i : ℕ) → a ≤ i → i < a + n → (known i ≡ None) ⊎ (known i ≡ found)) → ((i : ℕ) × (a ≤ i) × (i < a + n) × (known i ≡ found)) ⊎ (found ≡ None) → first_some (map known (range_with_len a n)) ≡ found
first_is known found a zero each (inl some) = absurd (let low = some.1 in let high = some.2 in omega (arith, low, high))
first_is known found a zero each (inr none) = sym none
first_is known found a (suc n) each some =
    first_by (known a) found (first_some (map known (range_with_len (a + 1) n))) (each a (omega arith) (omega arith))
    (λ none. first_is known found (a + 1) n (λ i low high. each i (omega (arith, low)) (omega (arith, high))) (later known found a n none some))

-- the first that there is, where it is
pub first_none : (known : ℕ → Option ℕ) (a n : ℕ) → ((i : ℕ) → a ≤ i → i < a + n → known i ≡ None) → first_some (map known (range_with_len a n)) ≡ None
first_none known a n none = first_is known None a n (λ i low high. inl (none i low high)) (inr refl)

pub first_found : (known : ℕ → Option ℕ) (a n i x : ℕ) → a ≤ i → i < a + n → ((b : ℕ) → a ≤ b → b < i → known b ≡ None) → known i ≡ Some x → first_some (map known (range_with_len a n)) ≡ Some x
first_found known a zero i x low high none is = absurd (omega (arith, low, high))
first_found known a (suc n) i x low high none is = dite (ℕ_discrete a i)
    (λ (e : a ≡ i). ap (λ (o : Option ℕ). or_else o (first_some (map known (range_with_len (a + 1) n)))) (ap known e ∙ is))
    (λ (other : a ≢ i).
    ap (λ (o : Option ℕ). or_else o (first_some (map known (range_with_len (a + 1) n)))) (none a (omega arith) (omega (arith, low, other)))
    ∙ first_found known (a + 1) n i x (omega (arith, low, other)) (omega (arith, high)) (λ b from to. none b (omega (arith, from)) to) is)

get_is : (list : List ℕ) (i : ℕ) → i < length list → slice_get list i ≡ Some (get_or list i 0)
get_is [] i below = absurd (omega arith)
get_is (x ∷ list) zero below = refl
get_is (x ∷ list) (suc i) below = get_is list i (omega arith)

get_past : (list : List ℕ) (i : ℕ) → length list ≤ i → slice_get list i ≡ None
get_past [] i above = refl
get_past (x ∷ list) zero above = absurd (omega arith)
get_past (x ∷ list) (suc i) above = get_past list i (omega arith)

-- ---- one room

module _ (room : RoomState) (fields : Fields) (limits : IsWithinLimits room.spec) (are : AreFieldsOf room fields) where
  m : ℕ
  m = room.spec.simulators

  long_of : (i : ℕ) → i < room.spec.simulators → is_reduction room.spec ≡ true → length (fields.mind i).inputs ≡ processes room.spec
  long_of i below kind = (fields_inputs room fields limits are).long i below ∙ ap (λ (b : Bool). cond b (processes room.spec) 0) kind

  -- what a simulator has of a process of the room
  mind_has : (i j : ℕ) → i < room.spec.simulators → j < processes room.spec → is_reduction room.spec ≡ true → has_input (goal_at (fields.mind i).goals j) ≡ true → known_input (fields.mind i) j ≡ agreed_input room.spec fields j
  mind_has i j below low kind has =
      let known = known_by room.spec fields i j below kind has in
      ap (λ (b : Bool). cond b (slice_get (fields.mind i).inputs j) None) has ∙ get_is (fields.mind i).inputs j (let long = long_of i below kind in omega (arith, long, low))
      ∙ ap Some ((fields_inputs room fields limits are).inputs i j below low kind has)
      ∙ sym (agreed_is room.spec fields (fields_stand room fields limits are).tracks (fields_sound room fields limits are) (fields_inputs room fields limits are) j low known)

  none_by : (has : Bool) (list : List ℕ) (j : ℕ) → length list ≤ j → cond has (slice_get list j) None ≡ None
  none_by true list j above = get_past list j above
  none_by false list j above = refl

  bool_is : (b : Bool) → (b ≡ true) ⊎ (b ≡ false)
  bool_is true = inl refl
  bool_is false = inr refl

  ordinary_none : (i j : ℕ) → i < room.spec.simulators → is_reduction room.spec ≡ false → known_input (fields.mind i) j ≡ None
  ordinary_none i j below kind =
      let empty = inputs_none room.spec fields (fields_stand room fields limits are).tracks (fields_sound room fields limits are) (fields_inputs room fields limits are) i below kind in
      none_by (has_input (goal_at (fields.mind i).goals j)) (fields.mind i).inputs j (let e = ap length empty in omega (arith, e))

  absent_none : (i j : ℕ) → i < room.spec.simulators → processes room.spec ≤ j → known_input (fields.mind i) j ≡ None
  absent_none i j below above = elim (bool_is (is_reduction room.spec)) [
    | inl kind ↦ none_by (has_input (goal_at (fields.mind i).goals j)) (fields.mind i).inputs j (let long = long_of i below kind in omega (arith, long, above))
    | inr kind ↦ ordinary_none i j below kind
  ]

  -- each has nothing, or what was agreed on
  has_or_none : (i j : ℕ) → i < room.spec.simulators → j < processes room.spec → (known_input (fields.mind i) j ≡ None) ⊎ (known_input (fields.mind i) j ≡ agreed_input room.spec fields j)
  has_or_none i j below low = elim (bool_is (is_reduction room.spec)) [
    | inr kind ↦ inl (ordinary_none i j below kind)
    | inl kind ↦ elim (bool_is (has_input (goal_at (fields.mind i).goals j))) [
      | inl has ↦ inr (mind_has i j below low kind has)
      | inr none ↦ inl (ap (λ (b : Bool). cond b (slice_get (fields.mind i).inputs j) None) none)
    ]
  ]

  pub minds_agree : (i j input : ℕ) → i < room.spec.simulators → known_input (fields.mind i) j ≡ Some input → agreed_input room.spec fields j ≡ Some input
  minds_agree i j input below is = dite_below
    where
      dite_below : agreed_input room.spec fields j ≡ Some input
      dite_below = elim (cases_lt j (processes room.spec)) [
        | inl low ↦ elim (has_or_none i j below low) [
          | inl none ↦ absurd (let wrong : None ≡ Some input = sym none ∙ is in cc)
          | inr same ↦ sym same ∙ is
        ]
        | inr above ↦ absurd (let wrong : None ≡ Some input = sym (absent_none i j below above) ∙ is in cc)
      ]

  -- a simulator has it, if it was agreed on
  some_has : (j : ℕ) → j < processes room.spec → ((i : ℕ) × (0 ≤ i) × (i < 0 + room.spec.simulators) × (known_input (fields.mind i) j ≡ agreed_input room.spec fields j)) ⊎ (agreed_input room.spec fields j ≡ None)
  some_has j low = elim (bool_is (is_input_known room.spec fields j)) [
    | inl known ↦
        let who = who_knows room.spec fields j known in
        inl (who.1.0, omega arith, omega (arith, who.1.1), mind_has who.1.0 j who.1.1 low who.0 who.1.2)
    | inr none ↦ inr (ap (λ (b : Bool). cond b (Some (fields.value (shown_of room.spec fields j 0) j 0)) None) none)
  ]

  same_known : (i j : ℕ) → i < room.spec.simulators → known_input (sweep_at room i).mind j ≡ known_input (fields.mind i) j
  same_known i j below =
      ap (λ (mind : MindState). known_input mind j) (sym (mind_here room i)) ∙ ap (λ (mind : MindState). known_input mind j) (mind_is (configuration_of room) fields i (fields_stand room fields limits are) below)

  -- what the room answers
  pub input_is_agreed : (j : ℕ) → j < processes room.spec → input_of room j ≡ agreed_input room.spec fields j
  input_is_agreed j low =
      first_is (λ i. known_input (sweep_at room i).mind j) (agreed_input room.spec fields j) 0 room.spec.simulators
      (λ i from to.
      let below : i < room.spec.simulators = omega (arith, to) in
      elim (has_or_none i j below low) [ inl none ↦ inl (same_known i j below ∙ none) | inr is ↦ inr (same_known i j below ∙ is) ])
      (elim (some_has j low) [
        | inl some ↦ let below : some.0 < room.spec.simulators = (let high = some.2 in omega (arith, high)) in inl (some.0, some.1, some.2, same_known some.0 j below ∙ some.3)
        | inr none ↦ inr none
      ])

  pub absent_input : (j : ℕ) → processes room.spec ≤ j → input_of room j ≡ None
  absent_input j above =
      first_is (λ i. known_input (sweep_at room i).mind j) None 0 room.spec.simulators (λ i from to. let below : i < room.spec.simulators = omega (arith, to) in inl (same_known i j below ∙ absent_none i j below above)) (inr refl)

  -- it is a simulator's own
  pub input_is_own : (j input : ℕ) → j < processes room.spec → agreed_input room.spec fields j ≡ Some input → Contains room.spec.own input
  input_is_own j input low is =
      let tracks = (fields_stand room fields limits are).tracks in
      let sound = fields_sound room fields limits are in
      let knows = fields_inputs room fields limits are in
      let known = known_of room.spec fields j input is in
      let at = known_value room.spec fields tracks sound knows j low known in
      let same : slice_index room.spec.own (shown_of room.spec fields j 0) ≡ input = some_same (sym (agreed_is room.spec fields tracks sound knows j low known) ∙ is) in
      subst (Contains room.spec.own) same (own_at room.spec (shown_of room.spec fields j 0) limits at.0 (who_knows room.spec fields j known).0)
    where
      some_same : {x y : ℕ} → Some x ≡ Some y → x ≡ y
      some_same e = cc

  -- a process that has made a write has an input
  pub written_known : (j : ℕ) → is_reduction room.spec ≡ true → 1 ≤ greatest_step room.spec fields j → is_input_known room.spec fields j ≡ true
  written_known j kind counted =
      let some = limits.shape.m_range.0 in
      let who = merged_reached room.spec.simulators fields.step j (omega (arith, some)) in
      let has = counted_has room.spec fields who.0 j (fields_stand room fields limits are).tracks (let e = who.2 in omega (arith, e, counted)) in
      known_by room.spec fields who.0 j who.1 kind has

  pub decided_known : (j : ℕ) → is_reduction room.spec ≡ true → has_out room.spec fields j ≡ true → is_input_known room.spec fields j ≡ true
  decided_known j kind out =
      let who = some_out room.spec fields j out in
      known_by room.spec fields who.0 j who.1 kind (ap has_input ((fields_sound room fields limits are).outs who.0 j who.2))

-- ---- whatever is called

input_at_call : (room : RoomState) (fields : Fields) (call : Call) (j input : ℕ) → IsWithinLimits room.spec → AreFieldsOf room fields → j < processes room.spec → input_of room j ≡ Some input → input_of (room_after_call room call) j ≡ Some input
input_at_call room fields call j input limits are low is =
    let back = sym (same_spec room call) in
    let after = fields_after_call room.spec fields call in
    let stays = (agreements_stay room fields call limits are).inputs j input low (sym (input_is_agreed room fields limits are j low) ∙ is) in
    input_is_agreed (room_after_call room call) after (subst IsWithinLimits back limits) (call_in_fields room fields call limits are).1 j (subst (λ (s : RoomSpec). j < processes s) back low)
    ∙ subst (λ (s : RoomSpec). agreed_input s after j ≡ Some input) back stays

pub input_stays : (room : RoomState) (fields : Fields) (calls : List Call) (j input : ℕ) → IsWithinLimits room.spec → AreFieldsOf room fields → j < processes room.spec → input_of room j ≡ Some input → input_of (room_after_calls room calls) j ≡ Some input
input_stays room fields [] j input limits are low is = is
input_stays room fields (call ∷ calls) j input limits are low is =
    let back = sym (same_spec room call) in
    input_stays (room_after_call room call) (fields_after_call room.spec fields call) calls j input (subst IsWithinLimits back limits) (call_in_fields room fields call limits are).1
    (subst (λ (s : RoomSpec). j < processes s) back low) (input_at_call room fields call j input limits are low is)
