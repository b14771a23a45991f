-- Whether an agreement is fixed, as a test.
use Rattle.std.proofs.Common.{◌≡◌, ℕ, ◌<◌, ◌&&◌, Bool, true, false, not, eqb, get_or, refl, sym, ap, ◌∙◌, subst, arith}
use Rattle.std.specs.List.{range_with_len, list_any}
use Rattle.std.proofs.lemmas.Bool.{eq-eqb, eqb-true, not-true, and_parts, and_from}
use Rattle.std.proofs.lemmas.List.{get_or_read}
use Rattle.std.proofs.lemmas.List.FromFn.{length-range_with_len, get_or-range_with_len, length-map-range_with_len, get_or-map-range_with_len}
use Rattle.std.proofs.lemmas.List.Folds.{Any-from_list_any, list_any_at}
use Rattle.room_spec.specs.Rooms.{RoomSpec, processes}
use Rattle.safe_agreement.specs.Levels.{has_level}
use Rattle.simulator.specs.declared.line.Line.{Line}
use Rattle.simulator.specs.declared.line.Line.TheVariants.{Rest, Raise, Snap, Show, Enter, Look, Leave, Ask, GetInput, GetView, Values, Out}
use Rattle.simulator.specs.Minds.{current_round}
use Rattle.room_core.specs.Fields.{Fields, levels_at}
use Rattle.room_core.specs.Points.{HasFixed, IsFixedIn}
use Rattle.room_core.specs.Agreements.{HasLookedBlind, IsFixedAt, has_looked_blind, is_fixed, leaves_blind}

never_true : (b : Bool) → (b ≡ true → ⊥) → not b ≡ true
never_true true never = absurd (never refl)
never_true false never = refl

leaving : (line : Line) → leaves_blind line ≡ true → line ≡ Leave false
leaving (Leave true) is = absurd (let wrong : false ≡ true = is in cc)
leaving (Leave false) is = refl
leaving Rest is = absurd (let wrong : false ≡ true = is in cc)
leaving Raise is = absurd (let wrong : false ≡ true = is in cc)
leaving Snap is = absurd (let wrong : false ≡ true = is in cc)
leaving Show is = absurd (let wrong : false ≡ true = is in cc)
leaving Enter is = absurd (let wrong : false ≡ true = is in cc)
leaving Look is = absurd (let wrong : false ≡ true = is in cc)
leaving Ask is = absurd (let wrong : false ≡ true = is in cc)
leaving (GetInput chosen) is = absurd (let wrong : false ≡ true = is in cc)
leaving (GetView chosen) is = absurd (let wrong : false ≡ true = is in cc)
leaving Values is = absurd (let wrong : false ≡ true = is in cc)
leaving (Out decision) is = absurd (let wrong : false ≡ true = is in cc)

module _ (spec : RoomSpec) (fields : Fields) (j k : ℕ) where
  at_index : (i : ℕ) → i < spec.simulators → get_or (range_with_len 0 spec.simulators) i 0 ≡ i
  at_index i low = let e = get_or-range_with_len 0 spec.simulators i 0 low in omega (arith, e)

  blind_of : (i : ℕ) → has_looked_blind fields i j k ≡ true → HasLookedBlind fields i j k
  blind_of i is =
      let one = and_parts (leaves_blind (fields.mind i).line) (eqb (fields.mind i).process j && eqb (current_round (fields.mind i)) k) is in
      let two = and_parts (eqb (fields.mind i).process j) (eqb (current_round (fields.mind i)) k) one.1 in
      record { process = eqb-true (fields.mind i).process j two.0; round = eqb-true (current_round (fields.mind i)) k two.1; line = leaving (fields.mind i).line one.0 }

  is_blind : (i : ℕ) → HasLookedBlind fields i j k → has_looked_blind fields i j k ≡ true
  is_blind i blind =
      and_from (leaves_blind (fields.mind i).line) (eqb (fields.mind i).process j && eqb (current_round (fields.mind i)) k) (ap leaves_blind blind.line)
      (and_from (eqb (fields.mind i).process j) (eqb (current_round (fields.mind i)) k) (eq-eqb (fields.mind i).process j blind.process) (eq-eqb (current_round (fields.mind i)) k blind.round))

  pub fixed_of : is_fixed spec fields j k ≡ true → IsFixedAt spec fields j k
  fixed_of is =
      let parts = and_parts (has_level 2 (levels_at spec fields j k)) (not (list_any (λ i. has_looked_blind fields i j k) (range_with_len 0 spec.simulators))) is in
      let at = Any-from_list_any (λ level. eqb level 2) (levels_at spec fields j k) parts.0 in
      let below : at.0 < spec.simulators = subst (λ (m : ℕ). at.0 < m) (length-map-range_with_len (λ (i : ℕ). fields.level i j k) 0 spec.simulators) at.2 in
      let level : fields.level at.0 j k ≡ 2 = sym (get_or_read (levels_at spec fields j k) at.0 at.1 at.2 (sym at.3) 0 ∙ get_or-map-range_with_len (λ (i : ℕ). fields.level i j k) 0 spec.simulators at.0 at.0 0 below (omega arith)) ∙ eqb-true at.1 2 at.4 in
      record {
        simulator = at.0;
        below = below;
        two = level;
        seen = λ i low blind.
            let there = list_any_at (λ a. has_looked_blind fields a j k) (range_with_len 0 spec.simulators) i 0 (let long = length-range_with_len 0 spec.simulators in omega (arith, long, low))
            (ap (λ (a : ℕ). has_looked_blind fields a j k) (at_index i low) ∙ is_blind i blind) in
            let none = not-true (list_any (λ a. has_looked_blind fields a j k) (range_with_len 0 spec.simulators)) parts.1 in
            let wrong : true ≡ false = sym there ∙ none in cc;
      }

  pub test_of : IsFixedAt spec fields j k → is_fixed spec fields j k ≡ true
  test_of at =
      and_from (has_level 2 (levels_at spec fields j k)) (not (list_any (λ i. has_looked_blind fields i j k) (range_with_len 0 spec.simulators)))
      (list_any_at (λ level. eqb level 2) (levels_at spec fields j k) at.simulator 0 (let long = length-map-range_with_len (λ (i : ℕ). fields.level i j k) 0 spec.simulators in let low = at.below in omega (arith, long, low))
      (ap (λ (l : ℕ). eqb l 2) (get_or-map-range_with_len (λ (i : ℕ). fields.level i j k) 0 spec.simulators at.simulator at.simulator 0 at.below (omega arith) ∙ at.two)))
      (never_true (list_any (λ i. has_looked_blind fields i j k) (range_with_len 0 spec.simulators)) (λ is.
      let who = Any-from_list_any (λ i. has_looked_blind fields i j k) (range_with_len 0 spec.simulators) is in
      let below : who.0 < spec.simulators = subst (λ (m : ℕ). who.0 < m) (length-range_with_len 0 spec.simulators) who.2 in
      let same : who.1 ≡ who.0 = get_or_read (range_with_len 0 spec.simulators) who.0 who.1 who.2 (sym who.3) 0 ∙ at_index who.0 below in
      at.seen who.0 below (blind_of who.0 (subst (λ (a : ℕ). has_looked_blind fields a j k ≡ true) same who.4))))

-- as timelines have it
pub in_line : (spec : RoomSpec) (fields : Fields) (j k : ℕ) → HasFixed spec fields j k → IsFixedIn (processes spec) spec.rounds (is_fixed spec fields) j k
in_line spec fields j k fixed = record { process = fixed.process; first = fixed.first; last = fixed.last; is = test_of spec fields j k fixed.is }

pub of_line : (spec : RoomSpec) (fields : Fields) (j k : ℕ) → IsFixedIn (processes spec) spec.rounds (is_fixed spec fields) j k → HasFixed spec fields j k
of_line spec fields j k passed = record { process = passed.process; first = passed.first; last = passed.last; is = fixed_of spec fields j k passed.is }

pub fixed_aside : (spec : RoomSpec) (fields : Fields) (quiet : ℕ → ℕ) (j k : ℕ) → HasFixed spec fields j k → HasFixed spec (record fields { quiet = quiet }) j k
fixed_aside spec fields quiet j k fixed = record { process = fixed.process; first = fixed.first; last = fixed.last; is = fixed_of spec (record fields { quiet = quiet }) j k (test_of spec fields j k fixed.is) }

pub fixed_back : (spec : RoomSpec) (fields : Fields) (quiet : ℕ → ℕ) (j k : ℕ) → HasFixed spec (record fields { quiet = quiet }) j k → HasFixed spec fields j k
fixed_back spec fields quiet j k fixed = record { process = fixed.process; first = fixed.first; last = fixed.last; is = fixed_of spec fields j k (test_of spec (record fields { quiet = quiet }) j k fixed.is) }
