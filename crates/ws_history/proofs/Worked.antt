-- One history worked by hand: its events, and that its source is one.
use Rattle.std.proofs.Common.{◌≡◌, ◌⊎◌, ℕ, zero, suc, ◌<◌, ◌≤◌, List, [], ◌∷◌, Option, Some, None, refl, subst, sum, eqb, cond, Contains, arith, inl, inr}
use Rattle.std.specs.Prelude.{codes}
use Rattle.protocol_lang.specs.Trees.{Number, Named}
use Rattle.protocol_lang.specs.declared.tree.Name.TheVariants as names
use Rattle.protocol_lang.specs.declared.tree.Kind.TheVariants as kinds
use Rattle.protocol_lang.specs.declared.tree.Comparator.TheVariants as comparators
use Rattle.protocol_lang.specs.declared.meaning.Action.TheVariants as actions
use Rattle.room_spec.specs.Rooms.{RoomSpec}
use Rattle.room_spec.specs.declared.version.Version.TheVariants.{One}
use Rattle.transcript.specs.Runs.{IsRun}
use Rattle.transcript.specs.declared.event.Event.TheVariants.{Write, Snap, Decide}
use Rattle.sim_memory.specs.Steps.{IsRowAtMost}
use Rattle.ws_history.specs.Histories.{Snapshot, Source, row_of, entry_of, asks_after, history_from, IsAgreed, IsBefore, IsSource}
use Rattle.ws_history.specs.Orders.{in_order}
use Rattle.ws_history.proofs.Order.{snapshot_at, not_empty, cons_cases, cons_first, cons_rest}
use Rattle.ws_history.proofs.Alternation.{history_is_run}

-- first input; if round < 2 write mine + .. (here: mine) else decide mine
abbrev pub room : RoomSpec
room = record {
  version = One;
  name = codes "two";
  inputs = 5 ∷ 7 ∷ [];
  own = [];
  simulators = 1;
  rounds = 2;
  turns = 10;
  task = None;
  fuses = [];
  protocol = record {
    first = Named names.Input;
    rules = record { conditions = record { left = Named names.Round; comparator = comparators.Less; right = Number 2 } ∷ []; action_rule = record { kind = kinds.Write; value = Named names.Count } } ∷ [];
    last = record { kind = kinds.Decide; value = Named names.Max };
  };
}

abbrev row_at : ℕ → ℕ → List ℕ
row_at p r = cond (eqb p 0) (cond (eqb r 1) (1 ∷ 0 ∷ []) (2 ∷ 1 ∷ [])) (1 ∷ 1 ∷ [])

abbrev decision_at : ℕ → ℕ → Option ℕ
decision_at p r = cond (eqb p 0) (cond (eqb r 2) (Some 7) None) None

abbrev worked : Source
worked = record {
  written = λ p r. cond (eqb p 0) (cond (eqb r 1) 5 1) (cond (eqb r 1) 7 2);
  order = snapshot_at 0 1 ∷ snapshot_at 1 1 ∷ snapshot_at 0 2 ∷ [];
  row = row_at;
  greatest = λ p. 2;
  decision = decision_at;
}

history_of_it : history_from room worked
    ≡ Write 0 5 ∷ Snap 0 (record { items = Some 5 ∷ None ∷ [] })
    ∷ Write 1 7 ∷ Snap 1 (record { items = Some 5 ∷ Some 7 ∷ [] })
    ∷ Write 0 1 ∷ Snap 0 (record { items = Some 1 ∷ Some 7 ∷ [] }) ∷ Decide 0 7
    ∷ Write 1 2 ∷ []
history_of_it = refl

-- the order is found by sorting
sorted : in_order row_at (snapshot_at 0 1 ∷ snapshot_at 0 2 ∷ snapshot_at 1 1 ∷ []) ≡ worked.order
sorted = refl

-- one with the sum and process of another stands behind it
alike : in_order (λ p r. 1 ∷ []) (snapshot_at 1 1 ∷ snapshot_at 0 1 ∷ snapshot_at 0 2 ∷ []) ≡ snapshot_at 0 1 ∷ snapshot_at 0 2 ∷ snapshot_at 1 1 ∷ []
alike = refl

-- ---- its premises hold

pub below_two : (P : ℕ → Type 0) → P 0 → P 1 → (p : ℕ) → p < 2 → P p
below_two P first second zero low = first
below_two P first second (suc zero) low = second
below_two P first second (suc (suc p)) low = absurd (omega arith)

each_of : (P : Snapshot → Type 0) → P (snapshot_at 0 1) → P (snapshot_at 1 1) → P (snapshot_at 0 2) → (s : Snapshot) → Contains worked.order s → P s
each_of P a b c s has = elim (cons_cases (snapshot_at 0 1) (snapshot_at 1 1 ∷ snapshot_at 0 2 ∷ []) s has) [
  | inl is ↦ subst P is a
  | inr more ↦ elim (cons_cases (snapshot_at 1 1) (snapshot_at 0 2 ∷ []) s more) [
    | inl is ↦ subst P is b
    | inr last ↦ elim (cons_cases (snapshot_at 0 2) [] s last) [ inl is ↦ subst P is c | inr none ↦ absurd (not_empty s none) ]
  ]
]

first_agreed : IsAgreed room worked (snapshot_at 0 1)
first_agreed = record {
  process = omega arith;
  round = omega arith;
  width = refl;
  own = refl;
  before = λ p r low pos less. absurd (below_two (λ q. r < entry_of worked (snapshot_at 0 1) q → ⊥) (λ h. omega arith) (λ h. omega arith) p low less);
  shows = below_two (λ q. entry_of worked (snapshot_at 0 1) q ≤ 2) (omega arith) (omega arith);
  goes_on = λ less. refl;
  decides = λ v is. absurd cc;
}

second_agreed : IsAgreed room worked (snapshot_at 1 1)
second_agreed = record {
  process = omega arith;
  round = omega arith;
  width = refl;
  own = refl;
  before = λ p r low pos less. absurd (below_two (λ q. r < entry_of worked (snapshot_at 1 1) q → ⊥) (λ h. omega arith) (λ h. omega arith) p low less);
  shows = below_two (λ q. entry_of worked (snapshot_at 1 1) q ≤ 2) (omega arith) (omega arith);
  goes_on = λ less. refl;
  decides = λ v is. absurd cc;
}

third_agreed : IsAgreed room worked (snapshot_at 0 2)
third_agreed = record {
  process = omega arith;
  round = omega arith;
  width = refl;
  own = refl;
  before = λ p r low pos less. below_two (λ q. r < entry_of worked (snapshot_at 0 2) q → Contains worked.order (snapshot_at q r))
      (λ h. let one : 1 ≡ r = omega arith in subst (λ (k : ℕ). Contains worked.order (snapshot_at 0 k)) one (cons_first (snapshot_at 0 1) (snapshot_at 1 1 ∷ snapshot_at 0 2 ∷ [])))
      (λ h. absurd (omega arith)) p low less;
  shows = below_two (λ q. entry_of worked (snapshot_at 0 2) q ≤ 2) (omega arith) (omega arith);
  goes_on = λ less. absurd (omega arith);
  decides = λ v is. (subst (λ (u : ℕ). asks_after room worked (snapshot_at 0 2) ≡ actions.Decide u) (let same : 7 ≡ v = cc in same) refl, refl);
}

pub same_row : (row : List ℕ) → IsRowAtMost row row
same_row row = record { same_length = refl; each = λ p low. omega arith }

abbrev Compare : Snapshot → Snapshot → Type 0
Compare s t = IsRowAtMost (row_of worked s) (row_of worked t) ⊎ IsRowAtMost (row_of worked t) (row_of worked s)

a_b : IsRowAtMost (1 ∷ 0 ∷ []) (1 ∷ 1 ∷ [])
a_b = record { same_length = refl; each = below_two _ (omega arith) (omega arith) }

a_c : IsRowAtMost (1 ∷ 0 ∷ []) (2 ∷ 1 ∷ [])
a_c = record { same_length = refl; each = below_two _ (omega arith) (omega arith) }

b_c : IsRowAtMost (1 ∷ 1 ∷ []) (2 ∷ 1 ∷ [])
b_c = record { same_length = refl; each = below_two _ (omega arith) (omega arith) }

only_last : (s t : Snapshot) → sum (row_of worked s) < 3 → Contains (snapshot_at 0 2 ∷ []) t → IsBefore worked s t
only_last s t less has = elim (cons_cases (snapshot_at 0 2) [] t has) [ inl is ↦ subst (IsBefore worked s) is (inl less) | inr none ↦ absurd (not_empty t none) ]

worked_is : IsSource room worked
worked_is = record {
  agreed = each_of (IsAgreed room worked) first_agreed second_agreed third_agreed;
  rising = (
    λ t has. elim (cons_cases (snapshot_at 1 1) (snapshot_at 0 2 ∷ []) t has) [
      | inl is ↦ subst (IsBefore worked (snapshot_at 0 1)) is (inl (omega arith))
      | inr last ↦ only_last (snapshot_at 0 1) t (omega arith) last
    ],
    (λ t has. only_last (snapshot_at 1 1) t (omega arith) has, (λ t has. absurd (not_empty t has), tt)),
  );
  compare = λ s t has_s has_t. each_of (λ u. Compare u t)
      (each_of (λ u. Compare (snapshot_at 0 1) u) (inl (same_row (1 ∷ 0 ∷ []))) (inl a_b) (inl a_c) t has_t)
      (each_of (λ u. Compare (snapshot_at 1 1) u) (inr a_b) (inl (same_row (1 ∷ 1 ∷ []))) (inl b_c) t has_t)
      (each_of (λ u. Compare (snapshot_at 0 2) u) (inr a_c) (inr b_c) (inl (same_row (2 ∷ 1 ∷ []))) t has_t) s has_s;
  rounds = λ p low. omega arith;
  passed = λ p r low pos less. let one : 1 ≡ r = omega arith in
      below_two (λ q. Contains worked.order (snapshot_at q r))
      (subst (λ (k : ℕ). Contains worked.order (snapshot_at 0 k)) one (cons_first (snapshot_at 0 1) (snapshot_at 1 1 ∷ snapshot_at 0 2 ∷ [])))
      (subst (λ (k : ℕ). Contains worked.order (snapshot_at 1 k)) one (cons_rest (snapshot_at 0 1) (snapshot_at 1 1 ∷ snapshot_at 0 2 ∷ []) (snapshot_at 1 1) (cons_first (snapshot_at 1 1) (snapshot_at 0 2 ∷ [])))) p low;
  begins = λ p low pos. below_two (λ q. worked.written q 1 ≡ Rattle.protocol_lang.specs.Meaning.first_value room.protocol (Rattle.std.specs.Prelude.slice_index room.inputs q) q 2) refl refl p low;
}

worked_runs : IsRun room (history_from room worked)
worked_runs = history_is_run room worked worked_is
