-- Which decisions a history has.
use Rattle.std.proofs.Common.{◌≡◌, ◌↔◌, ℕ, zero, suc, ◌+◌, ◌-◌, List, [], ◌∷◌, ◌++◌, map, Contains, Option, Some, None, sym, subst, inl, inr}
use Rattle.std.specs.List.{range_with_len}
use Rattle.std.proofs.lemmas.List.Elements.{Contains-append_left, Contains-append_right, Contains-append_cases}
use Rattle.room_spec.specs.Rooms.{RoomSpec, processes}
use Rattle.transcript.specs.declared.event.Event.{Event}
use Rattle.transcript.specs.declared.event.Event.TheVariants.{Write, Snap, Decide}
use Rattle.ws_history.specs.Histories.{Snapshot, Source, shown_row, entry_of, by_process, shown_before, new_writes, decided, writes_for, block, blocks, last_writes, history_from}
use Rattle.ws_history.specs.Passed.{IsDecided}
use Rattle.ws_history.proofs.Order.{not_empty, cons_cases, cons_first, cons_rest}

no_decide : (p : ℕ) (value : ℕ → ℕ) (from many q v : ℕ) → Contains (map (λ r. Write p (value r)) (range_with_len from many)) (Decide q v) → ⊥
no_decide p value from zero q v has = not_empty (Decide q v) has
no_decide p value from (suc many) q v has = elim (cons_cases (Write p (value from)) (map (λ r. Write p (value r)) (range_with_len (from + 1) many)) (Decide q v) has) [
  | inl is ↦ absurd cc
  | inr more ↦ no_decide p value (from + 1) many q v more
]

no_decide_by : (src : Source) (from upto : ℕ → ℕ) (n q v : ℕ) → Contains (by_process (λ p. new_writes src p (from p) (upto p)) n) (Decide q v) → ⊥
no_decide_by src from upto zero q v has = not_empty (Decide q v) has
no_decide_by src from upto (suc n) q v has = elim (Contains-append_cases (by_process (λ p. new_writes src p (from p) (upto p)) n) (new_writes src n (from n) (upto n)) (Decide q v) has) [
  | inl old ↦ no_decide_by src from upto n q v old
  | inr new ↦ no_decide n (λ r. src.written n r) (from n + 1) (upto n - from n) q v new
]

in_decided : (p : ℕ) (o : Option ℕ) (q v : ℕ) → Contains (decided p o) (Decide q v) → (p ≡ q) × (o ≡ Some v)
in_decided p None q v has = absurd (not_empty (Decide q v) has)
in_decided p (Some w) q v has = elim (cons_cases (Decide p w) [] (Decide q v) has) [ inl is ↦ (cc, cc) | inr none ↦ absurd (not_empty (Decide q v) none) ]

from_block : (src : Source) (n : ℕ) (done : List Snapshot) (s : Snapshot) (q v : ℕ) → Contains (block src n done s) (Decide q v) → (s.process ≡ q) × (src.decision s.process s.round ≡ Some v)
from_block src n done s q v has =
    let snap : List Event = Snap s.process (record { items = shown_row src s }) ∷ [] in
    elim (Contains-append_cases (writes_for src n done s ++ snap) (decided s.process (src.decision s.process s.round)) (Decide q v) has) [
      | inl first ↦ elim (Contains-append_cases (writes_for src n done s) snap (Decide q v) first) [
        | inl write ↦ absurd (no_decide_by src (shown_before src done) (entry_of src s) n q v write)
        | inr one ↦ elim (cons_cases (Snap s.process (record { items = shown_row src s })) [] (Decide q v) one) [ inl is ↦ absurd cc | inr none ↦ absurd (not_empty (Decide q v) none) ]
      ]
      | inr last ↦ in_decided s.process (src.decision s.process s.round) q v last
    ]

from_blocks : (src : Source) (n : ℕ) (done rest : List Snapshot) (q v : ℕ) → Contains (blocks src n done rest) (Decide q v)
    → (s : Snapshot) × Contains rest s × (s.process ≡ q) × (src.decision s.process s.round ≡ Some v)
from_blocks src n done [] q v has = absurd (not_empty (Decide q v) has)
from_blocks src n done (s ∷ rest) q v has = elim (Contains-append_cases (block src n done s) (blocks src n (done ++ s ∷ []) rest) (Decide q v) has) [
  | inl here ↦ let is = from_block src n done s q v here in (s, cons_first s rest, is.0, is.1)
  | inr more ↦ let is = from_blocks src n (done ++ s ∷ []) rest q v more in (is.0, cons_rest s rest is.0 is.1, is.2, is.3)
]

to_blocks : (src : Source) (n : ℕ) (done rest : List Snapshot) (s : Snapshot) (v : ℕ) → Contains rest s → src.decision s.process s.round ≡ Some v → Contains (blocks src n done rest) (Decide s.process v)
to_blocks src n done [] s v has is = absurd (not_empty s has)
to_blocks src n done (t ∷ rest) s v has is = elim (cons_cases t rest s has) [
  | inl same ↦
      let snap : List Event = Snap t.process (record { items = shown_row src t }) ∷ [] in
      let it : src.decision t.process t.round ≡ Some v = subst (λ (u : Snapshot). src.decision u.process u.round ≡ Some v) (sym same) is in
      let last : Contains (decided t.process (src.decision t.process t.round)) (Decide t.process v) = rw it (cons_first (Decide t.process v) []) in
      subst (λ (u : Snapshot). Contains (blocks src n done (t ∷ rest)) (Decide u.process v)) same
      (Contains-append_left (block src n done t) (blocks src n (done ++ t ∷ []) rest) (Decide t.process v)
      (Contains-append_right (writes_for src n done t ++ snap) (decided t.process (src.decision t.process t.round)) (Decide t.process v) last))
  | inr more ↦ Contains-append_right (block src n done t) (blocks src n (done ++ t ∷ []) rest) (Decide s.process v) (to_blocks src n (done ++ t ∷ []) rest s v more is)
]

pub decisions_are : (spec : RoomSpec) (src : Source) (q v : ℕ) → Contains (history_from spec src) (Decide q v) ↔ IsDecided src q v
decisions_are spec src q v =
    let n = processes spec in (
      λ has. elim (Contains-append_cases (blocks src n [] src.order) (last_writes src n) (Decide q v) has) [
        | inl block ↦ from_blocks src n [] src.order q v block
        | inr last ↦ absurd (no_decide_by src (shown_before src src.order) src.greatest n q v last)
      ],
      λ is. Contains-append_left (blocks src n [] src.order) (last_writes src n) (Decide q v)
          (subst (λ (p : ℕ). Contains (blocks src n [] src.order) (Decide p v)) is.2 (to_blocks src n [] src.order is.0 v is.1 is.3)),
    )
