-- The history of a source is a run: piece by piece, at the list's end.
use Rattle.std.proofs.Common.{◌≡◌, ◌≢◌, ◌⊎◌, ℕ, zero, suc, ◌+◌, ◌-◌, ◌<◌, ◌≤◌, max, cond, eqb, ltb, List, [], ◌∷◌, ◌++◌, length, map, Option, Some, None, refl, sym, ap, ◌∙◌, subst, arith, inl, inr, append-nil, append_assoc}
use Rattle.std.specs.List.{range_with_len, count_by}
use Rattle.std.proofs.lemmas.Bool.{cases_eq, cases_lt, ne_eqb, eq-eqb, lt-ltb, le-ltb}
use Rattle.std.proofs.lemmas.List.FromFn.{length-map-range_with_len, get_or-map-range_with_len}
use Rattle.std.proofs.lemmas.List.Elements.{Contains-append_right}
use Rattle.room_spec.specs.Rooms.{RoomSpec, processes}
use Rattle.transcript.specs.declared.event.Event.{Event}
use Rattle.transcript.specs.declared.event.Event.TheVariants.{Write, Snap, Decide}
use Rattle.transcript.specs.Runs.{IsRun, is_write_by}
use Rattle.ws_history.specs.Histories.{Snapshot, Source, row_of, entry_of, shown, shown_row, by_process, shown_before, new_writes, decided, writes_for, block, blocks, history_from, IsAgreed, IsSource}
use Rattle.transcript.proofs.CallerLemmas.{IsRun-nil, IsRun-push}
use Rattle.ws_history.proofs.Order.{last_round, IsNext, next_is, last_is, shown_push, round_push, cons_first}
use Rattle.ws_history.proofs.Turns.{IsAt, at_nothing, at_other, at_write, at_snap, at_decide, may_write, may_snap, may_decide}

-- these events are a run, in which each process q has written w q times and taken c q snapshots
pub record Stands (spec : RoomSpec) (src : Source) (events : List Event) (w c : ℕ → ℕ) : Type 0 where
  pub run : IsRun spec events
  pub each : (q : ℕ) → q < processes spec → IsAt spec src events q (w q) (c q)

-- the same counts under other names
same_counts : (spec : RoomSpec) (src : Source) (events : List Event) (w c v d : ℕ → ℕ)
    → ((q : ℕ) → q < processes spec → w q ≡ v q) → ((q : ℕ) → q < processes spec → c q ≡ d q) → Stands spec src events w c → Stands spec src events v d
same_counts spec src events w c v d writes snaps stands = record {
  run = stands.run;
  each = λ q low. subst (λ (k : ℕ). IsAt spec src events q (v q) k) (snaps q low) (subst (λ (k : ℕ). IsAt spec src events q k (c q)) (writes q low) (stands.each q low));
}

-- ---- one more write

stands_write : (spec : RoomSpec) (src : Source) → IsSource spec src → (events : List Event) (w c v : ℕ → ℕ) (p : ℕ) → p < processes spec
    → c p ≡ w p → w p < src.greatest p → v p ≡ w p + 1 → ((q : ℕ) → q ≢ p → v q ≡ w q)
    → Stands spec src events w c → Stands spec src (events ++ Write p (src.written p (w p + 1)) ∷ []) v c
stands_write spec src is events w c v p low level more own others stands =
    let at = stands.each p low in
    let event : Event = Write p (src.written p (w p + 1)) in
    record {
      run = IsRun-push spec events event stands.run (may_write spec src events p (w p) (c p) low level more (is.rounds p low) at);
      each = λ q below. elim (cases_eq p q) [
        | inl same ↦ subst (λ (r : ℕ). IsAt spec src (events ++ event ∷ []) r (v r) (c r)) same (rw own (at_write spec src events p (w p) (c p) level at))
        | inr apart ↦
            let as_before : v q ≡ w q = others q (λ e. apart (sym e)) in
            rw as_before (at_other spec src events event q (w q) (c q) apart (stands.each q below))
      ];
    }

-- ---- the writes of all processes up to one place each

no_writes : (src : Source) (p from upto : ℕ) → upto ≡ from → new_writes src p from upto ≡ []
no_writes src p from upto same =
    let none : upto - from ≡ 0 = omega arith in
    ap (λ (k : ℕ). map (λ r. Write p (src.written p r)) (range_with_len (from + 1) k)) none

one_write : (src : Source) (p from upto : ℕ) → upto ≡ from + 1 → new_writes src p from upto ≡ Write p (src.written p (from + 1)) ∷ []
one_write src p from upto more =
    let one : upto - from ≡ 1 = omega arith in
    ap (λ (k : ℕ). map (λ r. Write p (src.written p r)) (range_with_len (from + 1) k)) one

-- the numbers of writes where the first k processes are through
abbrev through : (ℕ → ℕ) → (ℕ → ℕ) → ℕ → ℕ → ℕ
through u w k q = cond (ltb q k) (u q) (w q)

through_new : (u w : ℕ → ℕ) (k q : ℕ) → q < k → through u w k q ≡ u q
through_new u w k q low = rw (lt-ltb q k low) refl

through_old : (u w : ℕ → ℕ) (k q : ℕ) → k ≤ q → through u w k q ≡ w q
through_old u w k q high = rw (le-ltb q k high) refl

through_other : (u w : ℕ → ℕ) (k q : ℕ) → q ≢ k → through u w (suc k) q ≡ through u w k q
through_other u w k q apart = elim (cases_lt q k) [
  | inl low ↦ through_new u w (suc k) q (omega arith) ∙ sym (through_new u w k q low)
  | inr high ↦ through_old u w (suc k) q (omega arith) ∙ sym (through_old u w k q high)
]

through_same : (u w : ℕ → ℕ) (k q : ℕ) → u k ≡ w k → through u w k q ≡ through u w (suc k) q
through_same u w k q same = elim (cases_eq q k) [
  | inl is ↦ subst (λ (r : ℕ). through u w k r ≡ through u w (suc k) r) (sym is) (through_old u w k k (omega arith) ∙ sym same ∙ sym (through_new u w (suc k) k (omega arith)))
  | inr apart ↦ sym (through_other u w k q apart)
]

-- where process p may go from w to u writes after c snapshots
record MayGoTo (src : Source) (p w c u : ℕ) : Type 0 where
  pub grows : w ≤ u
  pub one_more : u ≤ c + 1
  pub behind : c ≤ w
  pub known : u ≤ src.greatest p

stands_writes : (spec : RoomSpec) (src : Source) → IsSource spec src → (events : List Event) (w c u : ℕ → ℕ) → ((p : ℕ) → p < processes spec → MayGoTo src p (w p) (c p) (u p))
    → Stands spec src events w c → (k : ℕ) → k ≤ processes spec
    → Stands spec src (events ++ by_process (λ p. new_writes src p (w p) (u p)) k) (through u w k) c
stands_writes spec src is events w c u may stands zero within =
    rw append-nil (same_counts spec src events w c (through u w zero) c (λ q low. sym (through_old u w zero q (omega arith))) (λ q low. refl) stands)
stands_writes spec src is events w c u may stands (suc k) within =
    let news : ℕ → List Event = λ p. new_writes src p (w p) (u p) in
    let so_far : List Event = events ++ by_process news k in
    let before : Stands spec src so_far (through u w k) c = stands_writes spec src is events w c u may stands k (omega arith) in
    let here : MayGoTo src k (w k) (c k) (u k) = may k (omega arith) in
    let old : through u w k k ≡ w k = through_old u w k k (omega arith) in
    let new : through u w (suc k) k ≡ u k = through_new u w (suc k) k (omega arith) in
    subst (λ (all : List Event). Stands spec src all (through u w (suc k)) c) (append_assoc events (by_process news k) (news k))
    (elim (cases_eq (u k) (w k)) [
      | inl same ↦ subst (λ (more : List Event). Stands spec src (so_far ++ more) (through u w (suc k)) c) (sym (no_writes src k (w k) (u k) same))
          (rw append-nil (same_counts spec src so_far (through u w k) c (through u w (suc k)) c (λ q low. through_same u w k q same) (λ q low. refl) before))
      | inr apart ↦
          let one : u k ≡ w k + 1 = omega arith in
          let level : c k ≡ w k = omega arith in
          subst (λ (more : List Event). Stands spec src (so_far ++ more) (through u w (suc k)) c) (sym (one_write src k (w k) (u k) one))
          (subst (λ (i : ℕ). Stands spec src (so_far ++ Write k (src.written k (i + 1)) ∷ []) (through u w (suc k)) c) old
          (stands_write spec src is so_far (through u w k) c (through u w (suc k)) k (omega arith) (level ∙ sym old) (omega (arith, old, here.known)) (omega (arith, old, new)) (λ q other. through_other u w k q other) before))
    ])

-- the same for all processes
all_writes : (spec : RoomSpec) (src : Source) → IsSource spec src → (events : List Event) (w c u : ℕ → ℕ) → ((p : ℕ) → p < processes spec → MayGoTo src p (w p) (c p) (u p))
    → Stands spec src events w c → Stands spec src (events ++ by_process (λ p. new_writes src p (w p) (u p)) (processes spec)) u c
all_writes spec src is events w c u may stands =
    same_counts spec src (events ++ by_process (λ p. new_writes src p (w p) (u p)) (processes spec)) (through u w (processes spec)) c u c (λ q low. through_new u w (processes spec) q low) (λ q low. refl)
    (stands_writes spec src is events w c u may stands (processes spec) (omega arith))

-- ---- a snapshot, and a decision

-- the numbers of snapshots after s
abbrev counted : (ℕ → ℕ) → Snapshot → ℕ → ℕ
counted c s q = cond (eqb s.process q) s.round (c q)

stands_snap : (spec : RoomSpec) (src : Source) (events : List Event) (c : ℕ → ℕ) (s : Snapshot) → IsAgreed spec src s → s.round ≡ c s.process + 1
    → Stands spec src events (entry_of src s) c → Stands spec src (events ++ Snap s.process (record { items = shown_row src s }) ∷ []) (entry_of src s) (counted c s)
stands_snap spec src events c s agreed turn stands =
    let event : Event = Snap s.process (record { items = shown_row src s }) in
    let wide : length (shown_row src s) ≡ processes spec = length-map-range_with_len (λ p. shown src p (entry_of src s p)) 0 (length (row_of src s)) ∙ agreed.width in
    let ahead : entry_of src s s.process ≡ c s.process + 1 = agreed.own ∙ turn in
    let at : IsAt spec src events s.process s.round (c s.process) = subst (λ (k : ℕ). IsAt spec src events s.process k (c s.process)) agreed.own (stands.each s.process agreed.process) in
    let after : IsAt spec src (events ++ event ∷ []) s.process s.round s.round = at_snap spec src events s.process s.round (c s.process) (record { items = shown_row src s }) turn agreed.goes_on refl at in
    record {
      run = IsRun-push spec events event stands.run
          (may_snap spec src events s.process (entry_of src s) c (shown_row src s) agreed.process ahead wide
          (λ q low. get_or-map-range_with_len (λ p. shown src p (entry_of src s p)) 0 (length (row_of src s)) q q None (let width = agreed.width in omega arith) (omega arith))
          stands.each);
      each = λ q below. elim (cases_eq s.process q) [
        | inl same ↦ subst (λ (r : ℕ). IsAt spec src (events ++ event ∷ []) r (entry_of src s r) (counted c s r)) same (rw (eq-eqb s.process s.process refl, agreed.own) after)
        | inr apart ↦ rw (ne_eqb s.process q apart) (at_other spec src events event q (entry_of src s q) (c q) apart (stands.each q below))
      ];
    }

stands_decided : (spec : RoomSpec) (src : Source) (events : List Event) (d : ℕ → ℕ) (s : Snapshot) → IsAgreed spec src s → d s.process ≡ s.round
    → (o : Option ℕ) → src.decision s.process s.round ≡ o
    → Stands spec src (events ++ Snap s.process (record { items = shown_row src s }) ∷ []) (entry_of src s) d
    → Stands spec src ((events ++ Snap s.process (record { items = shown_row src s }) ∷ []) ++ decided s.process o) (entry_of src s) d
stands_decided spec src events d s agreed count None is stands = rw append-nil stands
stands_decided spec src events d s agreed count (Some v) is stands =
    let so_far : List Event = events ++ Snap s.process (record { items = shown_row src s }) ∷ [] in
    let event : Event = Decide s.process v in
    let asked = agreed.decides v is in
    let at : IsAt spec src so_far s.process s.round s.round = subst (λ (k : ℕ). IsAt spec src so_far s.process s.round k) count (subst (λ (k : ℕ). IsAt spec src so_far s.process k (d s.process)) agreed.own (stands.each s.process agreed.process)) in
    let after : IsAt spec src (so_far ++ event ∷ []) s.process s.round s.round = at_decide spec src so_far s.process s.round v asked.1 at in
    record {
      run = IsRun-push spec so_far event stands.run (may_decide spec events s.process v (record { items = shown_row src s }) agreed.process (rw at.snaps asked.0));
      each = λ q below. elim (cases_eq s.process q) [
        | inl same ↦ subst (λ (r : ℕ). IsAt spec src (so_far ++ event ∷ []) r (entry_of src s r) (d r)) same (rw (agreed.own, count) after)
        | inr apart ↦ at_other spec src so_far event q (entry_of src s q) (d q) apart (stands.each q below)
      ];
    }

-- ---- the block of a snapshot, and all blocks

stands_block : (spec : RoomSpec) (src : Source) → IsSource spec src → (events : List Event) (done : List Snapshot) (s : Snapshot) → IsAgreed spec src s → IsNext src (processes spec) done s
    → Stands spec src events (shown_before src done) (last_round done)
    → Stands spec src (events ++ block src (processes spec) done s) (shown_before src (done ++ s ∷ [])) (last_round (done ++ s ∷ []))
stands_block spec src is events done s agreed next stands =
    let n = processes spec in
    let writes : List Event = writes_for src n done s in
    let snap : List Event = Snap s.process (record { items = shown_row src s }) ∷ [] in
    let last : List Event = decided s.process (src.decision s.process s.round) in
    let written : Stands spec src (events ++ writes) (entry_of src s) (last_round done) =
    all_writes spec src is events (shown_before src done) (last_round done) (entry_of src s)
    (λ p low. record { grows = next.grows p; one_more = next.one_more p low; behind = next.behind p; known = agreed.shows p low }) stands in
    let taken : Stands spec src ((events ++ writes) ++ snap) (entry_of src s) (counted (last_round done) s) = stands_snap spec src (events ++ writes) (last_round done) s agreed next.turn written in
    let own : counted (last_round done) s s.process ≡ s.round = rw (eq-eqb s.process s.process refl) refl in
    let all : Stands spec src (((events ++ writes) ++ snap) ++ last) (entry_of src s) (counted (last_round done) s) =
    stands_decided spec src (events ++ writes) (counted (last_round done) s) s agreed own (src.decision s.process s.round) refl taken in
    let joined : ((events ++ writes) ++ snap) ++ last ≡ events ++ ((writes ++ snap) ++ last) = ap (λ (e : List Event). e ++ last) (append_assoc events writes snap) ∙ append_assoc events (writes ++ snap) last in
    subst (λ (e : List Event). Stands spec src e (shown_before src (done ++ s ∷ [])) (last_round (done ++ s ∷ []))) joined
    (same_counts spec src (((events ++ writes) ++ snap) ++ last) (entry_of src s) (counted (last_round done) s) (shown_before src (done ++ s ∷ [])) (last_round (done ++ s ∷ []))
    (λ q low. let grows = next.grows q in let push = shown_push src done s q in omega arith)
    (λ q low. let push = round_push done s q in elim (cases_eq s.process q) [
      | inl same ↦ subst (λ (r : ℕ). counted (last_round done) s r ≡ last_round (done ++ s ∷ []) r) same (rw round_push (rw (eq-eqb s.process s.process refl) (let turn = next.turn in omega arith)))
      | inr apart ↦ rw round_push (rw (ne_eqb s.process q apart) (omega arith))
    ])
    all)

stands_blocks : (spec : RoomSpec) (src : Source) → IsSource spec src → (events : List Event) (done rest : List Snapshot) → src.order ≡ done ++ rest
    → Stands spec src events (shown_before src done) (last_round done)
    → Stands spec src (events ++ blocks src (processes spec) done rest) (shown_before src src.order) (last_round src.order)
stands_blocks spec src is events done [] order stands =
    let all : done ≡ src.order = sym (order ∙ append-nil done) in
    rw append-nil (subst (λ (d : List Snapshot). Stands spec src events (shown_before src d) (last_round d)) all stands)
stands_blocks spec src is events done (s ∷ rest) order stands =
    let n = processes spec in
    let here : IsAgreed spec src s = is.agreed s (subst (λ (d : List Snapshot). Rattle.std.proofs.Common.Contains d s) (sym order) (Contains-append_right done (s ∷ rest) s (cons_first s rest))) in
    let next : IsNext src n done s = next_is spec src is done s rest order in
    let more = stands_block spec src is events done s here next stands in
    subst (λ (e : List Event). Stands spec src e (shown_before src src.order) (last_round src.order)) (append_assoc events (block src n done s) (blocks src n (done ++ s ∷ []) rest))
    (stands_blocks spec src is (events ++ block src n done s) (done ++ s ∷ []) rest (order ∙ sym (append_assoc done (s ∷ []) rest)) more)

-- ---- the theorem

stands_nothing : (spec : RoomSpec) (src : Source) → IsSource spec src → Stands spec src [] (shown_before src []) (last_round [])
stands_nothing spec src is = record { run = IsRun-nil spec; each = λ q low. at_nothing spec src q (is.begins q low) }

-- after the whole history each process has made all its writes
pub history_stands : (spec : RoomSpec) (src : Source) → IsSource spec src → Stands spec src (history_from spec src) src.greatest (last_round src.order)
history_stands spec src is =
    let n = processes spec in
    let last = last_is spec src is in
    let blocked : Stands spec src (blocks src n [] src.order) (shown_before src src.order) (last_round src.order) = stands_blocks spec src is [] [] src.order refl (stands_nothing spec src is) in
    all_writes spec src is (blocks src n [] src.order) (shown_before src src.order) (last_round src.order) src.greatest
    (λ p low. record { grows = last.grows p low; one_more = last.one_more p low; behind = last.behind p; known = omega arith }) blocked

pub history_is_run : (spec : RoomSpec) (src : Source) → IsSource spec src → IsRun spec (history_from spec src)
history_is_run spec src is = (history_stands spec src is).run

pub all_written : (spec : RoomSpec) (src : Source) → IsSource spec src → (p : ℕ) → p < processes spec → count_by (is_write_by p) (history_from spec src) ≡ src.greatest p
all_written spec src is p low = ((history_stands spec src is).each p low).writes
