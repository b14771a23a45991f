-- How many snapshots of each process a history has.
use Rattle.std.proofs.Common.{◌≡◌, ℕ, zero, suc, ◌+◌, ◌-◌, cond, eqb, Bool, List, [], ◌∷◌, ◌++◌, map, Option, Some, None, refl, ap, ◌∙◌, arith}
use Rattle.std.specs.Prelude.{◌==◌}
use Rattle.std.specs.List.{range_with_len, count_by}
use Rattle.std.proofs.lemmas.List.Sums.{sum_by-append, sum_by-cons}
use Rattle.room_spec.specs.Rooms.{RoomSpec, processes}
use Rattle.transcript.specs.declared.event.Event.{Event}
use Rattle.transcript.specs.declared.event.Event.TheVariants.{Write, Snap}
use Rattle.transcript.specs.Runs.{is_snap_by}
use Rattle.ws_history.specs.Histories.{Snapshot, Source, shown_row, entry_of, by_process, shown_before, new_writes, decided, writes_for, block, blocks, last_writes, history_from}

count_append : (test : Event → Bool) (xs ys : List Event) → count_by test (xs ++ ys) ≡ count_by test xs + count_by test ys
count_append test xs ys = sum_by-append (λ e. cond (test e) 1 0) xs ys

no_snaps : (p : ℕ) (value : ℕ → ℕ) (from many q : ℕ) → count_by (is_snap_by q) (map (λ r. Write p (value r)) (range_with_len from many)) ≡ 0
no_snaps p value from zero q = refl
no_snaps p value from (suc many) q = sum_by-cons (λ e. cond (is_snap_by q e) 1 0) (Write p (value from)) (map (λ r. Write p (value r)) (range_with_len (from + 1) many)) ∙ omega (arith, no_snaps p value (from + 1) many q)

no_snaps_by : (src : Source) (from upto : ℕ → ℕ) (n q : ℕ) → count_by (is_snap_by q) (by_process (λ p. new_writes src p (from p) (upto p)) n) ≡ 0
no_snaps_by src from upto zero q = refl
no_snaps_by src from upto (suc n) q =
    count_append (is_snap_by q) (by_process (λ p. new_writes src p (from p) (upto p)) n) (new_writes src n (from n) (upto n))
    ∙ omega (arith, no_snaps_by src from upto n q, no_snaps n (λ r. src.written n r) (from n + 1) (upto n - from n) q)

no_snap_decided : (p : ℕ) (o : Option ℕ) (q : ℕ) → count_by (is_snap_by q) (decided p o) ≡ 0
no_snap_decided p None q = refl
no_snap_decided p (Some v) q = refl

abbrev one_if : Bool → ℕ
one_if test = cond test 1 0

one_snap : (s : Snapshot) (view : List (Option ℕ)) (q : ℕ) → count_by (is_snap_by q) (Snap s.process (record { items = view }) ∷ []) ≡ one_if (eqb s.process q)
one_snap s view q = omega arith

snap_in_block : (src : Source) (n : ℕ) (done : List Snapshot) (s : Snapshot) (q : ℕ) → count_by (is_snap_by q) (block src n done s) ≡ one_if (eqb s.process q)
snap_in_block src n done s q =
    let snap : List Event = Snap s.process (record { items = shown_row src s }) ∷ [] in
    let last : List Event = decided s.process (src.decision s.process s.round) in
    count_append (is_snap_by q) (writes_for src n done s ++ snap) last
    ∙ ap (λ (k : ℕ). k + count_by (is_snap_by q) last) (count_append (is_snap_by q) (writes_for src n done s) snap)
    ∙ omega (arith, no_snaps_by src (shown_before src done) (entry_of src s) n q, one_snap s (shown_row src s) q, no_snap_decided s.process (src.decision s.process s.round) q)

snaps_in_blocks : (src : Source) (n : ℕ) (done rest : List Snapshot) (q : ℕ) → count_by (is_snap_by q) (blocks src n done rest) ≡ count_by (λ s. s.process == q) rest
snaps_in_blocks src n done [] q = refl
snaps_in_blocks src n done (s ∷ rest) q =
    count_append (is_snap_by q) (block src n done s) (blocks src n (done ++ s ∷ []) rest)
    ∙ omega (arith, snap_in_block src n done s q, snaps_in_blocks src n (done ++ s ∷ []) rest q, sum_by-cons (λ (t : Snapshot). cond (t.process == q) 1 0) s rest)

pub snaps_are : (spec : RoomSpec) (src : Source) (q : ℕ) → count_by (is_snap_by q) (history_from spec src) ≡ count_by (λ s. s.process == q) src.order
snaps_are spec src q =
    count_append (is_snap_by q) (blocks src (processes spec) [] src.order) (last_writes src (processes spec))
    ∙ omega (arith, snaps_in_blocks src (processes spec) [] src.order q, no_snaps_by src (shown_before src src.order) src.greatest (processes spec) q)
