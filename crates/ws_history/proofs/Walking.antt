-- What the walk through the agreed snapshots with one running row has written.
use Rattle.std.proofs.Common.{◌≡◌, ℕ, zero, suc, ◌+◌, ◌<◌, ◌≤◌, Bool, true, false, cond, List, [], ◌∷◌, ◌++◌, length, map, get_or, take, drop, Option, fold, refl, sym, ap, ◌∙◌, arith}
use Rattle.std.proofs.lemmas.List.{append_assoc, take_more}
use Rattle.std.proofs.lemmas.List.FromFn.{get_or-map-range_with_len}
use Rattle.std.specs.Prelude.{max, replicate, ⊤}
use Rattle.std.specs.List.{range_with_len}
use Rattle.room_spec.specs.Rooms.{processes}
use Rattle.sim_memory.specs.Steps.{row_of}
use Rattle.sim_memory.proofs.CallerLemmas.{row_length, row_at as row_entry}
use Rattle.transcript.specs.declared.event.Event.{Event}
use Rattle.transcript.specs.declared.event.Event.TheVariants.{Snap}
use Rattle.room_core.specs.Agreements.{is_passed, row_at, shown, shown_by}
use Rattle.room_core.specs.Calls.{RoomState}
use Rattle.ws_history.specs.Histories.{Snapshot, Source, block, blocks, by_process, decided, last_writes, new_writes, shown_before}
use Rattle.ws_history.specs.Orders.{all_passed, inserted, is_before, passed_of}
use Rattle.ws_history.specs.Placing.{agreed_at, shown_with}
use Rattle.ws_history.specs.Readings.{read_of}
use Rattle.ws_history.specs.Running.{IsSnapshotOf, block_on}
use Rattle.ws_history.specs.Sources.{decision_after, source_of}

-- ---- lists

pub by_process_same : (f g : ℕ → List Event) (n : ℕ) → ((p : ℕ) → p < n → f p ≡ g p) → by_process f n ≡ by_process g n
by_process_same f g zero same = refl
by_process_same f g (suc n) same =
    ap (λ (l : List Event). l ++ f n) (by_process_same f g n (λ p less. same p (omega arith))) ∙ ap (λ (l : List Event). by_process g n ++ l) (same n (omega arith))

pub map_same : {A : Type 0} (f g : ℕ → A) (a n : ℕ) → ((p : ℕ) → a ≤ p → p < a + n → f p ≡ g p) → map f (range_with_len a n) ≡ map g (range_with_len a n)
map_same f g a zero same = refl
map_same {A = A} f g a (suc n) same =
    ap (λ (x : A). x ∷ map f (range_with_len (a + 1) n)) (same a (omega arith) (omega arith))
    ∙ ap (λ (l : List A). g a ∷ l) (map_same f g (a + 1) n (λ p low high. same p (omega arith) (omega arith)))

pub all_zero : (a n : ℕ) → replicate {A = ℕ} n 0 ≡ map (λ (p : ℕ). 0) (range_with_len a n)
all_zero a zero = refl
all_zero a (suc n) = ap (λ (l : List ℕ). 0 ∷ l) (all_zero (a + 1) n)

pub drop_at : {A : Type 0} (xs : List A) (i : ℕ) (d : A) → i < length xs → drop i xs ≡ get_or xs i d ∷ drop (i + 1) xs
drop_at [] i d less = absurd (omega arith)
drop_at (x ∷ xs) zero d less = refl
drop_at {A = A} (x ∷ xs) (suc i) d less =
    let turned : suc (i + 1) ≡ suc i + 1 = omega arith in
    drop_at xs i d (omega arith) ∙ ap (λ (k : ℕ). get_or xs i d ∷ drop k (x ∷ xs)) turned

pub map_at : {A B : Type 0} (f : A → B) (xs : List A) (i : ℕ) (d : A) (e : B) → i < length xs → get_or (map f xs) i e ≡ f (get_or xs i d)
map_at f [] i d e less = absurd (omega arith)
map_at f (x ∷ xs) zero d e less = refl
map_at f (x ∷ xs) (suc i) d e less = map_at f xs i d e (omega arith)

pub drop_past : {A : Type 0} (xs : List A) (i : ℕ) → length xs ≤ i → drop i xs ≡ []
drop_past [] zero past = refl
drop_past [] (suc i) past = refl
drop_past (x ∷ xs) zero past = absurd (omega arith)
drop_past (x ∷ xs) (suc i) past = drop_past xs i (omega arith)

pub take_past : {A : Type 0} (xs : List A) (i : ℕ) → length xs ≤ i → take i xs ≡ xs
take_past [] zero past = refl
take_past [] (suc i) past = refl
take_past (x ∷ xs) zero past = absurd (omega arith)
take_past {A = A} (x ∷ xs) (suc i) past = ap (λ (l : List A). x ∷ l) (take_past xs i (omega arith))

-- ---- whose snapshots they are, and after which rounds

pub record IsLow (n rounds : ℕ) (s : Snapshot) : Type 0 where
  pub process : s.process < n
  pub first : 1 ≤ s.round
  pub within : s.round ≤ rounds

abbrev pub Low : ℕ → ℕ → List Snapshot → Type 0
Low n rounds [] = ⊤
Low n rounds (s ∷ rest) = IsLow n rounds s × Low n rounds rest

low_append : (n rounds : ℕ) (xs ys : List Snapshot) → Low n rounds xs → Low n rounds ys → Low n rounds (xs ++ ys)
low_append n rounds [] ys low other = other
low_append n rounds (s ∷ xs) ys low other = (low.0, low_append n rounds xs ys low.1 other)

low_put : (n rounds : ℕ) (b : Bool) (x y : List Snapshot) → Low n rounds x → Low n rounds y → Low n rounds (cond b x y)
low_put n rounds true x y low other = low
low_put n rounds false x y low other = other

low_inserted : (n rounds : ℕ) (row : ℕ → ℕ → List ℕ) (xs : List Snapshot) (s : Snapshot) → Low n rounds xs → IsLow n rounds s → Low n rounds (inserted row xs s)
low_inserted n rounds row [] s low below = (below, tt)
low_inserted n rounds row (t ∷ rest) s low below =
    low_put n rounds (is_before row s t) (s ∷ t ∷ rest) (t ∷ inserted row rest s) (below, low) (low.0, low_inserted n rounds row rest s low.1 below)

low_fold : (n rounds : ℕ) (row : ℕ → ℕ → List ℕ) (xs before : List Snapshot) → Low n rounds before → Low n rounds xs → Low n rounds (fold (inserted row) before xs)
low_fold n rounds row [] before low all = low
low_fold n rounds row (s ∷ xs) before low all = low_fold n rounds row xs (inserted row before s) (low_inserted n rounds row before s low all.0) all.1

low_if : (n rounds p r : ℕ) (b : Bool) → p < n → 1 ≤ r → r ≤ rounds → Low n rounds (cond b (record { process = p; round = r } ∷ []) [])
low_if n rounds p r true below first within = (record { process = below; first = first; within = within }, tt)
low_if n rounds p r false below first within = tt

low_passed : (n rounds p r : ℕ) (passed : ℕ → ℕ → Bool) → p < n → r ≤ rounds → Low n rounds (passed_of passed p r)
low_passed n rounds p zero passed below within = tt
low_passed n rounds p (suc r) passed below within =
    low_append n rounds (passed_of passed p r) _ (low_passed n rounds p r passed below (omega arith)) (low_if n rounds p (r + 1) (passed p (r + 1)) below (omega arith) (omega arith))

low_all : (n rounds k : ℕ) (passed : ℕ → ℕ → Bool) → k ≤ n → Low n rounds (all_passed passed k rounds)
low_all n rounds zero passed within = tt
low_all n rounds (suc k) passed within = low_append n rounds (all_passed passed k rounds) (passed_of passed k rounds) (low_all n rounds k passed (omega arith)) (low_passed n rounds k rounds passed (omega arith) (omega arith))

low_at : (n rounds : ℕ) (xs : List Snapshot) (i : ℕ) (d : Snapshot) → Low n rounds xs → i < length xs → IsLow n rounds (get_or xs i d)
low_at n rounds [] i d low less = absurd (omega arith)
low_at n rounds (s ∷ xs) zero d low less = low.0
low_at n rounds (s ∷ xs) (suc i) d low less = low_at n rounds xs i d low.1 (omega arith)

-- ---- what is shown

shown_more : (src : Source) (earlier : List Snapshot) (s : Snapshot) (p : ℕ) → max (shown_before src earlier p) (get_or (src.row s.process s.round) p 0) ≡ shown_before src (earlier ++ s ∷ []) p
shown_more src [] s p = max_zero (get_or (src.row s.process s.round) p 0)
  where
    max_zero : (x : ℕ) → max 0 x ≡ max x 0
    max_zero x = omega arith
shown_more src (t ∷ earlier) s p =
    turned (get_or (src.row t.process t.round) p 0) (shown_before src earlier p) (get_or (src.row s.process s.round) p 0)
    ∙ ap (λ (x : ℕ). max (get_or (src.row t.process t.round) p 0) x) (shown_more src earlier s p)
  where
    turned : (a b c : ℕ) → max (max a b) c ≡ max a (max b c)
    turned a b c = omega arith

module _ (room : RoomState) where
  abbrev pub source : Source
  source = source_of room.spec (read_of room)

  width : (j k : ℕ) → length (row_at room.spec (read_of room) j k) ≡ processes room.spec
  width j k = row_length room.spec.simulators (processes room.spec) _

  abbrev pub running : List Snapshot → List ℕ
  running earlier = map (shown_before source earlier) (range_with_len 0 (processes room.spec))

  running_at : (earlier : List Snapshot) (p : ℕ) → p < processes room.spec → get_or (running earlier) p 0 ≡ shown_before source earlier p
  running_at earlier p less = get_or-map-range_with_len (shown_before source earlier) 0 (processes room.spec) p p 0 less (omega arith)

  pub same_shown : (earlier : List Snapshot) (s : Snapshot) → shown_with (running earlier) (row_at room.spec (read_of room) s.process s.round) ≡ running (earlier ++ s ∷ [])
  same_shown earlier s =
      let row = row_at room.spec (read_of room) s.process s.round in
      ap (λ (n : ℕ). map (λ (p : ℕ). max (get_or (running earlier) p 0) (get_or row p 0)) (range_with_len 0 n)) (width s.process s.round)
      ∙ map_same _ _ 0 (processes room.spec) (λ p low high.
      ap (λ (x : ℕ). max x (get_or row p 0)) (running_at earlier p (omega arith)) ∙ shown_more source earlier s p)

  pub same_block : (earlier : List Snapshot) (s : Snapshot) → block_on room (running earlier) (agreed_at room s) ≡ block source (processes room.spec) earlier s
  same_block earlier s =
      let row = row_at room.spec (read_of room) s.process s.round in
      let n = processes room.spec in
      let end = decided s.process (decision_after room.spec (read_of room) s.process s.round) in
      let writes = by_process_same (λ (p : ℕ). new_writes source p (get_or (running earlier) p 0) (get_or row p 0)) (λ (p : ℕ). new_writes source p (shown_before source earlier p) (get_or row p 0)) n
      (λ p less. ap (λ (x : ℕ). new_writes source p x (get_or row p 0)) (running_at earlier p less)) in
      let all = ap (λ (k : ℕ). map (λ (p : ℕ). shown room.spec (read_of room) p (get_or row p 0)) (range_with_len 0 k)) (width s.process s.round) in
      ap (λ (l : List Event). (l ++ Snap s.process (record { items = shown_by room.spec (read_of room) row }) ∷ []) ++ end) writes
      ∙ ap (λ (l : List (Option ℕ)). (by_process (λ (p : ℕ). new_writes source p (shown_before source earlier p) (get_or row p 0)) n ++ Snap s.process (record { items = l }) ∷ []) ++ end) (sym all)

  pub is_snapshot : (i : ℕ) (d : Snapshot) → i < length source.order → IsSnapshotOf room (agreed_at room (get_or source.order i d))
  is_snapshot i d less =
      let n = processes room.spec in
      let rounds = room.spec.rounds in
      let passed = is_passed room.spec (read_of room) in
      let at = low_at n rounds source.order i d (low_fold n rounds source.row (all_passed passed n rounds) [] tt (low_all n rounds n passed (omega arith))) less in
      record { process = at.process; round = (at.first, at.within); row = refl }

  pub walk_on : (events : List Event) (i : ℕ) (d : Snapshot) → i < length source.order
      → events ++ blocks source (processes room.spec) (take i source.order) (drop i source.order)
      ≡ (events ++ block source (processes room.spec) (take i source.order) (get_or source.order i d)) ++ blocks source (processes room.spec) (take (i + 1) source.order) (drop (i + 1) source.order)
  walk_on events i d less =
      let n = processes room.spec in
      let s = get_or source.order i d in
      let earlier = take i source.order in
      ap (λ (l : List Snapshot). events ++ blocks source n earlier l) (drop_at source.order i d less)
      ∙ ap (λ (l : List Snapshot). events ++ (block source n earlier s ++ blocks source n l (drop (i + 1) source.order))) (sym (take_more source.order i d less))
      ∙ sym (append_assoc events (block source n earlier s) (blocks source n (take (i + 1) source.order) (drop (i + 1) source.order)))

  pub last_is : (greatest : List ℕ) → greatest ≡ row_of room.spec.simulators (processes room.spec) (read_of room).step
      → by_process (λ (p : ℕ). new_writes source p (get_or (running source.order) p 0) (get_or greatest p 0)) (processes room.spec) ≡ last_writes source (processes room.spec)
  last_is greatest is =
      by_process_same _ _ (processes room.spec) (λ p less.
      ap (λ (x : ℕ). new_writes source p x (get_or greatest p 0)) (running_at source.order p less)
      ∙ ap (λ (x : ℕ). new_writes source p (shown_before source source.order p) x) (ap (λ (l : List ℕ). get_or l p 0) is ∙ row_entry room.spec.simulators (processes room.spec) (read_of room).step p less))
