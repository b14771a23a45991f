-- Fields that are the same at each simulator, process and round have the same history.
use Rattle.std.proofs.Common.{◌≡◌, ℕ, zero, suc, ◌+◌, ◌-◌, ◌<◌, ◌≤◌, Bool, true, false, cond, eqb, ltb, List, [], ◌∷◌, ◌++◌, length, map, get_or, sum, max, Option, None, fold, refl, ap, ◌∙◌, arith}
use Rattle.std.specs.Prelude.{⊤, ◌&&◌, ◌||◌}
use Rattle.std.specs.List.{range_with_len}
use Rattle.room_spec.specs.Rooms.{RoomSpec, processes}
use Rattle.room_spec.specs.Sizes.{sizes_in}
use Rattle.sim_memory.proofs.CallerLemmas.{row_length}
use Rattle.transcript.specs.declared.event.Event.{Event}
use Rattle.transcript.specs.declared.event.Event.TheVariants.{Write, Snap}
use Rattle.room_core.specs.Agreements.{greatest_step, decided_in, is_passed, row_at, shown}
use Rattle.room_core.specs.Fields.{Fields}
use Rattle.room_core.specs.Reading.{AgreeIn}
use Rattle.ws_history.specs.Histories.{Snapshot, Source, block, blocks, decided, entry_of, last_writes, new_writes, shown_before, shown_row, writes_for}
use Rattle.ws_history.specs.Orders.{all_passed, inserted, is_before, passed_of}
use Rattle.ws_history.specs.Sources.{decision_after, history_of, source_of}
use Rattle.ws_history.proofs.Walking.{by_process_same, map_same}
use Rattle.ws_history.proofs.Agreeing.{same_decided, same_greatest, same_passed, same_row, same_value, same_written}

-- ---- what holds of each

abbrev pub Each : (Snapshot → Type 0) → List Snapshot → Type 0
Each P [] = ⊤
Each P (s ∷ rest) = P s × Each P rest

each_append : (P : Snapshot → Type 0) (xs ys : List Snapshot) → Each P xs → Each P ys → Each P (xs ++ ys)
each_append P [] ys each other = other
each_append P (s ∷ xs) ys each other = (each.0, each_append P xs ys each.1 other)

each_put : (P : Snapshot → Type 0) (b : Bool) (x y : List Snapshot) → Each P x → Each P y → Each P (cond b x y)
each_put P true x y each other = each
each_put P false x y each other = other

each_inserted : (P : Snapshot → Type 0) (row : ℕ → ℕ → List ℕ) (xs : List Snapshot) (s : Snapshot) → Each P xs → P s → Each P (inserted row xs s)
each_inserted P row [] s each here = (here, tt)
each_inserted P row (t ∷ rest) s each here =
    each_put P (is_before row s t) (s ∷ t ∷ rest) (t ∷ inserted row rest s) (here, each) (each.0, each_inserted P row rest s each.1 here)

each_fold : (P : Snapshot → Type 0) (row : ℕ → ℕ → List ℕ) (xs before : List Snapshot) → Each P before → Each P xs → Each P (fold (inserted row) before xs)
each_fold P row [] before each all = each
each_fold P row (s ∷ xs) before each all = each_fold P row xs (inserted row before s) (each_inserted P row before s each all.0) all.1

each_if : (P : Snapshot → Type 0) (p r : ℕ) (b : Bool) → P (record { process = p; round = r }) → Each P (cond b (record { process = p; round = r } ∷ []) [])
each_if P p r true here = (here, tt)
each_if P p r false here = tt

-- ---- in range

pub record IsIn (n rounds : ℕ) (s : Snapshot) : Type 0 where
  pub process : s.process < n
  pub first : 1 ≤ s.round
  pub last : s.round ≤ rounds

each_passed : (n rounds p r : ℕ) (passed : ℕ → ℕ → Bool) → p < n → r ≤ rounds → Each (IsIn n rounds) (passed_of passed p r)
each_passed n rounds p zero passed below within = tt
each_passed n rounds p (suc r) passed below within =
    each_append (IsIn n rounds) (passed_of passed p r) _ (each_passed n rounds p r passed below (omega arith))
    (each_if (IsIn n rounds) p (r + 1) (passed p (r + 1)) (record { process = below; first = omega arith; last = omega arith }))

each_all : (n rounds k : ℕ) (passed : ℕ → ℕ → Bool) → k ≤ n → Each (IsIn n rounds) (all_passed passed k rounds)
each_all n rounds zero passed within = tt
each_all n rounds (suc k) passed within =
    each_append (IsIn n rounds) (all_passed passed k rounds) (passed_of passed k rounds) (each_all n rounds k passed (omega arith)) (each_passed n rounds k rounds passed (omega arith) (omega arith))

-- ---- the same lists

same_passed_of : (f g : ℕ → ℕ → Bool) (p r : ℕ) → ((k : ℕ) → 1 ≤ k → k ≤ r → f p k ≡ g p k) → passed_of f p r ≡ passed_of g p r
same_passed_of f g p zero same = refl
same_passed_of f g p (suc r) same =
    ap (λ (l : List Snapshot). l ++ cond (f p (r + 1)) (record { process = p; round = r + 1 } ∷ []) []) (same_passed_of f g p r (λ k low high. same k low (omega arith)))
    ∙ ap (λ (b : Bool). passed_of g p r ++ cond b (record { process = p; round = r + 1 } ∷ []) []) (same (r + 1) (omega arith) (omega arith))

pub same_all_passed : (f g : ℕ → ℕ → Bool) (n r : ℕ) → ((p k : ℕ) → p < n → 1 ≤ k → k ≤ r → f p k ≡ g p k) → all_passed f n r ≡ all_passed g n r
same_all_passed f g zero r same = refl
same_all_passed f g (suc n) r same =
    ap (λ (l : List Snapshot). l ++ passed_of f n r) (same_all_passed f g n r (λ p k below. same p k (omega arith)))
    ∙ ap (λ (l : List Snapshot). all_passed g n r ++ l) (same_passed_of f g n r (λ k. same n k (omega arith)))

module _ (n rounds : ℕ) (row other : ℕ → ℕ → List ℕ) (rows : (s : Snapshot) → IsIn n rounds s → row s.process s.round ≡ other s.process s.round) where
  same_inserted : (xs : List Snapshot) (s : Snapshot) → Each (IsIn n rounds) xs → IsIn n rounds s → inserted row xs s ≡ inserted other xs s
  same_inserted [] s each here = refl
  same_inserted (t ∷ rest) s each here =
      let put : ℕ → ℕ → List Snapshot → List Snapshot = λ a b behind. cond (ltb a b || (eqb a b && ltb s.process t.process)) (s ∷ t ∷ rest) (t ∷ behind) in
      ap (λ (x : List ℕ). put (sum x) (sum (row t.process t.round)) (inserted row rest s)) (rows s here)
      ∙ ap (λ (x : List ℕ). put (sum (other s.process s.round)) (sum x) (inserted row rest s)) (rows t each.0)
      ∙ ap (put (sum (other s.process s.round)) (sum (other t.process t.round))) (same_inserted rest s each.1 here)

  same_fold : (xs before : List Snapshot) → Each (IsIn n rounds) before → Each (IsIn n rounds) xs → fold (inserted row) before xs ≡ fold (inserted other) before xs
  same_fold [] before each all = refl
  same_fold (s ∷ xs) before each all =
      same_fold xs (inserted row before s) (each_inserted (IsIn n rounds) row before s each all.0) all.1
      ∙ ap (λ (l : List Snapshot). fold (inserted other) l xs) (same_inserted before s each all.0)

-- ---- the same history

module _ (spec : RoomSpec) (F G : Fields) (some : 0 < spec.simulators) (agree : AgreeIn (sizes_in spec) F G)
    (low : (j k p : ℕ) → get_or (row_at spec F j k) p 0 ≤ spec.rounds) (most : (p : ℕ) → greatest_step spec F p ≤ spec.rounds) where
  abbrev src : Source
  src = source_of spec F

  abbrev tgt : Source
  tgt = source_of spec G

  abbrev In : Snapshot → Type 0
  In = IsIn (processes spec) spec.rounds

  rows : (s : Snapshot) → In s → row_at spec F s.process s.round ≡ row_at spec G s.process s.round
  rows s in_range = same_row spec F G some agree s.process s.round in_range.process in_range.first in_range.last

  pub order_in : Each In src.order
  order_in = each_fold In (row_at spec F) (all_passed (is_passed spec F) (processes spec) spec.rounds) [] tt (each_all (processes spec) spec.rounds (processes spec) (is_passed spec F) (omega arith))

  pub same_order : src.order ≡ tgt.order
  same_order =
      same_fold (processes spec) spec.rounds (row_at spec F) (row_at spec G) rows (all_passed (is_passed spec F) (processes spec) spec.rounds) [] tt (each_all (processes spec) spec.rounds (processes spec) (is_passed spec F) (omega arith))
      ∙ ap (λ (l : List Snapshot). fold (inserted (row_at spec G)) [] l) (same_all_passed (is_passed spec F) (is_passed spec G) (processes spec) spec.rounds (λ p k. same_passed spec F G some agree p k))

  entries : (s : Snapshot) (p : ℕ) → In s → entry_of src s p ≡ entry_of tgt s p
  entries s p in_range = ap (λ (l : List ℕ). get_or l p 0) (rows s in_range)

  before : (earlier : List Snapshot) (p : ℕ) → Each In earlier → shown_before src earlier p ≡ shown_before tgt earlier p
  before [] p each = refl
  before (s ∷ earlier) p each = ap (λ (x : ℕ). max x (shown_before src earlier p)) (entries s p each.0) ∙ ap (λ (x : ℕ). max (entry_of tgt s p) x) (before earlier p each.1)

  writes : (p from upto : ℕ) → p < processes spec → upto ≤ spec.rounds → new_writes src p from upto ≡ new_writes tgt p from upto
  writes p from upto below within =
      map_same _ _ (from + 1) (upto - from) (λ r least less. ap (λ (v : ℕ). Write p v) (same_written spec F G some agree p r below (omega arith) (omega arith)))

  same_writes_for : (earlier : List Snapshot) (s : Snapshot) → Each In earlier → In s → writes_for src (processes spec) earlier s ≡ writes_for tgt (processes spec) earlier s
  same_writes_for earlier s each in_range =
      by_process_same _ _ (processes spec) (λ p below.
      writes p (shown_before src earlier p) (entry_of src s p) below (low s.process s.round p)
      ∙ ap (λ (x : ℕ). new_writes tgt p x (entry_of src s p)) (before earlier p each)
      ∙ ap (λ (x : ℕ). new_writes tgt p (shown_before tgt earlier p) x) (entries s p in_range))

  same_shown_row : (s : Snapshot) → In s → shown_row src s ≡ shown_row tgt s
  same_shown_row s in_range =
      map_same (λ (p : ℕ). shown spec F p (entry_of src s p)) (λ (p : ℕ). shown spec G p (entry_of src s p)) 0 (length (row_at spec F s.process s.round))
      (λ p least less. same_value spec F G some agree p (entry_of src s p) (omega (arith, row_width s)) (low s.process s.round p))
      ∙ ap (λ (l : List ℕ). map (λ (p : ℕ). shown spec G p (get_or l p 0)) (range_with_len 0 (length l))) (rows s in_range)
    where
      row_width : (s : Snapshot) → length (row_at spec F s.process s.round) ≡ processes spec
      row_width s = row_length spec.simulators (processes spec) _

  same_decision : (s : Snapshot) → In s → decision_after spec F s.process s.round ≡ decision_after spec G s.process s.round
  same_decision s in_range =
      ap (λ (g : ℕ). cond (eqb g s.round) (decided_in spec F s.process) None) (same_greatest spec F G some agree s.process in_range.process)
      ∙ ap (λ (o : Option ℕ). cond (eqb (greatest_step spec G s.process) s.round) o None) (same_decided spec F G some agree s.process in_range.process)

  same_one : (earlier : List Snapshot) (s : Snapshot) → Each In earlier → In s → block src (processes spec) earlier s ≡ block tgt (processes spec) earlier s
  same_one earlier s each in_range =
      ap (λ (l : List Event). (l ++ Snap s.process (record { items = shown_row src s }) ∷ []) ++ decided s.process (decision_after spec F s.process s.round)) (same_writes_for earlier s each in_range)
      ∙ ap (λ (l : List (Option ℕ)). (writes_for tgt (processes spec) earlier s ++ Snap s.process (record { items = l }) ∷ []) ++ decided s.process (decision_after spec F s.process s.round)) (same_shown_row s in_range)
      ∙ ap (λ (o : Option ℕ). (writes_for tgt (processes spec) earlier s ++ Snap s.process (record { items = shown_row tgt s }) ∷ []) ++ decided s.process o) (same_decision s in_range)

  same_blocks : (rest earlier : List Snapshot) → Each In earlier → Each In rest → blocks src (processes spec) earlier rest ≡ blocks tgt (processes spec) earlier rest
  same_blocks [] earlier each all = refl
  same_blocks (s ∷ rest) earlier each all =
      ap (λ (l : List Event). l ++ blocks src (processes spec) (earlier ++ s ∷ []) rest) (same_one earlier s each all.0)
      ∙ ap (λ (l : List Event). block tgt (processes spec) earlier s ++ l) (same_blocks rest (earlier ++ s ∷ []) (each_append In earlier (s ∷ []) each (all.0, tt)) all.1)

  same_last : last_writes src (processes spec) ≡ last_writes tgt (processes spec)
  same_last =
      by_process_same _ _ (processes spec) (λ p below.
      writes p (shown_before src src.order p) (greatest_step spec F p) below (most p)
      ∙ ap (λ (x : ℕ). new_writes tgt p x (greatest_step spec F p)) (before src.order p order_in ∙ ap (λ (l : List Snapshot). shown_before tgt l p) same_order)
      ∙ ap (λ (x : ℕ). new_writes tgt p (shown_before tgt tgt.order p) x) (same_greatest spec F G some agree p below))

  pub same_history : history_of spec F ≡ history_of spec G
  same_history =
      ap (λ (l : List Event). l ++ last_writes src (processes spec)) (same_blocks src.order [] tt order_in ∙ ap (λ (l : List Snapshot). blocks tgt (processes spec) [] l) same_order)
      ∙ ap (λ (l : List Event). blocks tgt (processes spec) [] tgt.order ++ l) same_last
