-- Facts on the order of a source's snapshots: what the next one shows, by what those before it show.
use Rattle.std.proofs.Common.{◌≡◌, ◌⊎◌, ℕ, zero, suc, ◌+◌, ◌-◌, ◌<◌, ◌≤◌, max, cond, eqb, List, [], ◌∷◌, ◌++◌, length, get_or, sum, Contains, refl, sym, ap₂, subst, arith, inl, inr}
use Rattle.std.proofs.lemmas.Bool.{cases_eq, cases_lt, eq-eqb, ne_eqb}
use Rattle.std.proofs.lemmas.List.Elements.{Contains-append_left, Contains-append_right, Contains-append_cases, Contains-push, Contains-push_cases}
use Rattle.std.proofs.lemmas.List.Sums.{sum_by-cons}
use Rattle.room_spec.specs.Rooms.{RoomSpec, processes}
use Rattle.sim_memory.specs.Steps.{IsRowAtMost}
use Rattle.ws_history.specs.Histories.{Snapshot, Source, row_of, entry_of, shown_before, IsBefore, IsRising, IsAgreed, IsSource}

-- ---- rows and sums

sums_grow : (a b : List ℕ) → length a ≡ length b → ((p : ℕ) → get_or a p 0 ≤ get_or b p 0) → sum a ≤ sum b
sums_grow [] [] same each = omega arith
sums_grow [] (y ∷ b) same each = absurd (omega arith)
sums_grow (x ∷ a) [] same each = absurd (omega arith)
sums_grow (x ∷ a) (y ∷ b) same each =
    let rest : sum a ≤ sum b = sums_grow a b (omega arith) (λ p. each (suc p)) in
    let first : x ≤ y = each zero in
    let left = sum_by-cons (λ z. z) x a in
    let right = sum_by-cons (λ z. z) y b in
    omega arith

turned : (a b : List ℕ) → length a ≡ length b → ((p : ℕ) → get_or a p 0 ≤ get_or b p 0) → sum b ≤ sum a → (p : ℕ) → get_or b p 0 ≤ get_or a p 0
turned [] [] same each low p = omega arith
turned [] (y ∷ b) same each low p = absurd (omega arith)
turned (x ∷ a) [] same each low p = absurd (omega arith)
turned (x ∷ a) (y ∷ b) same each low zero =
    let rest : sum a ≤ sum b = sums_grow a b (omega arith) (λ q. each (suc q)) in
    let left = sum_by-cons (λ z. z) x a in
    let right = sum_by-cons (λ z. z) y b in
    omega arith
turned (x ∷ a) (y ∷ b) same each low (suc p) =
    let first : x ≤ y = each zero in
    let left = sum_by-cons (λ z. z) x a in
    let right = sum_by-cons (λ z. z) y b in
    turned a b (omega arith) (λ q. each (suc q)) (omega arith) p

past : (row : List ℕ) (p : ℕ) → length row ≤ p → get_or row p 0 ≡ 0
past [] p far = refl
past (x ∷ row) zero far = absurd (omega arith)
past (x ∷ row) (suc p) far = past row p (omega arith)

everywhere : (a b : List ℕ) → IsRowAtMost a b → (p : ℕ) → get_or a p 0 ≤ get_or b p 0
everywhere a b most p = elim (cases_lt p (length a)) [ inl below ↦ most.each p below | inr far ↦ let none = past a p far in omega arith ]

-- of two rows that compare, the one with the smaller sum is at most the other
pub by_sums : (a b : List ℕ) → IsRowAtMost a b ⊎ IsRowAtMost b a → sum a ≤ sum b → (p : ℕ) → get_or a p 0 ≤ get_or b p 0
by_sums a b (inl most) low p = everywhere a b most p
by_sums a b (inr least) low p = turned b a least.same_length (everywhere b a least) low p

-- ---- before and after

before_sum : (src : Source) (s t : Snapshot) → IsBefore src s t → sum (row_of src s) ≤ sum (row_of src t)
before_sum src s t (inl less) = omega arith
before_sum src s t (inr same) = omega arith

not_before_itself : (src : Source) (s : Snapshot) → IsBefore src s s → ⊥
not_before_itself src s (inl less) = omega arith
not_before_itself src s (inr same) = omega (arith, same.1)

abbrev pub snapshot_at : ℕ → ℕ → Snapshot
snapshot_at p r = record { process = p; round = r }

pub not_empty : {X : Type 0} (t : X) → Contains [] t → ⊥
not_empty t has = omega (arith, has.1)

pub cons_cases : {X : Type 0} (s : X) (rest : List X) (t : X) → Contains (s ∷ rest) t → (s ≡ t) ⊎ Contains rest t
cons_cases s rest t has = elim (Contains-append_cases (s ∷ []) rest t has) [
  | inl one ↦ elim (Contains-push_cases [] s t one) [ inl none ↦ absurd (not_empty t none) | inr is ↦ inl is ]
  | inr more ↦ inr more
]

pub cons_first : {X : Type 0} (s : X) (rest : List X) → Contains (s ∷ rest) s
cons_first s rest = Contains-append_left (s ∷ []) rest s (Contains-push [] s)

pub cons_rest : {X : Type 0} (s : X) (rest : List X) (t : X) → Contains rest t → Contains (s ∷ rest) t
cons_rest s rest t has = Contains-append_right (s ∷ []) rest t has

-- the ones before s in a rising order, and the ones behind it
earlier : (src : Source) (done : List Snapshot) (s : Snapshot) (rest : List Snapshot) → IsRising src (done ++ s ∷ rest) → (t : Snapshot) → Contains done t → IsBefore src t s
earlier src [] s rest rising t has = absurd (not_empty t has)
earlier src (first ∷ done) s rest rising t has = elim (cons_cases first done t has) [
  | inl is ↦ subst (λ (u : Snapshot). IsBefore src u s) is (rising.0 s (Contains-append_right done (s ∷ rest) s (cons_first s rest)))
  | inr more ↦ earlier src done s rest rising.1 t more
]

later : (src : Source) (done : List Snapshot) (s : Snapshot) (rest : List Snapshot) → IsRising src (done ++ s ∷ rest) → (t : Snapshot) → Contains rest t → IsBefore src s t
later src [] s rest rising t has = rising.0 t has
later src (first ∷ done) s rest rising t has = later src done s rest rising.1 t has

-- ---- how far the snapshots of a list go

-- the last round of process p in them
abbrev pub last_round : List Snapshot → ℕ → ℕ
last_round [] p = 0
last_round (s ∷ done) p = max (cond (eqb s.process p) s.round 0) (last_round done p)

shown_least : (src : Source) (done : List Snapshot) (p most : ℕ) → ((t : Snapshot) → Contains done t → entry_of src t p ≤ most) → shown_before src done p ≤ most
shown_least src [] p most each = omega arith
shown_least src (s ∷ done) p most each =
    let first : entry_of src s p ≤ most = each s (cons_first s done) in
    let rest = shown_least src done p most (λ t has. each t (cons_rest s done t has)) in
    omega arith

pub round_least : (done : List Snapshot) (p most : ℕ) → ((t : Snapshot) → Contains done t → t.process ≡ p → t.round ≤ most) → last_round done p ≤ most
round_least [] p most each = omega arith
round_least (s ∷ done) p most each =
    let rest = round_least done p most (λ t has. each t (cons_rest s done t has)) in
    elim (cases_eq s.process p) [
      | inl is ↦ let first : s.round ≤ most = each s (cons_first s done) is in rw (eq-eqb s.process p is) (omega arith)
      | inr other ↦ rw (ne_eqb s.process p other) (omega arith)
    ]

pub round_most : (done : List Snapshot) (t : Snapshot) → Contains done t → t.round ≤ last_round done t.process
round_most [] t has = absurd (not_empty t has)
round_most (s ∷ done) t has = elim (cons_cases s done t has) [
  | inl is ↦ subst (λ (u : Snapshot). u.round ≤ last_round (s ∷ done) u.process) is (rw (eq-eqb s.process s.process refl) (omega arith))
  | inr more ↦ let rest = round_most done t more in omega arith
]

-- the last round is that of a snapshot
pub round_there : (done : List Snapshot) (p : ℕ) → 1 ≤ last_round done p → Contains done (snapshot_at p (last_round done p))
round_there [] p some = absurd (omega (arith, some))
round_there (s ∷ done) p some = elim (cases_eq s.process p) [
  | inr other ↦
      let none : cond (eqb s.process p) s.round 0 ≡ 0 = rw (ne_eqb s.process p other) refl in
      let same : last_round (s ∷ done) p ≡ last_round done p = omega (arith, none) in
      subst (λ (r : ℕ). Contains (s ∷ done) (snapshot_at p r)) (sym same) (cons_rest s done (snapshot_at p (last_round done p)) (round_there done p (omega (arith, some, same))))
  | inl is ↦
      let own : cond (eqb s.process p) s.round 0 ≡ s.round = rw (eq-eqb s.process p is) refl in
      elim (cases_lt s.round (last_round done p)) [
        | inl below ↦
            let same : last_round (s ∷ done) p ≡ last_round done p = omega (arith, own, below) in
            subst (λ (r : ℕ). Contains (s ∷ done) (snapshot_at p r)) (sym same) (cons_rest s done (snapshot_at p (last_round done p)) (round_there done p (omega (arith, some, same))))
        | inr most ↦
            let same : last_round (s ∷ done) p ≡ s.round = omega (arith, own, most) in
            subst (λ (r : ℕ). Contains (s ∷ done) (snapshot_at p r)) (sym same) (subst (λ (q : ℕ). Contains (s ∷ done) (snapshot_at q s.round)) is (cons_first s done))
      ]
]

shown_most : (src : Source) (done : List Snapshot) (t : Snapshot) (p : ℕ) → Contains done t → entry_of src t p ≤ shown_before src done p
shown_most src [] t p has = absurd (not_empty t has)
shown_most src (s ∷ done) t p has = elim (cons_cases s done t has) [
  | inl is ↦ subst (λ (u : Snapshot). entry_of src u p ≤ shown_before src (s ∷ done) p) is (omega arith)
  | inr more ↦ let rest = shown_most src done t p more in omega arith
]

pub shown_push : (src : Source) (done : List Snapshot) (s : Snapshot) (p : ℕ) → shown_before src (done ++ s ∷ []) p ≡ max (shown_before src done p) (entry_of src s p)
shown_push src [] s p = omega arith
shown_push src (t ∷ done) s p = let rest = shown_push src done s p in omega arith

pub round_push : (done : List Snapshot) (s : Snapshot) (p : ℕ) → last_round (done ++ s ∷ []) p ≡ max (last_round done p) (cond (eqb s.process p) s.round 0)
round_push [] s p = omega arith
round_push (t ∷ done) s p = let rest = round_push done s p in omega arith

-- ---- the next snapshot

-- what the next snapshot s shows after those of `done`
pub record IsNext (src : Source) (n : ℕ) (done : List Snapshot) (s : Snapshot) : Type 0 where
  pub grows : (p : ℕ) → shown_before src done p ≤ entry_of src s p
  pub one_more : (p : ℕ) → p < n → entry_of src s p ≤ last_round done p + 1
  pub behind : (p : ℕ) → last_round done p ≤ shown_before src done p
  pub turn : s.round ≡ last_round done s.process + 1

-- before the last writes
pub record IsLast (src : Source) (n : ℕ) : Type 0 where
  pub grows : (p : ℕ) → p < n → shown_before src src.order p ≤ src.greatest p
  pub one_more : (p : ℕ) → p < n → src.greatest p ≤ last_round src.order p + 1
  pub behind : (p : ℕ) → last_round src.order p ≤ shown_before src src.order p

rounds_behind : (spec : RoomSpec) (src : Source) → IsSource spec src → (done : List Snapshot) → ((t : Snapshot) → Contains done t → Contains src.order t) → (p : ℕ) → last_round done p ≤ shown_before src done p
rounds_behind spec src is done within p =
    round_least done p (shown_before src done p)
    (λ t has same.
    let own = (is.agreed t (within t has)).own in
    let most = shown_most src done t t.process has in
    subst (λ (q : ℕ). t.round ≤ shown_before src done q) same (omega arith))

next_most : (spec : RoomSpec) (src : Source) (done : List Snapshot) (s : Snapshot) (rest : List Snapshot) (p : ℕ)
    → ((r : ℕ) → 1 ≤ r → r < entry_of src s p → Contains (done ++ s ∷ rest) (record { process = p; round = r }))
    → ((t : Snapshot) → Contains rest t → entry_of src s t.process ≤ t.round)
    → entry_of src s s.process ≡ s.round
    → entry_of src s p ≤ last_round done p + 1
next_most spec src done s rest p before above own = elim (cases_lt (entry_of src s p) 2) [
  | inl few ↦ omega arith
  | inr many ↦
      let r : ℕ = entry_of src s p - 1 in
      let t : Snapshot = record { process = p; round = r } in
      let there : Contains (done ++ s ∷ rest) t = before r (omega arith) (omega arith) in
      elim (Contains-append_cases done (s ∷ rest) t there) [
        | inl old ↦ let most : r ≤ last_round done p = round_most done t old in omega arith
        | inr new ↦ elim (cons_cases s rest t new) [
          | inl is ↦ let none : entry_of src s p ≡ r = subst (λ (u : Snapshot). entry_of src s u.process ≡ u.round) is own in absurd (omega arith)
          | inr more ↦ let high : entry_of src s p ≤ r = above t more in absurd (omega arith)
        ]
      ]
]

-- at each place of the order
pub next_is : (spec : RoomSpec) (src : Source) → IsSource spec src → (done : List Snapshot) (s : Snapshot) (rest : List Snapshot) → src.order ≡ done ++ s ∷ rest → IsNext src (processes spec) done s
next_is spec src is done s rest order =
    let rising : IsRising src (done ++ s ∷ rest) = subst (IsRising src) order is.rising in
    let within : (t : Snapshot) → Contains (done ++ s ∷ rest) t → Contains src.order t = λ t has. subst (λ (all : List Snapshot). Contains all t) (sym order) has in
    let in_done : (t : Snapshot) → Contains done t → Contains src.order t = λ t has. within t (Contains-append_left done (s ∷ rest) t has) in
    let in_rest : (t : Snapshot) → Contains rest t → Contains src.order t = λ t has. within t (Contains-append_right done (s ∷ rest) t (cons_rest s rest t has)) in
    let here : Contains src.order s = within s (Contains-append_right done (s ∷ rest) s (cons_first s rest)) in
    let agreed : IsAgreed spec src s = is.agreed s here in
    let below : (t : Snapshot) → Contains done t → (p : ℕ) → entry_of src t p ≤ entry_of src s p = λ t has. by_sums (row_of src t) (row_of src s) (is.compare t s (in_done t has) here) (before_sum src t s (earlier src done s rest rising t has)) in
    let above : (t : Snapshot) → Contains rest t → (p : ℕ) → entry_of src s p ≤ entry_of src t p = λ t has. by_sums (row_of src s) (row_of src t) (is.compare s t here (in_rest t has)) (before_sum src s t (later src done s rest rising t has)) in
    let one_more : (p : ℕ) → p < processes spec → entry_of src s p ≤ last_round done p + 1 = λ p low.
    next_most spec src done s rest p
    (λ r pos less. subst (λ (all : List Snapshot). Contains all (record { process = p; round = r })) order (agreed.before p r low pos less))
    (λ t has. let high = above t has t.process in let own = (is.agreed t (in_rest t has)).own in omega arith)
    agreed.own in
    record {
      grows = λ p. shown_least src done p (entry_of src s p) (λ t has. below t has p);
      one_more = one_more;
      behind = rounds_behind spec src is done in_done;
      turn =
          let most = one_more s.process agreed.process in
          let own = agreed.own in
          let pos = agreed.round in
          let least : last_round done s.process ≤ s.round - 1 = round_least done s.process (s.round - 1) (λ t has same.
          let grown : entry_of src t s.process ≤ entry_of src s s.process = below t has s.process in
          let shown : entry_of src t s.process ≡ t.round = subst (λ (q : ℕ). entry_of src t q ≡ t.round) same (is.agreed t (in_done t has)).own in
          elim (cases_eq t.round s.round) [
            | inl equal ↦
                let it_is : t ≡ s = ap₂ snapshot_at same equal in
                absurd (not_before_itself src s (subst (λ (u : Snapshot). IsBefore src u s) it_is (earlier src done s rest rising t has)))
            | inr other ↦ omega arith
          ]) in
          omega arith;
    }

pub last_is : (spec : RoomSpec) (src : Source) → IsSource spec src → IsLast src (processes spec)
last_is spec src is = record {
  grows = λ p low. shown_least src src.order p (src.greatest p) (λ t has. (is.agreed t has).shows p low);
  one_more = λ p low. elim (cases_lt (src.greatest p) 2) [
    | inl few ↦ omega arith
    | inr many ↦
        let r : ℕ = src.greatest p - 1 in
        let most : r ≤ last_round src.order p = round_most src.order (record { process = p; round = r }) (is.passed p r low (omega arith) (omega arith)) in
        omega arith
  ];
  behind = rounds_behind spec src is src.order (λ t has. has);
}
