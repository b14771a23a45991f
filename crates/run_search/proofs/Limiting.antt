-- When a search reaches its limit, the nodes are different.
use Rattle.std.proofs.Common.{◌≡◌, ℕ, zero, suc, ◌<◌, ◌≤◌, Bool, true, false, cond, eqb, List, [], ◌∷◌, ◌++◌, length, get_or, set, Option, Some, None, is_some, refl, sym, ap, ◌∙◌, subst, arith, inl, inr, ◌⊎◌, true≢false}
use Rattle.std.specs.Prelude.{slice_get}
use Rattle.std.specs.Cmp.{IsEquivalence}
use Rattle.std.specs.Cmp.Lexicographic.{pointwise}
use Rattle.std.specs.Global.{Vec}
use Rattle.std.specs.Int.{bit_at}
use Rattle.std.specs.List.{Contains, position}
use Rattle.std.specs.Map.{keys_of, values_of}
use Rattle.std.proofs.lemmas.List.Quantifiers.{position-Some}
use Rattle.arrayvec.specs.ArrayVec.{ArrayVec}
use Rattle.std.specs.Option.{option_eq}
use Rattle.std.proofs.lemmas.Bool.{cases_Bool, cases_eq, cases_lt}
use Rattle.std.proofs.lemmas.List.{get_or_append_left, get_or_push, get_or-set_same, get_or-set_other, length-set, length_push}
use Rattle.std.proofs.lemmas.List.Elements.{Contains-push, Contains-push_cases}
use Rattle.std.proofs.lemmas.Option.{get_or_from_slice_get, same_Some, slice_get-get_or, slice_get_within}
use Rattle.room_spec.specs.Rooms.{RoomSpec, processes}
use Rattle.transcript.proofs.CallerLemmas.{slice_get-append, slice_get-push}
use Rattle.run_search.specs.declared.explored.Entry.{Entry}
use Rattle.run_search.specs.declared.local_state.LocalState.{LocalState}
use Rattle.run_search.specs.Limits.{AreApart, AreListed, AreTooMany, CoversMore, HasMarks, IsAfter, IsListed, IsNodeListed, IsNotBelow, IsWithoutAfter, Rows, entries_at, no_entry}
use Rattle.run_search.specs.Marks.{AreMarksOf}
use Rattle.run_search.specs.Nodes.{AreGathered, Covers, IsNext, IsWhole, Node, set_of}
use Rattle.run_search.specs.States.{blank}
use Rattle.run_search.proofs.Covering.{node_at, row_covered}
use Rattle.run_search.proofs.Realising.{realised}
use Rattle.run_search.proofs.Same.{equivalence, own_row, same_row}

-- ---- one state of a node

-- the local states of the first processes, one after the other
some_state : (spec : RoomSpec) (node : Node) → IsWhole spec node → (count : ℕ) → count ≤ processes spec
    → (state : List LocalState) × (length state ≡ count) × ((p : ℕ) → p < count → Contains (set_of node p) (get_or state p blank))
some_state spec node whole zero few = ([], refl, λ p below. absurd (omega (arith, below)))
some_state spec node whole (suc p) few =
    let before = some_state spec node whole p (omega (arith, few)) in
    let local = whole.some p (omega (arith, few)) in (
      before.0 ++ local.0 ∷ [],
      (let long = length_push before.0 local.0 in let short = before.1 in omega (arith, long, short)),
      λ q below. elim (cases_eq q p) [
        | inl same ↦ subst (λ (r : ℕ). Contains (set_of node r) (get_or (before.0 ++ local.0 ∷ []) r blank)) (sym same) (subst (Contains (set_of node p)) (sym (get_or_push before.0 local.0 blank p before.1)) local.1)
        | inr other ↦ subst (Contains (set_of node q)) (sym (get_or_append_left before.0 (local.0 ∷ []) blank q (let long = before.1 in omega (arith, below, other, long)))) (before.2 q (omega (arith, below, other)))
      ],
    )

some_covered : (spec : RoomSpec) (node : Node) → IsWhole spec node → (state : List LocalState) × Covers spec node state
some_covered spec node whole =
    let some = some_state spec node whole (processes spec) (omega arith) in
    (some.0, record { width = some.1; each = some.2 })

-- with this local state of process p
covered_with : (spec : RoomSpec) (node : Node) (state : List LocalState) (p : ℕ) (local : LocalState) → Covers spec node state → p < processes spec → Contains (set_of node p) local → Covers spec node (set state p local)
covered_with spec node state p local covers within there = record {
  width = length-set state p local ∙ covers.width;
  each = λ q below. elim (cases_eq q p) [
    | inl same ↦ subst (λ (r : ℕ). Contains (set_of node r) (get_or (set state p local) r blank)) (sym same) (subst (Contains (set_of node p)) (sym (get_or-set_same state p local blank (omega (arith, within, covers.width)))) there)
    | inr other ↦ subst (Contains (set_of node q)) (sym (get_or-set_other state p q local blank other)) (covers.each q below)
  ];
}

-- what a node has that is not below another
pub covers_more : (spec : RoomSpec) (node above : Node) → IsWhole spec node → IsWhole spec above → IsNotBelow node above → CoversMore spec node above
covers_more spec node above whole above_whole (inl rows) =
    let some = some_covered spec node whole in
    (some.0, some.1, λ covers. rows (sym (row_covered spec above some.0 above_whole.is covers) ∙ row_covered spec node some.0 whole.is some.1))
covers_more spec node above whole above_whole (inr (inl widths)) = absurd (widths (whole.width ∙ sym above_whole.width))
covers_more spec node above whole above_whole (inr (inr more)) =
    let some = some_covered spec node whole in
    let p = more.0 in
    let within : p < processes spec = let below = more.2 in omega (arith, below, whole.width) in
    let state = set some.0 p more.1 in (
      state,
      covered_with spec node some.0 p more.1 some.1 within more.3,
      λ covers. more.4 (subst (Contains (set_of above p)) (get_or-set_same some.0 p more.1 blank (omega (arith, within, some.1.width))) (covers.each p within)),
    )

-- ---- one node more

pub apart_more : (spec : RoomSpec) (nodes : List Node) (to : Node) → AreGathered spec nodes → IsWhole spec to → AreApart spec nodes
    → ((i : ℕ) (other : Node) → slice_get nodes i ≡ Some other → IsNotBelow to other) → AreApart spec (nodes ++ to ∷ [])
apart_more spec nodes to gathered whole apart none i j earlier later before earlier_is later_is =
    let long = length_push nodes to in
    let inside = slice_get_within (nodes ++ to ∷ []) j later later_is in
    let first : i < length nodes = omega (arith, before, inside, long) in
    let was : slice_get nodes i ≡ Some earlier = sym (slice_get-append nodes (to ∷ []) i first) ∙ earlier_is in
    elim (cases_lt j (length nodes)) [
      | inl below ↦ apart i j earlier later before was (sym (slice_get-append nodes (to ∷ []) j below) ∙ later_is)
      | inr past ↦
          let at : length nodes ≡ j = omega (arith, past, inside, long) in
          let here : to ≡ later = same_Some to later (sym (slice_get-push nodes to) ∙ ap (slice_get (nodes ++ to ∷ [])) at ∙ later_is) in
          subst (λ (n : Node). CoversMore spec n earlier) here (covers_more spec to earlier whole (gathered.whole i earlier was) (none i earlier was))
    ]

pub apart_first : (spec : RoomSpec) (node : Node) → AreApart spec (node ∷ [])
apart_first spec node i j earlier later before earlier_is later_is =
    let inside = slice_get_within (node ∷ []) j later later_is in
    absurd (omega (arith, before, inside))

listed_on : (old new : Rows) (i : ℕ) (node : Node) → IsNodeListed old i node → ((other : List (Option ℕ)) (entry : Entry) → IsListed old other entry → IsListed new other entry) → IsNodeListed new i node
listed_on old new i node listed kept = record { marks = listed.marks; listed = kept node.row (record { index = i; marks = listed.marks }) listed.listed; has = listed.has }

pub listed_more : (old new : Rows) (nodes : List Node) (to : Node) → AreListed old nodes → IsNodeListed new (length nodes) to → ((other : List (Option ℕ)) (entry : Entry) → IsListed old other entry → IsListed new other entry) → AreListed new (nodes ++ to ∷ [])
listed_more old new nodes to listed there kept i node is = elim (cases_lt i (length nodes)) [
  | inl below ↦ listed_on old new i node (listed i node (sym (slice_get-append nodes (to ∷ []) i below) ∙ is)) kept
  | inr past ↦
      let inside = slice_get_within (nodes ++ to ∷ []) i node is in
      let long = length_push nodes to in
      let at : length nodes ≡ i = omega (arith, past, inside, long) in
      let here : to ≡ node = same_Some to node (sym (slice_get-push nodes to) ∙ ap (slice_get (nodes ++ to ∷ [])) at ∙ is) in
      subst (λ (k : ℕ). IsNodeListed new k node) at (subst (IsNodeListed new (length nodes)) here there)
]

-- ---- at the limit

unfoldable pub too_many : (spec : RoomSpec) (limit : ℕ) (nodes : List Node) → limit < length nodes → AreGathered spec nodes → AreApart spec nodes → AreTooMany spec limit
too_many spec limit nodes many gathered apart = record {
  nodes = nodes;
  many = many;
  gathered = gathered;
  reachable = λ node state there covers. (realised spec nodes there.0 node gathered.sound (node_at nodes node there)).each state covers;
  apart = apart;
}

-- ---- entries by rows

abbrev pub same_view : List (Option ℕ) → List (Option ℕ) → Bool
same_view a b = pointwise (option_eq eqb) a b

cases_row : (a b : List (Option ℕ)) → (a ≡ b) ⊎ (a ≡ b → ⊥)
cases_row a b = elim (cases_Bool (same_view a b)) [
  | inl is ↦ inl (same_row a b is)
  | inr other ↦ inr (λ same. true≢false (sym (own_row a) ∙ ap (same_view a) same ∙ other))
]

-- what is so of nodes of another row, and of each whose entry is among those of this row, is so of each node
pub not_listed : (P : Node → Type 0) (rows : Rows) (nodes : List Node) (row : List (Option ℕ)) → AreListed rows nodes → (i : ℕ) (other : Node) → slice_get nodes i ≡ Some other → ((other.row ≡ row → ⊥) → P other)
    → ((marks : ℕ) → IsListed rows row (record { index = i; marks = marks }) → HasMarks other marks → P other) → P other
not_listed P rows nodes row listed i other is differs each = elim (cases_row other.row row) [
  | inl same ↦
      let one = listed i other is in
      each one.marks (subst (λ (r : List (Option ℕ)). IsListed rows r (record { index = i; marks = one.marks })) same one.listed) one.has
  | inr differ ↦ differs differ
]

pub none_listed : (rows : Rows) (nodes : List Node) → nodes ≡ [] → AreListed rows nodes
none_listed rows nodes none i node is =
    let inside = slice_get_within nodes i node is in
    let long = ap (λ (l : List Node). length l) none in
    absurd (omega (arith, inside, long))

-- ---- the entries of one row change

abbrev View : Type 0
View = ArrayVec (Option ℕ)

abbrev pub views_equal : View → View → Bool
views_equal a b = same_view a.items b.items

same_views : (a b : View) → views_equal a b ≡ true → a ≡ b
same_views a b is = ap (λ (items : List (Option ℕ)). let view : View = record { items = items } in view) (same_row a.items b.items is)

pub views_equivalence : IsEquivalence views_equal
views_equivalence = equivalence views_equal same_views (λ a. own_row a.items)

-- these are the entries of a row, and all others stay
abbrev pub RowChanges : Rows → Rows → View → Vec Entry → Type 0
RowChanges before after row entries = (other : View) → entries_at after other.items ≡ cond (views_equal row other) (Some entries) (entries_at before other.items)

abbrev view_of : List (Option ℕ) → View
view_of row = record { items = row }

pub listed_here : (before after : Rows) (row : View) (entries : Vec Entry) (entry : Entry) → RowChanges before after row entries → Contains entries.items entry → IsListed after row.items entry
listed_here before after row entries entry changes among = record {
  entries = entries;
  there = changes row ∙ ap (λ (b : Bool). cond b (Some entries) (entries_at before row.items)) (own_row row.items);
  among = among;
}

pub listed_kept : (before after : Rows) (row : View) (entries : Vec Entry) → RowChanges before after row entries → ((one : Entry) → IsListed before row.items one → Contains entries.items one)
    → (other : List (Option ℕ)) (one : Entry) → IsListed before other one → IsListed after other one
listed_kept before after row entries changes keeps other one listed = elim (cases_Bool (same_view row.items other)) [
  | inl is ↦ record {
    entries = entries;
    there = changes (view_of other) ∙ ap (λ (b : Bool). cond b (Some entries) (entries_at before other)) is;
    among = keeps one (subst (λ (r : List (Option ℕ)). IsListed before r one) (sym (same_row row.items other is)) listed);
  }
  | inr differs ↦ record {
    entries = listed.entries;
    there = changes (view_of other) ∙ ap (λ (b : Bool). cond b (Some entries) (entries_at before other)) differs ∙ listed.there;
    among = listed.among;
  }
]

-- no entry is listed under a row that is not found
pub unlisted : (rows : Rows) (row : List (Option ℕ)) (entry : Entry) → is_some (entries_at rows row) ≡ false → IsListed rows row entry → ⊥
unlisted rows row entry none listed = true≢false (sym (ap is_some listed.there) ∙ none)

pub listed_among : (rows : Rows) (row : List (Option ℕ)) (entry : Entry) (entries : Vec Entry) → entries_at rows row ≡ Some entries → IsListed rows row entry → Contains entries.items entry
listed_among rows row entry entries there listed = subst (λ (v : Vec Entry). Contains v.items entry) (same_Some listed.entries entries (sym listed.there ∙ there)) listed.among

entry_at : (rows : Rows) (i : ℕ) (entries : Vec Entry) (d : View) → slice_get (values_of rows) i ≡ Some entries → slice_get rows i ≡ Some (get_or (keys_of rows) i d, entries)
entry_at [] i entries d there = absurd (let none : None ≡ Some entries = there in cc)
entry_at (entry ∷ rows) zero entries d there = ap (λ (v : Vec Entry). Some (entry.0, v)) (same_Some entry.1 entries there)
entry_at (entry ∷ rows) (suc i) entries d there = entry_at rows i entries d there

pub entry_there : (rows : Rows) (row : View) (i : ℕ) (entries : Vec Entry) → position (views_equal row) (keys_of rows) ≡ Some i → slice_get (values_of rows) i ≡ Some entries → slice_get rows i ≡ Some (row, entries)
entry_there rows row i entries found there =
    let passes = (position-Some (views_equal row) (keys_of rows) i row found).1 in
    entry_at rows i entries row there ∙ ap (λ (key : View). Some (key, entries)) (sym (same_views row (get_or (keys_of rows) i row) passes))

-- what is so of the nodes of some entries
pub from_listed : (P : Node → Type 0) (nodes : List Node) (items : List Entry) (from later marks : ℕ) (other : Node)
    → ((k : ℕ) → k < length items → (one : Node) → from ≤ (get_or items k no_entry).index → slice_get nodes (get_or items k no_entry).index ≡ Some one → HasMarks one (get_or items k no_entry).marks → P one)
    → Contains items (record { index = later; marks = marks }) → from ≤ later → slice_get nodes later ≡ Some other → HasMarks other marks → P other
from_listed P nodes items from later marks other each there past is has =
    let entry : Entry = record { index = later; marks = marks } in
    let at : get_or items there.0 no_entry ≡ entry = get_or_from_slice_get items there.0 entry no_entry (slice_get-get_or items there.0 entry there.1 ∙ ap Some there.2) in
    each there.0 there.1 other (subst (λ (e : Entry). from ≤ e.index) (sym at) past) (ap (λ (e : Entry). slice_get nodes e.index) at ∙ is) (subst (λ (e : Entry). HasMarks other e.marks) (sym at) has)

-- ---- by their marks

-- a local state whose mark another node has not
pub other_local : (has : ℕ → LocalState → Type 0) (other : Node) (marks others : ℕ) → AreMarksOf has marks → HasMarks other others → (k : ℕ) × (bit_at marks k ≡ 1) × (bit_at others k ≡ 1 → ⊥)
    → (p : ℕ) × (local : LocalState) × has p local × (Contains (set_of other p) local → ⊥)
other_local has other marks others each all bit =
    let mine = each bit.0 bit.1 in
    (mine.0, mine.1, mine.2, λ there. bit.2 (subst (λ (k : ℕ). bit_at others k ≡ 1) mine.3 (all mine.0 mine.1 there)))

-- ---- after a write

pub after_in : (node : Node) (p : ℕ) (new : LocalState) (q : ℕ) (local : LocalState) (old : List LocalState) → (q ≡ p → old ≡ new ∷ []) → ((q ≡ p → ⊥) → old ≡ set_of node q) → IsAfter node p new q local → Contains old local
after_in node p new q local old own other (inl mine) = subst (λ (l : List LocalState). Contains l local) (sym (own mine.0)) (subst (Contains (new ∷ [])) (sym mine.1) (Contains-push [] new))
after_in node p new q local old own other (inr else_one) = subst (λ (l : List LocalState). Contains l local) (sym (other else_one.0)) else_one.1

pub in_after : (node : Node) (p : ℕ) (new : LocalState) (q : ℕ) (local : LocalState) (old : List LocalState) → (q ≡ p → old ≡ new ∷ []) → ((q ≡ p → ⊥) → old ≡ set_of node q) → Contains old local → IsAfter node p new q local
in_after node p new q local old own other there = elim (cases_eq q p) [
  | inl same ↦ elim (Contains-push_cases [] new local (subst (λ (l : List LocalState). Contains l local) (own same) there)) [
    | inl none ↦ absurd (omega (arith, none.1))
    | inr mine ↦ inl (same, sym mine)
  ]
  | inr apart ↦ inr (apart, subst (λ (l : List LocalState). Contains l local) (other apart) there)
]

-- a node that is without something of that is without it of the node that the write leads to
pub without_below : (spec : RoomSpec) (node to other : Node) (p : ℕ) (new : LocalState) (row : List (Option ℕ)) → IsNext spec node p new to → row ≡ set node.row p new.last → IsWithoutAfter spec node p new row other → IsNotBelow to other
without_below spec node to other p new row next row_is (inl rows) = inl (λ same. rows (same ∙ next.row ∙ sym row_is))
without_below spec node to other p new row next row_is (inr (inl widths)) = inr (inl (λ same. widths (sym same ∙ next.width)))
without_below spec node to other p new row next row_is (inr (inr more)) =
    let q = more.0 in
    let within = more.2 in
    let there : IsAfter node p new q more.1 → Contains (set_of to q) more.1 = λ is. elim is [
      | inl mine ↦ subst (λ (r : ℕ). Contains (set_of to r) more.1) (sym mine.0) (subst (Contains (set_of to p)) (sym mine.1) (next.own.kept new (Contains-push [] new)))
      | inr else_one ↦ (next.others q within else_one.0).kept more.1 else_one.1
    ] in
    inr (inr (q, more.1, omega (arith, within, next.width), there more.3, more.4))
