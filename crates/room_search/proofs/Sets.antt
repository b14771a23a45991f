-- Sets of numbers, and nodes of them.
use Rattle.std.proofs.Common.{◌≡◌, ℕ, zero, suc, ◌+◌, ◌<◌, ◌≤◌, List, [], ◌∷◌, ◌++◌, length, get_or, map, Some, None, refl, sym, ap, ◌∙◌, subst, arith, inl, inr, ◌⊎◌}
use Rattle.std.specs.Prelude.{slice_get}
use Rattle.std.specs.List.{Contains}
use Rattle.std.proofs.lemmas.Bool.{cases_eq}
use Rattle.std.proofs.lemmas.List.{append-nil, append_assoc, get_or_append_left, get_or_past, get_or_push, length-append, length-map, length_push}
use Rattle.std.proofs.lemmas.List.Elements.{Contains-append_left, Contains-push, Contains-push_cases}
use Rattle.std.proofs.lemmas.Option.{get_or_from_slice_get, none-some, slice_get-get_or}
use Rattle.room_spec.specs.Rooms.{RoomSpec}
use Rattle.room_search.specs.declared.local.Local.{Local}
use Rattle.room_search.specs.Nodes.{AreIn, AreNumbers, AreSetsAfter, Grows, IsNode, Node, set_of}

-- ---- lists of numbers

pub number_at : (set : List ℕ) (place : ℕ) → place < length set → Contains set (get_or set place 0)
number_at set place below = (place, below, get_or_from_slice_get set place (get_or set place 0) (get_or set place 0) (slice_get-get_or set place 0 below))

pub each_place : (some all : List ℕ) → ((place : ℕ) → place < length some → Contains all (get_or some place 0)) → AreIn some all
each_place some all each number there =
    let is = get_or_from_slice_get some there.0 number 0 (slice_get-get_or some there.0 number there.1 ∙ ap Some there.2) in
    subst (Contains all) is (each there.0 there.1)

pub none_past : (node : Node) (i number : ℕ) → length node.sets ≤ i → Contains (set_of node i) number → ⊥
none_past node i number past there =
    let none : set_of node i ≡ [] = get_or_past node.sets i [] past in
    let inside = (subst (λ (l : List ℕ). Contains l number) none there).1 in
    omega (arith, inside)

module _ {S : Type 0} where
  pub sets_count : (inside : List S) (words : List ℕ) (node : Node) (keys : S → List ℕ) → (let view : Node = record { said = words; sets = map keys inside } in view ≡ node) → length inside ≡ length node.sets
  sets_count inside words node keys view = sym (length-map inside keys) ∙ ap (λ (n : Node). length n.sets) view

-- ---- tables that have grown

pub longer : {A : Type 0} (old new : List A) → Grows old new → length old ≤ length new
longer old new grown =
    let long = length-append old grown.0 in
    let is = ap (λ (l : List _). length l) grown.1 in
    omega (arith, long, is)

pub numbers_grown : (old new : List Local) (set : List ℕ) → Grows old new → AreNumbers old set → AreNumbers new set
numbers_grown old new set grown are number there = let below = are number there in let more = longer old new grown in omega (arith, below, more)

pub numbers_put : (table : List Local) (old new : List ℕ) (number : ℕ) → ((other : ℕ) → Contains new other → Contains old other ⊎ (other ≡ number)) → number < length table → AreNumbers table old → AreNumbers table new
numbers_put table old new number added inside are other among = elim (added other among) [
  | inl before ↦ are other before
  | inr last ↦ omega (arith, inside, last)
]

pub one_number : (table : List Local) (number : ℕ) → number < length table → AreNumbers table (number ∷ [])
one_number table number below other there =
    let at = there.1 in
    let first : there.0 ≡ 0 = omega (arith, at) in
    let is : number ≡ other = ap (λ (k : ℕ). get_or (number ∷ []) k other) (sym first) ∙ there.2 in
    omega (arith, is, below)

pub own_number : (number : ℕ) → Contains (number ∷ []) number
own_number number = Contains-push [] number

pub put_kept : (old new : List ℕ) (number : ℕ) → new ≡ old ++ number ∷ [] → AreIn old new
put_kept old new number is other there = subst (λ (l : List ℕ). Contains l other) (sym is) (Contains-append_left old (number ∷ []) other there)

pub put_cases : (old new : List ℕ) (number : ℕ) → new ≡ old ++ number ∷ [] → (other : ℕ) → Contains new other → Contains old other ⊎ (other ≡ number)
put_cases old new number is other there = elim (Contains-push_cases old number other (subst (λ (l : List ℕ). Contains l other) is there)) [
  | inl before ↦ inl before
  | inr last ↦ inr (sym last)
]

-- ---- the sets after a step, one by one

pub sets_none : (spec : RoomSpec) (table : List Local) (node : Node) (simulator number : ℕ) (sets : List (List ℕ)) → sets ≡ [] → AreSetsAfter spec table node simulator number 0 sets
sets_none spec table node simulator number sets none = record {
  width = ap (λ (l : List (List ℕ)). length l) none;
  numbers = λ i below. absurd (omega (arith, below));
  own = λ below. absurd (omega (arith, below));
  others = λ i below. absurd (omega (arith, below));
}

pub sets_more : (spec : RoomSpec) (old new : List Local) (node : Node) (simulator number count : ℕ) (sets after : List (List ℕ)) (set : List ℕ) → after ≡ sets ++ set ∷ [] → Grows old new → AreNumbers new set
    → (count ≡ simulator → Contains set number) → ((count ≡ simulator → ⊥) → AreIn (set_of node count) set) → AreSetsAfter spec old node simulator number count sets → AreSetsAfter spec new node simulator number (count + 1) after
sets_more spec old new node simulator number count sets after set is grown numbers own other before =
    let last : get_or (sets ++ set ∷ []) count [] ≡ set = get_or_push sets set [] count before.width in
    let earlier : (i : ℕ) → i < count → get_or (sets ++ set ∷ []) i [] ≡ get_or sets i [] = λ i below. get_or_append_left sets (set ∷ []) [] i (let width = before.width in omega (arith, below, width)) in
    subst (AreSetsAfter spec new node simulator number (count + 1)) (sym is) (record {
      width = let long = length_push sets set in let width = before.width in omega (arith, long, width);
      numbers = λ i below. elim (cases_eq i count) [
        | inl same ↦ subst (λ (k : ℕ). AreNumbers new (get_or (sets ++ set ∷ []) k [])) (sym same) (subst (AreNumbers new) (sym last) numbers)
        | inr apart ↦ let less : i < count = omega (arith, below, apart) in subst (AreNumbers new) (sym (earlier i less)) (numbers_grown old new (get_or sets i []) grown (before.numbers i less))
      ];
      own = λ below. elim (cases_eq count simulator) [
        | inl same ↦ subst (λ (k : ℕ). Contains (get_or (sets ++ set ∷ []) k []) number) same (subst (λ (l : List ℕ). Contains l number) (sym last) (own same))
        | inr apart ↦ let less : simulator < count = omega (arith, below, apart) in subst (λ (l : List ℕ). Contains l number) (sym (earlier simulator less)) (before.own less)
      ];
      others = λ i below differs. elim (cases_eq i count) [
        | inl same ↦
            subst (λ (k : ℕ). AreIn (set_of node k) (get_or (sets ++ set ∷ []) k [])) (sym same)
            (subst (AreIn (set_of node count)) (sym last) (other (λ e. differs (same ∙ e))))
        | inr apart ↦ let less : i < count = omega (arith, below, apart) in subst (AreIn (set_of node i)) (sym (earlier i less)) (before.others i less differs)
      ];
    })

-- ---- what has grown

pub grows_on : {A : Type 0} (first old new : List A) → Grows first old → Grows old new → Grows first new
grows_on first old new one other = (one.0 ++ other.0, other.1 ∙ ap (λ (l : List _). l ++ other.0) one.1 ∙ append_assoc first one.0 other.0)

pub grows_not : {A : Type 0} (list : List A) → Grows list list
grows_not list = ([], sym (append-nil list))

pub grows_same : {A : Type 0} (old new : List A) → new ≡ old → Grows old new
grows_same old new same = ([], same ∙ sym (append-nil old))

pub node_grown : (spec : RoomSpec) (old new : List Local) (node : Node) → Grows old new → IsNode spec old node → IsNode spec new node
node_grown spec old new node grown is = record {
  words = is.words;
  width = is.width;
  numbers = λ i below. numbers_grown old new (set_of node i) grown (is.numbers i below);
}

pub never_absent : (table : List Local) (number : ℕ) → None ≡ slice_get table number → number < length table → ⊥
never_absent [] number none below = absurd (omega (arith, below))
never_absent (known ∷ table) zero none below = none-some known none
never_absent (known ∷ table) (suc number) none below = never_absent table number none (omega (arith, below))

pub place_of : (set : List ℕ) (at number : ℕ) → at < length set → number ≡ get_or set at number → Contains set number
place_of set at number below is = (at, below, sym is)

pub extended : (new old more : List ℕ) → new ≡ old ++ more → old ≡ [] → new ≡ more
extended new old more is none = is ∙ ap (λ (l : List ℕ). l ++ more) none

pub place_there : (table : List Local) (number : ℕ) → number < length table → (known : Local) × (slice_get table number ≡ Some known)
place_there [] number below = absurd (omega (arith, below))
place_there (known ∷ table) zero below = (known, refl)
place_there (known ∷ table) (suc number) below = place_there table number (omega (arith, below))

pub at_index : (nodes : List Node) (index : ℕ) (node : Node) → index < length nodes → node ≡ get_or nodes index node → slice_get nodes index ≡ Some node
at_index nodes index node below is = slice_get-get_or nodes index node below ∙ ap Some (sym is)
