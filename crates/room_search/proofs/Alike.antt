-- Outcomes that are taken from one choice after the other.
use Rattle.std.proofs.Common.{◌≡◌, ◌⊎◌, inl, inr, ℕ, suc, ◌+◌, ◌<◌, Bool, true, false, cond, eqb, List, [], ◌∷◌, ◌++◌, length, get_or, Some, refl, sym, ap, ◌∙◌, subst, arith}
use Rattle.std.specs.Cmp.Lexicographic.{pointwise}
use Rattle.std.specs.List.{Contains, list_any}
use Rattle.std.specs.Prelude.{slice_get, ◌||◌}
use Rattle.std.proofs.lemmas.Bool.{and_parts, cases_Bool, cases_eq, eqb-true, true≢false}
use Rattle.indexmap.specs.IndexSet.{insert_key}
use Rattle.room_spec.specs.Rooms.{RoomSpec}
use Rattle.room_core.specs.Rooms.{Configuration}
use Rattle.room_search.specs.contracts.premise.PremisePartialEq.TheImpl.{ghosts}
use Rattle.room_search.specs.declared.choice.Choice.{Choice}
use Rattle.room_search.specs.declared.local.Local.{Local}
use Rattle.room_search.specs.declared.premise.Premise.{Premise}
use Rattle.room_search.specs.declared.reached.Reached.{Reached}
use Rattle.room_search.specs.Nodes.{Node, set_of}
use Rattle.room_search.specs.Premises.{HasAlike}
use Rattle.room_search.specs.Taking.{AreFoundFrom, Includes, IsChosen, IsNoChoice}
use Rattle.room_search.proofs.Noting.{AreFoundAt, at_chosen, at_grown, at_none, from_grown}
use Rattle.room_search.proofs.Same.{same_words}
use Rattle.room_search.proofs.Taken.{last_case}

alike_by : (first : Premise) (all : List Premise) (one : Premise) → ghosts.eq one first ≡ true → HasAlike (first ∷ all) one
alike_by first all one is =
    let parts = and_parts (pointwise eqb one.said.items first.said.items) (eqb one.left first.left) is in
    record {
      other = first;
      there = (0, omega arith, refl);
      said = sym (same_words one.said.items first.said.items parts.0);
      left = sym (eqb-true one.left first.left parts.1);
    }

alike_later : (first : Premise) (all : List Premise) (one : Premise) → HasAlike all one → HasAlike (first ∷ all) one
alike_later first all one has = record {
  other = has.other;
  there = let there = has.there in (suc there.0, omega (arith, there.1), there.2);
  said = has.said;
  left = has.left;
}

pub alike_any : (all : List Premise) (one : Premise) → list_any (ghosts.eq one) all ≡ true → HasAlike all one
alike_any [] one found = absurd (true≢false (sym found))
alike_any (first ∷ all) one found = by (ghosts.eq one first) refl (alike_any all one) found
  where
    by : (b : Bool) → ghosts.eq one first ≡ b → (list_any (ghosts.eq one) all ≡ true → HasAlike all one) → (b || list_any (ghosts.eq one) all) ≡ true → HasAlike (first ∷ all) one
    by true is rest there = alike_by first all one is
    by false is rest there = alike_later first all one (rest there)

pub premise_cases : (old new : List Premise) (one other : Premise) → new ≡ insert_key ghosts.eq old one → Contains new other → Contains old other ⊎ (one ≡ other)
premise_cases old new one other is there = elim (cases_Bool (list_any (ghosts.eq one) old)) [
  | inl found ↦ inl (subst (λ (l : List Premise). Contains l other) (is ∙ ap (λ (b : Bool). cond b old (old ++ one ∷ [])) found) there)
  | inr fresh ↦ last_case old new one other (is ∙ ap (λ (b : Bool). cond b old (old ++ one ∷ [])) fresh) there
]

-- ---- places that were tried

-- what was found with the next simulator in the first local states of its set
pub record AreFoundBefore (spec : RoomSpec) (start : Configuration) (table : List Local) (outcomes : List Reached) (node : Node) (choice : Choice) (count : ℕ) (premises : List Premise) (places : ℕ) : Type 0 where
  pub each : (place : ℕ) → place < places → AreFoundAt spec start table outcomes node (length choice.numbers.items) count choice.left choice.said.items (get_or (set_of node (length choice.numbers.items)) place 0)
  pub same : (one : Premise) → Contains premises one → AreFoundFrom spec start table outcomes node (length choice.numbers.items + 1) count one.left one.said.items

pub before_first : (spec : RoomSpec) (start : Configuration) (table : List Local) (outcomes : List Reached) (node : Node) (choice : Choice) (count : ℕ) (premises : List Premise) → premises ≡ [] → AreFoundBefore spec start table outcomes node choice count premises 0
before_first spec start table outcomes node choice count premises none = record {
  each = λ place below. absurd (omega (arith, below));
  same = λ one there. let inside = (subst (λ (l : List Premise). Contains l one) none there).1 in absurd (omega (arith, inside));
}

-- one place more
one_more : (spec : RoomSpec) (start : Configuration) (table : List Local) (old new : List Reached) (node : Node) (choice : Choice) (count : ℕ) (before after : List Premise) (places : ℕ) → Includes old new
    → AreFoundAt spec start table new node (length choice.numbers.items) count choice.left choice.said.items (get_or (set_of node (length choice.numbers.items)) places 0)
    → ((one : Premise) → Contains after one → Contains before one ⊎ AreFoundFrom spec start table new node (length choice.numbers.items + 1) count one.left one.said.items)
    → AreFoundBefore spec start table old node choice count before places → AreFoundBefore spec start table new node choice count after (places + 1)
one_more spec start table old new node choice count before after places grown here cases was =
    let first = length choice.numbers.items in
    record {
      each = λ place below. elim (cases_eq place places) [
        | inl same ↦ subst (λ (k : ℕ). AreFoundAt spec start table new node first count choice.left choice.said.items (get_or (set_of node first) k 0)) (sym same) here
        | inr apart ↦ at_grown spec start table old new node first count choice.left choice.said.items (get_or (set_of node first) place 0) grown (was.each place (omega (arith, below, apart)))
      ];
      same = λ one there. elim (cases one there) [
        | inl kept ↦ from_grown spec start table old new node (first + 1) count one.left one.said.items grown (was.same one kept)
        | inr found ↦ found
      ];
    }

-- it can't be there
pub before_none : (spec : RoomSpec) (start : Configuration) (table : List Local) (outcomes : List Reached) (node : Node) (choice : Choice) (count : ℕ) (premises : List Premise) (places : ℕ)
    → ((local : Local) → slice_get table (get_or (set_of node (length choice.numbers.items)) places 0) ≡ Some local → IsNoChoice spec start node local choice)
    → AreFoundBefore spec start table outcomes node choice count premises places → AreFoundBefore spec start table outcomes node choice count premises (places + 1)
before_none spec start table outcomes node choice count premises places none was =
    let number = get_or (set_of node (length choice.numbers.items)) places 0 in
    one_more spec start table outcomes outcomes node choice count premises premises places (λ one there. there) (at_none spec start table outcomes node number count choice none) (λ one there. inl there) was

-- the premise has what the choice has
pub record IsPremiseOf (premise : Premise) (choice : Choice) : Type 0 where
  pub said : premise.said.items ≡ choice.said.items
  pub left : premise.left ≡ choice.left

from_premise : (spec : RoomSpec) (start : Configuration) (table : List Local) (outcomes : List Reached) (node : Node) (first count left other_left : ℕ) (said other_said : List ℕ) → left ≡ other_left → said ≡ other_said → AreFoundFrom spec start table outcomes node first count left said
    → AreFoundFrom spec start table outcomes node first count other_left other_said
from_premise spec start table outcomes node first count left other_left said other_said left_is said_is found =
    subst (λ (s : List ℕ). AreFoundFrom spec start table outcomes node first count other_left s) said_is (subst (λ (l : ℕ). AreFoundFrom spec start table outcomes node first count l said) left_is found)

-- what comes after it was taken from another place
pub before_alike : (spec : RoomSpec) (start : Configuration) (table : List Local) (outcomes : List Reached) (node : Node) (choice next : Choice) (premise : Premise) (count : ℕ) (premises : List Premise) (places : ℕ) → IsPremiseOf premise next → HasAlike premises premise
    → ((local : Local) → slice_get table (get_or (set_of node (length choice.numbers.items)) places 0) ≡ Some local → IsChosen spec start node local choice next)
    → AreFoundBefore spec start table outcomes node choice count premises places → AreFoundBefore spec start table outcomes node choice count premises (places + 1)
before_alike spec start table outcomes node choice next premise count premises places is has chosen was =
    let first = length choice.numbers.items in
    let number = get_or (set_of node first) places 0 in
    let found = from_premise spec start table outcomes node (first + 1) count has.other.left next.left has.other.said.items next.said.items (has.left ∙ is.left) (has.said ∙ is.said) (was.same has.other has.there) in
    one_more spec start table outcomes outcomes node choice count premises premises places (λ one there. there) (at_chosen spec start table outcomes node number count choice next chosen found) (λ one there. inl there) was

-- it was taken now
pub before_more : (spec : RoomSpec) (start : Configuration) (table : List Local) (old new : List Reached) (node : Node) (choice next : Choice) (premise : Premise) (count : ℕ) (before after : List Premise) (places : ℕ) → Includes old new → IsPremiseOf premise next
    → ((one : Premise) → Contains after one → Contains before one ⊎ (premise ≡ one))
    → ((local : Local) → slice_get table (get_or (set_of node (length choice.numbers.items)) places 0) ≡ Some local → IsChosen spec start node local choice next) → length next.numbers.items ≡ length choice.numbers.items + 1
    → AreFoundFrom spec start table new node (length next.numbers.items) count next.left next.said.items → AreFoundBefore spec start table old node choice count before places → AreFoundBefore spec start table new node choice count after (places + 1)
before_more spec start table old new node choice next premise count before after places grown is cases chosen long taken was =
    let first = length choice.numbers.items in
    let number = get_or (set_of node first) places 0 in
    let found : AreFoundFrom spec start table new node (first + 1) count next.left next.said.items = subst (λ (k : ℕ). AreFoundFrom spec start table new node k count next.left next.said.items) long taken in
    let premised = from_premise spec start table new node (first + 1) count next.left premise.left next.said.items premise.said.items (sym is.left) (sym is.said) found in
    one_more spec start table old new node choice count before after places grown (at_chosen spec start table new node number count choice next chosen found) (λ one there. elim (cases one there) [
      | inl kept ↦ inl kept
      | inr same ↦ inr (subst (λ (p : Premise). AreFoundFrom spec start table new node (first + 1) count p.left p.said.items) same premised)
    ])
    was
