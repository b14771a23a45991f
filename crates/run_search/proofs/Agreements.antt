-- What is found of a reduction, one vector of inputs after the other.
use Rattle.std.proofs.Common.{◌≡◌, ℕ, zero, suc, ◌+◌, ◌-◌, ◌<◌, ◌≤◌, List, [], ◌∷◌, ◌++◌, length, map, get_or, Option, Some, None, refl, sym, ap, ◌∙◌, subst, arith, inl, inr}
use Rattle.std.specs.Prelude.{slice_get}
use Rattle.std.specs.List.{Contains, sum_by}
use Rattle.std.specs.Option.{option_map}
use Rattle.std.proofs.lemmas.Bool.{cases_lt}
use Rattle.std.proofs.lemmas.List.{length-map, length_push}
use Rattle.std.proofs.lemmas.List.Sums.{sum_by-cons, sum_by_push}
use Rattle.std.proofs.lemmas.Option.{slice_get_within, slice_get-get_or, slice_get-map}
use Rattle.room_spec.specs.Rooms.{RoomSpec, processes, with_inputs}
use Rattle.run_search.specs.declared.ended.Ended.{Ended}
use Rattle.run_search.specs.declared.reduction.Agreed.{Agreed}
use Rattle.run_search.specs.Agreed.{agreed_at, agreed_count, agreed_room, nodes_in, AreAgreed, AreTooManyAgreed, HasOutcome, IsAgreed, IsAgreedOutcome}
use Rattle.run_search.specs.Limits.{AreTooMany}
use Rattle.run_search.specs.Nodes.{CoverAllReachable, Node}
use Rattle.run_search.specs.Outcomes.{IsFoundFor, IsRunOutcome, outcomes_in}
use Rattle.run_search.proofs.Vectors.{each_index, from_own, none_past}

pub none_agreed : (spec : RoomSpec) (crashes : ℕ) → AreAgreed spec crashes 0 []
none_agreed spec crashes = record { count = refl; each = λ i agreed there. absurd cc }

there_earlier : (all : List Agreed) (more : List Agreed) (i : ℕ) → i < length all → slice_get (all ++ more) i ≡ slice_get all i
there_earlier [] more i below = absurd (omega (arith, below))
there_earlier (x ∷ xs) more zero below = refl
there_earlier (x ∷ xs) more (suc i) below = there_earlier xs more i (omega (arith, below))

there_last : (all : List Agreed) (new : Agreed) → slice_get (all ++ new ∷ []) (length all) ≡ Some new
there_last [] new = refl
there_last (x ∷ xs) new = there_last xs new

some_same : (a b : Agreed) → Some a ≡ Some b → a ≡ b
some_same a b is = cc

pub agreed_more : (spec : RoomSpec) (crashes index : ℕ) (all : List Agreed) (new : Agreed) → AreAgreed spec crashes index all → IsAgreed spec crashes index new → AreAgreed spec crashes (index + 1) (all ++ new ∷ [])
agreed_more spec crashes index all new agreed one = record {
  count = length_push all new ∙ (let count = agreed.count in omega (arith, count));
  each = λ i other there. elim (cases_lt i (length all)) [
    | inl earlier ↦ agreed.each i other (sym (there_earlier all (new ∷ []) i earlier) ∙ there)
    | inr late ↦
        let within = slice_get_within (all ++ new ∷ []) i other there in
        let here : length all ≡ i = omega (arith, late, within, length_push all new) in
        let same : new ≡ other = some_same new other (sym (there_last all new) ∙ ap (slice_get (all ++ new ∷ [])) here ∙ there) in
        subst (IsAgreed spec crashes i) same (subst (λ (k : ℕ). IsAgreed spec crashes k new) (sym agreed.count ∙ here) one)
  ];
}

pub nodes_more : (all : List Agreed) (new : Agreed) → nodes_in (all ++ new ∷ []) ≡ nodes_in all + length new.outcomes.nodes
nodes_more all new = sum_by_push (λ (agreed : Agreed). length agreed.outcomes.nodes) all new

-- what is found in the room that has the vector of this index
pub agreed_of : (spec : RoomSpec) (crashes index : ℕ) (agreed : Agreed) (room : RoomSpec) → agreed.room ≡ room → room ≡ agreed_room spec index → ((outcome : List Ended) → IsRunOutcome room crashes outcome → Contains (outcomes_in agreed.outcomes) outcome) → ((outcome : List Ended) → Contains (outcomes_in agreed.outcomes) outcome → IsRunOutcome room crashes outcome)
    → CoverAllReachable room agreed.outcomes.nodes → IsFoundFor room agreed.outcomes → IsAgreed spec crashes index agreed
agreed_of spec crashes index agreed room is has complete sound nodes found = record {
  room = is ∙ has;
  complete = subst (λ (r : RoomSpec). (outcome : List Ended) → IsRunOutcome r crashes outcome → Contains (outcomes_in agreed.outcomes) outcome) (sym is) complete;
  sound = subst (λ (r : RoomSpec). (outcome : List Ended) → Contains (outcomes_in agreed.outcomes) outcome → IsRunOutcome r crashes outcome) (sym is) sound;
  nodes = subst (λ (r : RoomSpec). CoverAllReachable r agreed.outcomes.nodes) (sym is) nodes;
  found = subst (λ (r : RoomSpec). IsFoundFor r agreed.outcomes) (sym is) found;
}

-- ---- the outcomes

pub complete : (spec : RoomSpec) (crashes : ℕ) (all : List Agreed) → 1 ≤ processes spec → AreAgreed spec crashes (agreed_count spec) all → (outcome : List Ended) → IsAgreedOutcome spec crashes outcome → HasOutcome all outcome
complete spec crashes all some agreed outcome is =
    let found = each_index spec is.inputs some is.from_own in
    let within : found.0 < length all = omega (arith, found.1, agreed.count) in
    at found.0 within (slice_get all found.0) refl found.2
  where
    at : (index : ℕ) → index < length all → (one : Option Agreed) → slice_get all index ≡ one → agreed_at spec index ≡ is.inputs → HasOutcome all outcome
    at index within None there same = absurd (let past = none_past all index there in omega (arith, past, within))
    at index within (Some one) there same =
        let own = agreed.each index one there in
        let room : with_inputs spec is.inputs ≡ one.room = sym (own.room ∙ ap (with_inputs spec) same) in
        record {
          agreed = one;
          among = (index, within, some_same (get_or all index one) one (sym (slice_get-get_or all index one within) ∙ there));
          there = own.complete outcome (subst (λ (r : RoomSpec). IsRunOutcome r crashes outcome) room is.ends);
        }

pub sound : (spec : RoomSpec) (crashes : ℕ) (all : List Agreed) → 1 ≤ processes spec → AreAgreed spec crashes (agreed_count spec) all → (outcome : List Ended) → HasOutcome all outcome → IsAgreedOutcome spec crashes outcome
sound spec crashes all some agreed outcome has =
    let k = has.among.0 in
    let there : slice_get all k ≡ Some has.agreed = slice_get-get_or all k has.agreed has.among.1 ∙ ap Some has.among.2 in
    let own = agreed.each k has.agreed there in
    record {
      inputs = agreed_at spec k;
      from_own = from_own spec k some (omega (arith, has.among.1, agreed.count));
      ends = subst (λ (r : RoomSpec). IsRunOutcome r crashes outcome) own.room (own.sound outcome has.there);
    }

-- ---- at the limit

sum_of : (all : List Agreed) → sum_by (λ (own : List Node). length own) (map (λ (agreed : Agreed). agreed.outcomes.nodes) all) ≡ nodes_in all
sum_of [] = refl
sum_of (x ∷ xs) =
    sum_by-cons (λ (own : List Node). length own) x.outcomes.nodes (map (λ (agreed : Agreed). agreed.outcomes.nodes) xs)
    ∙ ap (λ (n : ℕ). length x.outcomes.nodes + n) (sum_of xs)
    ∙ sym (sum_by-cons (λ (agreed : Agreed). length agreed.outcomes.nodes) x xs)

pub too_many : (spec : RoomSpec) (crashes index left limit : ℕ) (all : List Agreed) → index < agreed_count spec → AreAgreed spec crashes index all → nodes_in all + left ≡ limit → AreTooMany (agreed_room spec index) left → AreTooManyAgreed spec limit
too_many spec crashes index left limit all within agreed is many = record {
  index = index;
  within = within;
  nodes = map (λ (one : Agreed). one.outcomes.nodes) all;
  before = record {
    count = length-map all (λ (one : Agreed). one.outcomes.nodes) ∙ agreed.count;
    each = λ i own there. at i own (slice_get all i) refl (sym (slice_get-map (λ (one : Agreed). one.outcomes.nodes) all i) ∙ there);
  };
  used = let sum = sum_of all in omega (arith, sum, is);
  many = let sum = sum_of all in let same : left ≡ limit - sum_by (λ (own : List Node). length own) (map (λ (one : Agreed). one.outcomes.nodes) all) = omega (arith, sum, is) in subst (AreTooMany (agreed_room spec index)) same many;
}
  where
    at : (i : ℕ) (own : List Node) (one : Option Agreed) → slice_get all i ≡ one → option_map (λ (one : Agreed). one.outcomes.nodes) one ≡ Some own → CoverAllReachable (agreed_room spec i) own
    at i own None there is_own = absurd cc
    at i own (Some one) there is_own =
        let agreed_one = agreed.each i one there in
        let same : one.outcomes.nodes ≡ own = cc in
        subst (CoverAllReachable (agreed_room spec i)) same (subst (λ (r : RoomSpec). CoverAllReachable r one.outcomes.nodes) agreed_one.room agreed_one.nodes)
