-- A line that says that one input is agreed on.
use Rattle.std.proofs.Common.{◌≡◌, ◌∙◌, ℕ, zero, suc, ◌+◌, ◌<◌, ◌≤◌, Bool, true, false, ◌&&◌, ◌||◌, cond, eqb, leb, List, [], ◌∷◌, Option, None, Some, Contains, length, refl, sym, ap, subst, arith}
use Rattle.std.specs.Prelude.{slice_get, slice_index_or, unwrap_or, ◌==◌}
use Rattle.std.specs.List.{filter, find}
use Rattle.std.proofs.lemmas.Bool.{eqb-true, eqb-false, eq-eqb, leb-true, le-leb}
use Rattle.std.proofs.lemmas.List.Elements.{Contains-append_right}
use Rattle.std.proofs.lemmas.List.Sums.{count_by-le-length, length-filter, sum_by-cons}
use Rattle.std.proofs.lemmas.Option.{get_or_from_slice_get}
use Rattle.protocol_lang.specs.Meaning.{Environment, action_by, entry, present}
use Rattle.protocol_lang.specs.Trees.{Expression, RuleOf}
use Rattle.decision_tasks.specs.Laws.{IsAgreement, agreement}
use Rattle.decision_tasks.specs.Tasks.{AreAllowed, given, is_allowed, is_one}

-- ---- the decisions that are there

entry_is : (decisions : List (Option ℕ)) (p v : ℕ) → slice_get decisions p ≡ Some (Some v) → entry decisions p ≡ v
entry_is decisions p v is = ap (λ (o : Option ℕ). unwrap_or o 0) (get_or_from_slice_get decisions p (Some v) None is)

abbrev same_as : ℕ → List (Option ℕ) → ℕ
same_as v decisions = length (filter (λ value. value == v) (present decisions))

few_same : (v : ℕ) (decisions : List (Option ℕ)) → same_as v decisions ≤ length (present decisions)
few_same v decisions = subst (λ (n : ℕ). n ≤ length (present decisions)) (sym (length-filter (λ (value : ℕ). value == v) (present decisions))) (count_by-le-length (λ (value : ℕ). value == v) (present decisions))

longer : (b : Bool) (x : ℕ) (xs : List ℕ) → length (cond b (x ∷ xs) xs) ≡ cond b 1 0 + length xs
longer true x xs = omega arith
longer false x xs = omega arith

one_more : (v x : ℕ) (decisions : List (Option ℕ)) (b : Bool) → eqb x v ≡ b → same_as v (Some x ∷ decisions) ≡ cond b 1 0 + same_as v decisions
one_more v x decisions b is = longer (eqb x v) x (filter (λ value. value == v) (present decisions)) ∙ ap (λ (c : Bool). cond c 1 0 + length (filter (λ value. value == v) (present decisions))) is

first_is : (x w : ℕ) (decisions : List (Option ℕ)) → slice_get (Some x ∷ decisions) 0 ≡ Some (Some w) → w ≡ x
first_is x w decisions is = cc

-- if all that are there are the same as v, each is v
pub each_same : (v : ℕ) (decisions : List (Option ℕ)) → same_as v decisions ≡ length (present decisions) → (q w : ℕ) → slice_get decisions q ≡ Some (Some w) → w ≡ v
each_same v [] all q w is = absurd cc
each_same v (None ∷ decisions) all zero w is = absurd cc
each_same v (None ∷ decisions) all (suc q) w is = each_same v decisions all q w is
each_same v (Some x ∷ decisions) all q w is = by (eqb x v) refl (λ rest q is. each_same v decisions rest q w is) q is
  where
    by : (b : Bool) → eqb x v ≡ b → (same_as v decisions ≡ length (present decisions) → (q : ℕ) → slice_get decisions q ≡ Some (Some w) → w ≡ v) → (q : ℕ) → slice_get (Some x ∷ decisions) q ≡ Some (Some w) → w ≡ v
    by true e later zero is = first_is x w decisions is ∙ eqb-true x v e
    by true e later (suc q) is = later (omega (arith, all, one_more v x decisions true e)) q is
    by false e later q is = absurd (omega (arith, all, one_more v x decisions false e, few_same v decisions))

-- the other way round
pub all_same : (v : ℕ) (decisions : List (Option ℕ)) → ((q w : ℕ) → slice_get decisions q ≡ Some (Some w) → w ≡ v) → same_as v decisions ≡ length (present decisions)
all_same v [] each = refl
all_same v (None ∷ decisions) each = all_same v decisions (λ q w is. each (suc q) w is)
all_same v (Some x ∷ decisions) each =
    let here : eqb x v ≡ true = eq-eqb x v (each 0 x refl) in
    let rest = all_same v decisions (λ q w is. each (suc q) w is) in
    omega (arith, rest, one_more v x decisions true here)

-- ---- inputs

given_more : (v x : ℕ) (inputs : List ℕ) (b : Bool) → eqb x v ≡ b → given (x ∷ inputs) v ≡ cond b 1 0 + given inputs v
given_more v x inputs b is = sum_by-cons (λ (input : ℕ). cond (input == v) 1 0) x inputs ∙ ap (λ (c : Bool). cond c 1 0 + given inputs v) is

further : (x : ℕ) (inputs : List ℕ) (v : ℕ) → Contains inputs v → Contains (x ∷ inputs) v
further x inputs v later = Contains-append_right (x ∷ []) inputs v later

no_both : (x v : ℕ) → eqb x v ≡ false → x ≡ v → ⊥
no_both x v e is = eqb-false x v e is

pub given_there : (v : ℕ) (inputs : List ℕ) → 1 ≤ given inputs v → Contains inputs v
given_there v [] some = absurd (omega (arith, some))
given_there v (x ∷ inputs) some = by (eqb x v) refl (λ more. given_there v inputs more)
  where
    by : (b : Bool) → eqb x v ≡ b → (1 ≤ given inputs v → Contains inputs v) → Contains (x ∷ inputs) v
    by true e later = (0, omega arith, eqb-true x v e)
    by false e later = further x inputs v (later (omega (arith, some, given_more v x inputs false e)))

pub there_given : (v : ℕ) (inputs : List ℕ) → Contains inputs v → 1 ≤ given inputs v
there_given v [] there = absurd (omega (arith, there.1))
there_given v (x ∷ inputs) there = by (eqb x v) refl (λ later. there_given v inputs later) there.0 there.1 there.2
  where
    by : (b : Bool) → eqb x v ≡ b → (Contains inputs v → 1 ≤ given inputs v) → (k : ℕ) → k < length (x ∷ inputs) → slice_index_or (x ∷ inputs) k v ≡ v → 1 ≤ given (x ∷ inputs) v
    by true e later k below is = omega (arith, given_more v x inputs true e)
    by false e later zero below is = absurd (no_both x v e is)
    by false e later (suc k) below is = let more = later (k, omega (arith, below), is) in omega (arith, more, given_more v x inputs false e)

-- ---- the line

by_both : (s : Environment) (a b : Bool) → (is_one (action_by s agreement.last (find (λ (rule : RuleOf Expression). a && (b && true)) agreement.rules)) || false) ≡ (a && b)
by_both s true true = refl
by_both s true false = refl
by_both s false b = refl

pub line_holds : (inputs : List ℕ) (decisions : List (Option ℕ)) (p v : ℕ) → is_allowed (agreement ∷ []) inputs decisions p v ≡ (eqb (same_as (entry decisions p) decisions) (length (present decisions)) && leb 1 (given inputs v))
line_holds inputs decisions p v =
    by_both
    (record { input = slice_index_or inputs p 0; id = p; processes = length decisions; round = given inputs v; view = decisions })
    (eqb (same_as (entry decisions p) decisions) (length (present decisions)))
    (leb 1 (given inputs v))

both : (a b : Bool) → (a && b) ≡ true → (a ≡ true) × (b ≡ true)
both true b is = (refl, is)
both false b is = absurd cc

-- a process may decide v exactly if all have decided v, and v is an input
parts : (inputs : List ℕ) (decisions : List (Option ℕ)) (p v : ℕ) → slice_get decisions p ≡ Some (Some v) → is_allowed (agreement ∷ []) inputs decisions p v ≡ true → (same_as v decisions ≡ length (present decisions)) × (1 ≤ given inputs v)
parts inputs decisions p v is allowed =
    let two = both (eqb (same_as (entry decisions p) decisions) (length (present decisions))) (leb 1 (given inputs v)) (sym (line_holds inputs decisions p v) ∙ allowed) in
    (ap (λ (m : ℕ). same_as m decisions) (sym (entry_is decisions p v is)) ∙ eqb-true (same_as (entry decisions p) decisions) (length (present decisions)) two.0, leb-true 1 (given inputs v) two.1)

pub agreed : (inputs : List ℕ) (decisions : List (Option ℕ)) → AreAllowed (agreement ∷ []) inputs decisions → IsAgreement inputs decisions
agreed inputs decisions allowed = record {
  input = λ p v is. given_there v inputs (parts inputs decisions p v is (allowed p v is)).1;
  same = λ p q v w is other. sym (each_same v decisions (parts inputs decisions p v is (allowed p v is)).0 q w other);
}

pub allowed : (inputs : List ℕ) (decisions : List (Option ℕ)) → IsAgreement inputs decisions → AreAllowed (agreement ∷ []) inputs decisions
allowed inputs decisions agree p v is =
    let same : same_as (entry decisions p) decisions ≡ length (present decisions) =
    ap (λ (m : ℕ). same_as m decisions) (entry_is decisions p v is) ∙ all_same v decisions (λ q w other. sym (agree.same p q v w is other)) in
    let first = eq-eqb (same_as (entry decisions p) decisions) (length (present decisions)) same in
    let second = le-leb 1 (given inputs v) (there_given v inputs (agree.input p v is)) in
    line_holds inputs decisions p v ∙ ap (λ (a : Bool). a && leb 1 (given inputs v)) first ∙ second
