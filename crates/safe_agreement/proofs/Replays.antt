-- What lists of changes of one agreement leave as it was.
use Rattle.std.proofs.Common.{◌≡◌, ◌≢◌, ℕ, ◌<◌, Bool, zero, suc, List, [], ◌∷◌, length, take, Option, Some, None, refl, sym, ap, ◌∙◌, arith}
use Rattle.safe_agreement.specs.Levels.{IsResolved, least_two, resolved_of}
use Rattle.safe_agreement.specs.Phases.{Phase, Looked, Left, Change, phase_level, phase_levels, IsFixed, HasTwoBeside, HaveSameTwos, after_change, after_changes, AreLegal}
use Rattle.safe_agreement.proofs.Resolving.{SameTwos, least_two_is, least_two_found, same_least, resolves_least, resolved_to, is_resolved_by}
use Rattle.safe_agreement.proofs.Steps.{length_of_levels, level_at, stays_fixed, keeps_twos, step_of_change, stays_beside}

-- ---- the least simulator at level 2

same_twos_of_levels : (m : ℕ) (phases others : ℕ → Phase) → HaveSameTwos m phases others → SameTwos (phase_levels m phases) (phase_levels m others)
same_twos_of_levels m phases others same = record {
  length_is = length_of_levels m phases ∙ sym (length_of_levels m others);
  two_is = λ i below.
      let within : i < m = let l = length_of_levels m phases in omega arith in
      let one = level_at m phases i within in
      let other = level_at m others i within in
      (λ two. other ∙ (same i within).0 (sym one ∙ two), λ two. one ∙ (same i within).1 (sym other ∙ two));
}

no_some : (i : ℕ) → ◌≡◌ {A = Option ℕ} None (Some i) → ⊥
no_some i is = cc

least_of_same : (levels others : List ℕ) → SameTwos levels others → (place place' : Option ℕ) → least_two levels ≡ place → least_two others ≡ place' → place ≡ place'
least_of_same levels others same (Some i) (Some k) is is' = ap Some (same_least levels others i k same (least_two_is levels i is) (least_two_is others k is'))
least_of_same levels others same (Some i) None is is' =
    let at = least_two_is levels i is in
    let found = least_two_found others i (let l = same.length_is in let b = at.below in omega arith) ((same.two_is i at.below).0 at.two) in
    absurd (no_some found.0 (sym is' ∙ found.1))
least_of_same levels others same None (Some k) is is' =
    let at = least_two_is others k is' in
    let within : k < length levels = let l = same.length_is in let b = at.below in omega arith in
    let found = least_two_found levels k within ((same.two_is k within).1 at.two) in
    absurd (no_some found.0 (sym is ∙ found.1))
least_of_same levels others same None None is is' = refl

pub same_least_two : (m : ℕ) (phases others : ℕ → Phase) → HaveSameTwos m phases others → least_two (phase_levels m phases) ≡ least_two (phase_levels m others)
same_least_two m phases others same = least_of_same _ _ (same_twos_of_levels m phases others same) _ _ refl refl

-- ---- a resolved agreement is fixed

looked_is_one : (phase : Phase) (saw : Bool) → phase ≡ Looked saw → phase_level phase ≡ 1
looked_is_one phase saw is = ap phase_level is

pub resolved_is_fixed : (m : ℕ) (phases : ℕ → Phase) → IsResolved (phase_levels m phases) → IsFixed m phases
resolved_is_fixed m phases resolved =
    let below : resolved.simulator < m = let l = length_of_levels m phases in let b = resolved.below in omega arith in
    record {
      two = (resolved.simulator, below, sym (level_at m phases resolved.simulator below) ∙ resolved.two);
      seen = λ i saw within is. absurd (resolved.no_one i (let l = length_of_levels m phases in omega arith) (level_at m phases i within ∙ looked_is_one (phases i) saw is));
    }

-- where one has left and nobody is inside, the agreement is resolved
pub settles : (m : ℕ) (phases : ℕ → Phase) (i level : ℕ) → HasTwoBeside m phases → i < m → phases i ≡ Left level → ((k : ℕ) → k < m → phase_level (phases k) ≢ 1) → IsResolved (phase_levels m phases)
settles m phases i level beside below left quiet =
    let two = beside.left i level below left in
    record {
      simulator = two.0;
      below = let l = length_of_levels m phases in let b = two.1 in omega arith;
      two = level_at m phases two.0 two.1 ∙ two.2;
      no_one = λ k within is. let b : k < m = let l = length_of_levels m phases in omega arith in quiet k b (sym (level_at m phases k b) ∙ is);
    }

-- ---- lists of changes

pub same_again : (m : ℕ) (one two three : ℕ → Phase) → HaveSameTwos m one two → HaveSameTwos m two three → HaveSameTwos m one three
same_again m one two three first second i below = (λ at. (second i below).0 ((first i below).0 at), λ at. (first i below).1 ((second i below).1 at))

pub same_of_same : (m : ℕ) (phases others : ℕ → Phase) → ((i : ℕ) → i < m → others i ≡ phases i) → HaveSameTwos m phases others
same_of_same m phases others same i below = (λ two. ap phase_level (same i below) ∙ two, λ two. ap phase_level (sym (same i below)) ∙ two)

pub stays_fixed_on : (m : ℕ) (phases : ℕ → Phase) (changes : List Change) → AreLegal m phases changes → IsFixed m phases → IsFixed m (after_changes m phases changes)
stays_fixed_on m phases [] legal fixed = fixed
stays_fixed_on m phases (change ∷ changes) legal fixed =
    let step = step_of_change m phases change legal.0 legal.1 in
    stays_fixed_on m (after_change m phases change) changes legal.2 (stays_fixed m phases change _ step fixed)

pub keeps_twos_on : (m : ℕ) (phases : ℕ → Phase) (changes : List Change) → AreLegal m phases changes → IsFixed m phases → HaveSameTwos m phases (after_changes m phases changes)
keeps_twos_on m phases [] legal fixed = λ i below. (λ two. two, λ two. two)
keeps_twos_on m phases (change ∷ changes) legal fixed =
    let step = step_of_change m phases change legal.0 legal.1 in
    same_again m phases (after_change m phases change) (after_changes m (after_change m phases change) changes) (keeps_twos m phases change _ step fixed) (keeps_twos_on m (after_change m phases change) changes legal.2 (stays_fixed m phases change _ step fixed))

pub stays_beside_on : (m : ℕ) (phases : ℕ → Phase) (changes : List Change) → AreLegal m phases changes → HasTwoBeside m phases → HasTwoBeside m (after_changes m phases changes)
stays_beside_on m phases [] legal beside = beside
stays_beside_on m phases (change ∷ changes) legal beside =
    let step = step_of_change m phases change legal.0 legal.1 in
    stays_beside_on m (after_change m phases change) changes legal.2 (stays_beside m phases change _ step beside)

-- ---- resolved

-- what a fixed agreement resolves to, once it is resolved
pub resolves_as_fixed : (m : ℕ) (phases : ℕ → Phase) (changes : List Change) → AreLegal m phases changes → IsFixed m phases → IsResolved (phase_levels m (after_changes m phases changes)) → resolved_of (phase_levels m (after_changes m phases changes)) ≡ least_two (phase_levels m phases)
resolves_as_fixed m phases changes legal fixed resolved = resolves_least _ resolved ∙ sym (same_least_two m phases (after_changes m phases changes) (keeps_twos_on m phases changes legal fixed))

some_same : (i k : ℕ) → ◌≡◌ {A = Option ℕ} (Some i) (Some k) → i ≡ k
some_same i k is = cc

legal_take : (m : ℕ) (phases : ℕ → Phase) (changes : List Change) (n : ℕ) → AreLegal m phases changes → AreLegal m phases (take n changes)
legal_take m phases changes zero legal = tt
legal_take m phases [] (suc n) legal = tt
legal_take m phases (change ∷ changes) (suc n) legal = (legal.0, legal.1, legal_take m (after_change m phases change) changes n legal.2)

later_agrees : (m : ℕ) (phases : ℕ → Phase) (changes : List Change) (i k : ℕ) → AreLegal m phases changes → resolved_of (phase_levels m phases) ≡ Some i → resolved_of (phase_levels m (after_changes m phases changes)) ≡ Some k → i ≡ k
later_agrees m phases changes i k legal is is' =
    let resolved = is_resolved_by _ i (resolved_to _ i is) in
    let resolved' = is_resolved_by _ k (resolved_to _ k is') in
    some_same i k (sym is ∙ resolves_least _ resolved ∙ sym (resolves_as_fixed m phases changes legal (resolved_is_fixed m phases resolved) resolved') ∙ is')

pub resolves_again : (m : ℕ) (phases : ℕ → Phase) (changes : List Change) (i : ℕ) → AreLegal m phases changes → resolved_of (phase_levels m phases) ≡ Some i → IsResolved (phase_levels m (after_changes m phases changes)) → resolved_of (phase_levels m (after_changes m phases changes)) ≡ Some i
resolves_again m phases changes i legal is resolved' =
    let resolved = is_resolved_by _ i (resolved_to _ i is) in
    resolves_as_fixed m phases changes legal (resolved_is_fixed m phases resolved) resolved' ∙ sym (resolves_least _ resolved) ∙ is

-- two moments of one list: the later is a continuation of the earlier
pub moments_agree : (m : ℕ) (phases : ℕ → Phase) (changes : List Change) (a b i k : ℕ) → AreLegal m phases changes → resolved_of (phase_levels m (after_changes m phases (take a changes))) ≡ Some i → resolved_of (phase_levels m (after_changes m phases (take b changes))) ≡ Some k → i ≡ k
moments_agree m phases [] zero zero i k legal is is' = later_agrees m phases [] i k legal is is'
moments_agree m phases [] zero (suc b) i k legal is is' = later_agrees m phases [] i k legal is is'
moments_agree m phases [] (suc a) zero i k legal is is' = later_agrees m phases [] i k legal is is'
moments_agree m phases [] (suc a) (suc b) i k legal is is' = later_agrees m phases [] i k legal is is'
moments_agree m phases (change ∷ changes) zero b i k legal is is' = later_agrees m phases (take b (change ∷ changes)) i k (legal_take m phases (change ∷ changes) b legal) is is'
moments_agree m phases (change ∷ changes) (suc a) zero i k legal is is' = sym (later_agrees m phases (take (suc a) (change ∷ changes)) k i (legal_take m phases (change ∷ changes) (suc a) legal) is' is)
moments_agree m phases (change ∷ changes) (suc a) (suc b) i k legal is is' = moments_agree m (after_change m phases change) changes a b i k legal.2 is is'
