-- What a change of one agreement leaves as it was.
use Rattle.std.proofs.Common.{◌≡◌, ◌≢◌, ◌⊎◌, ℕ, ◌<◌, Bool, true, false, cond, eqb, inl, inr, List, length, get_or, refl, sym, ap, ◌∙◌, subst, arith}
use mathlib.Core.Logic.{dite}
use native.Mathlib.Decide.{ℕ_discrete}
use Rattle.std.proofs.lemmas.Bool.{eq-eqb, eqb-true, ne_eqb}
use Rattle.std.proofs.lemmas.List.{get_or_read, ext_get_or}
use Rattle.std.proofs.lemmas.List.Folds.{Any-from_list_any}
use Rattle.std.proofs.lemmas.List.FromFn.{length-map-range_with_len, get_or-map-range_with_len}
use Rattle.safe_agreement.specs.Levels.{has_level, left_level}
use Rattle.safe_agreement.specs.Phases.{Phase, Before, Entered, Looked, Left, Change, Enters, Looks, Leaves, phase_level, phase_levels, mover, MayMove, moved, IsStep, HasTwo, IsFixed, HasTwoBeside, HaveSameTwos, before_all, after_change}
use Rattle.safe_agreement.proofs.Resolving.{has_level_at}

-- ---- levels

pub length_of_levels : (m : ℕ) (phases : ℕ → Phase) → length (phase_levels m phases) ≡ m
length_of_levels m phases = length-map-range_with_len _ 0 m

pub level_at : (m : ℕ) (phases : ℕ → Phase) (i : ℕ) → i < m → get_or (phase_levels m phases) i 0 ≡ phase_level (phases i)
level_at m phases i below = get_or-map-range_with_len _ 0 m i i 0 below (omega arith)

pub levels_are : (m : ℕ) (phases : ℕ → Phase) (levels : List ℕ) → length levels ≡ m → ((i : ℕ) → i < m → get_or levels i 0 ≡ phase_level (phases i)) → levels ≡ phase_levels m phases
levels_are m phases levels long each = ext_get_or 0 levels (phase_levels m phases) (long ∙ sym (length_of_levels m phases)) (λ i within. let below : i < m = omega arith in each i below ∙ sym (level_at m phases i below))

pub two_in_levels : (m : ℕ) (phases : ℕ → Phase) → HasTwo m phases → has_level 2 (phase_levels m phases) ≡ true
two_in_levels m phases two = has_level_at 2 (phase_levels m phases) two.0 (let e = length_of_levels m phases in let b = two.1 in omega arith) (level_at m phases two.0 two.1 ∙ two.2)

-- ---- one simulator

data Goes (levels : List ℕ) : Phase → Phase → Type 0 where
  entering : Goes levels Before Entered
  looking : Goes levels Entered (Looked (has_level 2 levels))
  leaving : {saw : Bool} → Goes levels (Looked saw) (Left (left_level saw))

goes : (levels : List ℕ) (change : Change) (phase : Phase) → MayMove change phase → Goes levels phase (moved levels change phase)
goes levels (Enters i) Before may = entering
goes levels (Enters i) Entered may = absurd may
goes levels (Enters i) (Looked saw) may = absurd may
goes levels (Enters i) (Left level) may = absurd may
goes levels (Looks i) Before may = absurd may
goes levels (Looks i) Entered may = looking
goes levels (Looks i) (Looked saw) may = absurd may
goes levels (Looks i) (Left level) may = absurd may
goes levels (Leaves i) Before may = absurd may
goes levels (Leaves i) Entered may = absurd may
goes levels (Leaves i) (Looked saw) may = leaving
goes levels (Leaves i) (Left level) may = absurd may

goes_in : (m : ℕ) (before : ℕ → Phase) (change : Change) (after : ℕ → Phase) → IsStep m before change after → Goes (phase_levels m before) (before (mover change)) (after (mover change))
goes_in m before change after step = subst (λ (phase : Phase). Goes (phase_levels m before) (before (mover change)) phase) (sym step.own) (goes (phase_levels m before) change (before (mover change)) step.may)

-- who is at level 2 stays there
stays_at_two : (levels : List ℕ) (from to : Phase) → Goes levels from to → phase_level from ≡ 2 → ⊥
stays_at_two levels from to entering two = absurd (omega arith)
stays_at_two levels from to looking two = absurd (omega arith)
stays_at_two levels from to leaving two = absurd (omega arith)

left_of_seen : (saw : Bool) → saw ≡ true → left_level saw ≡ 2 → ⊥
left_of_seen true seen two = absurd (omega arith)
left_of_seen false seen two = absurd cc

-- who has seen a 2 doesn't come there, nor who hasn't looked yet
comes_to_no_two : (levels : List ℕ) (from to : Phase) → Goes levels from to → ((saw : Bool) → from ≡ Looked saw → saw ≡ true) → phase_level to ≡ 2 → ⊥
comes_to_no_two levels from to entering seen two = absurd (omega arith)
comes_to_no_two levels from to looking seen two = absurd (omega arith)
comes_to_no_two levels from to (leaving {saw}) seen two = left_of_seen saw (seen saw refl) two

sees_two : (levels : List ℕ) (from to : Phase) → Goes levels from to → has_level 2 levels ≡ true → (saw : Bool) → to ≡ Looked saw → saw ≡ true
sees_two levels from to entering two saw is = absurd cc
sees_two levels from to looking two saw is = cc
sees_two levels from to leaving two saw is = absurd cc

-- ---- one change

two_stays : (m : ℕ) (before : ℕ → Phase) (change : Change) (after : ℕ → Phase) → IsStep m before change after → (i : ℕ) → i < m → phase_level (before i) ≡ 2 → phase_level (after i) ≡ 2
two_stays m before change after step i below two =
    dite (ℕ_discrete i (mover change))
    (λ (e : i ≡ mover change). absurd (stays_at_two _ _ _ (goes_in m before change after step) (ap (λ (k : ℕ). phase_level (before k)) (sym e) ∙ two)))
    (λ (other : i ≢ mover change). ap phase_level (step.others i below other) ∙ two)

pub twos_stay : (m : ℕ) (before : ℕ → Phase) (change : Change) (after : ℕ → Phase) → IsStep m before change after → HasTwo m before → HasTwo m after
twos_stay m before change after step two = (two.0, two.1, two_stays m before change after step two.0 two.1 two.2)

seen_after : (m : ℕ) (before : ℕ → Phase) (change : Change) (after : ℕ → Phase) → IsStep m before change after → IsFixed m before → (i : ℕ) (saw : Bool) → i < m → after i ≡ Looked saw → saw ≡ true
seen_after m before change after step fixed i saw below is =
    dite (ℕ_discrete i (mover change))
    (λ (e : i ≡ mover change). sees_two _ _ _ (goes_in m before change after step) (two_in_levels m before fixed.two) saw (ap after (sym e) ∙ is))
    (λ (other : i ≢ mover change). fixed.seen i saw below (sym (step.others i below other) ∙ is))

pub stays_fixed : (m : ℕ) (before : ℕ → Phase) (change : Change) (after : ℕ → Phase) → IsStep m before change after → IsFixed m before → IsFixed m after
stays_fixed m before change after step fixed = record { two = twos_stay m before change after step fixed.two; seen = seen_after m before change after step fixed }

two_was : (m : ℕ) (before : ℕ → Phase) (change : Change) (after : ℕ → Phase) → IsStep m before change after → IsFixed m before → (i : ℕ) → i < m → phase_level (after i) ≡ 2 → phase_level (before i) ≡ 2
two_was m before change after step fixed i below two =
    dite (ℕ_discrete i (mover change))
    (λ (e : i ≡ mover change). absurd (comes_to_no_two _ _ _ (goes_in m before change after step) (λ saw is. fixed.seen (mover change) saw step.below is) (ap (λ (k : ℕ). phase_level (after k)) (sym e) ∙ two)))
    (λ (other : i ≢ mover change). ap phase_level (sym (step.others i below other)) ∙ two)

pub keeps_twos : (m : ℕ) (before : ℕ → Phase) (change : Change) (after : ℕ → Phase) → IsStep m before change after → IsFixed m before → HaveSameTwos m before after
keeps_twos m before change after step fixed i below = (two_stays m before change after step i below, two_was m before change after step fixed i below)

pub step_of_change : (m : ℕ) (phases : ℕ → Phase) (change : Change) → mover change < m → MayMove change (phases (mover change)) → IsStep m phases change (after_change m phases change)
step_of_change m phases change below may = record {
  below = below;
  may = may;
  own = ap (λ (b : Bool). cond {A = Phase} b (moved (phase_levels m phases) change (phases (mover change))) (phases (mover change))) (eq-eqb (mover change) (mover change) refl);
  others = λ i _ other. ap (λ (b : Bool). cond {A = Phase} b (moved (phase_levels m phases) change (phases (mover change))) (phases i)) (ne_eqb i (mover change) other);
}

-- the same phases are as good
pub same_two : (m : ℕ) (phases others : ℕ → Phase) → ((i : ℕ) → i < m → others i ≡ phases i) → HasTwo m phases → HasTwo m others
same_two m phases others same two = (two.0, two.1, ap phase_level (same two.0 two.1) ∙ two.2)

pub same_fixed : (m : ℕ) (phases others : ℕ → Phase) → ((i : ℕ) → i < m → others i ≡ phases i) → IsFixed m phases → IsFixed m others
same_fixed m phases others same fixed = record { two = same_two m phases others same fixed.two; seen = λ i saw below is. fixed.seen i saw below (sym (same i below) ∙ is) }

-- ---- a 2 beside whoever has left

has_two : (m : ℕ) (phases : ℕ → Phase) → has_level 2 (phase_levels m phases) ≡ true → HasTwo m phases
has_two m phases sees =
    let there = Any-from_list_any (λ one. eqb one 2) (phase_levels m phases) sees in
    let below : there.0 < m = let l = length_of_levels m phases in let b = there.2 in omega arith in
    let two : get_or (phase_levels m phases) there.0 0 ≡ 2 = sym (get_or_read (phase_levels m phases) there.0 there.1 there.2 (sym there.3) 0) ∙ eqb-true _ _ there.4 in
    (there.0, below, sym (level_at m phases there.0 below) ∙ two)

looked_with : (saw : Bool) → Looked saw ≡ Looked true → saw ≡ true
looked_with saw is = cc

two_of_left : (saw : Bool) → left_level saw ≡ 2 ⊎ (saw ≡ true)
two_of_left true = inr refl
two_of_left false = inl refl

two_in_leaving : (m : ℕ) (before : ℕ → Phase) (change : Change) (after : ℕ → Phase) → IsStep m before change after → HasTwoBeside m before → (saw : Bool) → before (mover change) ≡ Looked saw → after (mover change) ≡ Left (left_level saw) → HasTwo m after
two_in_leaving m before change after step beside true was is = twos_stay m before change after step (beside.seen (mover change) step.below was)
two_in_leaving m before change after step beside false was is = (mover change, step.below, ap phase_level is)

two_for_left : (m : ℕ) (before : ℕ → Phase) (change : Change) (after : ℕ → Phase) → IsStep m before change after → HasTwoBeside m before → (from to : Phase) → Goes (phase_levels m before) from to → before (mover change) ≡ from → after (mover change) ≡ to → (level : ℕ) → to ≡ Left level → HasTwo m after
two_for_left m before change after step beside from to entering was is level left = absurd cc
two_for_left m before change after step beside from to looking was is level left = absurd cc
two_for_left m before change after step beside from to (leaving {saw}) was is level left = two_in_leaving m before change after step beside saw was is

two_for_seen : (m : ℕ) (before : ℕ → Phase) (from to : Phase) → Goes (phase_levels m before) from to → to ≡ Looked true → HasTwo m before
two_for_seen m before from to entering seen = absurd cc
two_for_seen m before from to looking seen = has_two m before (looked_with _ seen)
two_for_seen m before from to leaving seen = absurd cc

pub stays_beside : (m : ℕ) (before : ℕ → Phase) (change : Change) (after : ℕ → Phase) → IsStep m before change after → HasTwoBeside m before → HasTwoBeside m after
stays_beside m before change after step beside = record {
  seen = λ i below is.
      dite (ℕ_discrete i (mover change))
      (λ (e : i ≡ mover change). twos_stay m before change after step (two_for_seen m before _ _ (goes_in m before change after step) (ap after (sym e) ∙ is)))
      (λ (other : i ≢ mover change). twos_stay m before change after step (beside.seen i below (sym (step.others i below other) ∙ is)));
  left = λ i level below is.
      dite (ℕ_discrete i (mover change))
      (λ (e : i ≡ mover change). two_for_left m before change after step beside _ _ (goes_in m before change after step) refl refl level (ap after (sym e) ∙ is))
      (λ (other : i ≢ mover change). twos_stay m before change after step (beside.left i level below (sym (step.others i below other) ∙ is)));
}

before_is_no_seen : Before ≡ Looked true → ⊥
before_is_no_seen is = cc

before_is_not_left : (level : ℕ) → Before ≡ Left level → ⊥
before_is_not_left level is = cc

pub beside_before : (m : ℕ) → HasTwoBeside m before_all
beside_before m = record { seen = λ i below is. absurd (before_is_no_seen is); left = λ i level below is. absurd (before_is_not_left level is) }

pub same_beside : (m : ℕ) (phases others : ℕ → Phase) → ((i : ℕ) → i < m → others i ≡ phases i) → HasTwoBeside m phases → HasTwoBeside m others
same_beside m phases others same beside = record {
  seen = λ i below is. same_two m phases others same (beside.seen i below (sym (same i below) ∙ is));
  left = λ i level below is. same_two m phases others same (beside.left i level below (sym (same i below) ∙ is));
}
