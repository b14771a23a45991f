-- The definitions on levels and changes that were worked by hand.
use Rattle.std.proofs.Common.{◌≡◌, List, [], ◌∷◌, Some, None, refl, arith, rules}
use Rattle.safe_agreement.specs.Levels.{leave_of, resolved_of}
use Rattle.safe_agreement.specs.Phases.{Change, Enters, Looks, Leaves, phase_levels, before_all, after_changes, AreLegal}

-- the second simulator is still inside
inside : (resolved_of (2 ∷ 1 ∷ []) ≡ None) × (leave_of (2 ∷ 1 ∷ []) ≡ 0)
inside = (refl, refl)

second : (resolved_of (0 ∷ 2 ∷ []) ≡ Some 1) × (leave_of (0 ∷ 2 ∷ []) ≡ 0)
second = (refl, refl)

both : resolved_of (2 ∷ 2 ∷ []) ≡ Some 0
both = refl

both_inside : leave_of (1 ∷ 1 ∷ []) ≡ 2
both_inside = refl

one_inside : resolved_of (0 ∷ 1 ∷ []) ≡ None
one_inside = refl

withdrawn_of_eight : leave_of (0 ∷ 1 ∷ 0 ∷ 2 ∷ 0 ∷ 0 ∷ 0 ∷ 1 ∷ []) ≡ 0
withdrawn_of_eight = refl

least_of_eight : resolved_of (0 ∷ 0 ∷ 0 ∷ 0 ∷ 0 ∷ 2 ∷ 0 ∷ 2 ∷ []) ≡ Some 5
least_of_eight = refl

nobody : (resolved_of (0 ∷ 0 ∷ []) ≡ None) × (leave_of (0 ∷ 0 ∷ []) ≡ 2)
nobody = (refl, refl)

-- both look before either leaves, and both proposals stand
abbrev together : List Change
together = Enters 0 ∷ Enters 1 ∷ Looks 1 ∷ Looks 0 ∷ Leaves 1 ∷ Leaves 0 ∷ []

together_is : (phase_levels 2 (after_changes 2 before_all together) ≡ 2 ∷ 2 ∷ []) × AreLegal 2 before_all together
together_is = (refl, search (rules, arith))

-- the late one sees a 2 and withdraws
abbrev late : List Change
late = Enters 1 ∷ Looks 1 ∷ Leaves 1 ∷ Enters 0 ∷ Looks 0 ∷ Leaves 0 ∷ []

late_is : (phase_levels 2 (after_changes 2 before_all late) ≡ 0 ∷ 2 ∷ []) × AreLegal 2 before_all late
late_is = (refl, search (rules, arith))

-- the one inside has seen no 2 yet, so the set of 2s may grow
still_open : phase_levels 2 (after_changes 2 before_all (Enters 0 ∷ Looks 0 ∷ Enters 1 ∷ Looks 1 ∷ Leaves 1 ∷ [])) ≡ 1 ∷ 2 ∷ []
still_open = refl

-- nobody enters twice, looks before entering, or enters that isn't there
twice : AreLegal 2 before_all (Enters 0 ∷ Enters 0 ∷ []) → ⊥
twice legal = legal.2.1

early : AreLegal 2 before_all (Looks 0 ∷ []) → ⊥
early legal = legal.1

stranger : AreLegal 2 before_all (Enters 2 ∷ []) → ⊥
stranger legal = omega (arith, legal.0)
