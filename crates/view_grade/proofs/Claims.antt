-- Goals, claim by claim.
use Rattle.std.proofs.Common.{◌≡◌, ◌∙◌, ℕ, zero, suc, ◌+◌, List, [], ◌∷◌, ◌++◌, Option, Some, None, Result, Ok, Err, ◌<◌, ◌≤◌, Bor, length, refl, sym, ap, arith}
use Rattle.std.specs.Prelude.{IfSome, unwrap_or}
use Rattle.std.specs.Option.{option_copied}
use Rattle.std.proofs.lemmas.List.{append_assoc}
use Rattle.room_spec.specs.Texts.{fields_of, is_space, pieces_of}
use Rattle.view_grade.specs.declared.goal.Joint.{Joint}
use Rattle.view_grade.specs.declared.goal.Claim.{Claim}
use Rattle.view_grade.specs.declared.goal.GoalFault.{GoalFault}
use Rattle.view_grade.specs.declared.goal.GoalFault.TheVariants.{NoClaim, NoJoint}
use Rattle.view_grade.specs.Goals.{after_claim, after_joint, before_more, claim_in, goal_from, joint_of}

-- the claims before, and those that are read after them
abbrev pub after : List Claim → Result (List Claim) GoalFault → Result (List Claim) GoalFault
after before (Ok claims) = Ok (before ++ claims)
after before (Err fault) = Err fault

pub after_none : (read : Result (List Claim) GoalFault) → read ≡ after [] read
after_none (Ok claims) = refl
after_none (Err fault) = refl

pub after_one : (before : List Claim) (claim : Claim) (read : Result (List Claim) GoalFault) → after before (before_more claim read) ≡ after (before ++ claim ∷ []) read
after_one before claim (Ok claims) = ap Ok (sym (append_assoc before (claim ∷ []) claims))
after_one before claim (Err fault) = refl

-- nothing is no claim
nothing_left : (most number : ℕ) (joint : Joint) → goal_from most number joint [] ≡ goal_from most number joint (fields_of [])
unfolding goal_from
nothing_left zero number joint = refl
nothing_left (suc most) number joint = refl

-- what comes after a joint, if anything does
pub rest_left : (most number : ℕ) (joint : Joint) (rest : Option (List ℕ)) → goal_from most number joint (pieces_of is_space rest) ≡ goal_from most number joint (fields_of (unwrap_or rest []))
rest_left most number joint None = nothing_left most number joint
rest_left most number joint (Some text) = refl

pub no_claim : (left most number : ℕ) (joint : Joint) (words : List (List ℕ)) (before : List Claim) (whole : Result (List Claim) GoalFault) → left < most → whole ≡ after before (goal_from most number joint words)
    → claim_in joint words ≡ None → whole ≡ Err (NoClaim number)
unfolding goal_from
no_claim left zero number joint words before whole low says none = absurd (omega (arith, low))
no_claim left (suc most) number joint words before whole low says none = says ∙ ap (λ (read : Option (Claim × List (List ℕ))). after before (after_claim (goal_from most (number + 1)) number read)) none

pub last_claim : (left most number : ℕ) (joint : Joint) (words : List (List ℕ)) (before : List Claim) (whole : Result (List Claim) GoalFault) (claim : Claim) → left < most → whole ≡ after before (goal_from most number joint words)
    → claim_in joint words ≡ Some (claim, []) → whole ≡ Ok (before ++ claim ∷ [])
unfolding goal_from
last_claim left zero number joint words before whole claim low says read = absurd (omega (arith, low))
last_claim left (suc most) number joint words before whole claim low says read = says ∙ ap (λ (read : Option (Claim × List (List ℕ))). after before (after_claim (goal_from most (number + 1)) number read)) read

pub no_joint : (left most number : ℕ) (joint : Joint) (words : List (List ℕ)) (before : List Claim) (whole : Result (List Claim) GoalFault) (claim : Claim) (word : List ℕ) (more : List (List ℕ)) → left < most
    → whole ≡ after before (goal_from most number joint words) → claim_in joint words ≡ Some (claim, word ∷ more) → joint_of word ≡ None → whole ≡ Err (NoJoint number)
unfolding goal_from
no_joint left zero number joint words before whole claim word more low says read none = absurd (omega (arith, low))
no_joint left (suc most) number joint words before whole claim word more low says read none =
    says ∙ ap (λ (read : Option (Claim × List (List ℕ))). after before (after_claim (goal_from most (number + 1)) number read)) read
    ∙ ap (λ (found : Option Joint). after before (before_more claim (after_joint (goal_from most (number + 1)) number found more))) none

-- one claim more
pub one_more : (left most number : ℕ) (joint next : Joint) (words : List (List ℕ)) (before : List Claim) (whole : Result (List Claim) GoalFault) (claim : Claim) (word : List ℕ) (rest : Option (List ℕ)) → left < most
    → length (unwrap_or rest []) < left → whole ≡ after before (goal_from most number joint words) → claim_in joint words ≡ Some (claim, word ∷ pieces_of is_space rest) → joint_of word ≡ Some next
    → (fewer : ℕ) × (length (unwrap_or rest []) < fewer) × (whole ≡ after (before ++ claim ∷ []) (goal_from fewer (number + 1) next (fields_of (unwrap_or rest []))))
unfolding goal_from
one_more left zero number joint next words before whole claim word rest low shorter says read found = absurd (omega (arith, low))
one_more left (suc most) number joint next words before whole claim word rest low shorter says read found = (
  most,
  omega (arith, low, shorter),
  says ∙ ap (λ (read : Option (Claim × List (List ℕ))). after before (after_claim (goal_from most (number + 1)) number read)) read
      ∙ ap (λ (f : Option Joint). after before (before_more claim (after_joint (goal_from most (number + 1)) number f (pieces_of is_space rest)))) found
      ∙ ap (λ (r : Result (List Claim) GoalFault). after before (before_more claim r)) (rest_left most (number + 1) next rest)
      ∙ after_one before claim (goal_from most (number + 1) next (fields_of (unwrap_or rest []))),
)

-- the text after a word is shorter than the text of both
pub after_word : (rest : Option (Bor (List ℕ))) (word whole : ℕ) → IfSome rest (λ text. word + 1 + length text.now ≡ whole) → length (unwrap_or (option_copied rest) []) ≤ whole
after_word None word whole is = omega arith
after_word (Some text) word whole is = omega (arith, is)
