use Rattle.std.proofs.Common.{length-append, ◌≡◌, ◌∙◌, ℕ, ◌+◌, ◌∷◌, [], length, Some, Ok, Err, sym, ap, arith}
use Rattle.std.proofs.lemmas.Grind.{common_steps}
use Rattle.std.specs.Option.{option_copied}
use Rattle.room_spec.specs.Texts.{fields_of, is_space, pieces_of}
use Rattle.view_grade.specs.declared.goal.GoalFault.TheVariants.{NoClaim, NoJoint}
use Rattle.view_grade.specs.Goals.{claim_in, goal_in}
use Rattle.view_grade.proofs.Claims.{after_word, last_claim, no_claim, no_joint, one_more}
use Rattle.view_grade.proofs.reading.read_goal.Goals as goal

pub returns-in_default-later : goal.returns-in_default-later
returns-in_default-later c =
    let inv = c.loop-claim.invariant in
    let before = c.loop-claim.claims.items in
    let read : claim_in c.loop-claim.joint (fields_of c.loop-claim.rest.now) ≡ Some (c.in-Some.claim, []) = sym (rw c.in_default-later.is at c.in-Some.ensures.claim) in
    ap Ok c.in_ok-push.ensures.items
    ∙ sym (last_claim (length c.loop-claim.rest.now) inv.0 (length before + 1) c.loop-claim.joint (fields_of c.loop-claim.rest.now) before (goal_in c.args.text.now) c.in-Some.claim inv.1 inv.2 read)

pub returns-in_default-joint_of : goal.returns-in_default-joint_of
returns-in_default-joint_of c =
    let inv = c.loop-claim.invariant in
    let before = c.loop-claim.claims.items in
    let word = c.cut.result.0.now in
    let more = pieces_of is_space (option_copied c.cut.result.1) in
    let read : claim_in c.loop-claim.joint (fields_of c.loop-claim.rest.now) ≡ Some (c.in-Some.claim, word ∷ more) = rw (sym c.cut.ensures.pieces) (sym (rw c.in-Some-later.is at c.in-Some.ensures.claim)) in
    ap (λ (number : ℕ). Err (NoJoint number)) (grind (arith, common_steps)) ∙ sym (no_joint (length c.loop-claim.rest.now) inv.0 (length before + 1) c.loop-claim.joint (fields_of c.loop-claim.rest.now) before (goal_in c.args.text.now) c.in-Some.claim word more inv.1 inv.2 read (sym c.joint_of.ensures ∙ c.in_default-joint_of.is))

pub loop-claim-preserved : goal.loop-claim-preserved
loop-claim-preserved c =
    let inv = c.loop-claim.invariant in
    let before = c.loop-claim.claims.items in
    let word = c.cut.result.0.now in
    let rest = option_copied c.cut.result.1 in
    let read : claim_in c.loop-claim.joint (fields_of c.loop-claim.rest.now) ≡ Some (c.in-Some.claim, word ∷ pieces_of is_space rest) = rw (sym c.cut.ensures.pieces) (sym (rw c.in-Some-later.is at c.in-Some.ensures.claim)) in
    let low = after_word c.cut.result.1 (length word) (length c.in-Some-later.later.now) c.cut.ensures.shorter in
    let later = rw c.in-Some-later.is at c.in-Some.ensures.shorter in
    let more = one_more (length c.loop-claim.rest.now) inv.0 (length before + 1) c.loop-claim.joint c.in-Some-joint_of.next_joint (fields_of c.loop-claim.rest.now) before (goal_in c.args.text.now) c.in-Some.claim word rest inv.1 (omega (arith, low, later)) inv.2 read (sym c.joint_of.ensures ∙ c.in-Some-joint_of.is) in
    rw (c.text_in-rest.ensures, c.in_ok-push.ensures.items, length-append before (c.in-Some.claim ∷ [])) more

pub returns : goal.returns
returns c =
    let inv = c.loop-claim.invariant in
    let before = c.loop-claim.claims.items in
    ap (λ (number : ℕ). Err (NoClaim number)) (grind (arith, common_steps))
    ∙ sym (no_claim (length c.loop-claim.rest.now) inv.0 (length before + 1) c.loop-claim.joint (fields_of c.loop-claim.rest.now) before (goal_in c.args.text.now) inv.1 inv.2 (sym (rw c.in_default.is at c.read_claim.ensures.claim)))
