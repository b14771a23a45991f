use Rattle.std.proofs.Common.{◌≡◌, ◌∙◌, ◌+◌, ◌≤◌, ℕ, suc, List, arith, inl, inr, false, rules, subst, sym, ap, length, refl}
use Rattle.std.proofs.lemmas.Grind.{common_steps}
use Rattle.std.specs.Prelude.{codes}
use Rattle.std.specs.Str.{bytes_eq}
use Rattle.room_files.proofs.BlockEnds.{positive_len}
use Rattle.room_files.proofs.BlockSteps.{front_as, within_text, behind, line_bound, shorter_behind, step_blocks, begins}
use Rattle.room_files.specs.Blocks.{Setup, after_block}
use Rattle.room_files.specs.Inputs.{blocks_from}
use Rattle.std.proofs.lemmas.Result.{err_from_is_err_and}
use Rattle.room_files.proofs.setup.read_blocks.Goals as goal

pub loop-rest-smaller : goal.loop-rest-smaller
loop-rest-smaller g c =
    let rest = c.loop-rest.rest.now in
    let len = length c.text.result.now in
    let front = front_as rest c.in-Some.block c.text.result.now c.text.ensures c.in-Some.ensures.block.0 c.in-Some.ensures.block.1 in
    shorter_behind rest len _ refl (positive_len rest len front.0) (within_text rest len (sym front.0))

pub loop-rest-preserved : goal.loop-rest-preserved
loop-rest-preserved g c =
    let rest = c.loop-rest.rest.now in
    let len = length c.text.result.now in
    let front = front_as rest c.in-Some.block c.text.result.now c.text.ensures c.in-Some.ensures.block.0 c.in-Some.ensures.block.1 in
    let inv = c.loop-rest.invariant in
    let some = positive_len rest len front.0 in
    let within = within_text rest len (sym front.0) in
    let other = subst (λ line. bytes_eq line (codes "events") ≡ false) c.cut_near.ensures.before (search rules) in
    let taken = c.in_ok-take.ensures.block ∙ ap (after_block c.args.kinds c.loop-rest.setup) front.1 in
    let passed = subst (λ (bytes : List ℕ). c.take.new.self.line ≤ c.loop-rest.setup.line + length bytes) front.1 c.in_ok-take.ensures.line in
    let next = step_blocks c.args.kinds inv.0 c.loop-rest.setup c.take.new.self rest _ len inv.1 some within other front.0 taken (behind rest len _ refl) in (
      next.0,
      next.1,
      inv.2 ∙ next.2,
      line_bound rest len _ c.loop-rest.setup.line c.take.new.self.line (length c.args.input.now) refl within passed inv.3,
      inr (begins c.args.input.now rest len inv.4 other front.0),
    )

pub returns-in_err-take-clause-err : goal.returns-in_err-take-clause-err
returns-in_err-take-clause-err g c =
    let rest = c.loop-rest.rest.now in
    let other = subst (λ line. bytes_eq line (codes "events") ≡ false) c.cut_near.ensures.before (search rules) in
    let p = err_from_is_err_and c.from_residual.result c.from_residual.ensures.1 in
    rw (p.1, p.2) (begins c.args.input.now rest (length c.in-Some.block) c.loop-rest.invariant.4 other c.in-Some.ensures.block.0)

pub returns-in_default-clause-err : goal.returns-in_default-clause-err
unfolding blocks_from
returns-in_default-clause-err g c = search rules

pub loop-rest-init : goal.loop-rest-init
loop-rest-init g c =
    let input = c.args.input.now in
    let begun = c.requires.new in
    let first : c.args.setup.line ≡ 1 = ap (λ (setup : Setup). setup.line) begun in
    (length input, omega arith, ap (λ (setup : Setup). blocks_from c.args.kinds (suc (length input)) setup input) (sym begun), omega (arith, first), inl refl)

pub returns-then-eq-clause-fits : goal.returns-then-eq-clause-fits
returns-then-eq-clause-fits g c = grind (arith, common_steps)

pub take-requires : goal.take-requires
take-requires g c =
    let within = within_text c.loop-rest.rest.now (length c.in-Some.block) (sym c.in-Some.ensures.block.0) in
    omega (arith, within, c.loop-rest.invariant.3, c.requires.short)
