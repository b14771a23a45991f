use Rattle.std.proofs.Common.{◌≡◌, ◌∙◌, ◌+◌, ◌≤◌, ℕ, List, Result, Ok, Err, length, refl, subst, sym, ap, arith, rules}
use Rattle.std.specs.Prelude.{IfErr}
use Rattle.room_files.specs.Blocks.{after_block, or_all}
use Rattle.room_files.proofs.BlockEnds.{positive_len}
use Rattle.room_files.proofs.BlockSteps.{all_taken, behind, bytes_left, front_as, line_bound, rest_refused, shorter_behind, step_all, within_text}
use Rattle.room_files.proofs.setup.read_all_blocks.Goals as goal

pub loop-block-smaller : goal.loop-block-smaller
loop-block-smaller g c =
    let rest = c.loop-block.rest.now in
    let len = length c.text.result.now in
    let front = front_as rest c.in-Some.block c.text.result.now c.text.ensures c.in-Some.ensures.block.0 c.in-Some.ensures.block.1 in
    shorter_behind rest len _ refl (positive_len rest len front.0) (within_text rest len (sym front.0))

pub loop-block-preserved : goal.loop-block-preserved
loop-block-preserved g c =
    let rest = c.loop-block.rest.now in
    let len = length c.text.result.now in
    let front = front_as rest c.in-Some.block c.text.result.now c.text.ensures c.in-Some.ensures.block.0 c.in-Some.ensures.block.1 in
    let inv = c.loop-block.invariant in
    let positive = positive_len rest len front.0 in
    let within = within_text rest len (sym front.0) in
    let taken = c.in_ok-take.ensures.block ∙ ap (after_block c.args.kinds c.loop-block.setup) front.1 in
    let passed = subst (λ (bytes : List ℕ). c.take.new.self.line ≤ c.loop-block.setup.line + length bytes) front.1 c.in_ok-take.ensures.line in
    let next = step_all c.args.kinds inv.0 c.loop-block.setup c.take.new.self rest _ len inv.1 (omega (arith, positive, within)) (sym (ap (or_all rest) front.0)) positive within taken (behind rest len _ refl) in (
      next.0,
      next.1,
      inv.2 ∙ next.2,
      line_bound rest len _ c.loop-block.setup.line c.take.new.self.line (length c.args.input.now) refl within passed inv.3,
      omega (arith, shorter_behind rest len _ refl positive within, inv.4),
    )

pub take-requires : goal.take-requires
take-requires g c =
    let within = within_text c.loop-block.rest.now (length c.in-Some.block) (sym c.in-Some.ensures.block.0) in
    omega (arith, within, c.loop-block.invariant.3, c.requires.short)

pub returns-then-is_empty : goal.returns-then-is_empty
returns-then-is_empty g c =
    let inv = c.loop-block.invariant in
    let none : length c.loop-block.rest.now ≡ 0 = grind (arith, rules) in
    record { read = sym (inv.2 ∙ all_taken c.args.kinds inv.0 c.loop-block.setup c.loop-block.rest.now none); lacks = tt }

pub returns : goal.returns
returns g c =
    let inv = c.loop-block.invariant in
    let rest = c.loop-block.rest.now in
    let some = bytes_left (length rest) c.is_empty.result c.is_empty.ensures c.if-is_empty.false in
    record { read = sym (inv.2 ∙ rest_refused c.args.kinds inv.0 c.loop-block.setup c.refuse_rest.new.self rest inv.1 some c.in_default.ensures.none c.in_ok-refuse_rest.ensures); lacks = tt }

if_err : {T E : Type 0} {P : Type 0} (result : Result T E) → P → IfErr result (λ fault. P)
if_err (Ok value) holds = tt
if_err (Err fault) holds = holds

pub returns-in_err-refuse_rest-clause-lacks : goal.returns-in_err-refuse_rest-clause-lacks
returns-in_err-refuse_rest-clause-lacks g c =
    let some = bytes_left (length c.loop-block.rest.now) c.is_empty.result c.is_empty.ensures c.if-is_empty.false in
    if_err c.from_residual-in_err-refuse_rest.result (omega (arith, some, c.loop-block.invariant.4))
