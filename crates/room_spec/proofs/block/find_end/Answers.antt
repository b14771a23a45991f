use Rattle.std.proofs.Common.{◌≡◌, ◌+◌, true, false, length, sym, arith, rules}
use Rattle.std.specs.Option.{option_copied}
use Rattle.room_spec.specs.Blocks.{is_end, body_len}
use Rattle.room_spec.proofs.Blocks.{found_here, found_nowhere, goes_on, counted_here, counted_nowhere, counted_on}
use Rattle.room_spec.proofs.block.find_end.Goals as goal

pub returns-then-is_end-clause-body : goal.returns-then-is_end-clause-body
returns-then-is_end-clause-body c =
    let is : is_end c.cut.result.0.now ≡ true = sym c.if-is_end.ensures in
    found_here (length c.args.text.now) c.loop-later.rest.now c.cut.result.0.now (option_copied c.cut.result.1) (body_len c.args.text.now) c.cut.ensures.pieces is c.loop-later.invariant.so_far

pub returns-then-is_end-clause-lines : goal.returns-then-is_end-clause-lines
returns-then-is_end-clause-lines c =
    let is : is_end c.cut.result.0.now ≡ true = sym c.if-is_end.ensures in
    counted_here c.loop-later.lines c.loop-later.rest.now c.cut.result.0.now (option_copied c.cut.result.1) _ c.cut.ensures.pieces is c.loop-later.invariant.counted

pub returns-in_err-rest-clause-body : goal.returns-in_err-rest-clause-body
returns-in_err-rest-clause-body c =
    let is : is_end c.cut.result.0.now ≡ false = sym c.if-is_end.ensures in
    rw c.from_residual.ensures (found_nowhere (length c.args.text.now) c.loop-later.rest.now c.cut.result.0.now (body_len c.args.text.now) (rw c.in_err-rest.was at c.cut.ensures.pieces) is c.loop-later.invariant.so_far)

pub returns-in_err-rest-clause-lines : goal.returns-in_err-rest-clause-lines
returns-in_err-rest-clause-lines c =
    let is : is_end c.cut.result.0.now ≡ false = sym c.if-is_end.ensures in
    rw c.from_residual.ensures (counted_nowhere c.loop-later.lines c.loop-later.rest.now c.cut.result.0.now _ (rw c.in_err-rest.was at c.cut.ensures.pieces) is c.loop-later.invariant.counted)

pub loop-later-preserved : goal.loop-later-preserved
loop-later-preserved c =
    let is : is_end c.cut.result.0.now ≡ false = sym c.if-is_end.ensures in
    let shorter : length c.cut.result.0.now + 1 + length c.in_ok-rest.rest.now ≡ length c.loop-later.rest.now = rw c.in_ok-rest.was at c.cut.ensures.shorter in
    record {
      within = omega arith;
      few = omega arith;
      so_far = goes_on (length c.args.text.now) c.loop-later.rest.now c.cut.result.0.now c.in_ok-rest.rest.now (body_len c.args.text.now) (rw c.in_ok-rest.was at c.cut.ensures.pieces) is shorter c.loop-later.invariant.within c.loop-later.invariant.so_far;
      counted = counted_on c.loop-later.lines c.loop-later.rest.now c.cut.result.0.now c.in_ok-rest.rest.now _ (rw c.in_ok-rest.was at c.cut.ensures.pieces) is c.loop-later.invariant.counted;
    }

pub loop-later-init : goal.loop-later-init
loop-later-init c = search rules
