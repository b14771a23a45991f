use Rattle.std.proofs.Common.{arith}
use Rattle.transcript.proofs.Cutting.{few_digits}
use Rattle.transcript.proofs.event_line.read_digits.Goals as goal

pub overflow_mul-number : goal.overflow_mul-number
overflow_mul-number c =
    let most = few_digits c.loop-byte.byte-index (omega (arith, c.loop-byte-test.true, c.if-text-gt-MAX_DIGITS.false)) in
    omega (arith, most, c.loop-byte.invariant.small)

pub overflow_add-number : goal.overflow_add-number
overflow_add-number c =
    let most = few_digits c.loop-byte.byte-index (omega (arith, c.loop-byte-test.true, c.if-text-gt-MAX_DIGITS.false)) in
    omega (arith, most, c.loop-byte.invariant.small)
