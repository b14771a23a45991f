use Rattle.std.proofs.Common.{arith, w64}
use Rattle.std.proofs.lemmas.Nat.Bits.{bit_at_not, bit_at-lt}
use Rattle.safe_agreement.proofs.packed.bits_that_are.Goals as goal

pub returns-else-bit-eq1 : goal.returns-else-bit-eq1
returns-else-bit-eq1 c at below =
    let other = bit_at_not w64 c.args.word at (omega arith) below in
    let most = bit_at-lt c.args.word at in
    (λ one. omega (arith, other, most), λ is. omega (arith, other, most))
