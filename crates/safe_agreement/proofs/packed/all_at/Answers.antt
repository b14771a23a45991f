use Rattle.std.proofs.Common.{◌≡◌, ℕ, ◌≤◌, ◌*◌, ◌-◌, ◌^◌, ◌%◌, arith}
use lib.Pow.{pow_mono}
use Rattle.safe_agreement.proofs.PackedLevels.{each_of_all, no_other_of_all}
use Rattle.safe_agreement.proofs.packed.all_at.Goals as goal

mask : (m : ℕ) → m ≤ 8 → 1 * 2 ^ (2 * m) % 2 ^ 64 - 1 ≡ 2 ^ (2 * m) - 1
mask m few = omega (arith, pow_mono {i = 2 * m} {j = 16} (omega arith))

pub returns-clause-each : goal.returns-clause-each
returns-clause-each c =
    each_of_all c.args.word c.bits_that_are-lower.result c.bits_that_are-upper.result _ c.args.m c.args.level c.requires (omega arith) (mask c.args.m c.requires) c.bits_that_are-lower.ensures c.bits_that_are-upper.ensures

pub returns-clause-no_other : goal.returns-clause-no_other
returns-clause-no_other c =
    no_other_of_all c.args.word c.bits_that_are-lower.result c.bits_that_are-upper.result _ c.args.m c.args.level c.requires (omega arith) (mask c.args.m c.requires) c.bits_that_are-lower.ensures c.bits_that_are-upper.ensures
