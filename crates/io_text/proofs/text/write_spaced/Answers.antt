use Rattle.std.proofs.Common.{rules, arith, ◌≤◌, length, decimal}
use Rattle.std.proofs.lemmas.Fmt.{length-decimal-le}
use Rattle.io_text.proofs.Numerals.{numeral_right}
use Rattle.io_text.proofs.text.write_spaced.Goals as goal

pub write_digits-first-requires : goal.write_digits-first-requires
write_digits-first-requires c = search (rules, length-decimal-le 20)

pub overflow_sub-bytes : goal.overflow_sub-bytes
overflow_sub-bytes c =
    let short : length (decimal c.args.value) ≤ 20 = search (rules, length-decimal-le 20) in
    omega (arith, c.write_digits-first.ensures.start, short)

pub overflow_sub-result : goal.overflow_sub-result
overflow_sub-result c =
    let short : length (decimal c.args.value) ≤ 20 = search (rules, length-decimal-le 20) in
    omega (arith, c.write_digits-first.ensures.start, short)

pub returns-clause-within : goal.returns-clause-within
returns-clause-within c = omega (arith, c.write_digits-first.ensures.start)

pub returns-clause-right : goal.returns-clause-right
returns-clause-right c =
    let digits = c.write_digits-first.ensures in
    let short : length (decimal c.args.value) ≤ 20 = search (rules, length-decimal-le 20) in
    numeral_right _ (decimal c.args.value) _ c.write_digits-first.result 24 (omega (arith, digits.start, short)) (search rules) digits.start digits.written
