use Rattle.std.proofs.Common.{◌≡◌, ◌+◌, ◌-◌, ◌*◌, ◌/◌, ◌%◌, ◌^◌, ◌≤◌, ◌∙◌, ap, get_or, arith}
use native.Mathlib.Nat.{div-one}
use Rattle.std.proofs.lemmas.Nat.{mul-le}
use Rattle.sim_memory.proofs.TwoWords.{lower_field, upper_field, own_in_one}
use Rattle.sim_memory.proofs.writes.row_at.Goals as goal

pub returns-then-shape-here-clause-own : goal.returns-then-shape-here-clause-own
returns-then-shape-here-clause-own c p below inside = own_in_one (get_or c.args.words.now c.args.word 0) c.args.first c.args.bits p

pub returns-clause-own : goal.returns-clause-own
returns-clause-own c p below inside =
    let bits = c.args.bits in
    let low = get_or c.args.words.now c.args.word 0 / 2 ^ (c.args.first * bits) in
    let here = 64 / bits - c.args.first in
    let fits : (p + 1) * bits ≤ 16 * 4 = mul-le (p + 1) bits 16 4 (omega (arith, c.args.shape.now.limits.n_range.1)) c.requires.bits.1 in
    lower_field low (get_or c.args.words.now (c.args.word + 1) 0) c.field.result here bits (c.field.ensures.value ∙ ap (λ x. x % 2 ^ (here * bits)) (div-one low)) p (omega arith) (omega (arith, fits))
    ∙ own_in_one (get_or c.args.words.now c.args.word 0) c.args.first bits p

pub returns-clause-next : goal.returns-clause-next
returns-clause-next c p below after =
    let bits = c.args.bits in
    let low = get_or c.args.words.now c.args.word 0 / 2 ^ (c.args.first * bits) in
    let high = get_or c.args.words.now (c.args.word + 1) 0 in
    let here = 64 / bits - c.args.first in
    let fits : (p + 1) * bits ≤ 16 * 4 = mul-le (p + 1) bits 16 4 (omega (arith, c.args.shape.now.limits.n_range.1)) c.requires.bits.1 in
    let at : p - here ≡ c.args.first + p - 64 / bits = omega (arith, c.requires.first) in
    upper_field low high c.field.result here bits (c.field.ensures.value ∙ ap (λ x. x % 2 ^ (here * bits)) (div-one low)) p (omega arith) (omega (arith, fits))
    ∙ ap (λ k. high / 2 ^ (k * bits) % 2 ^ bits) at
