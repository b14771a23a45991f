use Rattle.std.proofs.Common.{◌≡◌, ◌*◌, ◌/◌, ◌%◌, ◌^◌, ◌<◌, ◌∙◌, ℕ, ap, arith, get_or}
use native.Mathlib.Nat.{div-one}
use Rattle.sim_memory.proofs.Apart.{in_sixteen, no_field, own_field, upper_fits}
use Rattle.sim_memory.proofs.writes.lowest_fields.Goals as goal

pub in_bytes-requires-2-clause-fields : goal.in_bytes-requires-2-clause-fields
in_bytes-requires-2-clause-fields c = upper_fits c.field-own.result c.args.bits c.args.shape.now.n c.args.shape.now.limits.n_range.1 c.field-own.ensures.range

each_byte : (c : goal.After-bytes_of) (p : ℕ) → p < 16 →
    get_or c.bytes_of.result p 0 ≡ c.args.word % 2 ^ (c.args.shape.now.n * c.args.bits) / 2 ^ (p * c.args.bits) % 2 ^ c.args.bits
each_byte c p within =
    let bits = c.args.bits in
    let own = c.field-own.ensures.value ∙ ap (λ x. x % 2 ^ (c.args.shape.now.n * bits)) (div-one c.args.word) in
    let low = c.field.ensures.value ∙ ap (λ x. x % 2 ^ (8 * bits)) (div-one c.field-own.result) in
    in_sixteen c.field-own.result bits c.bytes_of.result
    (λ q eight. c.bytes_of.ensures.low q eight ∙ c.in_bytes.ensures q eight ∙ ap (λ x. x / 2 ^ (q * bits) % 2 ^ bits) low)
    (λ q eight. c.bytes_of.ensures.high q eight ∙ c.in_bytes-2.ensures q eight) p within
    ∙ ap (λ x. x / 2 ^ (p * bits) % 2 ^ bits) own

pub returns-clause-own : goal.returns-clause-own
returns-clause-own c p below =
    let few = c.args.shape.now.limits.n_range in
    each_byte c p (omega arith) ∙ own_field c.args.word c.args.bits c.args.shape.now.n p below

pub returns-clause-behind : goal.returns-clause-behind
returns-clause-behind c p more within = each_byte c p within ∙ no_field c.args.word c.args.bits c.args.shape.now.n p more
