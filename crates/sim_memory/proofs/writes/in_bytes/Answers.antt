use Rattle.std.proofs.Common.{◌*◌, ◌/◌, ◌%◌, ◌^◌, ◌∙◌, sym, ap}
use Rattle.sim_memory.proofs.Apart.{in_eight, no_bits}
use Rattle.sim_memory.proofs.writes.in_bytes.Goals as goal

pub returns-then-word-eq0 : goal.returns-then-word-eq0
returns-then-word-eq0 c p below = no_bits (p * 8) 8 ∙ sym (ap (λ word. word / 2 ^ (p * c.args.bits) % 2 ^ c.args.bits) c.if-word-eq0.true ∙ no_bits (p * c.args.bits) c.args.bits)

pub returns : goal.returns
returns c = in_eight c.args.word c.args.bits c.apart-fours.result c.apart-pairs.result c.apart.result c.requires.bits.1 c.requires.fields c.apart-fours.ensures c.apart-pairs.ensures c.apart.ensures
