use Rattle.std.proofs.Common.{◌≡◌, ℕ, ◌+◌, List, [], ◌∷◌, ◌++◌, get_or, arith, ap, ◌∙◌, rules}
use Rattle.std.proofs.lemmas.List.FromFn.{map-range_with_len_more, get_or-map-range_with_len}
use Rattle.level_cells.specs.Fields.{level_of, levels_of}
use Rattle.level_cells.proofs.agreement.levels.Goals as goal

pub loop-i-preserved : goal.loop-i-preserved
loop-i-preserved c =
    let more : levels_of c.args.word (c.loop-i.i + 1) ≡ levels_of c.args.word c.loop-i.i ++ level_of c.args.word c.loop-i.i ∷ [] = map-range_with_len_more (λ i. level_of c.args.word i) 0 c.loop-i.i c.loop-i.i (omega arith) in
    record { so_far = cc; count = omega arith }

pub returns-clause-each : goal.returns-clause-each
returns-clause-each c = λ i below.
    let all : c.loop-i.i ≡ c.args.m = omega arith in
    ap (λ (items : List ℕ). get_or items i 0) c.loop-i.invariant.so_far ∙ get_or-map-range_with_len (λ i. level_of c.args.word i) 0 c.loop-i.i i i 0 (omega arith) (omega arith)

pub loop-i-init : goal.loop-i-init
loop-i-init c = search rules

pub returns-clause-value : goal.returns-clause-value
returns-clause-value c = search rules

pub returns-clause-count : goal.returns-clause-count
returns-clause-count c = search rules
