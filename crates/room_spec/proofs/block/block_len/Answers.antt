use Rattle.std.proofs.Common.{ℕ, List, Some, length, sym, subst, rules}
use Rattle.room_spec.specs.Grammar.{EndsAt}
use Rattle.room_spec.proofs.Ends.{block_only}
use Rattle.room_spec.proofs.Fronts.{len_ends, nowhere_in}
use Rattle.room_spec.proofs.block.block_len.Goals as goal

pub returns-in_err-block-clause-complete : goal.returns-in_err-block-clause-complete
returns-in_err-block-clause-complete c = block_only c.args.text.now c.from_residual.result (search rules)

pub returns-in_err-block-clause-none : goal.returns-in_err-block-clause-none
returns-in_err-block-clause-none c = rw c.from_residual.ensures (nowhere_in c.args.text.now c.in_err-block.ensures.none)

pub returns-clause-ends : goal.returns-clause-ends
returns-clause-ends c = subst (λ (bytes : List ℕ). EndsAt c.args.text.now (length bytes)) (sym c.block.view_is) (len_ends c.args.text.now (length c.in_ok-block.block) c.in_ok-block.ensures.block.0)

pub returns-clause-complete : goal.returns-clause-complete
returns-clause-complete c = block_only c.args.text.now (Some _) (search rules)
