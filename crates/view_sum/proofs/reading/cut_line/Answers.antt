use Rattle.view_sum.proofs.Cutting.{if_none, none_left, one_cut}
use Rattle.view_sum.proofs.reading.cut_line.Goals as goal

pub returns-in_err-end-clause-none : goal.returns-in_err-end-clause-none
returns-in_err-end-clause-none c = if_none c.from_residual.result _ (none_left c.args.text.now c.memchr.result c.memchr.ensures c.in_err-end.was)

pub returns-clause-one : goal.returns-clause-one
returns-clause-one c = one_cut c.args.text.now c.memchr.result c.in_ok-end.end c.split_at.result.0.now c.memchr.ensures c.in_ok-end.was c.split_at.ensures.front
