use Rattle.std.proofs.Common.{sym, ap, ◌∙◌, arith}
use Rattle.std.proofs.lemmas.Bool.{leb-true}
use Rattle.transcript.proofs.CallerLemmas.{input_is}
use Rattle.run_search.specs.Tasks.{decided_value}
use Rattle.run_search.proofs.Allowing.{value_more}
use Rattle.run_search.proofs.task.allow.Goals as goal

pub returns : goal.returns
returns c = λ yes values are.
    let few = leb-true c.len.result c.args.most yes in
    value_more c.args.spec.now c.args.most c.args.decided.now.items c.put.new.decided.items values (decided_value c.args.due) c.in-Decided.v (ap decided_value c.in-Decided.is) (input_is c.in-Decided.v c.args.spec.now.inputs (sym c.has_input.ensures ∙ c.if-not-has_input.false))
    (c.put.ensures.values values are.0) (omega (arith, few, c.len.ensures.value)) are
