use Rattle.std.proofs.Common.{inl, inr, rules}
use Rattle.view_sum.proofs.Unreadable.{line_unread, not_ended, some_rest, some_shown}
use Rattle.view_sum.proofs.reading.read_file.Goals as goal

pub returns-in-Err-clause-err : goal.returns-in-Err-clause-err
returns-in-Err-clause-err c =
    line_unread c.args.file.now c.loop-first.reading c.loop-first.rest.now c.loop-first.line c.loop-first.invariant.0 c.loop-first.invariant.2 c.in-Some.first.now c.in-Some.later.now c.in-Err.stop c.in-Some.ensures.parts c.in-Err.ensures.err

pub returns-then-not-is_empty-clause-err : goal.returns-then-not-is_empty-clause-err
returns-then-not-is_empty-clause-err c =
    not_ended c.args.file.now c.loop-first.reading c.loop-first.rest.now c.loop-first.line c.loop-first.invariant.0 c.loop-first.invariant.2 c.in_default.ensures.none
    (inl (some_rest c.loop-first.rest.now c.is_empty.result (search rules) c.if-not-is_empty.true))

pub returns-then-not-is_empty-2-clause-err : goal.returns-then-not-is_empty-2-clause-err
returns-then-not-is_empty-2-clause-err c =
    not_ended c.args.file.now c.loop-first.reading c.loop-first.rest.now c.loop-first.line c.loop-first.invariant.0 c.loop-first.invariant.2 c.in_default.ensures.none
    (inr (some_shown c.loop-first.reading.listed.outcomes.items c.is_empty-2.result (search rules) c.if-not-is_empty-2.true))
