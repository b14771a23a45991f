use Rattle.std.proofs.Common.{◌∙◌, ◌≤◌, ◌==◌, ap, false, length, subst}
use Rattle.std.specs.List.{flat_map}
use Rattle.history_checker.specs.Verdicts.{specs_of}
use Rattle.room_files.specs.Verdicts.{outcome_if}
use Rattle.fault_text.specs.Refusals.{refusal_line, said_refusals}
use Rattle.view_why.proofs.Explaining.{all_said}
use Rattle.view_why.proofs.Running.{one_run_more}
use Rattle.view_why.proofs.runs.answer_of_runs.Goals as goal

pub loop-index-preserved : goal.loop-index-preserved
loop-index-preserved c = λ fed processed.
    let refused = flat_map refusal_line c.args.refusals.now in
    let said = c.in_ok-write_run.ensures c.if-not-branch.false fed processed in
    one_run_more (specs_of c.args.rooms.now) (said_refusals c.args.input.now c.args.refusals.now) refused fed c.loop-index.index c.loop-index.output (length refused == 0) said.0 c.write_run.new.output
    (c.loop-index.invariant fed processed) said.1 said.2

pub returns : goal.returns
returns c = λ fed processed.
    let rooms = specs_of c.args.rooms.now in
    let refused = flat_map refusal_line c.args.refusals.now in
    all_said false c.args.input.now c.args.refusals.now rooms fed c.loop-index.index c.loop-index.output (length refused == 0) c.outcome_if.result
    (subst (λ n. n ≤ c.loop-index.index) c.len-index-end.ensures c.loop-index-test.false) (c.outcome_if.ensures ∙ ap outcome_if c.is_empty.ensures) (c.loop-index.invariant fed processed)
