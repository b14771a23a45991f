use Rattle.std.proofs.Common.{◌∙◌, [], arith, map, sym}
use Rattle.std.proofs.lemmas.List.{length-map}
use Rattle.decision_tasks.specs.Tasks.{task_from}
use Rattle.decision_tasks.proofs.Reading.{line_fault, lines_read, one_line_more}
use Rattle.decision_tasks.proofs.task.DecisionTask.read_lines.Goals as goal

pub loop-index-preserved : goal.loop-index-preserved
loop-index-preserved c =
    one_line_more (λ line. line.now) c.args.lines.now c.loop-index.index (record { ref_ptr = (0, 0); now = [] }) c.loop-index.read.items c.push.new.self.items c.in-Ok.protocol
    (task_from 0 (map (λ line. line.now) c.args.lines.now)) c.loop-index-test.true (sym c.in_ok-protocol.ensures ∙ c.in-Ok.is) c.loop-index.invariant c.in_ok-push-in-Ok.ensures.items

pub returns-in-Err : goal.returns-in-Err
returns-in-Err c =
    line_fault (λ line. line.now) c.args.lines.now c.loop-index.index (record { ref_ptr = (0, 0); now = [] }) c.loop-index.read.items c.in-Err.fault c.place_in-at.result
    (task_from 0 (map (λ line. line.now) c.args.lines.now)) c.loop-index-test.true (sym c.in_ok-protocol.ensures ∙ c.in-Err.is) c.place_in-at.ensures c.loop-index.invariant

pub returns : goal.returns
returns c = lines_read (map (λ line. line.now) c.args.lines.now) c.loop-index.index c.loop-index.read.items (task_from 0 (map (λ line. line.now) c.args.lines.now))
    (omega (arith, c.loop-index-test.false, length-map c.args.lines.now (λ line. line.now))) c.loop-index.invariant
