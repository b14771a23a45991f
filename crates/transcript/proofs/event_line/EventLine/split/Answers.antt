use Rattle.std.proofs.Common.{◌≤◌, length, rules}
use Rattle.transcript.specs.Lines.{IsCutInto, LineParts}
use Rattle.transcript.proofs.Cutting.{cut_says, fault_behind_name}
use Rattle.transcript.proofs.event_line.EventLine.split.Goals as goal

pub returns-in-Ok-clause-said : goal.returns-in-Ok-clause-said
returns-in-Ok-clause-said c =
    let parts : LineParts = record { name = c.cut_name.result.0.now; process = c.in-Ok.process; word = c.in-Ok.word; values = c.in-Ok.values.now } in
    let short : length c.args.line.now ≤ 256 = search rules in
    let cut : IsCutInto c.args.line.now parts = record { short = short; fields = rw (← c.in-Ok.ensures.parts) c.cut_name.ensures; process = c.in-Ok.ensures.range } in
    cut_says c.args.line.now parts cut

pub returns-in-Err-clause-fault : goal.returns-in-Err-clause-fault
returns-in-Err-clause-fault c =
    let short : length c.args.line.now ≤ 256 = search rules in
    rw c.fault_behind.ensures (fault_behind_name c.args.line.now c.cut_name.result.0.now _ c.in-Err.fault short c.cut_name.ensures c.in-Err.ensures.fault)
