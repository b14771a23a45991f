use Rattle.std.proofs.Common.{rules}
use Rattle.scheduler.proofs.Ending.{each_ended, nobody_out}
use Rattle.scheduler.proofs.rooms.finish.Goals as goal

pub unreachable-requires : goal.unreachable-requires
unreachable-requires c =
    nobody_out c.args.keeper c.in-Err-default-default-StillOut.field-0-2 c.in-Err-default-default-StillOut.field-0-2-0 c.requires.home c.in-Err-default-default-StillOut.field-0-2-is c.in-Err-default-default-StillOut.ensures.gone

pub returns : goal.returns
returns c = λ report is.
    let core = c.in-Ok.ensures.core in
    record {
      ended = c.in-Ok.core;
      same = core.0;
      run = c.in-Ok.ensures.run.one;
      each = each_ended c.args.room c.args.keeper c.in-Ok.core c.requires.room c.requires.kept core.0 core.1 core.2;
      settled = search rules;
      reported = is;
    }
