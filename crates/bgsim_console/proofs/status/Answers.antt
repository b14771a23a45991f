use Rattle.std.proofs.Common.{rules}
use Rattle.bgsim_console.specs.Endings.{done, refused}
use Rattle.bgsim_console.proofs.status.Goals as goal

pub returns-in-Ok-clause-value : goal.returns-in-Ok-clause-value
returns-in-Ok-clause-value g c =
    done (record { mode = c.in-Ok.line.command; file = _; workers = c.in-Ok.line.workers }) c.ending-ending.result c.in-Ok.ensures.kinds
    (record { is_asked = c.in-Ok.ensures.asked; number = c.in-Ok.ensures.number; default = c.in-Ok.ensures.default })
    c.ending-ending.ensures
    c.say_end.ensures
    c.status_of.ensures

pub returns-in-Err-clause-value : goal.returns-in-Err-clause-value
returns-in-Err-clause-value g c = refused _ c.words_status.ensures.0 c.in-Err.ensures.kinds c.in-Err.ensures.plain (search rules) c.words_status.ensures.1
