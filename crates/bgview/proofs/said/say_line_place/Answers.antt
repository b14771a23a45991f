use Rattle.std.proofs.Common.{◌++◌, codes, decimal}
use Rattle.bgview.specs.Said.{line_reason_text}
use Rattle.bgview.proofs.Saying.{said_both}
use Rattle.bgview.proofs.said.say_line_place.Goals as goal

pub returns-clause-said : goal.returns-clause-said
returns-clause-said g c =
    said_both c.say_line_reason.result (g.E.Write.contents c.args.errors.now.inner) (g.E.Write.contents c.say_number.new.errors.inner) (g.E.Write.contents c.say_line_reason.new.errors.inner)
    (decimal c.args.fault.now.line ++ codes " of --keeps, byte ") (line_reason_text c.args.fault.now) c.in_ok-say_number.ensures.said c.say_line_reason.ensures.said
