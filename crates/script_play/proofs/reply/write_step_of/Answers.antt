use Rattle.std.proofs.lemmas.Fmt.{decimal_digit}
use Rattle.script_play.proofs.reply.write_step_of.Goals as goal

pub returns-then-sim-lt10 : goal.returns-then-sim-lt10
returns-then-sim-lt10 c = rw (decimal_digit c.args.sim c.if-sim-lt10.true) c.put_two.ensures.text
