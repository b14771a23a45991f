use Rattle.std.proofs.Common.{Err}
use Rattle.bgview.proofs.Live.{fault_passed, live_answer}
use Rattle.bgview.proofs.engine.live_io.Goals as goal

pub returns-in_err-ending : goal.returns-in_err-ending
returns-in_err-ending g c =
    live_answer (g.R.Read.remaining c.args.reader.now.inner) (g.R.Read.remaining c.serve.new.reader.inner) (g.W.Write.contents c.args.writer.now.inner) (g.W.Write.contents c.serve.new.writer.inner)
    (Err c.in_err-ending.field-0.0) c.from_residual.result c.in_err-ending.ensures.served c.in_err-ending.ensures.end (fault_passed c.from_residual.result c.in_err-ending.field-0.0 c.from_residual.ensures.1)
