use Rattle.std.proofs.Common.{sym}
use Rattle.view_sample.proofs.task_text.write_times_words.Goals as goal

pub returns : goal.returns
returns c = rw (sym c.from-broken.ensures) c.write_number_line.ensures
