use Rattle.room_sample.proofs.Firsts.{sample_came}
use Rattle.room_sample.proofs.laws.first_schedules.Goals as goal

pub returns : goal.returns
returns c = λ spec plan schedules outcomes sample. sample_came spec plan schedules outcomes sample
