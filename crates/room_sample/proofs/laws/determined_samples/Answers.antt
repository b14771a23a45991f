use Rattle.room_sample.proofs.SameRuns.{sample_same}
use Rattle.room_sample.proofs.laws.determined_samples.Goals as goal

pub returns : goal.returns
returns c = λ spec plan plan' schedules outcomes outcomes' limits seed from crashes one other. sample_same spec plan plan' schedules outcomes outcomes' limits seed from crashes one other
