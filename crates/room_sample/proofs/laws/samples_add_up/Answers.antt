use Rattle.room_sample.proofs.AddingUp.{samples_add}
use Rattle.room_sample.proofs.laws.samples_add_up.Goals as goal

pub returns : goal.returns
returns c = λ spec plan plan' schedules more outcomes later seed from crashes few one other. samples_add spec plan plan' schedules more outcomes later seed from crashes few one other
