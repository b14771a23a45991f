use Rattle.room_core.proofs.agreements.Lasting.{agreements_last}
use Rattle.room_core.proofs.laws.agreements_last.Goals as goal

pub returns-clause-stay : goal.returns-clause-stay
returns-clause-stay c = λ room fields calls limits are. agreements_last room fields calls limits are

pub returns-clause-passed : goal.returns-clause-passed
returns-clause-passed c = λ room fields calls limits are j k low first is.
    let stay = agreements_last room fields calls limits are in
    stay.same_view j k first (stay.passed_is_fixed j k low first is)
