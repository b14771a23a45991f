use Rattle.room_core.proofs.agreements.FixedTests.{fixed_of, test_of}
use Rattle.room_core.proofs.laws.fixed_as_test.Goals as goal

pub returns : goal.returns
returns c = λ spec fields j k. (λ is. fixed_of spec fields j k is, λ at. test_of spec fields j k at)
