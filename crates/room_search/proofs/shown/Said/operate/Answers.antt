use Rattle.std.proofs.Common.{◌≡◌, ◌+◌, ◌-◌, ◌%◌, ◌^◌, sym, subst}
use Rattle.std.specs.Prelude.{slice_index}
use Rattle.simulator.specs.declared.operation.Move.{Move}
use Rattle.simulator.specs.Moves.{words_after}
use Rattle.room_search.proofs.shown.Said.operate.Goals as goal

pub returns-in_ok-store-in-Store-clause-stays : goal.returns-in_ok-store-in-Store-clause-stays
returns-in_ok-store-in-Store-clause-stays c = λ q at words apart is.
    subst (λ (n : Move). slice_index (words_after n words) at ≡ slice_index words at) (sym c.in-Store.is) (c.in_ok-store-in-Store.ensures.stays q at c.in-Store.word words apart is)

pub returns-in_ok-store-in-Add-clause-stays : goal.returns-in_ok-store-in-Add-clause-stays
returns-in_ok-store-in-Add-clause-stays c = λ q at words apart is.
    subst (λ (n : Move). slice_index (words_after n words) at ≡ slice_index words at) (sym c.in-Add.is) (c.in_ok-store-in-Add.ensures.stays q at ((slice_index words c.in-Add.index + c.in-Add.number) % 2 ^ 64) words apart is)

pub returns-in_ok-store-in-Sub-clause-stays : goal.returns-in_ok-store-in-Sub-clause-stays
returns-in_ok-store-in-Sub-clause-stays c = λ q at words apart is.
    subst (λ (n : Move). slice_index (words_after n words) at ≡ slice_index words at) (sym c.in-Sub.is) (c.in_ok-store-in-Sub.ensures.stays q at ((slice_index words c.in-Sub.index + (2 ^ 64 - c.in-Sub.number)) % 2 ^ 64) words apart is)
