-- Texts of protocols that wait for all but so many, and one that counts up to a number of its own.
use Rattle.std.proofs.Common.{◌≡◌, [], ◌∷◌, Ok, refl}
use Rattle.std.specs.Prelude.{codes}
use Rattle.protocol_lang.specs.Reading.{reading, run, one_token, next_token}
use Rattle.protocol_lang.specs.Trees.{Number}
use Rattle.protocol_lang.specs.Thresholds.{decides_least, sees_all_but, waits_for_all_but}

all_but_one : reading (codes "first input; when count >= n - 1 decide min; else write mine;") ≡ Ok (waits_for_all_but 1)
unfolding reading run one_token next_token
all_but_one = refl

all_but_none : reading (codes "first input; when count >= n - 0 decide min; else write mine;") ≡ Ok (waits_for_all_but 0)
unfolding reading run one_token next_token
all_but_none = refl

with_parentheses : reading (codes "first(input);when(count)>=n-(1)decide min;else write(mine);") ≡ Ok (waits_for_all_but 1)
unfolding reading run one_token next_token
with_parentheses = refl

-- a number of processes to see is no number of those that may be missing
counts_to_two : reading (codes "first input; when count >= 2 decide min; else write mine;") ≡ Ok (record (waits_for_all_but 1) { rules = record { conditions = record (sees_all_but 1) { right = Number 2 } ∷ []; action_rule = decides_least } ∷ [] })
unfolding reading run one_token next_token
counts_to_two = refl
