use Rattle.std.proofs.Common.{◌≡◌, map, take}
use Rattle.bgview.proofs.lent.Given as goal

abbrev pub invariant-loop-text : goal.invariant-loop-text
invariant-loop-text l = map (λ text. text.now) l.lent.items ≡ map (λ text. text.items) (take l.text-index l.texts)
