use Rattle.std.proofs.Common.{◌≡◌, not, take}
use Rattle.std.specs.List.{filter}
use Rattle.room_warnings.specs.Words.{is_blank}
use Rattle.room_warnings.proofs.rules.squeezed.Given as goal

abbrev pub invariant-loop-byte : goal.invariant-loop-byte
invariant-loop-byte l = l.bytes ≡ filter (λ byte. not (is_blank byte)) (take l.byte-index l.text)
