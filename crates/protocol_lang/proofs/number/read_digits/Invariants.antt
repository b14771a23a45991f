use Rattle.std.proofs.Common.{◌≡◌, ◌^◌, min, true, take}
use Rattle.std.specs.List.{list_all}
use Rattle.protocol_lang.specs.Numbers.{is_digit, value_of_digits}
use Rattle.protocol_lang.proofs.number.read_digits.Given as goal

abbrev pub invariant-loop-byte : goal.invariant-loop-byte
invariant-loop-byte l = record {
  digits : list_all is_digit (take l.byte-index l.text) ≡ true;
  value : l.value ≡ min (value_of_digits (take l.byte-index l.text)) (2 ^ 32);
}
