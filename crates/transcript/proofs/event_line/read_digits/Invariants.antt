use Rattle.std.proofs.Common.{◌≡◌, ◌<◌, ◌^◌, true, take}
use Rattle.std.specs.List.{list_all}
use Rattle.protocol_lang.specs.Numbers.{is_digit, value_of_digits}
use Rattle.transcript.proofs.event_line.read_digits.Given as goal

abbrev pub invariant-loop-byte : goal.invariant-loop-byte
invariant-loop-byte l = record {
  digits : list_all is_digit (take l.byte-index l.text) ≡ true;
  value : l.number ≡ value_of_digits (take l.byte-index l.text);
  small : l.number < 10 ^ l.byte-index;
}
