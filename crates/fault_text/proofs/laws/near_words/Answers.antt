use Rattle.fault_text.proofs.Near.{byte_less, byte_more, bytes_swapped, other_byte}
use Rattle.fault_text.proofs.laws.near_words.Goals as goal

pub returns : goal.returns
returns c = record { other = other_byte; more = byte_more; less = byte_less; swapped = bytes_swapped }
