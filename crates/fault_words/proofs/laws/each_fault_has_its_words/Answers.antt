use Rattle.fault_words.proofs.Sentences.{adding_words, block_words, line_words, protocol_words, refusal_words, text_words}
use Rattle.fault_words.proofs.laws.each_fault_has_its_words.Goals as goal

pub returns : goal.returns
returns c = record { protocol = protocol_words; block = block_words; line = line_words; adding = adding_words; refusal = refusal_words; text = text_words }
