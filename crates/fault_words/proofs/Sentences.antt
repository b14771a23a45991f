-- What a fault's own type says is what is said by its number.
use Rattle.std.proofs.Common.{◌≡◌, Some, refl}
use Rattle.protocol_lang.specs.Faults.{code_of as protocol_code, sentence_of as protocol_sentence}
use Rattle.protocol_lang.specs.declared.fault.ParseFault.{ParseFault}
use Rattle.protocol_lang.specs.declared.fault.ParseFault.TheVariants as protocols
use Rattle.room_spec.specs.Faults.{code_of as block_code, sentence_of as block_sentence}
use Rattle.room_spec.specs.declared.fault.SpecFault.{SpecFault}
use Rattle.room_spec.specs.declared.fault.SpecFault.TheVariants as blocks
use Rattle.transcript.specs.Faults.{code_of as line_code, sentence_of as line_sentence}
use Rattle.transcript.specs.declared.fault.LineFault.{LineFault}
use Rattle.transcript.specs.declared.fault.LineFault.TheVariants as lines
use Rattle.history_checker.specs.Verdicts.{add_code, add_sentence, no_room_sentence}
use Rattle.history_checker.specs.declared.fault.AddFault.{AddFault}
use Rattle.history_checker.specs.declared.fault.AddFault.TheVariants as adding
use Rattle.service_core.specs.Replies.{refusal_code, refusal_sentence}
use Rattle.service_core.specs.declared.reply.Refusal.{Refusal}
use Rattle.service_core.specs.declared.reply.Refusal.TheVariants as refusals
use Rattle.room_files.specs.Faults.{text_code, text_sentence}
use Rattle.room_files.specs.declared.fault.TextFault.{TextFault}
use Rattle.room_files.specs.declared.fault.TextFault.TheVariants as texts
use Rattle.fault_words.specs.Words.{words_of}

pub protocol_words : (fault : ParseFault) → words_of (protocol_code fault) ≡ Some (protocol_sentence fault)
unfolding protocol_sentence
protocol_words protocols.TooLong = refl
protocol_words (protocols.BadToken at) = refl
protocol_words (protocols.Unexpected at) = refl
protocol_words (protocols.TooDeep at) = refl
protocol_words protocols.TooManyRules = refl
protocol_words (protocols.ViewInFirst at) = refl
protocol_words (protocols.NumberTooLarge at) = refl
protocol_words protocols.OutOfMemory = refl

pub block_words : (fault : SpecFault) → words_of (block_code fault) ≡ Some (block_sentence fault)
unfolding block_sentence
block_words blocks.Truncated = refl
block_words (blocks.BadLine line) = refl
block_words blocks.BadName = refl
block_words (blocks.BadProtocol fault) = refl
block_words blocks.Inputs = refl
block_words blocks.Simulators = refl
block_words blocks.Rounds = refl
block_words blocks.Turns = refl
block_words blocks.TooWide = refl
block_words (blocks.CrashLine line) = refl
block_words (blocks.Repeated line) = refl
block_words (blocks.TaskLine line) = refl
block_words blocks.Processes = refl

pub line_words : (fault : LineFault) → words_of (line_code fault) ≡ Some (line_sentence fault)
unfolding line_sentence
line_words lines.BadName = refl
line_words lines.BadWord = refl
line_words lines.BadNumber = refl
line_words lines.BadLength = refl
line_words lines.TooLong = refl

pub adding_words : (fault : AddFault) → words_of (add_code fault) ≡ Some (add_sentence fault)
unfolding add_sentence protocol_sentence
adding_words adding.NameTaken = refl
adding_words adding.OutOfMemory = refl

pub refusal_words : (fault : Refusal) → words_of (refusal_code fault) ≡ Some (refusal_sentence fault)
unfolding refusal_sentence protocol_sentence add_sentence no_room_sentence
refusal_words refusals.NoRoom = refl
refusal_words refusals.NameTaken = refl
refusal_words refusals.NoSimulator = refl
refusal_words refusals.OutOfMemory = refl

pub text_words : (fault : TextFault) → words_of (text_code fault) ≡ Some (text_sentence fault)
unfolding text_sentence
text_words (texts.BadEvent fault) = line_words fault
text_words texts.NoRoom = refl
text_words texts.NoCommand = refl
text_words texts.NoEvents = refl
