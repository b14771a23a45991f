-- The faults that messages and replies name by numbers, in words.
use Rattle.std.specs.Prelude.{ℕ, List, [], ◌∷◌, Option, nat_eq}
use Rattle.std.specs.List.{find}
use Rattle.std.specs.Option.{option_map}
use Rattle.protocol_lang.specs.Faults.{sentence_of as protocol_sentence}
use Rattle.protocol_lang.specs.declared.fault.ParseFault.TheVariants as protocols
use Rattle.room_spec.specs.Faults.{sentence_of as block_sentence}
use Rattle.room_spec.specs.declared.fault.SpecFault.TheVariants as blocks
use Rattle.transcript.specs.Faults.{sentence_of as line_sentence}
use Rattle.transcript.specs.declared.fault.LineFault.TheVariants as lines
use Rattle.history_checker.specs.Verdicts.{add_sentence, no_room_sentence}
use Rattle.history_checker.specs.declared.fault.AddFault.TheVariants as adding
use Rattle.service_core.specs.Replies.{refusal_sentence}
use Rattle.service_core.specs.declared.reply.Refusal.TheVariants as refusals
use Rattle.room_files.specs.Faults.{text_sentence}
use Rattle.room_files.specs.declared.fault.TextFault.TheVariants as texts

-- A fault's number, and what it says. Those up to 7 are of a protocol's text, those from 10 on of a block, from 30 on of an event line, from
-- 40 on of rooms by their names, and 60 and 61 of a script's line and of a whole transcript. 8 can come anywhere.
abbrev pub faults : List (ℕ × List ℕ)
faults =
    (1, protocol_sentence protocols.TooLong)
    ∷ (2, protocol_sentence (protocols.BadToken 0))
    ∷ (3, protocol_sentence (protocols.Unexpected 0))
    ∷ (4, protocol_sentence (protocols.TooDeep 0))
    ∷ (5, protocol_sentence protocols.TooManyRules)
    ∷ (6, protocol_sentence (protocols.ViewInFirst 0))
    ∷ (7, protocol_sentence (protocols.NumberTooLarge 0))
    ∷ (8, protocol_sentence protocols.OutOfMemory)
    ∷ (10, block_sentence blocks.Truncated)
    ∷ (11, block_sentence (blocks.BadLine 0))
    ∷ (12, block_sentence blocks.BadName)
    ∷ (13, block_sentence (blocks.BadProtocol protocols.OutOfMemory))
    ∷ (14, block_sentence blocks.Inputs)
    ∷ (15, block_sentence blocks.Simulators)
    ∷ (16, block_sentence blocks.Rounds)
    ∷ (17, block_sentence blocks.Turns)
    ∷ (18, block_sentence blocks.TooWide)
    ∷ (19, block_sentence (blocks.CrashLine 0))
    ∷ (20, block_sentence (blocks.Repeated 0))
    ∷ (21, block_sentence (blocks.TaskLine 0))
    ∷ (22, block_sentence blocks.Processes)
    ∷ (30, line_sentence lines.BadName)
    ∷ (31, line_sentence lines.BadWord)
    ∷ (32, line_sentence lines.BadNumber)
    ∷ (33, line_sentence lines.BadLength)
    ∷ (34, line_sentence lines.TooLong)
    ∷ (40, no_room_sentence)
    ∷ (41, add_sentence adding.NameTaken)
    ∷ (42, refusal_sentence refusals.NoSimulator)
    ∷ (60, text_sentence texts.NoCommand)
    ∷ (61, text_sentence texts.NoEvents)
    ∷ []

-- the words for a number, if it is that of a fault
abbrev pub words_of : ℕ → Option (List ℕ)
words_of code = option_map (λ row. row.1) (find (λ row. nat_eq row.0 code) faults)
