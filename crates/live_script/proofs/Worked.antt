-- Scripts that are fed as they are written, worked by hand.
use Rattle.std.proofs.Common.{◌≡◌, ℕ, List, [], ◌∷◌, ◌++◌, true, false, Some, None, Ok, Err, refl, arith}
use Rattle.std.specs.Prelude.{◌≤◌, alloc_error, codes}
use Rattle.std.specs.Fmt.{digits}
use Rattle.room_spec.specs.Blocks.{body_len}
use Rattle.room_spec.specs.declared.fault.SpecFault.TheVariants.{BadLine}
use Rattle.service_core.specs.declared.command.Command.TheVariants.{Close}
use Rattle.service_core.specs.declared.reply.Refusal.TheVariants.{NoRoom}
use Rattle.service_core.specs.declared.reply.Reply.TheVariants.{Begun, Closed, Refused}
use Rattle.room_files.specs.declared.fault.TextFault.TheVariants.{NoCommand}
use Rattle.room_files.specs.declared.outcome.Outcome.TheVariants.{AllWell, SomeRefused}
use Rattle.script_play.specs.Script.{Ask, Open}
use Rattle.script_play.specs.Play.{Faulty, Replied, Unread}
use Rattle.live_script.specs.Entries.{Block, IsBegun, Line, asked_by, is_unfinished, last_piece, last_pieces, line_after, most_entry, piece_text, whole_block}
use Rattle.live_script.specs.Answers.{AreLive, Crowded, Did, IsAnswer, Malformed, answer_text, ending_of, long_text, most_rooms, open_by}
use Rattle.live_script.specs.Sessions.{HasEnded, IsWaiting}
use Rattle.live_script.proofs.Coming.{none_live}

-- a block that is refused on its first line
abbrev block : List ℕ
block = codes "bgsim 3\nend\n"

-- ---- whole entries

block_whole : whole_block (block ++ codes "close pair") ≡ Some 12
unfolding body_len
block_whole = refl

-- its last line has no line end yet
block_unended : whole_block (codes "bgsim 3\nend") ≡ None
unfolding body_len
block_unended = refl

block_begun : whole_block (codes "bgsim 3\nen\n") ≡ None
unfolding body_len
block_begun = refl

text_of_line : piece_text (Line (codes "close pair")) ≡ codes "close pair\n"
text_of_line = refl

text_of_block : piece_text (Block block) ≡ codes "open\nbgsim 3\nend\n"
text_of_block = refl

nothing_unfinished : is_unfinished [] ≡ true
nothing_unfinished = refl

word_unfinished : is_unfinished (codes "close") ≡ true
word_unfinished = refl

open_unfinished : is_unfinished (codes "open\n") ≡ true
unfolding body_len
open_unfinished = refl

block_unfinished : is_unfinished (codes "open\nbgsim 3\nend") ≡ true
unfolding body_len
block_unfinished = refl

block_finished : is_unfinished (codes "open\nbgsim 3\nend\n") ≡ false
unfolding body_len
block_finished = refl

line_finished : is_unfinished (codes "close\nop") ≡ false
line_finished = refl

-- a line that only begins so opens no block
other_finished : is_unfinished (codes "opens\n") ≡ false
other_finished = refl

few_bytes : 6 ≤ most_entry
few_bytes = omega arith

word_begun : IsBegun (codes "close")
word_begun = (few_bytes, refl)

-- ---- the last entry

last_is_line : last_pieces (codes "close pair") ≡ Line (codes "close pair") ∷ []
last_is_line = refl

last_is_open : last_piece (codes "open") ≡ Block []
last_is_open = refl

last_is_block : last_piece (codes "open\nbgsim") ≡ Block (codes "bgsim")
last_is_block = refl

last_is_nothing : last_pieces [] ≡ []
last_is_nothing = refl

-- ---- what is asked for

after_line : line_after 7 (Line []) ≡ 8
after_line = refl

after_block : line_after 7 (Block block) ≡ 10
after_block = refl

after_most_lines : line_after 4294967295 (Block block) ≡ 4294967295
after_most_lines = refl

command_asked : asked_by 7 (Line (codes "close pair")) ≡ Ok (Ask (Close (codes "pair")))
command_asked = refl

none_asked : asked_by 7 (Line (codes "clothe pair")) ≡ Err (7, NoCommand)
none_asked = refl

block_asked : asked_by 7 (Block block) ≡ Ok (Open 8 block)
block_asked = refl

-- ---- the answers

malformed : answer_text (Malformed 13 NoCommand) ≡ codes "! line 13: fault 60\n"
unfolding digits
malformed = refl

crowded : answer_text (Crowded 1) ≡ codes "! line 1: too many rooms\n"
unfolding digits
crowded = refl

too_long : long_text 2 ≡ codes "! line 2: too long\n"
unfolding digits
too_long = refl

refused : answer_text (Did (Faulty 2 (BadLine 1))) ≡ codes "line 2 refused 11 1\n"
unfolding digits
refused = refl

unknown : answer_text (Did (Replied (Close (codes "pair")) (Refused NoRoom))) ≡ codes "pair refused 40\n"
unfolding digits
unknown = refl

one_more_open : open_by 7 (Did (Replied (Close (codes "pair")) Begun)) ≡ 8
one_more_open = refl

one_less_open : open_by 7 (Did (Replied (Close (codes "pair")) Closed)) ≡ 6
one_less_open = refl

as_many_open : open_by 7 (Did (Faulty 2 (BadLine 1))) ≡ 7
as_many_open = refl

room_too_many : IsAnswer most_rooms 7 (Block block) (Crowded 7)
room_too_many = (refl, omega arith)

all_well : ending_of (Did (Replied (Close (codes "pair")) Closed) ∷ []) ≡ Ok AllWell
all_well = refl

some_refused : ending_of (Malformed 1 NoCommand ∷ Did (Replied (Close (codes "pair")) Closed) ∷ []) ≡ Ok SomeRefused
some_refused = refl

out_of_memory : ending_of (Did (Unread 2) ∷ Crowded 3 ∷ []) ≡ Err alloc_error
out_of_memory = refl

-- ---- a whole script

fewer_bytes : 4 ≤ most_entry
fewer_bytes = omega arith

one_live : AreLive (Line (codes "stap") ∷ []) (Malformed 1 NoCommand ∷ [])
one_live = record { each = (refl, tt); replies = none_live.replies }

two_live : AreLive (Line (codes "stap") ∷ Line (codes "ste") ∷ []) (Malformed 1 NoCommand ∷ Malformed 2 NoCommand ∷ [])
two_live = record { each = (refl, (refl, tt)); replies = none_live.replies }

-- the first line is answered, and the second is waited for
waits : IsWaiting (codes "stap\nste") (codes "! line 1: fault 60\n")
unfolding digits
waits = record {
  left = codes "ste";
  pieces = Line (codes "stap") ∷ [];
  answers = Malformed 1 NoCommand ∷ [];
  taken = record { whole = ((refl, refl), tt); text = refl; live = one_live };
  begun = (fewer_bytes, refl);
  output_is = refl;
}

-- at the end what was waited for is the last line
ends : HasEnded (codes "stap\nste") (Ok SomeRefused) (codes "! line 1: fault 60\n! line 2: fault 60\n")
unfolding digits
ends = record {
  left = codes "ste";
  pieces = Line (codes "stap") ∷ [];
  answers = Malformed 1 NoCommand ∷ Malformed 2 NoCommand ∷ [];
  whole = ((refl, refl), tt);
  text = refl;
  begun = (fewer_bytes, refl);
  live = two_live;
  output_is = refl;
  ending_is = refl;
}
