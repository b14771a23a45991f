-- What is written for a script that is fed as it is written, and how that ends.
use Rattle.std.specs.Prelude.{◌≡◌, ◌⊎◌, ℕ, ◌<◌, ◌≤◌, List, [], ◌∷◌, ◌++◌, length, take, Bool, true, false, Option, Result, Ok, Err}
use Rattle.std.specs.declared.alloc.AllocError.{AllocError}
use Rattle.std.specs.Io.KnownBytes.{Appends}
use Rattle.io_text.specs.declared.fault.DeviceFault.{DeviceFault}
use Rattle.io_text.specs.declared.fault.DeviceFault.TheVariants.{Read, Write, TooLong, Memory}
use Rattle.room_files.specs.declared.outcome.Outcome.{Outcome}
use Rattle.room_files.specs.declared.outcome.Outcome.TheVariants.{AllWell}
use Rattle.script_play.specs.Following.{Leaves}
use Rattle.script_play.specs.Play.{Done, HasRun, commands_of, done_text, ending_at_refusal, ending_with, ran_out_of_memory, is_refused, replies_in}
use Rattle.live_script.specs.Entries.{AreWhole, IsBegun, IsTooLong, IsWhole, Piece, last_piece, last_pieces, line_after, piece_text, pieces_text}
use Rattle.live_script.specs.Answers.{Answer, AreAnswers, AreLive, IsAnswer, LeavesRooms, all_done, answer_text, answers_text, ending_of, is_out_of_memory, has_refused, long_text, open_by, open_with}
use Rattle.live_script.specs.declared.live.Live.{Live}

-- ---- what is written for the bytes that were read

-- These are the whole entries at the front of the bytes, and the answers to them; these bytes are left.
pub record AreTaken (bytes left : List ℕ) (pieces : List Piece) (answers : List Answer) : Type 0 where
  pub whole : AreWhole pieces
  pub text : bytes ≡ pieces_text pieces ++ left
  pub live : AreLive pieces answers

abbrev pub line_after_all : ℕ → List Piece → ℕ
line_after_all number [] = number
line_after_all number (piece ∷ pieces) = line_after_all (line_after number piece) pieces

-- All whole entries are answered, and the next is waited for.
pub record IsWaiting (bytes output : List ℕ) : Type 0 where
  pub left : List ℕ
  pub pieces : List Piece
  pub answers : List Answer
  pub taken : AreTaken bytes left pieces answers
  pub begun : IsBegun left
  pub output_is : output ≡ answers_text answers

-- The script has ended: what was left was its last entry.
pub record HasEnded (bytes : List ℕ) (ending : Result Outcome AllocError) (output : List ℕ) : Type 0 where
  pub left : List ℕ
  pub pieces : List Piece
  pub answers : List Answer
  pub whole : AreWhole pieces
  pub text : bytes ≡ pieces_text pieces ++ left
  pub begun : IsBegun left
  pub live : AreLive (pieces ++ last_pieces left) answers
  pub output_is : output ≡ answers_text answers
  pub ending_is : ending ≡ ending_of answers

-- All whole entries before one that is too long are answered, and that is said.
pub record HasStopped (bytes output : List ℕ) : Type 0 where
  pub left : List ℕ
  pub pieces : List Piece
  pub answers : List Answer
  pub taken : AreTaken bytes left pieces answers
  pub long : IsTooLong left
  pub output_is : output ≡ answers_text answers ++ long_text (line_after_all 1 pieces)

-- The first of the whole entries are answered.
pub record HasAnswered (bytes output : List ℕ) : Type 0 where
  pub left : List ℕ
  pub pieces : List Piece
  pub answers : List Answer
  pub taken : AreTaken bytes left pieces answers
  pub output_is : output ≡ answers_text answers

-- what there is to write for bytes, or for some of them
abbrev pub IsToWrite : List ℕ → List ℕ → Type 0
IsToWrite bytes output = HasAnswered bytes output ⊎ (HasStopped bytes output ⊎ ((ending : Result Outcome AllocError) × HasEnded bytes ending output))

-- What is written for the bytes that were read, by how that ended. If the reader failed, all that it gave before is answered: so no answer
-- waits for what comes after it. If writing failed, a beginning is written.
abbrev pub IsServed : List ℕ → Result (Result Outcome AllocError) DeviceFault → List ℕ → Type 0
IsServed bytes (Ok ending) output = HasEnded bytes ending output
IsServed bytes (Err Read) output = IsWaiting bytes output
IsServed bytes (Err TooLong) output = HasStopped bytes output
IsServed bytes (Err Memory) output = HasAnswered bytes output
IsServed bytes (Err Write) output = (rest : List ℕ) × IsToWrite bytes (output ++ rest)

abbrev pub is_write_failed : {A : Type 0} → Result A DeviceFault → Bool
is_write_failed (Ok value) = false
is_write_failed (Err Read) = false
is_write_failed (Err Write) = true
is_write_failed (Err TooLong) = false
is_write_failed (Err Memory) = false

abbrev pub is_read_failed : {A : Type 0} → Result A DeviceFault → Bool
is_read_failed (Ok value) = false
is_read_failed (Err Read) = true
is_read_failed (Err Write) = false
is_read_failed (Err TooLong) = false
is_read_failed (Err Memory) = false

-- ---- inside the crate

-- One thing more was done.
pub record IsTaken (done : Done) (before after : Live) : Type 0 where
  pub leaves : Leaves before.service done after.service
  pub says : after.output ≡ done_text done
  pub open_is : after.opened ≡ open_with before.opened done
  pub line_is : after.line ≡ before.line
  pub ends : after.ending ≡ ending_with (ran_out_of_memory done) (is_refused done) before.ending

-- An entry was refused, which this text says, and nothing was done.
pub record IsRefused (text : List ℕ) (before after : Live) : Type 0 where
  pub rooms : after.service ≡ before.service
  pub says : after.output ≡ text
  pub open_is : after.opened ≡ before.opened
  pub line_is : after.line ≡ before.line
  pub ends : after.ending ≡ ending_at_refusal before.ending

-- One entry more was answered.
pub record IsAnsweredBy (piece : Piece) (answer : Answer) (before after : Live) : Type 0 where
  pub is : IsAnswer before.opened before.line piece answer
  pub leaves : LeavesRooms before.service answer after.service
  pub says : after.output ≡ answer_text answer
  pub open_is : after.opened ≡ open_by before.opened answer
  pub line_is : after.line ≡ line_after before.line piece
  pub ends : after.ending ≡ ending_with (is_out_of_memory answer) (has_refused answer) before.ending

-- The first bytes of a text, this many, are a whole entry, and it was answered.
pub record IsTakenFrom (text : List ℕ) (used : ℕ) (before after : Live) : Type 0 where
  pub piece : Piece
  pub answer : Answer
  pub whole : IsWhole piece
  pub bytes : take used text ≡ piece_text piece
  pub some : 0 < used
  pub within : used ≤ length text
  pub answered : IsAnsweredBy piece answer before after

abbrev pub open_after_all : ℕ → List Answer → ℕ
open_after_all opened [] = opened
open_after_all opened (answer ∷ answers) = open_after_all (open_by opened answer) answers

-- what has become of a script after these entries, with these answers
pub record HasCome (pieces : List Piece) (answers : List Answer) (live : Live) : Type 0 where
  pub each : AreAnswers 0 1 pieces answers
  pub ran : HasRun (commands_of (all_done answers)) (replies_in (all_done answers)) live.service
  pub open_is : live.opened ≡ open_after_all 0 answers
  pub line_is : live.line ≡ line_after_all 1 pieces
  pub ending_is : live.ending ≡ ending_of answers

-- a script of which nothing was read
pub record IsNew (live : Live) : Type 0 where
  pub none : live.service ≡ []
  pub open_is : live.opened ≡ 0
  pub line_is : live.line ≡ 1
  pub ending_is : live.ending ≡ Ok AllWell

abbrev pub ComesOn : List Piece → List Answer → Live → Live → Type 0
ComesOn pieces answers before after = (ps : List Piece) (said : List Answer) → HasCome ps said before → HasCome (ps ++ pieces) (said ++ answers) after

-- The whole entries at the front of a text were answered with this output, and this is left.
pub record IsFedOn (before : Live) (text left output : List ℕ) (after : Live) : Type 0 where
  pub pieces : List Piece
  pub answers : List Answer
  pub whole : AreWhole pieces
  pub parts : text ≡ pieces_text pieces ++ left
  pub output_is : output ≡ answers_text answers
  pub comes : ComesOn pieces answers before after

-- some of them were answered
pub record IsFedSome (before : Live) (text output : List ℕ) : Type 0 where
  pub left : List ℕ
  pub after : Live
  pub fed : IsFedOn before text left output after

-- all before one that is too long
pub record IsFedUntilLong (before : Live) (text output : List ℕ) : Type 0 where
  pub left : List ℕ
  pub after : Live
  pub said : List ℕ
  pub fed : IsFedOn before text left said after
  pub long : IsTooLong left
  pub output_is : output ≡ said ++ long_text after.line

-- what was written of the answers to a text, by the fault that ended that
abbrev pub EndsEarly : Live → List ℕ → List ℕ → DeviceFault → Type 0
EndsEarly before text output Read = ⊥
EndsEarly before text output TooLong = IsFedUntilLong before text output
EndsEarly before text output Memory = IsFedSome before text output
EndsEarly before text output Write = (rest : List ℕ) × (IsFedSome before text (output ++ rest) ⊎ IsFedUntilLong before text (output ++ rest))

-- The last bytes of a script are nothing, or its last entry, which was answered.
abbrev pub IsLast : List ℕ → Live → List ℕ → Live → Type 0
IsLast [] before output after = (output ≡ []) × (after ≡ before)
IsLast (byte ∷ bytes) before output after = (answer : Answer) × IsAnsweredBy (last_piece (byte ∷ bytes)) answer before after × (output ≡ answer_text answer)

-- what was written of the answer to the last bytes, by the fault that ended that
abbrev pub EndsLast : List ℕ → Live → List ℕ → DeviceFault → Type 0
EndsLast left before output Read = ⊥
EndsLast left before output TooLong = ⊥
EndsLast left before output Memory = output ≡ []
EndsLast left before output Write = (rest : List ℕ) × (after : Live) × IsLast left before (output ++ rest) after

-- what was written once more bytes were read, by the fault that ended that
abbrev pub EndsReading : Live → List ℕ → List ℕ → List ℕ → DeviceFault → Type 0
EndsReading before begun bytes output Read = (bytes ≡ []) × (output ≡ [])
EndsReading before begun bytes output TooLong = EndsEarly before (begun ++ bytes) output TooLong
EndsReading before begun bytes output Memory = EndsEarly before (begun ++ bytes) output Memory
EndsReading before begun bytes output Write = EndsEarly before (begun ++ bytes) output Write

-- what was written of a text, by the fault that ended that: a beginning, or nothing
abbrev pub IsSaidPart : Option (List ℕ) → Option (List ℕ) → List ℕ → DeviceFault → Type 0
IsSaidPart old new text Read = ⊥
IsSaidPart old new text TooLong = ⊥
IsSaidPart old new text Memory = Appends old new []
IsSaidPart old new text Write = (part : List ℕ) × (rest : List ℕ) × (text ≡ part ++ rest) × Appends old new part
