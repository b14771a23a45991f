-- What is said of what was done, one by one.
use Rattle.std.proofs.Common.{◌≡◌, ◌∙◌, ℕ, Bool, true, false, List, [], ◌++◌, Option, Some, None, Result, Ok, Err, refl, ap, ap₂, subst, arith}
use Rattle.std.specs.Prelude.{codes, decimal}
use Rattle.std.specs.Result.{OnOk}
use Rattle.std.specs.declared.alloc.AllocError.{AllocError}
use Rattle.std.proofs.lemmas.Fmt.{decimal_digit}
use Rattle.std.proofs.lemmas.List.{append-nil, append_assoc}
use Rattle.room_core.specs.Calls.{RoomState}
use Rattle.room_spec.specs.declared.fault.SpecFault.{SpecFault}
use Rattle.room_files.specs.Blocks.{refused_line}
use Rattle.room_files.specs.declared.outcome.Outcome.{Outcome}
use Rattle.room_files.specs.declared.kinds.Kinds.TheVariants.{All}
use Rattle.service_core.specs.declared.command.Command.{Command}
use Rattle.service_core.specs.declared.reply.Reply.{Reply}
use Rattle.service_core.specs.declared.reply.Reply.TheVariants.{Begun, Steps, Crash, Settled, Report, Closed, Refused}
use Rattle.service_core.specs.Replies.{name_in}
use Rattle.service_core.specs.Rooms.{Entries, room_at, steps_of}
use Rattle.script_play.specs.Following.{AreFollowed, AreWatched, IsPlay}
use Rattle.script_play.specs.Play.{Done, Faulty, Replied, Unread, refusal_in}
use Rattle.script_play.specs.ReplyTexts.{sim_in}
use Rattle.script_play.proofs.CallerLemmas.{followed_as}
use Rattle.fault_text.specs.Lines.{indented}
use Rattle.step_words.specs.Reported.{IsReported, Reporting, nothing_reported}
use Rattle.view_trace.specs.Trace.{AreNotesFor, AreNotesOn, IsTraceIn, IsTraced, IsWhole, MissedRooms, Traced, answer_text, done_shown, end_shown, left_under, missed_after, missed_by, nothing_traced, notes_after, refusal_shown}

-- two pieces after a text
pub two_texts : {T E : Type 0} (result : Result T E) (start middle whole first second : List ℕ) → middle ≡ start ++ first → OnOk result (whole ≡ middle ++ second) → OnOk result (whole ≡ start ++ (first ++ second))
two_texts (Ok done) start middle whole first second is last = last ∙ ap (λ (t : List ℕ). t ++ second) is ∙ append_assoc start first second
two_texts (Err fault) start middle whole first second is last = tt

-- a line, and why, after a text
pub two_pieces : {T E : Type 0} (result : Result T E) (output line why middle said now : List ℕ) → middle ≡ output ++ line → said ≡ why → OnOk result (now ≡ middle ++ indented said) → OnOk result (now ≡ output ++ (line ++ indented why))
two_pieces (Ok done) output line why middle said now first same last = last ∙ ap₂ (λ (m t : List ℕ). m ++ indented t) first same ∙ append_assoc output line (indented why)
two_pieces (Err fault) output line why middle said now first same last = tt

-- the line of a block that was not read
pub out_of_memory_line : (line code : ℕ) (output middle : List ℕ) → code ≡ 8 → middle ≡ output ++ refused_line line (decimal code) → middle ≡ output ++ refused_line line (codes "8")
out_of_memory_line line code output middle is written = written ∙ ap (λ (t : List ℕ). output ++ refused_line line t) (ap decimal is ∙ decimal_digit 8 (omega arith))

-- what is written of a reply is what is shown of what was done
answered : (json : Bool) (left : Entries) (command : Command) (reply : Reply) → answer_text json (room_at left (name_in command)) (name_in command) (sim_in command) reply ≡ done_shown json left (Replied command reply)
answered false left command reply = refl
answered true left command reply = refl

-- what is written of a block doesn't depend on the rooms
pub fault_same : (json : Bool) (line : ℕ) (fault : SpecFault) (left : Entries) → done_shown json [] (Faulty line fault) ≡ done_shown json left (Faulty line fault)
fault_same false line fault left = refl
fault_same true line fault left = refl

pub unread_same : (json : Bool) (line : ℕ) (left : Entries) → done_shown json [] (Unread line) ≡ done_shown json left (Unread line)
unread_same false line left = refl
unread_same true line left = refl

-- the notes under a reply
notes_on : (json : Bool) (missed : MissedRooms) (room left : Option RoomState) (command : Command) (reply : Reply) (seen : Option Reporting) → AreWatched IsReported (Some (nothing_reported json)) (steps_of room command) seen → (refusal_in reply ≡ None → IsWhole seen)
    → AreNotesOn json missed room left command reply (notes_after json missed (name_in command) reply seen ++ left_under reply json left)
notes_on json missed room left command reply None reported whole = absurd reported
notes_on json missed room left command Begun (Some reporting) reported whole = record { reporting = reporting; reported = reported; whole = whole refl; lines_are = append-nil reporting.lines }
notes_on json missed room left command (Steps taken last) (Some reporting) reported whole = record { reporting = reporting; reported = reported; whole = whole refl; lines_are = append-nil reporting.lines }
notes_on json missed room left command (Crash answer) (Some reporting) reported whole = record { reporting = reporting; reported = reported; whole = whole refl; lines_are = append-nil reporting.lines }
notes_on json missed room left command Settled (Some reporting) reported whole = record { reporting = reporting; reported = reported; whole = whole refl; lines_are = append-nil reporting.lines }
notes_on json missed room left command (Report report) (Some reporting) reported whole = (reporting.lines, record { reporting = reporting; reported = reported; whole = whole refl; lines_are = refl }, refl)
notes_on json missed room left command Closed (Some reporting) reported whole = record { reporting = reporting; reported = reported; whole = whole refl; lines_are = append-nil reporting.lines }
notes_on json missed room left command (Refused refusal) (Some reporting) reported whole = append-nil (refusal_shown json missed (name_in command) refusal)

-- a command was done
module _ (json : Bool) (first ready now : Traced) (rooms after : Entries) (command : Command) (reply : Reply) (seen : Option Reporting) (name : List ℕ) (sim : ℕ) (named : name ≡ name_in command) (of : sim ≡ sim_in command)
    (missed : ready.missed ≡ first.missed) (output : ready.output ≡ first.output) where
  abbrev said : List ℕ → MissedRooms → List ℕ → ℕ → List ℕ
  said out known n i = ((out ++ answer_text json (room_at after n) n i reply) ++ notes_after json known n reply seen) ++ left_under reply json (room_at after n)

  abbrev under : List ℕ
  under = notes_after json first.missed (name_in command) reply seen ++ left_under reply json (room_at after (name_in command))

  said_is : said ready.output ready.missed name sim ≡ first.output ++ (done_shown json after (Replied command reply) ++ under)
  said_is =
      ap₂ (λ out known. said out known name sim) output missed ∙ ap₂ (said first.output first.missed) named of
      ∙ append_assoc (first.output ++ answer_text json (room_at after (name_in command)) (name_in command) (sim_in command) reply) (notes_after json first.missed (name_in command) reply seen) (left_under reply json (room_at after (name_in command)))
      ∙ append_assoc first.output (answer_text json (room_at after (name_in command)) (name_in command) (sim_in command) reply) under
      ∙ ap (λ (t : List ℕ). first.output ++ (t ++ under)) (answered json after command reply)

  pub command_traced : (middle noted : List ℕ) → AreWatched IsReported (Some (nothing_reported json)) (steps_of (room_at rooms (name_in command)) command) seen → (refusal_in reply ≡ None → IsWhole seen)
      → middle ≡ ready.output ++ answer_text json (room_at after name) name sim reply → noted ≡ middle ++ notes_after json ready.missed name reply seen → now.output ≡ noted ++ left_under reply json (room_at after name)
      → now.missed ≡ missed_by ready.missed name reply → IsTraced json first rooms (Replied command reply) after now
  command_traced middle noted reported whole one two three known = record {
    notes = under;
    are_notes = notes_on json first.missed (room_at rooms (name_in command)) (room_at after (name_in command)) command reply seen reported whole;
    missed = known ∙ ap₂ (λ m n. missed_by m n reply) missed named;
    output = three ∙ ap (λ (t : List ℕ). t ++ left_under reply json (room_at after name)) (two ∙ ap (λ (t : List ℕ). t ++ notes_after json ready.missed name reply seen) one) ∙ said_is;
  }

-- a block was refused
pub block_traced : (json : Bool) (result : Result (Unit {0}) AllocError) (before now : Traced) (done : Done) (notes : List ℕ) → ((rooms : Entries) → AreNotesFor json before.missed rooms done rooms notes)
    → ((rooms : Entries) → done_shown json [] done ≡ done_shown json rooms done) → OnOk result (now.output ≡ before.output ++ (done_shown json [] done ++ notes)) → now.missed ≡ missed_after before.missed done → OnOk result ((rooms : Entries) → IsTraced json before rooms done rooms now)
block_traced json (Ok tt) before now done notes are same written known = λ rooms. record { notes = notes; are_notes = are rooms; missed = known; output = written ∙ ap (λ (shown : List ℕ). before.output ++ (shown ++ notes)) (same rooms) }
block_traced json (Err error) before now done notes are same written known = tt

-- all of a script
pub script_traced : {F : Type 0} (json : Bool) (view : F → Traced) (script : List ℕ) (first : F) (rooms : Entries) (last : F) (ending : Result Outcome AllocError) (output : List ℕ) → view first ≡ nothing_traced
    → IsPlay (λ old before done after new. IsTraced json (view old) before done after (view new)) All script first rooms last ending → output ≡ (view last).output ++ end_shown json script (view last).missed → IsTraceIn json script ending output
script_traced json view script first rooms last ending output none is output_is = (
  is.entries,
  is.asked,
  record {
    all = is.all;
    each_entry = is.each_entry;
    replies = is.replies;
    ending_is = is.ending_is;
    rooms = rooms;
    traced = view last;
    followed = subst (λ (t : Traced). AreFollowed (IsTraced json) [] t is.all rooms (view last)) none (followed_as view (IsTraced json) [] first is.all rooms last is.followed);
    output_is = output_is;
    played = record { all = is.all; each_entry = is.each_entry; replies = is.replies; output_is = refl; ending_is = is.ending_is };
  },
)
