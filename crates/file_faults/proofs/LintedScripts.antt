-- Nothing is said of a script exactly if, played without a want of memory, none of its entries is refused.
use Rattle.std.proofs.Common.{◌≡◌, ◌↔◌, ℕ, zero, suc, ◌+◌, ◌<◌, Bool, true, false, cond, ◌||◌, not, List, [], ◌∷◌, ◌++◌, length, drop, Option, Some, None, refl, sym, ap, ◌∙◌, subst, arith}
use Rattle.std.proofs.lemmas.Bool.{or_parts}
use Rattle.std.proofs.lemmas.List.{length-append}
use Rattle.std.proofs.lemmas.Slice.Eq.{bytes_eq-Decides}
use Rattle.std.specs.Prelude.{Result, Ok, Err, IsOk, is_some}
use Rattle.std.specs.List.{list_any}
use Rattle.std.specs.Str.{bytes_eq}
use Rattle.room_files.specs.Kinds.{block_of}
use Rattle.room_files.specs.declared.kinds.Kinds.TheVariants.{All}
use Rattle.room_spec.specs.Rooms.{RoomSpec}
use Rattle.room_spec.specs.Texts.{fields_of, first_line, later_lines}
use Rattle.room_spec.specs.Names.{is_name}
use Rattle.room_spec.specs.declared.fault.SpecFault.{SpecFault}
use Rattle.room_files.specs.Faults.{FaultAt}
use Rattle.room_files.specs.Lines.{text_lines}
use Rattle.room_files.specs.Verdicts.{outcome_if}
use Rattle.room_files.specs.declared.fault.BlockFault.TheVariants.{NameTaken as BlockTaken}
use Rattle.room_files.specs.declared.outcome.Outcome.{Outcome}
use Rattle.room_files.specs.declared.outcome.Outcome.TheVariants.{AllWell}
use Rattle.service_core.specs.Replies.{OpenRoom, name_in, part, replies_from, reply_to, room_after}
use Rattle.service_core.specs.Runs.{HasNoWant, granted, is_want, replies_of, without_wants}
use Rattle.service_core.specs.declared.command.Command.{Command}
use Rattle.service_core.specs.declared.command.Command.TheVariants as commands
use Rattle.service_core.specs.declared.reply.Reply.{Reply}
use Rattle.service_core.specs.declared.reply.Reply.TheVariants as replies
use Rattle.service_core.specs.declared.reply.Refusal.{Refusal}
use Rattle.service_core.specs.declared.reply.Refusal.TheVariants.{NoRoom, NameTaken, NoSimulator, OutOfMemory}
use Rattle.script_play.specs.Play.{AreDone, AreReplies, Done, Faulty, IsDone, IsPlayFor, OpensNone, Replied, Unread, commands_of, ending_if, ran_out_of_memory, is_refusal, is_refused, refusal_in, replies_in}
use Rattle.script_play.specs.Script.{Ask, Entry, Open, and_then, asked, block_after, command_in, command_of, command_to, crash_command, entry_at, is_open, number_within, script_from, script_says, step_command, text_after}
use Rattle.fault_text.specs.Blocks.{later_line, line_fault}
use Rattle.fault_text.specs.Phrases.{form_fault}
use Rattle.fault_text.specs.UnknownNames.{MetNames, more_note}
use Rattle.file_faults.specs.Json.{enough_in}
use Rattle.file_faults.specs.OpenRooms.{refusal_of, rooms_after, rooms_begun, simulators_in, simulators_of}
use Rattle.file_faults.specs.Scripts.{KnownRooms, absent_said, bad_command, block_in_front, block_said, entries, entry_said, explained_at_most, known_after, known_after_command, line_said, met_if_absent, none_known, read_said, refused_said, rooms_after_read, script_said, script_faults}
use Rattle.file_faults.specs.declared.scripts.TheConstants.{MORE_COMMANDS}
use Rattle.file_faults.specs.Walks.{Parts, go_on, left_after, said_from, said_if_left}
use Rattle.file_faults.proofs.Refusing as rooms

-- ---- a walk that says nothing

-- that enough is explained is a text
pub enough_said : 0 < length (enough_in false)
enough_said = omega arith

said_part : {Known : Type 0} (parts : Parts Known) (most left number : ℕ) (known : Known) (byte : ℕ) (bytes said : List ℕ) → 0 < length parts.enough → parts.said known number (byte ∷ bytes) ≡ said
    → said_if_left parts.enough left said ++ go_on (λ fewer. said_from parts most fewer (parts.known known number (byte ∷ bytes)) (parts.next number (byte ∷ bytes)) (parts.later (byte ∷ bytes))) (left_after left said) ≡ []
    → (said ≡ []) × (said_from parts most left (parts.known known number (byte ∷ bytes)) (parts.next number (byte ∷ bytes)) (parts.later (byte ∷ bytes)) ≡ [])
said_part parts most left number known byte bytes [] some said_is is = (refl, is)
said_part parts most zero number known byte bytes (one ∷ said) some said_is is = absurd (omega (arith, ap length is, length-append parts.enough [], some))
said_part parts most (suc left) number known byte bytes (one ∷ said) some said_is is = absurd (omega (arith, ap length is))

pub said_nothing : {Known : Type 0} (parts : Parts Known) (most left number : ℕ) (known : Known) (byte : ℕ) (bytes : List ℕ) → 0 < length parts.enough → said_from parts (suc most) left known number (byte ∷ bytes) ≡ []
    → (parts.said known number (byte ∷ bytes) ≡ []) × (said_from parts most left (parts.known known number (byte ∷ bytes)) (parts.next number (byte ∷ bytes)) (parts.later (byte ∷ bytes)) ≡ [])
unfolding said_from
said_nothing parts most left number known byte bytes some is = said_part parts most left number known byte bytes (parts.said known number (byte ∷ bytes)) some refl is

pub nothing_said : {Known : Type 0} (parts : Parts Known) (most left number : ℕ) (known : Known) (byte : ℕ) (bytes : List ℕ) → parts.said known number (byte ∷ bytes) ≡ []
    → said_from parts most left (parts.known known number (byte ∷ bytes)) (parts.next number (byte ∷ bytes)) (parts.later (byte ∷ bytes)) ≡ []
    → said_from parts (suc most) left known number (byte ∷ bytes) ≡ []
unfolding said_from
nothing_said parts most left number known byte bytes none rest =
    ap (λ (said : List ℕ). said_if_left parts.enough left said ++ go_on (λ fewer. said_from parts most fewer (parts.known known number (byte ∷ bytes)) (parts.next number (byte ∷ bytes)) (parts.later (byte ∷ bytes))) (left_after left said)) none
    ∙ rest

-- ---- what is said where something is refused

bad_said : (number : ℕ) (line : List ℕ) → bad_command number line ≡ [] → ⊥
unfolding form_fault
bad_said number line is = omega (arith, ap length is)

taken_line_said : (number : ℕ) (block : List ℕ) → line_fault number block 2 BlockTaken ≡ [] → ⊥
unfolding form_fault
taken_line_said number block is = omega (arith, ap length is)

-- ---- commands open no room

bare_opens : (word name : List ℕ) (command : Command) (a b c : Bool) → cond a (Some (commands.Settle name)) (cond b (Some (commands.Report name)) (cond c (Some (commands.Close name)) None)) ≡ Some command → OpensNone command
bare_opens word name (commands.Begin spec) true b c is = absurd cc
bare_opens word name (commands.Begin spec) false true c is = absurd cc
bare_opens word name (commands.Begin spec) false false true is = absurd cc
bare_opens word name (commands.Begin spec) false false false is = absurd cc
bare_opens word name (commands.Step one sim count) a b c is = tt
bare_opens word name (commands.Crash one sim) a b c is = tt
bare_opens word name (commands.Settle one) a b c is = tt
bare_opens word name (commands.Report one) a b c is = tt
bare_opens word name (commands.Close one) a b c is = tt

crash_opens : (name : List ℕ) (sim : Option ℕ) (command : Command) (b : Bool) → cond b (crash_command name sim) None ≡ Some command → OpensNone command
crash_opens name None (commands.Begin spec) true is = absurd cc
crash_opens name (Some sim) (commands.Begin spec) true is = absurd cc
crash_opens name sim (commands.Begin spec) false is = absurd cc
crash_opens name sim (commands.Step one other count) b is = tt
crash_opens name sim (commands.Crash one other) b is = tt
crash_opens name sim (commands.Settle one) b is = tt
crash_opens name sim (commands.Report one) b is = tt
crash_opens name sim (commands.Close one) b is = tt

step_opens : (name : List ℕ) (sim count : Option ℕ) (command : Command) (b : Bool) → cond b (step_command name sim count) None ≡ Some command → OpensNone command
step_opens name None count (commands.Begin spec) true is = absurd cc
step_opens name (Some sim) None (commands.Begin spec) true is = absurd cc
step_opens name (Some sim) (Some count) (commands.Begin spec) true is = absurd cc
step_opens name sim count (commands.Begin spec) false is = absurd cc
step_opens name sim count (commands.Step one other number) b is = tt
step_opens name sim count (commands.Crash one other) b is = tt
step_opens name sim count (commands.Settle one) b is = tt
step_opens name sim count (commands.Report one) b is = tt
step_opens name sim count (commands.Close one) b is = tt

to_opens : (word name : List ℕ) (numbers : List (List ℕ)) (command : Command) → command_to word name numbers ≡ Some command → OpensNone command
to_opens word name [] command is = bare_opens word name command _ _ _ is
to_opens word name (sim ∷ []) command is = crash_opens name (number_within 0 255 sim) command _ is
to_opens word name (sim ∷ count ∷ []) command is = step_opens name (number_within 0 255 sim) (number_within 1 65535 count) command _ is
to_opens word name (sim ∷ count ∷ other ∷ others) command is = absurd cc

if_opens : (b : Bool) (word name : List ℕ) (numbers : List (List ℕ)) (command : Command) → cond b (command_to word name numbers) None ≡ Some command → OpensNone command
if_opens true word name numbers command is = to_opens word name numbers command is
if_opens false word name numbers command is = absurd cc

of_opens : (fields : List (List ℕ)) (command : Command) → command_of fields ≡ Some command → OpensNone command
of_opens [] command is = absurd cc
of_opens (word ∷ []) command is = absurd cc
of_opens (word ∷ name ∷ numbers) command is = if_opens (is_name name) word name numbers command is

opens_none : (line : List ℕ) (command : Command) → command_in line ≡ Some command → OpensNone command
opens_none line command is = of_opens (fields_of line) command is

-- ---- rooms by name, and their replies

abbrev Rooms : Type 0
Rooms = List ℕ → Option OpenRoom

-- what is known is how many simulators each open room has, and that no line named another
record Knows (known : KnownRooms) (state : Rooms) : Type 0 where
  none : known.unknown_names ≡ record { names = []; more = 0 }
  same : (name : List ℕ) → simulators_of name known.rooms ≡ simulators_in (state name)

-- the replies to all that is done are those of these rooms
abbrev Owns : Rooms → List Done → Type 0
Owns state all = (name : List ℕ) → replies_of name (commands_of all) (replies_in all) ≡ replies_from (state name) (part name (commands_of all))

abbrev rooms_then : Rooms → Command → Rooms
rooms_then state command name = cond (bytes_eq name (name_in command)) (room_after (state name) command) (state name)

abbrev after_done : Rooms → Done → Rooms
after_done state (Replied command reply) = rooms_then state command
after_done state (Faulty line fault) = state
after_done state (Unread line) = state

front : Reply → List Reply → Reply
front other [] = other
front other (reply ∷ all) = reply

same_name : (name : List ℕ) → bytes_eq name name ≡ true
same_name name = (bytes_eq-Decides name name).1 refl

-- the first reply is that of its room
first_reply : (state : Rooms) (command : Command) (reply : Reply) (more : List Done) → Owns state (Replied command reply ∷ more) → reply ≡ reply_to (state (name_in command)) command
unfolding front
first_reply state command reply more owns =
    ap (front reply) (by (bytes_eq (name_in command) (name_in command)) (same_name (name_in command)) (owns (name_in command)))
  where
    by : (b : Bool) → b ≡ true
        → cond b (reply ∷ replies_of (name_in command) (commands_of more) (replies_in more)) (replies_of (name_in command) (commands_of more) (replies_in more))
        ≡ replies_from (state (name_in command)) (cond b (command ∷ part (name_in command) (commands_of more)) (part (name_in command) (commands_of more)))
        → reply ∷ replies_of (name_in command) (commands_of more) (replies_in more) ≡ reply_to (state (name_in command)) command ∷ replies_from (room_after (state (name_in command)) command) (part (name_in command) (commands_of more))
    by true is both = both
    by false is both = absurd cc

-- and the others are those of the rooms after it
later_replies : (state : Rooms) (command : Command) (reply : Reply) (more : List Done) → Owns state (Replied command reply ∷ more) → Owns (rooms_then state command) more
later_replies state command reply more owns name = by (bytes_eq name (name_in command)) refl (owns name)
  where
    by : (b : Bool) → bytes_eq name (name_in command) ≡ b
        → cond b (reply ∷ replies_of name (commands_of more) (replies_in more)) (replies_of name (commands_of more) (replies_in more))
        ≡ replies_from (state name) (cond b (command ∷ part name (commands_of more)) (part name (commands_of more)))
        → replies_of name (commands_of more) (replies_in more) ≡ replies_from (cond b (room_after (state name) command) (state name)) (part name (commands_of more))
    by true is both = ap (drop 1) both
    by false is both = both

-- what is known after a command that is done
knows_after : (known : KnownRooms) (state : Rooms) (command : Command) → OpensNone command → Knows known state
    → Knows (record { rooms = rooms_after known.rooms command; unknown_names = known.unknown_names }) (rooms_then state command)
knows_after known state command opens knows = record { none = knows.none; same = λ name. by name (bytes_eq name (name_in command)) refl }
  where
    by : (name : List ℕ) (b : Bool) → bytes_eq name (name_in command) ≡ b → simulators_of name (rooms_after known.rooms command) ≡ simulators_in (cond b (room_after (state name) command) (state name))
    by name true is =
        let own : name ≡ name_in command = (bytes_eq-Decides name (name_in command)).0 is in
        subst (λ (n : List ℕ). simulators_of n (rooms_after known.rooms command) ≡ simulators_in (room_after (state n) command)) (sym own)
        (rooms.known_after known.rooms (state (name_in command)) command opens (knows.same (name_in command)))
    by name false is = rooms.others_known known.rooms command name is ∙ knows.same name

knows_begun : (known : KnownRooms) (state : Rooms) (spec : RoomSpec) → Knows known state
    → Knows (record { rooms = rooms_begun known.rooms spec; unknown_names = known.unknown_names }) (rooms_then state (commands.Begin spec))
knows_begun known state spec knows = record { none = knows.none; same = λ name. by name (bytes_eq name spec.name) refl }
  where
    by : (name : List ℕ) (b : Bool) → bytes_eq name spec.name ≡ b → simulators_of name (rooms_begun known.rooms spec) ≡ simulators_in (cond b (room_after (state name) (commands.Begin spec)) (state name))
    by name true is =
        let own : name ≡ spec.name = (bytes_eq-Decides name spec.name).0 is in
        subst (λ (n : List ℕ). simulators_of n (rooms_begun known.rooms spec) ≡ simulators_in (room_after (state n) (commands.Begin spec))) (sym own)
        (rooms.begun_known known.rooms (state spec.name) spec (knows.same spec.name))
    by name false is = rooms.others_begun known.rooms spec name is ∙ knows.same name

-- ---- one entry

record Agrees (known after : KnownRooms) (state : Rooms) (done : Done) (more : List Done) (said : List ℕ) : Type 0 where
  said_if : is_refused done ≡ false → said ≡ []
  done_if : said ≡ [] → is_refused done ≡ false
  knows : is_refused done ≡ false → Knows after (after_done state done)
  owns : Owns (after_done state done) more

is_refusal_of : Reply → Option Refusal → Type 0
is_refusal_of reply refusal = refusal_in reply ≡ refusal

none_refused : (reply : Reply) → is_refusal reply ≡ false → refusal_in reply ≡ None
none_refused replies.Begun is = refl
none_refused (replies.Steps taken last) is = refl
none_refused (replies.Crash answer) is = refl
none_refused replies.Settled is = refl
none_refused (replies.Report report) is = refl
none_refused replies.Closed is = refl
none_refused (replies.Refused refusal) is = absurd cc

refused_none : (reply : Reply) → refusal_in reply ≡ None → is_refusal reply ≡ false
refused_none replies.Begun is = refl
refused_none (replies.Steps taken last) is = refl
refused_none (replies.Crash answer) is = refl
refused_none replies.Settled is = refl
refused_none (replies.Report report) is = refl
refused_none replies.Closed is = refl
refused_none (replies.Refused refusal) is = absurd cc

-- if no line named another room, each refused command is explained
said_why : (script : List ℕ) (known : KnownRooms) (number : ℕ) (line name : List ℕ) (refusal : Option Refusal) → known.unknown_names ≡ record { names = []; more = 0 }
    → refused_said script known number line name refusal ≡ [] → refusal ≡ None
said_why script known number line name None none is = refl
said_why script known number line name (Some NoRoom) none is = absurd (by known.unknown_names none is)
  where
    by : (unknown_names : MetNames) → unknown_names ≡ record { names = []; more = 0 } → absent_said script unknown_names number line name ≡ [] → ⊥
    by unknown_names same said = let there = subst (λ (s : MetNames). absent_said script s number line name ≡ []) same said in omega (arith, ap length there)
said_why script known number line name (Some NameTaken) none is = absurd (omega (arith, ap length is))
said_why script known number line name (Some NoSimulator) none is = absurd (omega (arith, ap length is))
said_why script known number line name (Some OutOfMemory) none is = absurd (omega (arith, ap length is))

command_agrees : (script : List ℕ) (known : KnownRooms) (state : Rooms) (number : ℕ) (line : List ℕ) (command : Command) (reply : Reply) (more : List Done) → command_in line ≡ Some command
    → Knows known state → Owns state (Replied command reply ∷ more)
    → Agrees known (known_after_command known (Some command)) state (Replied command reply) more (line_said script known number line (Some command))
command_agrees script known state number line command reply more read knows owns = record {
  said_if = λ fine. ap (refused_said script known number line (name_in command)) (found ∙ none_refused reply fine);
  done_if = λ none. refused_none reply (sym found ∙ said_why script known number line (name_in command) (refusal_of known.rooms command) knows.none none);
  knows = λ fine. subst (λ (refusal : Option Refusal).
      Knows (record { rooms = rooms_after known.rooms command; unknown_names = met_if_absent known.unknown_names (name_in command) refusal }) (rooms_then state command))
      (sym (found ∙ none_refused reply fine)) (knows_after known state command opens knows);
  owns = later_replies state command reply more owns;
}
  where
    opens : OpensNone command
    opens = opens_none line command read

    found : refusal_of known.rooms command ≡ refusal_in reply
    found = rooms.refusal_found known.rooms (state (name_in command)) command opens (knows.same (name_in command)) ∙ sym (ap refusal_in (first_reply state command reply more owns))

some_refused : (reply : Reply) → is_some (refusal_in reply) ≡ is_refusal reply
some_refused replies.Begun = refl
some_refused (replies.Steps taken last) = refl
some_refused (replies.Crash answer) = refl
some_refused replies.Settled = refl
some_refused (replies.Report report) = refl
some_refused replies.Closed = refl
some_refused (replies.Refused refusal) = refl

taken_if : (number : ℕ) (block : List ℕ) (b : Bool) → cond b (line_fault number block 2 BlockTaken) [] ≡ [] → b ≡ false
taken_if number block true is = absurd (taken_line_said number block is)
taken_if number block false is = refl

begin_agrees : (known : KnownRooms) (state : Rooms) (number : ℕ) (block : List ℕ) (spec : RoomSpec) (len : ℕ) (reply : Reply) (more : List Done) → Knows known state → Owns state (Replied (commands.Begin spec) reply ∷ more)
    → Agrees known (record { rooms = rooms_after_read known.rooms (Ok (spec, len)); unknown_names = known.unknown_names }) state (Replied (commands.Begin spec) reply) more (read_said known.rooms number block (Ok (spec, len)))
begin_agrees known state number block spec len reply more knows owns = record {
  said_if = λ fine. ap (λ (b : Bool). cond b (line_fault number block 2 BlockTaken) []) (found ∙ fine);
  done_if = λ none. sym found ∙ taken_if number block (is_some (simulators_of spec.name known.rooms)) none;
  knows = λ fine. knows_begun known state spec knows;
  owns = later_replies state (commands.Begin spec) reply more owns;
}
  where
    found : is_some (simulators_of spec.name known.rooms) ≡ is_refusal reply
    found = rooms.taken_found known.rooms (state spec.name) spec (knows.same spec.name) ∙ sym (ap (λ (r : Reply). is_some (refusal_in r)) (first_reply state (commands.Begin spec) reply more owns)) ∙ some_refused reply

-- ---- scripts

record Goes (one : Result Entry FaultAt) (rest : Result (List Entry) FaultAt) (all : List Entry) : Type 0 where
  entry : Entry
  later : List Entry
  first_is : one ≡ Ok entry
  rest_is : rest ≡ Ok later
  all_is : entry ∷ later ≡ all

went : (one : Result Entry FaultAt) (rest : Result (List Entry) FaultAt) (all : List Entry) → and_then one rest ≡ Ok all → Goes one rest all
went (Err fault) rest all is = absurd cc
went (Ok entry) (Err fault) all is = absurd cc
went (Ok entry) (Ok later) all is = record { entry = entry; later = later; first_is = refl; rest_is = refl; all_is = cc }

-- a block after a line `open`
block_agrees : (known : KnownRooms) (state : Rooms) (number first : ℕ) (block : List ℕ) (done : Done) (more : List Done) → IsDone All (Open first block) done → ran_out_of_memory done ≡ false → Knows known state → Owns state (done ∷ more)
    → Agrees known (record { rooms = rooms_after_read known.rooms (block_of All block); unknown_names = known.unknown_names }) state done more (block_said known.rooms number block)
block_agrees known state number first block (Replied asked reply) more is enough knows owns =
    let spec = is.0 in
    let len = is.1 in
    subst (λ (read : Result (RoomSpec × ℕ) SpecFault). Agrees known (record { rooms = rooms_after_read known.rooms read; unknown_names = known.unknown_names }) state (Replied asked reply) more (read_said known.rooms number block read)) (sym is.2)
    (subst (λ (command : Command). Agrees known (record { rooms = rooms_after_read known.rooms (Ok (spec, len)); unknown_names = known.unknown_names }) state (Replied command reply) more (read_said known.rooms number block (Ok (spec, len)))) (sym is.3)
    (begin_agrees known state number block spec len reply more knows (subst (λ (command : Command). Owns state (Replied command reply ∷ more)) is.3 owns)))
block_agrees known state number first block (Faulty line fault) more is enough knows owns = record {
  said_if = λ fine. absurd cc;
  done_if = λ none. absurd (by (block_of All block) is.1 none);
  knows = λ fine. absurd cc;
  owns = owns;
}
  where
    by : (read : Result (RoomSpec × ℕ) SpecFault) → read ≡ Err fault → read_said known.rooms number block read ≡ [] → ⊥
    by (Ok read) same none = absurd cc
    by (Err other) same none = omega (arith, ap length none)
block_agrees known state number first block (Unread line) more is enough knows owns = absurd cc

-- another line
line_agrees : (script : List ℕ) (known : KnownRooms) (state : Rooms) (number : ℕ) (line : List ℕ) (command : Command) (done : Done) (more : List Done) → command_in line ≡ Some command → IsDone All (Ask command) done
    → Knows known state → Owns state (done ∷ more) → Agrees known (known_after_command known (command_in line)) state done more (line_said script known number line (command_in line))
line_agrees script known state number line command (Replied asked reply) more read is knows owns =
    subst (λ (one : Option Command). Agrees known (known_after_command known one) state (Replied asked reply) more (line_said script known number line one)) (sym read)
    (subst (λ (one : Command). Agrees known (known_after_command known (Some command)) state (Replied one reply) more (line_said script known number line (Some command))) (sym is)
    (command_agrees script known state number line command reply more read knows (subst (λ (one : Command). Owns state (Replied one reply ∷ more)) is owns)))
line_agrees script known state number line command (Faulty place fault) more read is knows owns = absurd is
line_agrees script known state number line command (Unread place) more read is knows owns = absurd is

asks : (place : ℕ) (command : Option Command) (entry : Entry) → asked place command ≡ Ok entry → (one : Command) × (command ≡ Some one) × (entry ≡ Ask one)
asks place None entry is = absurd cc
asks place (Some command) entry is = (command, refl, cc)

-- what comes first in a text
entry_agrees : (script : List ℕ) (known : KnownRooms) (state : Rooms) (number place : ℕ) (text : List ℕ) (entry : Entry) (done : Done) (more : List Done)
    → entry_at place (first_line text) (block_after (first_line text) (later_lines text)) ≡ Ok entry → IsDone All entry done → ran_out_of_memory done ≡ false → Knows known state → Owns state (done ∷ more)
    → Agrees known (known_after known text) state done more (entry_said script known number text)
entry_agrees script known state number place text entry done more at is enough knows owns = by (is_open (first_line text)) at
  where
    block : List ℕ
    block = block_in_front (later_lines text)

    line : List ℕ
    line = first_line text

    by : (b : Bool) → cond b (Ok (Open (place + 1) (cond b block []))) (asked place (command_in line)) ≡ Ok entry
        → Agrees known (cond b (record { rooms = rooms_after_read known.rooms (block_of All block); unknown_names = known.unknown_names }) (known_after_command known (command_in line))) state done more
        (cond b (block_said known.rooms (later_line number 1) block) (line_said script known number line (command_in line)))
    by true same =
        let opens : entry ≡ Open (place + 1) block = cc in
        block_agrees known state (later_line number 1) (place + 1) block done more (subst (λ (one : Entry). IsDone All one done) opens is) enough knows owns
    by false same =
        let it = asks place (command_in line) entry same in
        line_agrees script known state number line it.0 done more it.1 (subst (λ (one : Entry). IsDone All one done) it.2 is) knows owns

ends_with_none : (known : KnownRooms) (state : Rooms) → Knows known state → more_note MORE_COMMANDS.now known.unknown_names ≡ []
ends_with_none known state knows = ap (more_note MORE_COMMANDS.now) knows.none

record SaysNone (script : List ℕ) (most left number : ℕ) (known : KnownRooms) (text : List ℕ) (all : List Done) : Type 0 where
  said_if : list_any is_refused all ≡ false → said_from (entries false script) most left known number text ≡ []
  done_if : said_from (entries false script) most left known number text ≡ [] → list_any is_refused all ≡ false

abbrev entries_of : Result (List Entry) FaultAt → List Entry
entries_of (Ok wanted) = wanted
entries_of (Err fault) = []

-- nothing came of no entries
none_done : (script : List ℕ) (most left number : ℕ) (known : KnownRooms) (state : Rooms) (text : List ℕ) (wanted : List Entry) (all : List Done) → wanted ≡ [] → AreDone All wanted all → Knows known state
    → said_from (entries false script) most left known number text ≡ more_note MORE_COMMANDS.now known.unknown_names → SaysNone script most left number known text all
none_done script most left number known state text [] [] none are knows is = record { said_if = λ fine. is ∙ ends_with_none known state knows; done_if = λ said. refl }
none_done script most left number known state text [] (done ∷ all) none are knows is = absurd are
none_done script most left number known state text (entry ∷ wanted) all none are knows is = absurd (omega (arith, ap length none))

-- what is said of a text from each state of the rooms on, in so many entries
abbrev AgreesFrom : List ℕ → ℕ → ℕ → Type 0
AgreesFrom script most left = (number place : ℕ) (known : KnownRooms) (state : Rooms) (text : List ℕ) (wanted : List Entry) (all : List Done)
    → script_from most place text ≡ Ok wanted → AreDone All wanted all → list_any ran_out_of_memory all ≡ false → Knows known state → Owns state all → SaysNone script most left number known text all

one_more : (script : List ℕ) (most left number place : ℕ) (known : KnownRooms) (state : Rooms) (byte : ℕ) (bytes : List ℕ) (entry : Entry) (wanted : List Entry) (all : List Done) → AgreesFrom script most left
    → entry_at place (first_line (byte ∷ bytes)) (block_after (first_line (byte ∷ bytes)) (later_lines (byte ∷ bytes))) ≡ Ok entry
    → script_from most (place + 1 + length (text_lines (block_after (first_line (byte ∷ bytes)) (later_lines (byte ∷ bytes))))) (text_after (first_line (byte ∷ bytes)) (later_lines (byte ∷ bytes))) ≡ Ok wanted
    → AreDone All (entry ∷ wanted) all → list_any ran_out_of_memory all ≡ false → Knows known state → Owns state all → SaysNone script (suc most) left number known (byte ∷ bytes) all
one_more script most left number place known state byte bytes entry wanted [] again at rest are enough knows owns = absurd are
one_more script most left number place known state byte bytes entry wanted (done ∷ more) again at rest are enough knows owns =
    let text = byte ∷ bytes in
    let both = or_parts (ran_out_of_memory done) (list_any ran_out_of_memory more) enough in
    let one = entry_agrees script known state number place text entry done more at are.0 both.0 knows owns in
    let next : is_refused done ≡ false → SaysNone script most left ((entries false script).next number text) (known_after known text) (text_after (first_line text) (later_lines text)) more =
    λ fine. again ((entries false script).next number text) (place + 1 + length (text_lines (block_after (first_line text) (later_lines text)))) (known_after known text) (after_done state done)
    (text_after (first_line text) (later_lines text)) wanted more rest are.1 both.1 (one.knows fine) one.owns in
    record {
      said_if = λ fine.
          let parts = or_parts (is_refused done) (list_any is_refused more) fine in
          nothing_said (entries false script) most left number known byte bytes (one.said_if parts.0) ((next parts.0).said_if parts.1);
      done_if = λ none.
          let said = said_nothing (entries false script) most left number known byte bytes enough_said none in
          let well = one.done_if said.0 in
          ap (λ (b : Bool). b || list_any is_refused more) well ∙ (next well).done_if said.1;
    }

agrees : (script : List ℕ) (most left : ℕ) → AgreesFrom script most left
unfolding script_from said_from
agrees script zero left number place known state text wanted all says are enough knows owns =
    none_done script zero left number known state text wanted all (sym (ap entries_of says)) are knows refl
agrees script (suc most) left number place known state [] wanted all says are enough knows owns =
    none_done script (suc most) left number known state [] wanted all (sym (ap entries_of says)) are knows refl
agrees script (suc most) left number place known state (byte ∷ bytes) wanted all says are enough knows owns =
    let line = first_line (byte ∷ bytes) in
    let later = later_lines (byte ∷ bytes) in
    let it = went (entry_at place line (block_after line later)) (script_from most (place + 1 + length (text_lines (block_after line later))) (text_after line later)) wanted says in
    one_more script most left number place known state byte bytes it.entry it.later all (agrees script most left) it.first_is it.rest_is (subst (λ (l : List Entry). AreDone All l all) (sym it.all_is) are) enough knows owns

-- ---- a script from its beginning

wants_none : (all : List Done) → list_any ran_out_of_memory all ≡ false → HasNoWant (replies_in all)
wants_none [] enough = refl
wants_none (Replied command reply ∷ all) enough =
    let both = or_parts (is_want reply) (list_any ran_out_of_memory all) enough in
    ap (λ (b : Bool). b || list_any is_want (replies_in all)) both.0 ∙ wants_none all both.1
wants_none (Faulty line fault ∷ all) enough = wants_none all enough
wants_none (Unread line ∷ all) enough = absurd cc

kept_all : (replies : List Reply) → HasNoWant replies → without_wants replies ≡ replies
kept_all [] none = refl
kept_all (reply ∷ replies) none =
    let both = or_parts (is_want reply) (list_any is_want replies) none in
    ap (λ (b : Bool). cond (not b) (reply ∷ without_wants replies) (without_wants replies)) both.0 ∙ ap (λ (l : List Reply). reply ∷ l) (kept_all replies both.1)

own_wants : (name : List ℕ) (commands : List Command) (replies : List Reply) → HasNoWant replies → HasNoWant (replies_of name commands replies)
own_wants name [] replies none = refl
own_wants name (command ∷ commands) [] none = refl
own_wants name (command ∷ commands) (reply ∷ replies) none =
    let both = or_parts (is_want reply) (list_any is_want replies) none in
    by (bytes_eq name (name_in command)) both.0 (own_wants name commands replies both.1)
  where
    by : (b : Bool) → is_want reply ≡ false → HasNoWant (replies_of name commands replies) → HasNoWant (cond b (reply ∷ replies_of name commands replies) (replies_of name commands replies))
    by true one rest = ap (λ (b : Bool). b || list_any is_want (replies_of name commands replies)) one ∙ rest
    by false one rest = rest

all_granted : (all : List Done) → list_any ran_out_of_memory all ≡ false → granted (commands_of all) (replies_in all) ≡ commands_of all
all_granted [] enough = refl
all_granted (Replied command reply ∷ all) enough =
    let both = or_parts (is_want reply) (list_any ran_out_of_memory all) enough in
    ap (λ (b : Bool). cond b (granted (commands_of all) (replies_in all)) (command ∷ granted (commands_of all) (replies_in all))) both.0 ∙ ap (λ (l : List Command). command ∷ l) (all_granted all both.1)
all_granted (Faulty line fault ∷ all) enough = all_granted all enough
all_granted (Unread line ∷ all) enough = absurd cc

owns_first : (all : List Done) → AreReplies (commands_of all) (replies_in all) → list_any ran_out_of_memory all ≡ false → Owns (λ name. None) all
owns_first all are enough name =
    sym (kept_all (replies_of name (commands_of all) (replies_in all)) (own_wants name (commands_of all) (replies_in all) (wants_none all enough)))
    ∙ are.alone name ∙ ap (λ (l : List Command). replies_from None (part name l)) (all_granted all enough)

enough_for : (lacking refused : Bool) (outcome : Outcome) → Ok outcome ≡ ending_if lacking refused → (lacking ≡ false) × (outcome ≡ outcome_if (not refused))
enough_for true refused outcome is = absurd cc
enough_for false refused outcome is = (refl, cc)

well_if : (refused : Bool) → outcome_if (not refused) ≡ AllWell → refused ≡ false
well_if true is = absurd cc
well_if false is = refl

none_known_yet : Knows none_known (λ name. None)
none_known_yet = record { none = refl; same = λ name. refl }

-- All is well of a script exactly if nothing is said of it.
pub played_well : (script output : List ℕ) (outcome : Outcome) → IsPlayFor All script (Ok outcome) output → (outcome ≡ AllWell) ↔ (script_faults script ≡ [])
unfolding script_said
played_well script output outcome played =
    let text = played.2 in
    let end = enough_for (list_any ran_out_of_memory text.all) (list_any is_refused text.all) outcome text.ending_is in
    let one = agrees script (length script) (explained_at_most script) 1 1 none_known (λ name. None) script played.0 text.all played.1 text.each_entry end.0 none_known_yet (owns_first text.all text.replies end.0) in (
      (λ well. one.said_if (well_if (list_any is_refused text.all) (sym end.1 ∙ well))),
      (λ none. end.1 ∙ ap (λ (b : Bool). outcome_if (not b)) (one.done_if none)),
    )

-- ---- each line of it is a command, or belongs to a block

command_there : (script : List ℕ) (known : KnownRooms) (number place : ℕ) (line : List ℕ) (command : Option Command) → line_said script known number line command ≡ [] → IsOk (asked place command)
command_there script known number place line None is = absurd (bad_said number line is)
command_there script known number place line (Some command) is = refl

entry_there : (script : List ℕ) (known : KnownRooms) (number place : ℕ) (text : List ℕ) → entry_said script known number text ≡ [] → IsOk (entry_at place (first_line text) (block_after (first_line text) (later_lines text)))
entry_there script known number place text is = by (is_open (first_line text)) is
  where
    by : (b : Bool) → cond b (block_said known.rooms (later_line number 1) (block_in_front (later_lines text))) (line_said script known number (first_line text) (command_in (first_line text))) ≡ []
        → IsOk (cond b (Ok (Open (place + 1) (cond b (block_in_front (later_lines text)) []))) (asked place (command_in (first_line text))))
    by true none = refl
    by false none = command_there script known number place (first_line text) (command_in (first_line text)) none

both_there : (one : Result Entry FaultAt) (rest : Result (List Entry) FaultAt) → IsOk one → IsOk rest → IsOk (and_then one rest)
both_there (Err fault) rest is are = absurd cc
both_there (Ok entry) (Err fault) is are = absurd cc
both_there (Ok entry) (Ok later) is are = refl

readable : (script : List ℕ) (most left number place : ℕ) (known : KnownRooms) (text : List ℕ) → said_from (entries false script) most left known number text ≡ [] → IsOk (script_from most place text)
unfolding script_from
readable script zero left number place known text none = refl
readable script (suc most) left number place known [] none = refl
readable script (suc most) left number place known (byte ∷ bytes) none =
    let text = byte ∷ bytes in
    let said = said_nothing (entries false script) most left number known byte bytes enough_said none in
    both_there (entry_at place (first_line text) (block_after (first_line text) (later_lines text)))
    (script_from most (place + 1 + length (text_lines (block_after (first_line text) (later_lines text)))) (text_after (first_line text) (later_lines text)))
    (entry_there script known number place text said.0)
    (readable script most left ((entries false script).next number text) (place + 1 + length (text_lines (block_after (first_line text) (later_lines text)))) (known_after known text) (text_after (first_line text) (later_lines text)) said.1)

-- A script of which nothing is said has no malformed line.
pub well_formed : (script : List ℕ) → script_faults script ≡ [] → IsOk (script_says script)
unfolding script_said
well_formed script none = readable script (length script) (explained_at_most script) 1 1 none_known script none
