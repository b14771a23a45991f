-- What is kept of the room of a name after a command to it.
use Rattle.std.proofs.Common.{◌≡◌, ◌≢◌, ℕ, zero, suc, Bool, true, false, cond, List, [], ◌++◌, Option, Some, None, refl, sym, ap, ◌∙◌, subst}
use Rattle.room_spec.specs.Rooms.{RoomSpec}
use Rattle.transcript.specs.declared.event.Event.{Event}
use Rattle.room_core.specs.Calls.{RoomState, Crash as CrashCall, Settle as SettleCall, Step as StepCall, configuration_of, opening_state, room_after_step, step_reply, sweep_at}
use Rattle.room_core.specs.Fields.{Fields, opening_fields, replay_fields}
use Rattle.room_core.specs.Reading.{AreFieldsOf}
use Rattle.room_core.specs.Rooms.{Configuration, ScheduleEvent}
use Rattle.room_core.specs.Observing.{AreSeen, TakenStep, is_stepped}
use Rattle.room_core.proofs.CallerLemmas.{opening_data}
use Rattle.room_core.proofs.CallerLemmasOnSpecs.{same_spec}
use Rattle.ws_history.specs.Notes.{AreNotesOf, IsNoted, Notes}
use Rattle.service_core.specs.declared.command.Command.{Command}
use Rattle.service_core.specs.declared.command.Command.TheVariants as commands
use Rattle.service_core.specs.declared.reply.Reply.{Reply}
use Rattle.service_core.specs.declared.reply.Reply.TheVariants.{Refused}
use Rattle.service_core.specs.declared.reply.Refusal.TheVariants.{OutOfMemory}
use Rattle.service_core.specs.Replies.{name_in, reply_to}
use Rattle.service_core.specs.Rooms.{Applies, Entries, IsStateOf, IsWant, core_after, events_by, room_at, room_left, room_stepped, steps_of}
use Rattle.service_core.proofs.CallerLemmas.{notes_lead}
use Rattle.script_play.specs.Following.{AreWatched}
use Rattle.script_play.specs.Play.{IsBlockOf}
use Rattle.view_transcript.specs.Courses.{Course, after_closed, begun, course_after, left_as, under}
use Rattle.view_transcript.specs.Transcripts.{AreByNotes, HasBegun, HasEndedIf, HasSeen, HasSeenIf, IsFollowed, IsFresh, IsKept, IsKnown, IsRunBlock, IsWrittenOf, Keeps, KeptRoom, Written}

-- ---- the spec of a room stays

spec_stepped : (room : RoomState) (i count : ℕ) → (room_stepped room i count).spec ≡ room.spec
spec_stepped room i zero = refl
spec_stepped room i (suc count) = by (is_stepped (step_reply room i)) (spec_stepped (room_after_step room i) i count)
  where
    by : (b : Bool) → (room_stepped (room_after_step room i) i count).spec ≡ (room_after_step room i).spec → (cond b (room_stepped (room_after_step room i) i count) (room_after_step room i)).spec ≡ room.spec
    by true later = later ∙ same_spec room (StepCall i)
    by false later = same_spec room (StepCall i)

some_room : (one other : RoomState) → Some one ≡ Some other → one ≡ other
some_room one other is = cc

spec_of : (one other : RoomState) → Some one ≡ Some other → other.spec ≡ one.spec
spec_of one other is = ap (λ (r : RoomState). r.spec) (sym (some_room one other is))

spec_left : (room after : RoomState) (command : Command) → room_left room command ≡ Some after → after.spec ≡ room.spec
spec_left room after (commands.Begin spec) left = spec_of room after left
spec_left room after (commands.Step name sim count) left = spec_of (room_stepped room sim count) after left ∙ spec_stepped room sim count
spec_left room after (commands.Crash name sim) left = spec_of _ after left ∙ same_spec room (CrashCall sim)
spec_left room after (commands.Settle name) left = spec_of _ after left ∙ same_spec room SettleCall
spec_left room after (commands.Report name) left = spec_of room after left
spec_left room after (commands.Close name) left = absurd cc

-- ---- what is known

-- an open room, or a closed one
pub data Stands (course : Course) (room : Option RoomState) (block : List ℕ) (notes : Option Notes) (events : Option (List Event)) : Type 0 where
  open_room : (known : Notes) → course.is_open ≡ true → events ≡ None → notes ≡ Some known → room ≡ Some course.room → IsBlockOf course.room.spec block → AreNotesOf (configuration_of course.room) course.schedule known → Stands course room block notes events
  closed_room : (known : List Event) → course.is_open ≡ false → events ≡ Some known → room ≡ None → IsWrittenOf course (record { block = block; events = known }) → Stands course room block notes events

stands_by : (course : Course) (room : Option RoomState) (block : List ℕ) (notes held : Option Notes) (events some : Option (List Event)) (b : Bool) → course.is_open ≡ b → notes ≡ held → events ≡ some → IsKnown b course room block held some → Stands course room block notes events
stands_by course room block notes None events None true is same none known = absurd known
stands_by course room block notes (Some held) events None true is same none known = open_room held is none same known.0 known.1 known.2
stands_by course room block notes None events (Some all) true is same some known = absurd known
stands_by course room block notes (Some held) events (Some all) true is same some known = absurd known
stands_by course room block notes held events None false is same none known = absurd known
stands_by course room block notes held events (Some all) false is same some known = closed_room all is some known.0 known.1

pub stands : (course : Course) (room : Option RoomState) (kept : KeptRoom) → IsKept course room kept → Stands course room kept.block kept.notes kept.events
stands course room kept is = stands_by course room kept.block kept.notes kept.notes kept.events kept.events course.is_open refl refl refl is

-- an open room that goes on, with notes of it
kept_open : (room : RoomState) (schedule : List ScheduleEvent) (kept : KeptRoom) (core : Option RoomState) (notes : Notes) → IsBlockOf room.spec kept.block → kept.events ≡ None → core ≡ Some room → kept.notes ≡ Some notes → AreNotesOf (configuration_of room) schedule notes
    → IsKept (record { room = room; schedule = schedule; is_open = true }) core kept
kept_open room schedule kept core notes block none there same are =
    subst (IsKnown true (record { room = room; schedule = schedule; is_open = true }) core kept.block kept.notes) (sym none)
    (subst (λ (n : Option Notes). IsKnown true (record { room = room; schedule = schedule; is_open = true }) core kept.block n None) (sym same) (there, block, are))

-- ---- fields of a room with notes

fields_of : (room : RoomState) (schedule : List ScheduleEvent) (notes : Notes) → AreNotesOf (configuration_of room) schedule notes → (fields : Fields) × AreFieldsOf room fields
fields_of room schedule notes are = (
  record (replay_fields room.spec (opening_fields room.spec) schedule) { quiet = λ a. (sweep_at room a).quiet },
  record { run = record { schedule = schedule; legal = are.legal; leads = are.leads }; leads = refl; counts = λ a below. refl },
)

-- what is written of an open room, by its block and its notes
pub written_by : (course : Course) (own : List ℕ) (notes : Notes) (written : Written) → IsBlockOf course.room.spec own → AreNotesOf (configuration_of course.room) course.schedule notes → IsRunBlock course.room own written.block → AreByNotes course.room (Some notes) written.events
    → IsWrittenOf course written
written_by course own notes written block are run events =
    let some = fields_of course.room course.schedule notes are in
    record { fields = some.0; are = some.1; block = run block some.0 some.1; events = events course.schedule are }

-- ---- steps that are seen

-- no steps change no notes
still : (notes : Option Notes) → AreWatched IsNoted notes [] notes
still None = tt
still (Some notes) = refl

none_seen : (before after : Option Notes) → AreWatched IsNoted before [] after → after ≡ before
none_seen None None seen = refl
none_seen None (Some after) seen = absurd seen
none_seen (Some before) None seen = absurd seen
none_seen (Some before) (Some after) seen = ap Some (sym seen)

some_notes : (one other : Notes) → Some one ≡ Some other → one ≡ other
some_notes one other is = cc

seen_from : (steps : List TakenStep) (before after : Option Notes) (notes : Notes) → before ≡ Some notes → AreWatched IsNoted before steps after → (next : Notes) × (after ≡ Some next) × AreSeen IsNoted notes steps next
seen_from steps None after notes is seen = absurd cc
seen_from steps (Some before) None notes is seen = absurd seen
seen_from steps (Some before) (Some after) notes is seen = (after, refl, subst (λ (n : Notes). AreSeen IsNoted n steps after) (some_notes before notes is) seen)

pub nothing_seen : (kept : KeptRoom) → HasSeen [] kept kept
nothing_seen kept = record { block = refl; notes = still kept.notes; events = refl }

same_kept : (before after : KeptRoom) → HasSeen [] before after → after ≡ before
same_kept before after seen = λ i. record { block = seen.block i; notes = none_seen before.notes after.notes seen.notes i; events = seen.events i }

-- ---- a room that begins

begins : (spec : RoomSpec) (kept : Option KeptRoom) (core : Option RoomState) (fresh : KeptRoom) → IsFresh spec fresh → kept ≡ Some fresh → core ≡ Some (opening_state spec) → IsFollowed (Some (begun spec)) core kept
begins spec kept core fresh is here there =
    subst (IsFollowed (Some (begun spec)) core) (sym here)
    (kept_open (opening_state spec) [] fresh core is.known is.block is.events there is.notes_are (subst (λ (c : Configuration). AreNotesOf c [] is.known) (sym (opening_data spec)) is.notes))

-- ---- an open room under a command

module _ (course : Course) (kept : KeptRoom) (notes : Notes) (block : IsBlockOf course.room.spec kept.block) (none : kept.events ≡ None) (held : kept.notes ≡ Some notes) (are : AreNotesOf (configuration_of course.room) course.schedule notes) where
  -- it goes on, and its steps were seen
  goes_on : (command : Command) (after : RoomState) (core : Option RoomState) (now : KeptRoom) → room_left course.room command ≡ Some after → core ≡ Some after → HasSeen (steps_of (Some course.room) command) kept now → IsKept (under course command) core now
  goes_on command after core now left there seen =
      let next = seen_from (steps_of (Some course.room) command) kept.notes now.notes notes held seen.notes in
      subst (λ (r : Option RoomState). IsKept (left_as course (events_by course.room command) r) core now) (sym left)
      (kept_open after (course.schedule ++ events_by course.room command) now core next.0
      (subst (λ (s : RoomSpec). IsBlockOf s now.block) (sym (spec_left course.room after command left)) (subst (IsBlockOf course.room.spec) (sym seen.block) block))
      (seen.events ∙ none) there next.1 (notes_lead course.room after command course.schedule notes next.0 are next.2 left))

  goes_on_if : (command : Command) (after : RoomState) (core : Option RoomState) (now : Option KeptRoom) → room_left course.room command ≡ Some after → core ≡ Some after → HasSeenIf (steps_of (Some course.room) command) (Some kept) now → IsFollowed (Some (under course command)) core now
  goes_on_if command after core None left there seen = absurd seen
  goes_on_if command after core (Some now) left there seen = goes_on command after core now left there seen

  -- it is closed
  ends : (name : List ℕ) (core : Option RoomState) (now : Option KeptRoom) → core ≡ None → HasEndedIf (Some course.room) (Some kept) now → IsFollowed (Some (under course (commands.Close name))) core now
  ends name core None gone ended = absurd ended
  ends name core (Some now) gone ended =
      subst (IsKept (under course (commands.Close name)) core) (sym ended.3)
      (gone, written_by (under course (commands.Close name)) kept.block notes ended.0 block are ended.2 (subst (λ (n : Option Notes). AreByNotes course.room n ended.0.events) held ended.1))

-- ---- a closed room

stays_closed : (course : Course) (core : Option RoomState) (kept : KeptRoom) (now : Option KeptRoom) → IsKept course None kept → core ≡ None → HasSeenIf [] (Some kept) now → IsFollowed (Some course) core now
stays_closed course core kept None is gone seen = absurd seen
stays_closed course core kept (Some now) is gone seen =
    subst (λ (c : Option RoomState). IsKept course c now) (sym gone) (subst (IsKept course None) (sym (same_kept kept now seen)) is)

-- ---- a command that was not refused memory

module _ (rooms after : Entries) (command : Command) (reply : Reply) (applies : Applies rooms command reply after) (granted : reply ≢ Refused OutOfMemory) where
  left_there : (room : Option RoomState) → room_at rooms (name_in command) ≡ room → room_at after (name_in command) ≡ core_after room command
  left_there room there = applies.room granted ∙ ap (λ (r : Option RoomState). core_after r command) there

  replied_to_none : room_at rooms (name_in command) ≡ None → reply ≡ reply_to None command
  replied_to_none there = (applies.answer granted None (subst (λ (r : Option RoomState). IsStateOf r None) (sym there) tt)).0

  replied_to : (room : RoomState) (schedule : List ScheduleEvent) (notes : Notes) → room_at rooms (name_in command) ≡ Some room → AreNotesOf (configuration_of room) schedule notes
      → (fields : Fields) × (reply ≡ reply_to (Some (record { spec = room.spec; fields = fields })) command)
  replied_to room schedule notes there are =
      let some = fields_of room schedule notes are in
      (some.0, (applies.answer granted (Some (record { spec = room.spec; fields = some.0 })) (subst (λ (r : Option RoomState). IsStateOf r (Some (record { spec = room.spec; fields = some.0 }))) (sym there) (record { spec = refl; fields = some.1 }))).0)

both_gone : (core : Option RoomState) (now : Option KeptRoom) → core ≡ None → now ≡ None → IsFollowed None core now
both_gone core now gone none = subst (λ (c : Option RoomState). IsFollowed None c now) (sym gone) (subst (IsFollowed None None) (sym none) tt)

-- where there was no room of the name
pub follows_none : (rooms after : Entries) (command : Command) (reply : Reply) (now : Option KeptRoom) → Applies rooms command reply after → reply ≢ Refused OutOfMemory → room_at rooms (name_in command) ≡ None
    → Keeps rooms command reply None now → IsFollowed (course_after None command) (room_at after (name_in command)) now
follows_none rooms after (commands.Begin spec) reply now applies granted there keeps =
    let begun_now = subst (λ (r : Reply). HasBegun spec r None now) (replied_to_none rooms after (commands.Begin spec) reply applies granted there) keeps in
    begins spec now (room_at after spec.name) begun_now.0 begun_now.1 begun_now.2 (left_there rooms after (commands.Begin spec) reply applies granted None there)
follows_none rooms after (commands.Step name sim count) reply now applies granted there keeps = both_gone (room_at after name) now (left_there rooms after (commands.Step name sim count) reply applies granted None there) keeps
follows_none rooms after (commands.Crash name sim) reply now applies granted there keeps = both_gone (room_at after name) now (left_there rooms after (commands.Crash name sim) reply applies granted None there) keeps
follows_none rooms after (commands.Settle name) reply now applies granted there keeps = both_gone (room_at after name) now (left_there rooms after (commands.Settle name) reply applies granted None there) keeps
follows_none rooms after (commands.Report name) reply now applies granted there keeps = both_gone (room_at after name) now (left_there rooms after (commands.Report name) reply applies granted None there) keeps
follows_none rooms after (commands.Close name) reply now applies granted there keeps = both_gone (room_at after name) now (left_there rooms after (commands.Close name) reply applies granted None there) keeps

-- where the room of the name is open
module _ (rooms after : Entries) (course : Course) (kept : KeptRoom) (notes : Notes) (block : IsBlockOf course.room.spec kept.block) (none : kept.events ≡ None) (held : kept.notes ≡ Some notes) (are : AreNotesOf (configuration_of course.room) course.schedule notes) where
  leads_on : (command : Command) (reply : Reply) (now : Option KeptRoom) (left : RoomState) → Applies rooms command reply after → reply ≢ Refused OutOfMemory → room_at rooms (name_in command) ≡ Some course.room → room_left course.room command ≡ Some left
      → HasSeenIf (steps_of (room_at rooms (name_in command)) command) (Some kept) now → IsFollowed (Some (under course command)) (room_at after (name_in command)) now
  leads_on command reply now left applies granted there is seen =
      goes_on_if course kept notes block none held are command left (room_at after (name_in command)) now is (left_there rooms after command reply applies granted (Some course.room) there ∙ is)
      (subst (λ (r : Option RoomState). HasSeenIf (steps_of r command) (Some kept) now) there seen)

  pub follows_open : (command : Command) (reply : Reply) (now : Option KeptRoom) → Applies rooms command reply after → reply ≢ Refused OutOfMemory → room_at rooms (name_in command) ≡ Some course.room → Keeps rooms command reply (Some kept) now
      → IsFollowed (Some (under course command)) (room_at after (name_in command)) now
  follows_open (commands.Begin spec) reply now applies granted there keeps =
      let taken = replied_to rooms after (commands.Begin spec) reply applies granted course.room course.schedule notes there are in
      let same : now ≡ Some kept = subst (λ (r : Reply). HasBegun spec r (Some kept) now) taken.1 keeps in
      goes_on_if course kept notes block none held are (commands.Begin spec) course.room (room_at after spec.name) now refl (left_there rooms after (commands.Begin spec) reply applies granted (Some course.room) there)
      (subst (HasSeenIf [] (Some kept)) (sym same) (nothing_seen kept))
  follows_open (commands.Step name sim count) reply now applies granted there keeps = leads_on (commands.Step name sim count) reply now _ applies granted there refl keeps
  follows_open (commands.Crash name sim) reply now applies granted there keeps = leads_on (commands.Crash name sim) reply now _ applies granted there refl keeps
  follows_open (commands.Settle name) reply now applies granted there keeps = leads_on (commands.Settle name) reply now _ applies granted there refl keeps
  follows_open (commands.Report name) reply now applies granted there keeps = leads_on (commands.Report name) reply now _ applies granted there refl keeps
  follows_open (commands.Close name) reply now applies granted there keeps =
      ends course kept notes block none held are name (room_at after name) now (left_there rooms after (commands.Close name) reply applies granted (Some course.room) there)
      (subst (λ (r : Option RoomState). HasEndedIf r (Some kept) now) there keeps)

-- where it was closed
ended_none : (kept : KeptRoom) (now : Option KeptRoom) → HasEndedIf None (Some kept) now → HasSeenIf [] (Some kept) now
ended_none kept None ended = ended
ended_none kept (Some now) ended = subst (HasSeen [] kept) (sym ended) (nothing_seen kept)

module _ (rooms after : Entries) (course : Course) (kept : KeptRoom) (is : IsKept course None kept) where
  rests : (command : Command) (reply : Reply) (now : Option KeptRoom) → Applies rooms command reply after → reply ≢ Refused OutOfMemory → room_at rooms (name_in command) ≡ None → core_after None command ≡ None → steps_of None command ≡ []
      → HasSeenIf (steps_of (room_at rooms (name_in command)) command) (Some kept) now → IsFollowed (Some course) (room_at after (name_in command)) now
  rests command reply now applies granted there gone still seen =
      stays_closed course (room_at after (name_in command)) kept now is (left_there rooms after command reply applies granted None there ∙ gone)
      (subst (λ (steps : List TakenStep). HasSeenIf steps (Some kept) now) (ap (λ (r : Option RoomState). steps_of r command) there ∙ still) seen)

  pub follows_closed : (command : Command) (reply : Reply) (now : Option KeptRoom) → Applies rooms command reply after → reply ≢ Refused OutOfMemory → room_at rooms (name_in command) ≡ None → Keeps rooms command reply (Some kept) now
      → IsFollowed (Some (after_closed course command)) (room_at after (name_in command)) now
  follows_closed (commands.Begin spec) reply now applies granted there keeps =
      let begun_now = subst (λ (r : Reply). HasBegun spec r (Some kept) now) (replied_to_none rooms after (commands.Begin spec) reply applies granted there) keeps in
      begins spec now (room_at after spec.name) begun_now.0 begun_now.1 begun_now.2 (left_there rooms after (commands.Begin spec) reply applies granted None there)
  follows_closed (commands.Step name sim count) reply now applies granted there keeps = rests (commands.Step name sim count) reply now applies granted there refl refl keeps
  follows_closed (commands.Crash name sim) reply now applies granted there keeps = rests (commands.Crash name sim) reply now applies granted there refl refl keeps
  follows_closed (commands.Settle name) reply now applies granted there keeps = rests (commands.Settle name) reply now applies granted there refl refl keeps
  follows_closed (commands.Report name) reply now applies granted there keeps = rests (commands.Report name) reply now applies granted there refl refl keeps
  follows_closed (commands.Close name) reply now applies granted there keeps =
      stays_closed course (room_at after name) kept now is (left_there rooms after (commands.Close name) reply applies granted None there)
      (ended_none kept now (subst (λ (r : Option RoomState). HasEndedIf r (Some kept) now) there keeps))

-- ---- a command that was refused memory

unseen : (kept now : Option KeptRoom) → HasSeenIf [] kept now → now ≡ kept
unseen None now seen = seen
unseen (Some kept) None seen = absurd seen
unseen (Some kept) (Some now) seen = ap Some (same_kept kept now seen)

no_steps : (room : Option RoomState) (name : List ℕ) → steps_of room (commands.Report name) ≡ []
no_steps None name = refl
no_steps (Some room) name = refl

wants_room : (room : Option RoomState) (command : Command) (P : Type 0) → IsWant room command → ((spec : RoomSpec) → command ≡ commands.Begin spec → P) → ((name : List ℕ) → command ≡ commands.Report name → P) → P
wants_room None (commands.Begin spec) P want begin report = begin spec refl
wants_room None (commands.Step name sim count) P want begin report = absurd want
wants_room None (commands.Crash name sim) P want begin report = absurd want
wants_room None (commands.Settle name) P want begin report = absurd want
wants_room None (commands.Report name) P want begin report = absurd want
wants_room None (commands.Close name) P want begin report = absurd want
wants_room (Some room) (commands.Begin spec) P want begin report = absurd want
wants_room (Some room) (commands.Step name sim count) P want begin report = absurd want
wants_room (Some room) (commands.Crash name sim) P want begin report = absurd want
wants_room (Some room) (commands.Settle name) P want begin report = absurd want
wants_room (Some room) (commands.Report name) P want begin report = report name refl
wants_room (Some room) (commands.Close name) P want begin report = absurd want

-- nothing that is kept changes
pub kept_same : (rooms : Entries) (command : Command) (before now : Option KeptRoom) → IsWant (room_at rooms (name_in command)) command → Keeps rooms command (Refused OutOfMemory) before now → now ≡ before
kept_same rooms command before now want keeps = wants_room (room_at rooms (name_in command)) command (now ≡ before) want
    (λ spec is. subst (λ (c : Command). Keeps rooms c (Refused OutOfMemory) before now) is keeps)
    (λ name is. unseen before now (subst (λ (steps : List TakenStep). HasSeenIf steps before now) (no_steps (room_at rooms name) name) (subst (λ (c : Command). Keeps rooms c (Refused OutOfMemory) before now) is keeps)))
