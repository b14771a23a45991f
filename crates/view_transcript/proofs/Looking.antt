-- What is kept of the room of a name before a command to it and after.
use Rattle.std.proofs.Common.{◌≡◌, ◌∙◌, ℕ, List, Option, Some, None, Result, Ok, Err, refl, sym, ap, subst}
use Rattle.std.specs.Prelude.{⊤}
use Rattle.std.specs.Result.{OnOk}
use Rattle.room_spec.specs.Rooms.{RoomSpec}
use Rattle.std.specs.Map.{keys_of}
use Rattle.room_core.specs.Calls.{RoomState}
use Rattle.room_core.specs.Observing.{TakenStep}
use Rattle.ws_history.specs.Notes.{IsNoted, Notes}
use Rattle.service_core.specs.declared.command.Command.{Command}
use Rattle.service_core.specs.declared.command.Command.TheVariants as commands
use Rattle.service_core.specs.declared.reply.Reply.{Reply}
use Rattle.service_core.specs.declared.reply.Reply.TheVariants as replies
use Rattle.service_core.specs.Replies.{name_in}
use Rattle.service_core.specs.Rooms.{Entries, room_at, steps_of}
use Rattle.script_play.specs.Following.{AreWatched, IsFor}
use Rattle.script_play.specs.declared.following.Order.{Order}
use Rattle.script_play.specs.declared.following.Order.TheVariants as orders
use Rattle.view_transcript.specs.Courses.{names_by}
use Rattle.view_transcript.specs.Transcripts.{HasEnded, HasEndedIf, HasOpened, HasSeenIf, IsFresh, IsNotedOn, IsOpened, IsReadyAt, IsReadyFor, IsSwapped, Keeps, KeptRoom, KeptRooms, kept_at}

pub where_ok : {E : Type 0} (r : Result (Unit {0}) E) (P Q : Type 0) → (P → Q) → OnOk r P → OnOk r Q
where_ok (Ok tt) P Q from is = from is
where_ok (Err error) P Q from is = tt

-- ---- a room that is opened

begun_by : (rooms : Entries) (spec : RoomSpec) (kept : KeptRoom) (before now : KeptRooms) (reply : Reply) → IsFresh spec kept → HasOpened (Some (spec.name, kept)) reply before now → IsNotedOn rooms before (commands.Begin spec) reply now
begun_by rooms spec kept before now replies.Begun fresh opened = record { own = (kept, fresh, opened.here); others = opened.others; names = opened.names }
begun_by rooms spec kept before now (replies.Steps taken last) fresh same = record { own = ap (λ k. kept_at k spec.name) same; others = λ name differs. ap (λ k. kept_at k name) same; names = ap keys_of same }
begun_by rooms spec kept before now (replies.Crash answer) fresh same = record { own = ap (λ k. kept_at k spec.name) same; others = λ name differs. ap (λ k. kept_at k name) same; names = ap keys_of same }
begun_by rooms spec kept before now replies.Settled fresh same = record { own = ap (λ k. kept_at k spec.name) same; others = λ name differs. ap (λ k. kept_at k name) same; names = ap keys_of same }
begun_by rooms spec kept before now (replies.Report report) fresh same = record { own = ap (λ k. kept_at k spec.name) same; others = λ name differs. ap (λ k. kept_at k name) same; names = ap keys_of same }
begun_by rooms spec kept before now replies.Closed fresh same = record { own = ap (λ k. kept_at k spec.name) same; others = λ name differs. ap (λ k. kept_at k name) same; names = ap keys_of same }
begun_by rooms spec kept before now (replies.Refused refusal) fresh same = record { own = ap (λ k. kept_at k spec.name) same; others = λ name differs. ap (λ k. kept_at k name) same; names = ap keys_of same }

pub opened_on : (rooms : Entries) (spec : RoomSpec) (command : Command) (before ready now : KeptRooms) (next : Option (List ℕ × KeptRoom)) (notes : Option Notes) (reply : Reply) → command ≡ commands.Begin spec → IsReadyFor rooms before command ready next notes → HasOpened next reply ready now
    → IsNotedOn rooms before command reply now
opened_on rooms spec command before ready now next notes reply is ready_is opened =
    let known = subst (λ (c : Command). IsReadyFor rooms before c ready next notes) is ready_is in
    subst (λ (c : Command). IsNotedOn rooms before c reply now) (sym is)
    (begun_by rooms spec known.1 before now reply known.2 (subst (λ (k : KeptRooms). HasOpened (Some (spec.name, known.1)) reply k now) known.0 (subst (λ (n : Option (List ℕ × KeptRoom)). HasOpened n reply ready now) known.3 opened)))

pub opened_here : (next : Option (List ℕ × KeptRoom)) (name : List ℕ) (kept : KeptRoom) (before after : KeptRooms) → next ≡ Some (name, kept) → IsOpened name kept before after → HasOpened next replies.Begun before after
opened_here next name kept before after is opened = subst (λ (n : Option (List ℕ × KeptRoom)). HasOpened n replies.Begun before after) (sym is) opened

-- ---- a room that is closed

pub ended_on : (rooms : Entries) (name : List ℕ) (command : Command) (before ready : KeptRooms) (next : Option (List ℕ × KeptRoom)) (notes : Option Notes) (reply : Reply) → command ≡ commands.Close name → IsReadyFor rooms before command ready next notes
    → IsNotedOn rooms before command reply ready
ended_on rooms name command before ready next notes reply is ready_is =
    let known = subst (λ (c : Command). IsReadyFor rooms before c ready next notes) is ready_is in
    subst (λ (c : Command). IsNotedOn rooms before c reply ready) (sym is) (record { own = known.here; others = known.others; names = known.names })

pub ended_here : (room : Option RoomState) (before after : Option KeptRoom) (core : RoomState) (old new : KeptRoom) → room ≡ Some core → before ≡ Some old → after ≡ Some new → HasEnded (Some core) old new → HasEndedIf room before after
ended_here room before after core old new there was is ended =
    subst (λ (r : Option RoomState). HasEndedIf r before after) (sym there)
    (subst (λ (b : Option KeptRoom). HasEndedIf (Some core) b after) (sym was) (subst (HasEndedIf (Some core) (Some old)) (sym is) ended))

-- none is open
pub ended_nowhere : (room : Option RoomState) (kept : Option KeptRoom) → room ≡ None → HasEndedIf room kept kept
ended_nowhere room None gone = refl
ended_nowhere room (Some kept) gone = subst (λ (r : Option RoomState). HasEnded r kept kept) (sym gone) refl

-- or nothing is kept of it
pub ended_unkept : (room : Option RoomState) (kept : Option KeptRoom) → kept ≡ None → HasEndedIf room kept kept
ended_unkept room kept none = subst (λ (k : Option KeptRoom). HasEndedIf room k k) (sym none) refl

-- ---- all other commands

pub swapped_here : (notes : Option Notes) (before after : Option KeptRoom) (kept : KeptRoom) (given : Option Notes) → before ≡ Some kept → after ≡ Some (record kept { notes = notes }) → given ≡ kept.notes → IsSwapped notes before after given
swapped_here notes before after kept given was is same = subst (λ (b : Option KeptRoom). IsSwapped notes b after given) (sym was) (is, same)

pub swapped_nowhere : (notes : Option Notes) (kept : Option KeptRoom) → kept ≡ None → IsSwapped notes kept kept None
swapped_nowhere notes kept none = subst (λ (k : Option KeptRoom). IsSwapped notes k k None) (sym none) (refl, refl)

lent_seen : (steps : List TakenStep) (before ready now : Option KeptRoom) (start watch given : Option Notes) → IsSwapped None before ready start → IsSwapped watch ready now given → AreWatched IsNoted start steps watch → HasSeenIf steps before now
lent_seen steps None ready now start watch given lent noted seen = (subst (λ (r : Option KeptRoom). IsSwapped watch r now given) lent.0 noted).0
lent_seen steps (Some kept) ready now start watch given lent noted seen =
    subst (HasSeenIf steps (Some kept)) (sym (subst (λ (r : Option KeptRoom). IsSwapped watch r now given) lent.0 noted).0)
    (record { block = refl; notes = subst (λ (n : Option Notes). AreWatched IsNoted n steps watch) lent.1 seen; events = refl })

abbrev pub Sees : Command → Type 0
Sees (commands.Begin spec) = ⊥
Sees (commands.Close name) = ⊥
Sees command = ⊤

-- an order that neither opens a room nor closes one
abbrev pub IsOther : Order → Type 0
IsOther orders.Open = ⊥
IsOther orders.Close = ⊥
IsOther order = ⊤

pub sees_by : (order : Order) (name : List ℕ) (command : Command) → IsFor order name command → IsOther order → Sees command
sees_by orders.Open name command is other = absurd other
sees_by (orders.Step sim count) name command is other = subst Sees (sym is) tt
sees_by (orders.Crash sim) name command is other = subst Sees (sym is) tt
sees_by orders.Settle name command is other = subst Sees (sym is) tt
sees_by orders.Report name command is other = subst Sees (sym is) tt
sees_by orders.Close name command is other = absurd other

module _ (rooms : Entries) (before ready now : KeptRooms) (start watch given : Option Notes) (reply : Reply) where
  seen_at : (command : Command) → ((old new : Option KeptRoom) → HasSeenIf (steps_of (room_at rooms (name_in command)) command) old new → Keeps rooms command reply old new) → ((names : List (List ℕ)) → names_by command reply names ≡ names)
      → IsReadyAt (λ old new. IsSwapped None old new start) (name_in command) before ready → IsReadyAt (λ old new. IsSwapped watch old new given) (name_in command) ready now → AreWatched IsNoted start (steps_of (room_at rooms (name_in command)) command) watch → IsNotedOn rooms before command reply now
  seen_at command keeps names lent noted seen = record {
    own = keeps _ _ (lent_seen (steps_of (room_at rooms (name_in command)) command) _ _ _ start watch given lent.here noted.here seen);
    others = λ name differs. noted.others name differs ∙ lent.others name differs;
    names = noted.names ∙ lent.names ∙ sym (names (keys_of before));
  }

  pub seen_on : (command : Command) (next : Option (List ℕ × KeptRoom)) → Sees command → IsReadyFor rooms before command ready next start → IsReadyAt (λ old new. IsSwapped watch old new given) (name_in command) ready now
      → AreWatched IsNoted start (steps_of (room_at rooms (name_in command)) command) watch → IsNotedOn rooms before command reply now
  seen_on (commands.Begin spec) next sees lent noted seen = absurd sees
  seen_on (commands.Step name sim count) next sees lent noted seen = seen_at (commands.Step name sim count) (λ old new is. is) (λ names. refl) lent noted seen
  seen_on (commands.Crash name sim) next sees lent noted seen = seen_at (commands.Crash name sim) (λ old new is. is) (λ names. refl) lent noted seen
  seen_on (commands.Settle name) next sees lent noted seen = seen_at (commands.Settle name) (λ old new is. is) (λ names. refl) lent noted seen
  seen_on (commands.Report name) next sees lent noted seen = seen_at (commands.Report name) (λ old new is. is) (λ names. refl) lent noted seen
  seen_on (commands.Close name) next sees lent noted seen = absurd sees
